use Rattle.std.proofs.Common.{◌≡◌, get_or, refl, ap}
use Rattle.song_script.proofs.OnTexts.{showing_texts}
use Rattle.song_script.proofs.claims.worked_parts.Goals as goal

pub returns-clause-rows : goal.returns-clause-rows
unfolding showing_texts
returns-clause-rows c = (refl, λ e. cc (e), refl, refl)

pub returns-clause-fields : goal.returns-clause-fields
unfolding showing_texts
returns-clause-fields c = (refl, refl, λ e. let at : 0 ≡ 105 = ap (λ text. get_or text 16 0) e in cc (at))

pub returns-clause-orders : goal.returns-clause-orders
unfolding showing_texts
returns-clause-orders c = (refl, refl, λ e. let at : 0 ≡ 111 = ap (λ text. get_or text 24 0) e in cc (at))

pub returns-clause-texts : goal.returns-clause-texts
unfolding showing_texts
returns-clause-texts c = (refl, refl, refl, refl, refl)
