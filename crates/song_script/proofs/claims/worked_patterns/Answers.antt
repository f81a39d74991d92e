use Rattle.std.proofs.Common.{◌≡◌, get_or, refl, ap}
use Rattle.song_script.proofs.OnTexts.{showing_texts}
use Rattle.song_script.proofs.claims.worked_patterns.Goals as goal

pub returns-clause-rests : goal.returns-clause-rests
unfolding showing_texts
returns-clause-rests c = (
  refl,
  λ e. cc (e),
  refl,
  refl,
  refl,
  λ e. let at : 69 ≡ 101 = ap (λ text. get_or text 14 0)
      e in cc (at),
  refl,
)

pub returns-clause-notes : goal.returns-clause-notes
unfolding showing_texts
returns-clause-notes c =
    (refl, refl, refl, refl, refl, refl, refl, refl, refl, refl, refl, refl, refl, λ e. cc (e))

pub returns-clause-lengths : goal.returns-clause-lengths
unfolding showing_texts
returns-clause-lengths c = (refl, refl, refl)
