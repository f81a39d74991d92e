use Rattle.std.proofs.Common.{refl}
use Rattle.asm_text.proofs.claims.worked_names.Goals as goal

pub returns-clause-names : goal.returns-clause-names
returns-clause-names c = refl

pub returns-clause-digits : goal.returns-clause-digits
returns-clause-digits c = (refl, refl, refl)
