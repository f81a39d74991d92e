use Rattle.std.proofs.Common.{ℕ, ◌<◌, [], refl, arith}
use Rattle.asm_text.specs.Lines.{empty, comment}
use Rattle.asm_text.specs.WorkedTexts.{no_lines}
use Rattle.asm_text.proofs.Worked.{spelled, refused_all}
use Rattle.asm_text.proofs.claims.worked_lines.Goals as goal

never_lt : (n : ℕ) → n < n → ⊥
never_lt n lt = absurd (omega (arith, lt))

pub returns-clause-numbers : goal.returns-clause-numbers
returns-clause-numbers c = (
  spelled _ _ refl,
  spelled _ _ refl,
  spelled _ _ refl,
  spelled _ _ refl,
  spelled _ _ refl,
  spelled _ _ refl,
  spelled _ _ refl,
  spelled _ _ refl,
  spelled _ _ refl,
  spelled _ _ refl,
  spelled _ _ refl,
  spelled _ _ refl,
  spelled _ _ refl,
)

pub returns-clause-labels : goal.returns-clause-labels
returns-clause-labels c = (
  spelled _ _ refl,
  spelled _ _ refl,
  spelled _ _ refl,
  spelled _ _ refl,
  spelled _ _ refl,
  spelled _ _ refl,
  spelled _ _ refl,
)

pub returns-clause-nothing : goal.returns-clause-nothing
returns-clause-nothing c = (empty refl, comment [] refl, comment _ refl)

pub returns-clause-refused : goal.returns-clause-refused
returns-clause-refused c = refused_all no_lines refl

pub returns-clause-unspelled : goal.returns-clause-unspelled
returns-clause-unspelled c = λ line. (
  λ spells. never_lt 0x10000 spells.range,
  λ spells. never_lt 0x100 spells.range,
  λ spells. never_lt 0x10000 spells.range,
  λ spells. never_lt 0x10000 spells.range,
  λ spells. absurd (cc (spells.right)),
  λ spells. absurd (cc (spells.right)),
  λ spells. absurd (cc (spells.right)),
  λ spells. absurd (cc (spells.right)),
  λ spells. absurd (cc (spells.right)),
  λ spells. absurd (cc (spells.right)),
)
