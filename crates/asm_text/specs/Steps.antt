-- What one line adds to the statements of the lines before it.
use Rattle.std.specs.Prelude.{◌≡◌, ℕ, List, [], ◌∷◌, ◌++◌}
use Rattle.asm_text.specs.declared.statements.Statement.{Statement}
use Rattle.asm_text.specs.declared.statements.Written.{Written}
use Rattle.asm_text.specs.Lines.{SaysNothing, Spells}

-- the line with this number adds nothing, or its statement
pub data Adds (number : ℕ) (line : List ℕ) (before after : List Written) : Type 0 where
  nothing : SaysNothing line → after ≡ before → Adds number line before after
  something : (statement : Statement) → Spells line statement →
      after ≡ before ++ record { line = number; statement = statement } ∷ [] → Adds number line before after
