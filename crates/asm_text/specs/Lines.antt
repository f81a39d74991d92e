-- What a line says, apart from how it is read, and what a text is: a listing, or one with a first bad line.
use Rattle.std.specs.Prelude.{◌≡◌, ◌==◌, ◌⊎◌, ℕ, ◌+◌, ◌<◌, true, List, [], ◌∷◌}
use Rattle.std.specs.Prelude.{◌++◌, codes, length}
use Rattle.std.specs.List.{slice_split}
use Rattle.base.specs.Bytes.{IsWord}
use Rattle.asm_text.specs.declared.statements.Statement.{Statement}
use Rattle.asm_text.specs.declared.statements.Written.{Written}
use Rattle.asm_text.specs.Statements.{spelling, origin_text, is_right, InRange}

-- the line is empty, or a comment
pub data SaysNothing (line : List ℕ) : Type 0 where
  empty : line ≡ [] → SaysNothing line
  comment : (words : List ℕ) → line ≡ codes ";" ++ words → SaysNothing line

-- the line is the text of a statement that may stand in a listing
pub record Spells (line : List ℕ) (statement : Statement) : Type 0 where
  pub right : is_right statement ≡ true
  pub range : InRange statement
  pub text : line ≡ spelling statement

-- the line is the first one, with this origin
pub record IsOriginLine (origin : ℕ) (line : List ℕ) : Type 0 where
  pub range : IsWord origin
  pub text : line ≡ origin_text origin

-- a line that may stand behind the first
abbrev pub IsLine : List ℕ → Type 0
IsLine line = SaysNothing line ⊎ ((statement : Statement) × Spells line statement)

-- the text cut at its line feeds: its lines, and what stands behind the last line feed
abbrev pub parts : List ℕ → List (List ℕ)
parts text = slice_split (λ byte. byte == 10) text

-- the parts, the first of which is the line with this number, say these statements: each but the last is a line, and
-- nothing stands behind the last line feed
pub data Say : ℕ → List (List ℕ) → List Written → Type 0 where
  over : {number : ℕ} → Say number ([] ∷ []) []
  nothing : {number : ℕ} {line : List ℕ} {others : List (List ℕ)} {script : List Written} → SaysNothing line →
      Say (number + 1) others script → Say number (line ∷ others) script
  something : {number : ℕ} {line : List ℕ} {others : List (List ℕ)} {script : List Written}
      (statement : Statement) → Spells line statement → Say (number + 1) others script →
      Say number (line ∷ others) (record { line = number; statement = statement } ∷ script)

-- the text is a listing with this origin and these statements; lines are counted from 1
pub record IsListing (text : List ℕ) (origin : ℕ) (script : List Written) : Type 0 where
  pub first : List ℕ
  pub others : List (List ℕ)
  pub cut : parts text ≡ first ∷ others
  pub origin_line : IsOriginLine origin first
  pub say : Say 2 others script

-- the first bad one of the parts, the first of which is the line with this number: one that no line feed ends, or a
-- line that may not stand there
pub data IsFirstBad : ℕ → List (List ℕ) → ℕ → Type 0 where
  unended : {number : ℕ} {line : List ℕ} → 0 < length line → IsFirstBad number (line ∷ []) number
  here : {number : ℕ} {line other : List ℕ} {others : List (List ℕ)} → (IsLine line → ⊥) →
      IsFirstBad number (line ∷ other ∷ others) number
  later : {number bad : ℕ} {line : List ℕ} {others : List (List ℕ)} → IsLine line →
      IsFirstBad (number + 1) others bad → IsFirstBad number (line ∷ others) bad

-- the first bad line of a text: the first, where that gives no origin or has no line feed; or one behind it
pub data IsBadAt (text : List ℕ) : ℕ → Type 0 where
  no_line : (first : List ℕ) → parts text ≡ first ∷ [] → IsBadAt text 1
  no_origin : (first : List ℕ) (others : List (List ℕ)) → parts text ≡ first ∷ others →
      ((origin : ℕ) → IsOriginLine origin first → ⊥) → IsBadAt text 1
  behind : (first : List ℕ) (others : List (List ℕ)) (origin bad : ℕ) → parts text ≡ first ∷ others →
      IsOriginLine origin first → IsFirstBad 2 others bad → IsBadAt text bad
