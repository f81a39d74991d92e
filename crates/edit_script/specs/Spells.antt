-- What a line says, apart from how it is read: nothing, or what is to be done.
use Rattle.std.specs.Prelude.{◌≡◌, ◌⊎◌, ℕ, List, [], ◌∷◌, ◌++◌, codes, Ok}
use Rattle.hex.specs.Hex.{decode_sized}
use Rattle.edit_script.specs.declared.commands.Action.{Action}
use Rattle.edit_script.specs.Forms.{Argument, form_of}

-- the line is empty, or a comment
pub data SaysNothing (line : List ℕ) : Type 0 where
  empty : line ≡ [] → SaysNothing line
  comment : (words : List ℕ) → line ≡ codes "#" ++ words → SaysNothing line

-- the text behind a word: for each argument one space, and then two hexadecimal digits for each of its bytes, in
-- either case
abbrev pub AreSpelled : List Argument → List ℕ → Type 0
AreSpelled [] text = text ≡ []
AreSpelled (argument ∷ arguments) text = (digits : List ℕ) × (rest : List ℕ) × (text ≡ codes " " ++ (digits ++ rest))
    × (decode_sized digits argument.size ≡ Ok argument.bytes) × AreSpelled arguments rest

-- the line is the word and the arguments of what is to be done
pub record Spells (line : List ℕ) (action : Action) : Type 0 where
  pub behind : List ℕ
  pub parts : line ≡ (form_of action).word ++ behind
  pub arguments : AreSpelled (form_of action).arguments behind

-- a line that may stand in a script
abbrev pub IsLine : List ℕ → Type 0
IsLine line = SaysNothing line ⊎ ((action : Action) × Spells line action)
