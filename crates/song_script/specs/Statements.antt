-- What a song's script says, statement by statement: comments and edits, a line each. The words and arguments of an
-- edit's line are those of the table of forms; its digits are upper case.
use Rattle.std.specs.Prelude.{ℕ, ◌+◌, List, [], ◌∷◌, ◌++◌, codes}
use Rattle.std.specs.List.{flat_map}
use Rattle.hex.specs.Hex.{encode_upper}
use Rattle.edit_ops.specs.declared.edits.Edit.{Edit}
use Rattle.edit_script.specs.Forms.{Argument, edit_form}

pub data Statement : Type 0 where
  Comment : (words : List ℕ) → Statement
  Do : (edit : Edit) → Statement

-- ---- lines

-- one space, and two digits for each byte
abbrev pub argument_text : Argument → List ℕ
argument_text argument = codes " " ++ encode_upper argument.bytes

abbrev pub edit_text : Edit → List ℕ
edit_text edit = (edit_form edit).word ++ flat_map argument_text (edit_form edit).arguments

abbrev pub line_of : Statement → List ℕ
line_of (Comment words) = codes "# " ++ words
line_of (Do edit) = edit_text edit

-- a line feed ends each line
abbrev pub text_of : List Statement → List ℕ
text_of [] = []
text_of (statement ∷ rest) = line_of statement ++ 10 ∷ text_of rest

-- ---- edits

-- the edits among the statements
abbrev pub edits_among : List Statement → List Edit
edits_among [] = []
edits_among (Comment words ∷ rest) = edits_among rest
edits_among (Do edit ∷ rest) = edit ∷ edits_among rest

-- ---- statements for each item of a list

-- what is said of each item, the first of which has this number
abbrev pub each_from : {X : Type 0} → ℕ → (ℕ → X → List Statement) → List X → List Statement
each_from number said [] = []
each_from number said (item ∷ items) = said number item ++ each_from (number + 1) said items
