-- The lines of an image in front of its lists: two jumps, the variables, and the code of two entrances, that which plays
-- a frame and that which begins a subtune. This is the project's own player.
use Rattle.std.specs.Prelude.{ℕ, ◌+◌, ◌-◌, Bool, true, false, nat_eq, List, [], ◌∷◌, ◌++◌, length, map, filter}
use Rattle.std.specs.Prelude.{Some, None}
use Rattle.std.specs.List.{range_with_len}
use Rattle.cpu6502.specs.declared.mnemonic.Mnemonic.TheVariants.{Jmp}
use Rattle.cpu6502.specs.declared.mnemonic.Mode.TheVariants.{Absolute}
use Rattle.asm6502.specs.declared.lines.Operand.TheVariants.{Label as LabelOf}
use Rattle.asm6502.specs.declared.lines.Item.TheVariants.{Label, Bytes}
use Rattle.asm6502.specs.declared.lines.Line.{Line}
use Rattle.scope_lines.specs.Instructions.{code}
use Rattle.scope_calls.specs.Entrances.{Entrance, entrance_lines}
use Rattle.player_memory.specs.declared.labels.TheConstants.{VARIABLES, FIRST_CLEARED}
use Rattle.player_text.specs.declared.texts.Start.{Start}
use Rattle.player_text.specs.Texts.{filter_tree, voice_tree, init_tree}
use Rattle.player_code.specs.declared.labels.TheConstants.{INIT_CODE, PLAY_CODE}

-- ---- single lines

-- a jump to a label, the name of the place behind it, and a byte as it is; each is always kept
abbrev pub jump_to : ℕ → Line
jump_to label = code Jmp Absolute (LabelOf label 0)

abbrev pub name : ℕ → Line
name label = record { part = 255; item = Label label }

abbrev pub byte_line : ℕ → Line
byte_line byte = record { part = 255; item = Bytes (byte ∷ []) }

-- ---- the variables

-- the names of those of so many labels, from a first one on, that have this place
abbrev pub names_from : (ℕ → ℕ) → ℕ → ℕ → ℕ → List Line
names_from places place first count =
    map name (filter (λ label. nat_eq (places label) place) (range_with_len first count))

-- of all that have it
unfoldable pub names_at : (ℕ → ℕ) → ℕ → List Line
names_at places place = names_from places place 0 VARIABLES

-- bytes from a first place on, each behind the names of all labels that have its place
abbrev pub variable_lines : (ℕ → ℕ) → ℕ → List ℕ → List Line
variable_lines places first [] = []
variable_lines places first (byte ∷ bytes) =
    names_at places first ++ byte_line byte ∷ variable_lines places (first + 1) bytes

-- ---- the entrances

-- a frame: the filter, and each voice
unfoldable pub play_entrance : ℕ → (ℕ → Bool) → Entrance
play_entrance pointer holds = record {
  label = PLAY_CODE;
  numbered = false;
  first = filter_tree;
  voice = Some voice_tree;
  pointer = pointer;
  holds = holds;
}

-- a subtune, whose number comes in A, where so many bytes of the variables are cleared
unfoldable pub init_entrance : ℕ → (ℕ → Bool) → Start → ℕ → Entrance
init_entrance pointer holds start cleared = record {
  label = INIT_CODE;
  numbered = true;
  first = init_tree start cleared;
  voice = None;
  pointer = pointer;
  holds = holds;
}

-- how many bytes are cleared where the variables take so many: all behind those that never are
abbrev pub cleared_of : ℕ → ℕ
cleared_of variables = variables - FIRST_CLEARED

-- ---- all of it

-- the jump to what begins a subtune, and behind it the one to what plays a frame
abbrev pub jump_lines : List Line
jump_lines = jump_to INIT_CODE ∷ jump_to PLAY_CODE ∷ []

-- in front of each entrance's own lines
abbrev pub front_lines : (ℕ → ℕ) → List ℕ → List Line
front_lines places variables = jump_lines ++ (variable_lines places 0 variables ++ name PLAY_CODE ∷ [])

abbrev pub middle_lines : List Line
middle_lines = name INIT_CODE ∷ []

-- the code of two entrances
abbrev pub lines_around : (ℕ → ℕ) → List ℕ → Entrance → Entrance → List Line
lines_around places variables play init =
    front_lines places variables ++ (entrance_lines play ++ (middle_lines ++ entrance_lines init))

-- the code of a player, with the places of its variables, the bytes with which these begin, the place of its pointer in
-- page 0, the conditions that hold, and the numbers with which a subtune begins
abbrev pub code_lines : (ℕ → ℕ) → List ℕ → ℕ → (ℕ → Bool) → Start → List Line
code_lines places variables pointer holds start =
    lines_around places variables (play_entrance pointer holds)
    (init_entrance pointer holds start (cleared_of (length variables)))
