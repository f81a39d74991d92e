-- The lines of a listing: which are kept, how many bytes they take, and where labels are named. This is the
-- assembler's own profile.
use Rattle.std.specs.Prelude.{ℕ, ◌+◌, ◌&&◌, ◌||◌, Bool, true, false, List, [], ◌∷◌, length, filter}
use Rattle.std.specs.Prelude.{Option, Some, None, unwrap_or, nat_eq, nat_lt, if◌then◌else◌}
use Rattle.std.specs.Int.{bit_at}
use Rattle.std.specs.Option.{option_map, is_some}
use Rattle.cpu6502.specs.Opcodes.{opcode_of, length_of}
use Rattle.asm6502.specs.declared.lines.Item.{Item}
use Rattle.asm6502.specs.declared.lines.Item.TheVariants.{Label, Code, Bytes}
use Rattle.asm6502.specs.declared.lines.Line.{Line}
use Rattle.asm6502.specs.Operands.{suits, label_of}

-- whether a part is kept: part 255 always is, and a part below 32 where its bit is in the set
abbrev pub is_part_kept : ℕ → ℕ → Bool
is_part_kept set part = nat_eq part 255 || nat_lt part 32 && nat_eq (bit_at set part) 1

-- whether a line is kept: where its part is
abbrev pub is_kept : ℕ → Line → Bool
is_kept set line = is_part_kept set line.part

-- the kept lines of a listing
abbrev pub kept : ℕ → List Line → List Line
kept set lines = filter (is_kept set) lines

-- the bytes that an item takes
abbrev pub item_size : Item → ℕ
item_size (Label label) = 0
item_size (Code mnemonic mode operand) = length_of mode
item_size (Bytes bytes) = length bytes

-- the bytes that lines take
abbrev pub size_of : List Line → ℕ
size_of [] = 0
size_of (line ∷ rest) = item_size line.item + size_of rest

-- the bytes that stand in a listing as they are
abbrev pub item_data : Item → ℕ
item_data (Bytes bytes) = length bytes
item_data _ = 0

abbrev pub data_size : List Line → ℕ
data_size [] = 0
data_size (line ∷ rest) = item_data line.item + data_size rest

-- whether an item names this label
abbrev pub names : ℕ → Item → Bool
names label (Label other) = nat_eq other label
names label _ = false

-- the place of a label: the bytes of the lines before the one that names it; none where no line does
abbrev pub place_of : List Line → ℕ → Option ℕ
place_of [] label = None
place_of (line ∷ rest) label =
    if names label line.item then Some 0 else option_map (λ place. item_size line.item + place) (place_of rest label)

-- the address of a label in lines that begin at an origin; where no line names it, the origin
abbrev pub address_in : List Line → ℕ → ℕ → ℕ
address_in lines origin label = origin + unwrap_or (place_of lines label) 0

-- the label that an item's operand has
abbrev pub label_used : Item → Option ℕ
label_used (Code mnemonic mode operand) = label_of operand
label_used _ = None

-- the label that an item names
abbrev pub label_named : Item → Option ℕ
label_named (Label label) = Some label
label_named _ = None

-- whether an item can stand in a listing: an instruction has an opcode, and its operand suits its mode
abbrev pub is_sound : Item → Bool
is_sound (Code mnemonic mode operand) = is_some (opcode_of mnemonic mode) && suits mode operand
is_sound _ = true

-- whether a part is one that no set has and that isn't always kept
abbrev pub is_no_part : ℕ → Bool
is_no_part part = nat_lt 31 part && nat_lt part 255
