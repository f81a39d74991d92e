-- What a run says last: a status, and the pieces of its line.
use Rattle.std.specs.Prelude.{ℕ, ◌≤◌, List, ◌++◌, flat_map, sum_by, codes, decimal, length}
use Rattle.command_line.specs.declared.status.Status.{Status}
use Rattle.command_line.specs.declared.status.Status.TheVariants as status
use Rattle.command_line.specs.declared.message.Piece.{Piece}
use Rattle.command_line.specs.declared.message.Piece.TheVariants.{Words, Name, Number, Wide, Byte, Address, Features, Sum}
use Rattle.command_line.specs.Lines.{byte_digits, address_digits, feature_digits, sum_digits}

-- the exit status
abbrev pub number_of : Status → ℕ
number_of status.Done = 0
number_of status.Usage = 1
number_of status.Missing = 2
number_of status.TooLong = 3
number_of status.ReadFault = 4
number_of status.NotASong = 5
number_of status.Unplayable = 6
number_of status.TooLarge = 7
number_of status.BadScript = 8
number_of status.WriteFault = 9
number_of status.SinkFault = 10
number_of status.NoSubtune = 11
number_of status.NotAPsid = 12
number_of status.Stopped = 13
number_of status.NoMemory = 14
number_of status.NotAdmitted = 16
number_of status.BadListing = 17
number_of status.CannotJoin = 18

-- the bytes of a piece
abbrev pub piece_text : Piece → List ℕ
piece_text (Words words) = words.now
piece_text (Name name) = name.now
piece_text (Number number) = decimal number
piece_text (Wide number) = decimal number
piece_text (Byte byte) = byte_digits byte
piece_text (Address address) = address_digits address
piece_text (Features bits) = feature_digits bits
piece_text (Sum sum) = sum_digits sum

-- the line of these pieces
abbrev pub line_of : List Piece → List ℕ
line_of pieces = flat_map piece_text pieces ++ codes "\n"

-- how many of a piece's bytes are those of a name, and how many are not
abbrev pub name_length : Piece → ℕ
name_length (Name name) = length name.now
name_length _ = 0

abbrev pub own_length : Piece → ℕ
own_length (Name name) = 0
own_length piece = length (piece_text piece)

-- with its line feed, the line has at most 128 bytes beside the names in it
abbrev pub IsShort : List Piece → Type 0
IsShort pieces = sum_by own_length pieces ≤ 127

-- a status, and the pieces of the line that goes with it
pub record MessageState : Type 0 where
  pub status : ℕ
  pub pieces : List Piece
