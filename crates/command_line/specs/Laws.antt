-- What a reader may rely on in the definitions of words and lines.
use Rattle.std.specs.Prelude.{◌≡◌, ℕ, ◌+◌, ◌^◌, ◌<◌, ◌≤◌, List, length, sum_by}
use Rattle.command_line.specs.declared.message.Piece.{Piece}
use Rattle.command_line.specs.Words.{Job}
use Rattle.command_line.specs.Forms.{WordsOf}
use Rattle.command_line.specs.Message.{line_of, name_length, IsShort}
use Rattle.command_line.specs.RegisterText.{register_line}
use Rattle.command_line.specs.Lines.{no_memory_line}

abbrev pub WordsNameOneJob : Type 0
WordsNameOneJob = (words : List (List ℕ)) (a b : Job) → WordsOf words a → WordsOf words b → a ≡ b

-- a line has at most 128 bytes beside the names in it: that of a message, that of a call, and `no memory`
pub record LinesHaveRoom : Type 0 where
  pub messages : (pieces : List Piece) → IsShort pieces → length (line_of pieces) ≤ 128 + sum_by name_length pieces
  pub registers : (call : ℕ) (registers : List ℕ) → call < 10 ^ 6 → length registers ≡ 25 →
      length (register_line call registers) ≤ 128
  pub no_memory : length no_memory_line ≤ 128
