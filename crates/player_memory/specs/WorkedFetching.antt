-- A voice in its song, worked by hand: before the first walk, behind it, and in a run of rests; and where it isn't.
use Rattle.std.specs.Prelude.{ℕ, true, nat_eq, if◌then◌else◌, List, [], ◌∷◌}
use Rattle.code_runs.specs.Runs.{put}
use Rattle.song_model.specs.declared.rows.Row.{Row}
use Rattle.song_model.specs.declared.orders.Order.{Order}
use Rattle.play_model.specs.LookUps.{LookUps}
use Rattle.play_model.specs.State.{Voice, start_voice}
use Rattle.packed_form.specs.Entries.{no_command, row_with}
use Rattle.scopes.specs.Desk.{Layout}
use Rattle.player_memory.specs.declared.labels.TheConstants.{REST, OFFSET, PATTERN_LOW, PATTERN_HIGH, ORDER_PLACE}
use Rattle.player_memory.specs.declared.labels.TheConstants.{REPEAT, PATTERNS}
use Rattle.player_memory.specs.Fetching.{SongStands}
use Rattle.player_memory.specs.WorkedMemory.{at_1000}

-- pattern 0, at $1200, is played twice, again and again
abbrev pub its_order : Order
its_order = record { entries = 0xD1 ∷ 0 ∷ []; restart = 0 }

-- it has two rests and a note, in two entries
abbrev pub its_rows : List Row
its_rows = row_with 0xBD 0 no_command ∷ row_with 0xBD 0 no_command ∷ row_with 0x60 0 no_command ∷ []

abbrev pub its_packed : ℕ → List ℕ
its_packed number = 0xC1 ∷ 0x60 ∷ 0x00 ∷ []

abbrev pub with_pattern : Layout
with_pattern = record at_1000 {
  address = λ label. if nat_eq label PATTERNS then 0x1200 else at_1000.address label;
  holds = λ condition. true;
}

abbrev pub StandsSo : LookUps → Voice → (ℕ → ℕ) → Type 0
StandsSo look v own = SongStands with_pattern (record look { rows = λ number. its_rows }) its_packed its_order v own

-- the bytes as they begin, behind the walk, and behind the first row, whose run has a rest left
abbrev pub at_start : ℕ → ℕ
at_start label = 0

abbrev pub at_first : ℕ → ℕ
at_first = put (put (put (put (put at_start OFFSET 1) PATTERN_LOW 0xFF) PATTERN_HIGH 0x11) ORDER_PLACE 2) REPEAT 1

abbrev pub in_run : ℕ → ℕ
in_run = put (put at_first OFFSET 2) REST 1

abbrev pub on_row : ℕ → Voice
on_row row = record start_voice { row = row }

pub record SongsAreWorked (look : LookUps) : Type 0 where
  pub start : StandsSo look (on_row 0) at_start
  pub first : StandsSo look (on_row 0) at_first
  pub run : StandsSo look (on_row 1) in_run
  -- a voice that isn't walked to its play is at the first row, and one whose offset is 1 too
  pub start_row : ¬ StandsSo look (on_row 1) at_start
  pub first_row : ¬ StandsSo look (on_row 1) at_first
  pub other_offset : ¬ StandsSo look (on_row 0) (put at_first OFFSET 2)
  -- rests are as many as the run has left, and none before it
  pub more : ¬ StandsSo look (on_row 1) (put in_run REST 2)
  pub before : ¬ StandsSo look (on_row 0) in_run
  -- it has its pattern
  pub pattern : ¬ StandsSo look (on_row 0) (put at_first PATTERN_LOW 0)
