-- The wave step: one row of the wave program, which sets the waveform, does a command, and sets the note.
use Rattle.std.specs.Prelude.{ℕ, ◌+◌, ◌-◌, ◌%◌, Bool, true, false, not, ◌&&◌, ◌||◌, ◌==◌}
use Rattle.std.specs.Prelude.{if◌then◌else◌, nat_lt, nat_le}
use Rattle.song_model.specs.declared.tables.TableRow.{TableRow}
use Rattle.song_model.specs.declared.tables.TableName.TheVariants.{Wave}
use Rattle.play_model.specs.LookUps.{LookUps}
use Rattle.play_model.specs.Wrap.{byte_plus}
use Rattle.play_model.specs.Freq.{freq}
use Rattle.play_model.specs.State.{Voice, Playing}
use Rattle.play_model.specs.Helpers.{next_row, porta_up, porta_down, tone, vibrato, do_command}

-- what the wave step leaves, and whether the running effect is done in this frame
pub record Waved : Type 0 where
  pub playing : Playing
  pub effect : Bool

-- a command of the wave table: 0, 8 and $E do nothing
unfoldable pub wave_command : LookUps → ℕ → ℕ → Playing → Playing
wave_command look c d s =
    if (c == 0) || (c == 8) || (c == 0xE) then s
    else if c == 1 then record s { voice = porta_up look d s.voice }
    else if c == 2 then record s { voice = porta_down look d s.voice }
    else if c == 3 then record s { voice = tone look d s.voice }
    else if c == 4 then record s { voice = vibrato look d s.voice }
    else do_command c d s

abbrev pub is_wave_command : TableRow → Bool
is_wave_command row = nat_le 0xF0 row.left && nat_le row.left 0xFE

-- the left side: a waveform, a waveform below $10 written as $E0 to $EF, or a command
abbrev pub left_done : LookUps → TableRow → Playing → Playing
left_done look row s =
    if nat_le 0x10 row.left && nat_le row.left 0xDF
    then record s { voice = record s.voice { wave = row.left } }
    else if nat_le 0xE0 row.left && nat_le row.left 0xEF
    then record s { voice = record s.voice { wave = row.left - 0xE0 } }
    else if is_wave_command row then wave_command look (row.left - 0xF0) row.right s
    else s

abbrev pub program_moved : LookUps → ℕ → Playing → Playing
program_moved look p s =
    record s { voice = record s.voice { wave_time = 0; wave_ptr = next_row look Wave p } }

-- the right side: below $80 relative to the note, above it a note of its own
abbrev pub wave_note : ℕ → ℕ → ℕ
wave_note right note = if nat_lt right 0x80 then (right + note) % 128 else right % 128

abbrev pub with_note : ℕ → Voice → Voice
with_note n v = record v { freq = freq n; last_note = n; vib_time = 0 }

-- after a command the effect rests; $80 keeps the note and lets the effect run
abbrev pub right_done : TableRow → Playing → Waved
right_done row s =
    if is_wave_command row then record { playing = s; effect = false }
    else if row.right == 0x80 then record { playing = s; effect = true }
    else record {
      playing = record s { voice = with_note (wave_note row.right s.voice.note) s.voice };
      effect = false;
    }

-- a left side below $10 is a delay of as many frames
abbrev pub wave_row : LookUps → TableRow → Playing → Waved
wave_row look row s =
    if nat_lt row.left 0x10 && not (s.voice.wave_time == row.left)
    then record { playing = record s { voice = record s.voice { wave_time = byte_plus s.voice.wave_time 1 } }; effect = true }
    else right_done row (program_moved look s.voice.wave_ptr (left_done look row s))

unfoldable pub wave_step : LookUps → Playing → Waved
wave_step look s =
    if s.voice.wave_ptr == 0 then record { playing = s; effect = true }
    else wave_row look (look.row Wave s.voice.wave_ptr) s
