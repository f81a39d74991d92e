-- Which table a number points into: the pointers of instruments, and the parameters of commands, from
-- the GoatTracker 2 readme's instruments and commands. A pointer counts rows from 1; 0 points at nothing.
use Rattle.std.specs.Prelude.{ℕ, Option, Some, None, if◌then◌else◌, nat_le, ◌==◌, ◌&&◌, ◌||◌}
use Rattle.song_model.specs.declared.instruments.Instrument.{Instrument}
use Rattle.song_model.specs.declared.tables.TableName.{TableName}
use Rattle.song_model.specs.declared.tables.TableName.TheVariants.{Wave, Pulse, Filter, Speed}

-- the pointer of an instrument into a table
abbrev pub instrument_pointer : TableName → Instrument → ℕ
instrument_pointer Wave instrument = instrument.wave
instrument_pointer Pulse instrument = instrument.pulse
instrument_pointer Filter instrument = instrument.filter
instrument_pointer Speed instrument = instrument.vibrato

-- the table that a command of a row of a pattern points into by its parameter: 1 to 4 are slides and the
-- vibrato, 8 to $A name programs, $E is the funk tempo
abbrev pub command_table : ℕ → Option TableName
command_table command =
    if command == 8 then Some Wave
    else if command == 9 then Some Pulse
    else if command == 0xA then Some Filter
    else if (nat_le 1 command && nat_le command 4) || (command == 0xE) then Some Speed
    else None

-- the table that a row of the wave table points into by its right side: the left sides $F0 to $FE are
-- commands, of which 0, 8 and $E do nothing there
abbrev pub wave_row_table : ℕ → Option TableName
wave_row_table left =
    if left == 0xF9 then Some Pulse
    else if left == 0xFA then Some Filter
    else if nat_le 0xF1 left && nat_le left 0xF4 then Some Speed
    else None
