-- The tick step: the voice counts frames, and at tick 0 starts the note that waits and does the row's command.
use Rattle.std.specs.Prelude.{ℕ, ◌-◌, ◌%◌, Bool, false, not, ◌&&◌, ◌==◌, if◌then◌else◌, nat_le}
use Rattle.song_model.specs.declared.instruments.Instrument.{Instrument}
use Rattle.song_model.specs.declared.tables.TableRow.{TableRow}
use Rattle.song_model.specs.declared.tables.TableName.TheVariants.{Speed}
use Rattle.play_model.specs.LookUps.{LookUps}
use Rattle.play_model.specs.Wrap.{byte_minus}
use Rattle.play_model.specs.State.{Voice, Common, Playing}
use Rattle.play_model.specs.Helpers.{do_command}

-- what the tick step leaves, and whether a note was started, which ends the voice step
pub record Ticked : Type 0 where
  pub playing : Playing
  pub started : Bool

-- the tempo of channel 1, 2 or 3
abbrev pub tempo_of : ℕ → Common → ℕ
tempo_of channel c =
    if channel == 1 then c.tempo_one else if channel == 2 then c.tempo_two else c.tempo_three

abbrev pub with_tempo : ℕ → ℕ → Common → Common
with_tempo channel tempo c =
    if channel == 1 then record c { tempo_one = tempo }
    else if channel == 2 then record c { tempo_two = tempo }
    else record c { tempo_three = tempo }

abbrev pub with_all_tempos : ℕ → Common → Common
with_all_tempos tempo c = record c { tempo_one = tempo; tempo_two = tempo; tempo_three = tempo }

-- The tick isn't 0. Where it has passed 0 the row's length is loaded: the tempo, or for the tempos 0
-- and 1 the two funk values in turn.
abbrev pub reloaded : ℕ → ℕ → Playing → Playing
reloaded channel tempo s =
    if nat_le 2 tempo then record s { voice = record s.voice { tick = tempo } }
    else record {
      voice = record s.voice { tick = if tempo == 0 then s.common.funk_one else s.common.funk_two };
      common = with_tempo channel (1 - tempo) s.common;
    }

unfoldable pub between_rows : ℕ → Playing → Playing
between_rows channel s =
    if nat_le 0x80 s.voice.tick then reloaded channel (tempo_of channel s.common) s else s

-- The tick is 0. The waiting note becomes the note, with the instrument's vibrato.
abbrev pub note_taken : Instrument → Voice → Voice
note_taken i v = record v {
  note = byte_minus v.new_note 0x60;
  command = 0;
  param = i.vibrato;
  vib_delay = i.vibrato_delay;
}

-- the first frame's waveform: $FE and $FF are masks, and 0 changes nothing
abbrev pub first_wave_set : ℕ → Voice → Voice
first_wave_set wave v =
    if nat_le 0xFE wave then record v { gate = wave }
    else if wave == 0 then v
    else record v { wave = wave; gate = 0xFF }

-- the instrument's programs begin, where it has them, and its envelope is set
abbrev pub programs_begun : Instrument → Playing → Playing
programs_begun i s = record {
  voice = record s.voice {
    wave_ptr = i.wave;
    wave_time = 0;
    pulse_ptr = if i.pulse == 0 then s.voice.pulse_ptr else i.pulse;
    pulse_time = if i.pulse == 0 then s.voice.pulse_time else 0;
    ad = i.ad;
    sr = i.sr;
  };
  common = record s.common {
    filter_ptr = if i.filter == 0 then s.common.filter_ptr else i.filter;
    filter_time = if i.filter == 0 then s.common.filter_time else 0;
  };
}

abbrev pub sound_begun : Instrument → Playing → Playing
sound_begun i s = programs_begun i (record s { voice = first_wave_set i.first_wave s.voice })

-- with command 3 the sound goes on and slides to the new note
abbrev pub taken : Instrument → Playing → Playing
taken i s =
    if s.voice.new_command == 3 then record s { voice = note_taken i s.voice }
    else sound_begun i (record s { voice = note_taken i s.voice })

unfoldable pub note_started : Instrument → Playing → Playing
note_started i s = if s.voice.new_note == 0 then s else taken i s

-- command $E: the three tempos become 0; a parameter names the row with the two row lengths
abbrev pub funk_set : TableRow → Common → Common
funk_set row c = record c { funk_one = byte_minus row.left 1; funk_two = byte_minus row.right 1 }

abbrev pub funk_tempo : LookUps → ℕ → Common → Common
funk_tempo look d c = with_all_tempos 0 (if d == 0 then c else funk_set (look.row Speed d) c)

-- command $F: 0 and 1 are funk tempos, $03-$7F is a row length for all channels, $83-$FF for this one
abbrev pub tempo_set : ℕ → ℕ → Common → Common
tempo_set channel d c =
    if nat_le d 1 then with_all_tempos d c
    else if nat_le 0x03 d && nat_le d 0x7F then with_all_tempos (d - 1) c
    else if nat_le 0x83 d then with_tempo channel (d - 0x81) c
    else c

-- The row's command. Commands 0 to 4 run from now on, the others are done once.
unfoldable pub row_command : ℕ → LookUps → Instrument → ℕ → ℕ → Playing → Playing
row_command channel look i c d s =
    if c == 0 then record s { voice = record s.voice { command = 0; param = i.vibrato } }
    else if nat_le c 2 then record s { voice = record s.voice { vib_time = 0; command = c; param = d } }
    else if nat_le c 4 then record s { voice = record s.voice { command = c; param = d } }
    else if c == 8 then record s { voice = record s.voice { wave_ptr = d; wave_time = 0 } }
    else if c == 0xE then record s { common = funk_tempo look d s.common }
    else if c == 0xF then record s { common = tempo_set channel d s.common }
    else do_command c d s

-- The waiting note is used up, and has started unless it slides.
abbrev pub note_ended : Playing → Ticked
note_ended s = record {
  playing = record s { voice = record s.voice { new_note = 0 } };
  started = not (s.voice.new_note == 0) && not (s.voice.new_command == 3);
}

abbrev pub gate_timer_set : Instrument → Playing → Playing
gate_timer_set i s = record s { voice = record s.voice { gate_timer = i.gate_timer % 64 } }

-- the order of what is done at tick 0
unfoldable pub at_row : ℕ → LookUps → Instrument → Playing → Ticked
at_row channel look i s =
    note_ended (row_command channel look i s.voice.new_command s.voice.new_param
    (note_started i (gate_timer_set i s)))

abbrev pub ticked : ℕ → LookUps → Playing → Ticked
ticked channel look s =
    if s.voice.tick == 0 then at_row channel look (look.instrument s.voice.instrument) s
    else record { playing = between_rows channel s; started = false }

unfoldable pub tick_step : ℕ → LookUps → Playing → Ticked
tick_step channel look s =
    ticked channel look (record s { voice = record s.voice { tick = byte_minus s.voice.tick 1 } })
