-- What frames of small songs use, and what they don't, worked out by hand.
use Rattle.std.specs.Prelude.{ℕ, List, [], ◌∷◌, ◌++◌, true, false, replicate}
use Rattle.song_model.specs.declared.features.Feature.{Feature}
use Rattle.song_model.specs.declared.features.Feature.TheVariants.{Transpose, Repeat, PortaUp, PortaDown, TonePorta}
use Rattle.song_model.specs.declared.features.Feature.TheVariants.{TieNote, Vibrato, InstrumentVibrato, NoteDependent}
use Rattle.song_model.specs.declared.features.Feature.TheVariants.{SetAd, SetSr, SetWave, SetWavePointer, PulseTable}
use Rattle.song_model.specs.declared.features.Feature.TheVariants.{SetPulsePointer, FilterTable, SetFilterPointer}
use Rattle.song_model.specs.declared.features.Feature.TheVariants.{FilterControl, Cutoff, Volume, FunkTempo, SetTempo}
use Rattle.song_model.specs.declared.features.Feature.TheVariants.{WaveTable, WaveCommand}
use Rattle.song_model.specs.declared.orders.Subtune.{Subtune}
use Rattle.song_model.specs.declared.songs.Song.{Song}
use Rattle.play_model.specs.declared.options.Options.{Options}
use Rattle.play_model.specs.State.{no_options}
use Rattle.play_model.specs.Frame.{state_after_with}
use Rattle.play_model.specs.Uses.{UsesFeature}
use Rattle.play_model.specs.WorkedRuns.{left_out, first_left_out}
use Rattle.play_model.specs.WorkedSongs.{order, subtune, row, sides, plucked, rests, with_rows, with_instrument}
use Rattle.play_model.specs.WorkedSongs.{one_note, wrapping_note, rising_note, rising_pulse, other_vibrato}

-- the frame of playable subtune 0 after n frames uses the feature
abbrev pub UsesWith : Options → Song → ℕ → Feature → Type 0
UsesWith o song n feature = UsesFeature o song 0 (state_after_with o song 0 n) feature

abbrev pub FrameUses : Song → ℕ → Feature → Type 0
FrameUses song n feature = UsesWith no_options song n feature

-- The note's row is fetched in the fifth frame and done in the seventh, which starts the note and ends the voice's
-- step. In the eighth the two programs are begun, and both stop after a row.
pub record ProgramsAreUsed : Type 0 where
  pub started : ¬ FrameUses one_note 6 WaveTable
  pub wave : FrameUses one_note 7 WaveTable
  pub pulse : FrameUses one_note 7 PulseTable
  pub no_command : ¬ FrameUses one_note 7 WaveCommand
  pub wave_stopped : ¬ FrameUses one_note 8 WaveTable
  pub pulse_stopped : ¬ FrameUses one_note 8 PulseTable

-- the second row is done in the thirteenth frame, and its slide goes on; the option leaves the effect out where the row
-- is done
pub record SlidesAreUsed : Type 0 where
  pub before : ¬ FrameUses rising_note 11 PortaUp
  pub first : FrameUses rising_note 12 PortaUp
  pub later : FrameUses rising_note 15 PortaUp
  pub kept_out : ¬ UsesWith (left_out true false 1) rising_note 12 PortaUp
  pub begun_late : UsesWith (left_out true false 1) rising_note 13 PortaUp

-- An option leaves a pulse program out where it says, and there alone: where the row is fetched, in the eleventh frame,
-- and between two patterns, in the thirteenth.
pub record PulseProgramsAreLeftOut : Type 0 where
  pub fetched : ¬ UsesWith (left_out false true 1) rising_pulse 10 PulseTable
  pub behind_fetch : UsesWith (left_out false true 1) rising_pulse 11 PulseTable
  pub between : ¬ UsesWith (first_left_out 1) rising_pulse 12 PulseTable
  pub behind_it : UsesWith (first_left_out 1) rising_pulse 13 PulseTable

-- the same vibrato with a longer delay
abbrev pub later_vibrato : Song
later_vibrato = with_instrument (record plucked { pulse = 0; vibrato = 1; vibrato_delay = 2 }) wrapping_note

-- The delay of a vibrato counts as its use, but its depth, which comes from the note, isn't asked for before the delay
-- is over. Without a delay there is none.
pub record VibratosAreUsed : Type 0 where
  pub begins : FrameUses wrapping_note 8 InstrumentVibrato
  pub by_note : FrameUses wrapping_note 8 NoteDependent
  pub delayed : FrameUses later_vibrato 8 InstrumentVibrato
  pub not_yet : ¬ FrameUses later_vibrato 8 NoteDependent
  pub no_delay : ¬ FrameUses (other_vibrato 0) 12 InstrumentVibrato

-- a row with this command, done in the seventh frame
abbrev pub command_song : ℕ → ℕ → Song
command_song command param = with_rows (row 0xBD 0 command param ∷ rests 1) (record one_note {
  filter = sides 0 0x20 ∷ sides 0xFF 0 ∷ [];
  speed = sides 0x10 4 ∷ [];
})

-- that frame uses the one feature and not the other
pub record CommandUses (command param : ℕ) (feature other : Feature) : Type 0 where
  pub used : FrameUses (command_song command param) 6 feature
  pub unused : ¬ FrameUses (command_song command param) 6 other

-- Each command uses its own feature and not another's. Command 3 ties where it has no parameter.
pub record CommandsAreUsed : Type 0 where
  pub up : CommandUses 1 1 PortaUp PortaDown
  pub down : CommandUses 2 1 PortaDown Vibrato
  pub tone : CommandUses 3 1 TonePorta TieNote
  pub tie : CommandUses 3 0 TieNote TonePorta
  pub vibrato : CommandUses 4 1 Vibrato PortaUp
  pub ad : CommandUses 5 1 SetAd SetSr
  pub sr : CommandUses 6 1 SetSr SetWave
  pub wave : CommandUses 7 1 SetWave SetWavePointer
  pub wave_pointer : CommandUses 8 1 SetWavePointer SetPulsePointer
  pub pulse_pointer : CommandUses 9 1 SetPulsePointer SetFilterPointer
  pub filter_pointer : CommandUses 0xA 1 SetFilterPointer FilterControl
  pub control : CommandUses 0xB 1 FilterControl Cutoff
  pub cutoff : CommandUses 0xC 1 Cutoff Volume
  pub volume : CommandUses 0xD 1 Volume SetAd
  pub funk : CommandUses 0xE 1 FunkTempo SetTempo

-- a filter program that is begun in a row is met in the next frame
pub record FiltersAreUsed : Type 0 where
  pub begun : ¬ FrameUses (command_song 0xA 1) 6 FilterTable
  pub met : FrameUses (command_song 0xA 1) 7 FilterTable

-- the same row where speed 1 is a half tone at the note
abbrev pub by_note_song : ℕ → Song
by_note_song command = record (command_song command 1) { speed = sides 0x80 4 ∷ [] }

-- the commands 1 to 4 ask for a speed, and 5 doesn't; and a speed below $8000 doesn't depend on the note
pub record SpeedsAreUsed : Type 0 where
  pub up : FrameUses (by_note_song 1) 6 NoteDependent
  pub down : FrameUses (by_note_song 2) 6 NoteDependent
  pub tone : FrameUses (by_note_song 3) 6 NoteDependent
  pub vibrato : FrameUses (by_note_song 4) 6 NoteDependent
  pub ad : ¬ FrameUses (by_note_song 5) 6 NoteDependent
  pub fixed : ¬ FrameUses (command_song 1 1) 6 NoteDependent

-- a row with command $F
abbrev pub tempo_song : ℕ → Song
tempo_song tempo = with_rows (row 0x90 1 0xF tempo ∷ rests 1) one_note

-- funk tempos for all, a tempo of channel 1 alone, and a tempo for all, which comes in the very frame in which the
-- channels 2 and 3 load a row's length
abbrev pub common_tempo : Song
common_tempo =
    with_rows (row 0xBD 0 0xF 0 ∷ row 0xBD 0 0xF 0x84 ∷ rests 3 ++ row 0xBD 0 0xF 3 ∷ []) one_note

-- command $F in the seventh frame, for all channels or with $83 for its own; the frame after it loads the row's length
pub record TemposAreUsed : Type 0 where
  pub three : FrameUses (tempo_song 3) 6 SetTempo
  pub here : FrameUses (tempo_song 0x83) 6 SetTempo
  pub two : ¬ FrameUses (tempo_song 2) 6 SetTempo
  pub two_is_no_funk : ¬ FrameUses (tempo_song 2) 6 FunkTempo
  pub one : FrameUses (tempo_song 1) 6 FunkTempo
  pub one_loads : FrameUses (tempo_song 1) 7 FunkTempo
  pub one_loaded : ¬ FrameUses (tempo_song 1) 8 FunkTempo
  pub in_one_frame : ¬ FrameUses common_tempo 31 FunkTempo

-- a wave program of commands, one in each frame from the eighth on
abbrev pub commanding_wave : Song
commanding_wave = record (with_rows (row 0x90 1 0 0 ∷ rests 2) one_note) {
  instruments = record plucked { pulse = 0 } ∷ [];
  wave =
      sides 0xF9 2 ∷ sides 0xFA 1 ∷ sides 0xF1 1 ∷ sides 0xF2 1 ∷ sides 0xF3 1 ∷ sides 0xF3 0
      ∷ sides 0xF4 1 ∷ sides 0xF5 1 ∷ sides 0xF6 1 ∷ sides 0xF7 1 ∷ sides 0xFB 1 ∷ sides 0xFC 1
      ∷ sides 0xFD 1 ∷ sides 0xF8 1 ∷ sides 0xFF 0 ∷ [];
  pulse = sides 0x88 0 ∷ sides 0x90 0 ∷ sides 0xFF 0 ∷ [];
  filter = sides 0 0x20 ∷ sides 0xFF 0 ∷ [];
  speed = sides 0x10 4 ∷ [];
}

-- the last of them is command 8, which does nothing in the wave table
pub record WaveCommandsAreUsed : Type 0 where
  pub command : FrameUses commanding_wave 7 WaveCommand
  pub pulse : FrameUses commanding_wave 7 SetPulsePointer
  pub filter : FrameUses commanding_wave 8 SetFilterPointer
  pub up : FrameUses commanding_wave 9 PortaUp
  pub down : FrameUses commanding_wave 10 PortaDown
  pub tone : FrameUses commanding_wave 11 TonePorta
  pub tie : FrameUses commanding_wave 12 TieNote
  pub vibrato : FrameUses commanding_wave 13 Vibrato
  pub ad : FrameUses commanding_wave 14 SetAd
  pub sr : FrameUses commanding_wave 15 SetSr
  pub wave : FrameUses commanding_wave 16 SetWave
  pub control : FrameUses commanding_wave 17 FilterControl
  pub cutoff : FrameUses commanding_wave 18 Cutoff
  pub volume : FrameUses commanding_wave 19 Volume
  pub eight : FrameUses commanding_wave 20 WaveCommand
  pub no_pointer : ¬ FrameUses commanding_wave 20 SetWavePointer

-- the note's song with other orderlists
abbrev pub with_orders : List ℕ → List ℕ → List ℕ → Song
with_orders one two three = record one_note { subtunes = subtune one two three ∷ [] }

-- the note in each of the other voices
pub record VoicesAreUsed : Type 0 where
  pub second : FrameUses (with_orders (1 ∷ []) (0 ∷ []) (1 ∷ [])) 7 WaveTable
  pub third : FrameUses (with_orders (1 ∷ []) (1 ∷ []) (0 ∷ [])) 7 WaveTable

-- the note's song with this restart position, which is the place of an orderlist's last entry
abbrev pub late_subtune : ℕ → Subtune
late_subtune restart = record {
  one = record { entries = 0 ∷ replicate restart 0; restart = restart };
  two = order (1 ∷ []);
  three = order (1 ∷ []);
}

abbrev pub late_restart : ℕ → Song
late_restart restart = record one_note { subtunes = late_subtune restart ∷ [] }

-- repeats and transposes of a subtune are used in each of its frames; a restart position that has the number of one is
-- neither
pub record OrdersAreUsed : Type 0 where
  pub least_repeat : FrameUses (with_orders (0xD0 ∷ 0 ∷ []) (1 ∷ []) (1 ∷ [])) 3 Repeat
  pub most_repeat : FrameUses (with_orders (1 ∷ []) (0xDF ∷ 0 ∷ []) (1 ∷ [])) 3 Repeat
  pub least_transpose : FrameUses (with_orders (1 ∷ []) (1 ∷ []) (0xE0 ∷ 0 ∷ [])) 3 Transpose
  pub most_transpose : FrameUses (with_orders (0xFE ∷ 0 ∷ []) (1 ∷ []) (1 ∷ [])) 3 Transpose
  pub no_repeat : ¬ FrameUses (late_restart 0xD0) 3 Repeat
  pub no_transpose : ¬ FrameUses (late_restart 0xE0) 3 Transpose

pub record CasesAreAsWorked : Type 0 where
  pub programs : ProgramsAreUsed
  pub slides : SlidesAreUsed
  pub left_out_programs : PulseProgramsAreLeftOut
  pub vibratos : VibratosAreUsed
  pub commands : CommandsAreUsed
  pub filters : FiltersAreUsed
  pub speeds : SpeedsAreUsed
  pub tempos : TemposAreUsed
  pub waves : WaveCommandsAreUsed
  pub voices : VoicesAreUsed
  pub orders : OrdersAreUsed
