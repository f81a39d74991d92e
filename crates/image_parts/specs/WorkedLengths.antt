-- How many bytes the parts of the code take, the frequencies, and the images of two small packed songs, worked by hand.
use Rattle.std.specs.Prelude.{◌≡◌, ℕ, ◌+◌, ◌-◌, ◌^◌, true, [], ◌∷◌, length, map}
use Rattle.std.specs.List.{range_with_len}
use Rattle.play_model.specs.declared.options.System.TheVariants.{Ntsc}
use Rattle.play_model.specs.State.{no_options}
use Rattle.play_model.specs.WorkedRuns.{all_left_out}
use Rattle.song_facts.specs.Facts.{no_facts}
use Rattle.packed_form.specs.declared.packed_songs.PackedSubtune.{PackedSubtune}
use Rattle.packed_form.specs.declared.packed_songs.PackedSong.{PackedSong}
use Rattle.packed_form.specs.WorkedUnpacked.{IsPackedNote}
use Rattle.player_memory.specs.declared.conditions.TheConstants.{VIBRATO, WAVE_TABLE, SKIP_EFFECTS, SWINGS}
use Rattle.player_memory.specs.declared.conditions.TheConstants.{FILTER_TABLE, SET_CUTOFF, FILTER_USED, EFFECTS}
use Rattle.player_memory.specs.declared.conditions.TheConstants.{ROW_SLIDE, ROW_ONCE, LEGATO, NO_HARD_RESTART}
use Rattle.player_memory.specs.declared.conditions.TheConstants.{WAVE_DELAY, SET_VOLUME}
use Rattle.player_memory.specs.declared.conditions.TheConstants.{NOTE_PULSE, NOTE_FILTER, NOTE_VIBRATO, VIBRATO_DELAY}
use Rattle.player_memory.specs.declared.conditions.TheConstants.{ROW_COMMAND, SPECIAL_ROW, HELD_NOTE, SET_TEMPO}
use Rattle.player_memory.specs.declared.conditions.TheConstants.{VOICE_TEMPO, COMMON_TEMPO, FUNK_TURNS, FUNK_CHOICE}
use Rattle.player_memory.specs.declared.conditions.TheConstants.{OWN_TIMER, OWN_WAVE, SUBTUNES, FUNK_TEMPO, VOICE_TWO}
use Rattle.player_memory.specs.declared.conditions.TheConstants.{VOICE_THREE, FIRST_HOLDS}
use Rattle.image_parts.specs.CodeParts.{always, part_length, code_length}
use Rattle.image_parts.specs.Lengths.{slide_bytes, read_bytes, frequency_bytes, image_length}

-- all features, and all facts
abbrev pub every_feature : ℕ
every_feature = 2 ^ 24 - 1

abbrev pub every_fact : ℕ
every_fact = 2 ^ 56 - 2 ^ 34

-- how many bytes a part takes in a song that asks for all of them, with all options
abbrev pub all_parts : ℕ → ℕ
all_parts = part_length (every_feature + every_fact) (all_left_out 4)

-- how many bytes a part takes in a song that asks for one feature or fact alone, and where that is the part's own
abbrev pub part_of : ℕ → ℕ → ℕ
part_of condition = part_length (2 ^ condition) no_options

abbrev pub alone_part : ℕ → ℕ
alone_part condition = part_of condition condition

-- and in a song that asks for two things
abbrev pub part_of_both : ℕ → ℕ → ℕ → ℕ
part_of_both one other = part_length (2 ^ one + 2 ^ other) no_options

-- and in a song whose rows set tempos, of one voice and of all
abbrev pub with_tempos : ℕ → ℕ
with_tempos = part_length (2 ^ ROW_ONCE + 2 ^ SET_TEMPO + 2 ^ VOICE_TEMPO + 2 ^ COMMON_TEMPO) no_options

-- Where all are kept the features come first, then the options, what features have in common, the facts, and what facts
-- or features have in common. A command of the wave table has lines of its own. A vibrato has none but those that it
-- has in common with others.
pub record PartsAreMeasured : Type 0 where
  pub features : map all_parts (range_with_len 0 24)
      ≡ 16 ∷ 21 ∷ 4 ∷ 4 ∷ 52 ∷ 4 ∷ 0 ∷ 23 ∷ 79 ∷ 14 ∷ 14 ∷ 14
      ∷ 7 ∷ 90 ∷ 24 ∷ 76 ∷ 24 ∷ 28 ∷ 14 ∷ 30 ∷ 21 ∷ 4 ∷ 45 ∷ 80 ∷ []
  pub options : map all_parts (range_with_len 24 4) ≡ 13 ∷ 6 ∷ 10 ∷ 37 ∷ []
  pub common : map all_parts (range_with_len 28 6) ≡ 43 ∷ 10 ∷ 10 ∷ 17 ∷ 17 ∷ 3 ∷ []
  pub facts : map all_parts (range_with_len 34 22)
      ≡ 19 ∷ 9 ∷ 11 ∷ 6 ∷ 2 ∷ 2 ∷ 27 ∷ 12 ∷ 6 ∷ 6 ∷ 13 ∷ 13
      ∷ 18 ∷ 15 ∷ 17 ∷ 36 ∷ 17 ∷ 3 ∷ 20 ∷ 0 ∷ 0 ∷ 7 ∷ []
  pub common_facts : map all_parts (range_with_len 56 5) ≡ 24 ∷ 4 ∷ 0 ∷ 28 ∷ 9 ∷ []
  pub no_more : all_parts 61 ≡ 0
  pub rest : all_parts always ≡ 489
  pub least_rest : part_length (2 ^ SET_VOLUME + 2 ^ OWN_TIMER + 2 ^ OWN_WAVE + 2 ^ VOICE_TWO) no_options always ≡ 443
  pub most_rest : part_length (every_feature - 2 ^ SET_VOLUME - 2 ^ FUNK_TEMPO + every_fact - 2 ^ OWN_TIMER
      - 2 ^ OWN_WAVE - 2 ^ VOICE_TWO - 2 ^ VOICE_THREE) (all_left_out 4) always ≡ 502
  pub whole : code_length (every_feature + every_fact) (all_left_out 4) ≡ 1667
  -- where the first instrument holds no more than another, the lines that compare its number take two bytes more than
  -- those that read its gateoff timer
  pub in_order : map (part_length (every_feature + every_fact - 2 ^ FIRST_HOLDS) (all_left_out 4))
      (LEGATO ∷ NO_HARD_RESTART ∷ HELD_NOTE ∷ FIRST_HOLDS ∷ []) ≡ 5 ∷ 5 ∷ 3 ∷ 0 ∷ []
  pub longest : code_length (every_feature + every_fact - 2 ^ FIRST_HOLDS) (all_left_out 4) ≡ 1669
  -- the features without the facts, and these without the features
  pub no_fact : code_length every_feature (all_left_out 4) ≡ 1290
  pub no_feature : code_length every_fact no_options ≡ 719
  -- none is kept, and nothing else can be asked for
  pub bare : code_length 0 no_options ≡ 459
  pub bare_rest : part_length 0 no_options always ≡ 459
  pub ntsc : code_length 0 (record no_options { system = Ntsc }) ≡ 459
  pub no_others : code_length (2 ^ 24 + 2 ^ 28 + 2 ^ 33 + 2 ^ 56 + 2 ^ 59 + 2 ^ 61) no_options ≡ 459
  -- one is kept alone; commands that are done once take nothing where no row has one, nor their tempos, and delays
  -- little without a wave program
  pub alone : map alone_part (range_with_len 0 24)
      ≡ 16 ∷ 21 ∷ 4 ∷ 4 ∷ 52 ∷ 4 ∷ 0 ∷ 23 ∷ 3 ∷ 0 ∷ 0 ∷ 0
      ∷ 0 ∷ 90 ∷ 0 ∷ 76 ∷ 0 ∷ 0 ∷ 0 ∷ 8 ∷ 21 ∷ 0 ∷ 45 ∷ 69 ∷ []
  pub alone_facts : map alone_part (range_with_len 34 22)
      ≡ 19 ∷ 9 ∷ 11 ∷ 6 ∷ 5 ∷ 5 ∷ 5 ∷ 12 ∷ 0 ∷ 6 ∷ 13 ∷ 13
      ∷ 0 ∷ 0 ∷ 0 ∷ 0 ∷ 14 ∷ 3 ∷ 20 ∷ 7 ∷ 7 ∷ 0 ∷ []
  -- a channel that has something to play is told from one that hasn't, but where the voices take turns between two
  -- tempos, and where both channels behind the first have something to play
  pub two_turns : part_of_both VOICE_TWO FUNK_TEMPO VOICE_TWO ≡ 0
  pub three_turns : part_of_both VOICE_THREE FUNK_TEMPO VOICE_THREE ≡ 0
  pub two_and_three : map (part_of_both VOICE_TWO VOICE_THREE) (VOICE_TWO ∷ VOICE_THREE ∷ []) ≡ 0 ∷ 0 ∷ []
  pub swings : part_of VIBRATO SWINGS ≡ 34
  pub slide_common : part_of ROW_SLIDE ROW_COMMAND ≡ 24
  pub once_common : part_of ROW_ONCE ROW_COMMAND ≡ 24
  pub legato_common : part_of LEGATO HELD_NOTE ≡ 3
  pub soft_common : part_of NO_HARD_RESTART HELD_NOTE ≡ 3
  -- and where the first instrument holds more than another
  pub first_legato : map (part_of_both LEGATO FIRST_HOLDS) (LEGATO ∷ HELD_NOTE ∷ FIRST_HOLDS ∷ []) ≡ 2 ∷ 0 ∷ 7 ∷ []
  pub first_soft : map (part_of_both NO_HARD_RESTART FIRST_HOLDS) (NO_HARD_RESTART ∷ HELD_NOTE ∷ FIRST_HOLDS ∷ [])
      ≡ 2 ∷ 0 ∷ 7 ∷ []
  pub filters : map (λ condition. part_of condition FILTER_USED) (FILTER_TABLE ∷ SET_CUTOFF ∷ []) ≡ 9 ∷ 9 ∷ []
  -- a command that runs takes less where rows have commands; and where none runs at a tick, none is left out there
  pub runs : map (λ condition. part_of condition EFFECTS) (VIBRATO ∷ ROW_SLIDE ∷ []) ≡ 30 ∷ 28 ∷ []
  pub effects : part_length 0 (record no_options { skip_effects = true }) SKIP_EFFECTS ≡ 0
  pub slide_effects : part_length (2 ^ ROW_SLIDE) (record no_options { skip_effects = true }) SKIP_EFFECTS ≡ 8
  -- with rows whose commands are done once, and with a wave program
  pub at_rows : map (λ feature. part_of_both ROW_ONCE feature feature) (range_with_len 9 13)
      ≡ 7 ∷ 7 ∷ 7 ∷ 7 ∷ 90 ∷ 12 ∷ 76 ∷ 12 ∷ 14 ∷ 7 ∷ 19 ∷ 21 ∷ 4 ∷ []
  pub turns : part_of_both ROW_ONCE FUNK_TURNS FUNK_TURNS ≡ 17
  pub choice : part_of_both ROW_ONCE FUNK_CHOICE FUNK_CHOICE ≡ 36
  pub tempos : map with_tempos (VOICE_TEMPO ∷ COMMON_TEMPO ∷ []) ≡ 18 ∷ 15 ∷ []
  pub no_tempos : part_of_both ROW_ONCE COMMON_TEMPO COMMON_TEMPO ≡ 0
  pub delay : part_of_both WAVE_TABLE WAVE_DELAY WAVE_DELAY ≡ 24
  pub delay_common : part_of_both WAVE_TABLE WAVE_DELAY SPECIAL_ROW ≡ 4
  -- where no speed is calculated there are no slides, and else three lists with row 0
  pub no_slides : slide_bytes (every_feature - 2 ^ 8 + every_fact) 5 ≡ 0
  pub slides : slide_bytes (2 ^ 8) 5 ≡ 18

-- ---- frequencies

-- a song of which 100 bytes are read and that asks for the numbers 48 to 50 has two bytes for each; where 40 are read
-- six zeros fill the gap up to the first of them, and where 46 are and more, none; all numbers are 129
pub record FrequenciesAreMeasured : Type 0 where
  pub long : frequency_bytes (record { first = 48; count = 3 }) 100 ≡ 6
  pub just_long : frequency_bytes (record { first = 48; count = 3 }) 46 ≡ 6
  pub short : frequency_bytes (record { first = 48; count = 3 }) 40 ≡ 12
  pub all : frequency_bytes (record { first = 0; count = 129 }) 40 ≡ 258
  pub last : frequency_bytes (record { first = 128; count = 1 }) 0 ≡ 128
  pub none : frequency_bytes (record { first = 0; count = 0 }) 40 ≡ 0

-- ---- instruments, and the orderlists' addresses

-- Of three instruments, two subtunes and a hundred bytes these are read, where the song asks for nothing, for each of
-- ten facts alone, for all of them and for all others. A gateoff timer and a first waveform of their own take the place
-- of one for all of them; a timer that is read for another reason stands beside that one, in place of the numbers from
-- which on instruments hold the gate and the envelope. The addresses of the orderlists are read where there are several
-- subtunes.
abbrev pub read_with : ℕ → ℕ
read_with asked = read_bytes asked 3 2 100

pub record ReadBytesAreMeasured : Type 0 where
  pub none : read_with 0 ≡ 72
  pub each : map (λ condition. read_with (2 ^ condition))
      (NOTE_VIBRATO ∷ VIBRATO_DELAY ∷ NOTE_PULSE ∷ NOTE_FILTER ∷ []) ≡ 75 ∷ 75 ∷ 75 ∷ 75 ∷ []
  pub own : map (λ condition. read_with (2 ^ condition)) (OWN_TIMER ∷ OWN_WAVE ∷ []) ≡ 74 ∷ 74 ∷ []
  pub numbers : map (λ condition. read_with (2 ^ condition)) (LEGATO ∷ NO_HARD_RESTART ∷ []) ≡ 73 ∷ 73 ∷ []
  pub two_numbers : read_with (2 ^ LEGATO + 2 ^ NO_HARD_RESTART) ≡ 74
  pub timers : read_with (2 ^ FIRST_HOLDS) ≡ 75
  pub timers_alone : map (λ condition. read_with (2 ^ condition + 2 ^ FIRST_HOLDS)) (LEGATO ∷ NO_HARD_RESTART ∷ [])
      ≡ 75 ∷ 75 ∷ []
  pub subtunes : read_with (2 ^ SUBTUNES) ≡ 84
  pub both : read_with (2 ^ OWN_TIMER + 2 ^ LEGATO) ≡ 75
  pub all : read_with (every_feature + every_fact) ≡ 100
  pub in_order : read_with (every_feature + every_fact - 2 ^ FIRST_HOLDS) ≡ 102
  pub others : read_with (every_feature + every_fact - 2 ^ NOTE_VIBRATO - 2 ^ VIBRATO_DELAY - 2 ^ NOTE_PULSE
      - 2 ^ NOTE_FILTER - 2 ^ OWN_TIMER - 2 ^ OWN_WAVE - 2 ^ LEGATO - 2 ^ NO_HARD_RESTART
      - 2 ^ FIRST_HOLDS - 2 ^ SUBTUNES) ≡ 72

-- ---- a silence

-- pattern 0 again and again in each channel, which is one rest, and instrument 1, which every song uses: it isn't
-- stored, so its first waveform is 0. No feature, that one fact, and no number.
abbrev pub silent_subtune : PackedSubtune
silent_subtune = record { one = 0 ∷ 0xFF ∷ 0 ∷ []; two = 0 ∷ 0xFF ∷ 0 ∷ []; three = 0 ∷ 0xFF ∷ 0 ∷ [] }

pub record IsPackedSilence (packed : PackedSong) : Type 0 where
  pub subtunes : packed.subtunes ≡ silent_subtune ∷ []
  pub patterns : packed.patterns ≡ (0xC0 ∷ 0x00 ∷ []) ∷ []
  pub instruments : length packed.instruments ≡ 1
  pub wave : packed.wave ≡ []
  pub pulse : packed.pulse ≡ []
  pub filter : packed.filter ≡ []
  pub speed : packed.speed ≡ []
  pub features : packed.features.0 ≡ 0
  pub facts : packed.facts ≡ record no_facts { first_mask = true }
  pub numbers : packed.numbers ≡ record { first = 0; count = 0 }

-- 16 of the packed song's 28 bytes, since of its instrument nothing but its envelope and its wave program is read, and
-- the addresses of its orderlists stand nowhere, and two for the one gateoff timer and the one first waveform, 459 of
-- each player, and 6 for the mask; 6, 10 and 40 more where all four options are on, since no command runs that the first
-- would leave out
pub record SilenceIsMeasured (packed : PackedSong) : Type 0 where
  pub with_none : image_length packed no_options ≡ 483
  pub with_all : image_length packed (all_left_out 4) ≡ 539

abbrev pub SilencesAreMeasured : Type 0
SilencesAreMeasured = (packed : PackedSong) → IsPackedSilence packed → SilenceIsMeasured packed

-- ---- a note

-- a song of one note, which has a wave and a pulse program, and of a keyoff: 31 of its 42 bytes, and the two for all
-- instruments, the 459 but the 2 that stand for a width, 18 more of variables, and 45, 90, 12 and 13 of the parts for
-- these and for the instrument's pulse program; two of the frequency of number 48, and a gap of 13 in front of it,
-- behind 35 bytes
pub record IsPlayedNote (packed : PackedSong) : Type 0 where
  pub lists : IsPackedNote packed
  pub features : packed.features.0 ≡ 0x402000
  pub facts : packed.facts ≡ record no_facts { gate_note = true; note_pulse = true }
  pub numbers : packed.numbers ≡ record { first = 48; count = 1 }

pub record NoteIsMeasured (packed : PackedSong) : Type 0 where
  pub with_none : image_length packed no_options ≡ 683
  pub with_all : image_length packed (all_left_out 4) ≡ 739

abbrev pub NotesAreMeasured : Type 0
NotesAreMeasured = (packed : PackedSong) → IsPlayedNote packed → NoteIsMeasured packed
