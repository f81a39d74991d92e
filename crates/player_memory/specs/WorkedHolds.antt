-- A memory that holds the start of a subtune with the lists of a small packed song, worked by hand; and such as don't
-- hold it, layouts that don't have their room, and lines that aren't kept.
use Rattle.std.specs.Prelude.{◌≡◌, ◌≢◌, ℕ, ◌+◌, ◌-◌, ◌<◌, ◌&&◌, true, false, not, nat_eq, nat_le, nat_lt, if◌then◌else◌}
use Rattle.std.specs.Prelude.{List, [], ◌∷◌, length, map, slice_index}
use Rattle.code_runs.specs.Runs.{put}
use Rattle.play_model.specs.State.{FrameState, no_options, start_state, start_voice}
use Rattle.scopes.specs.Desk.{Layout}
use Rattle.player_memory.specs.declared.conditions.TheConstants.{TRANSPOSES, REPEATS, FILTER_TABLE, VOICE_TWO, VOICE_THREE}
use Rattle.player_memory.specs.declared.labels.TheConstants.{REST, OFFSET, PATTERN_LOW, PATTERN_HIGH, ORDER_PLACE}
use Rattle.player_memory.specs.declared.labels.TheConstants.{ORDER_LOW, TICK, VOLUME, LENT, FUNK_ONE, FUNK_TWO}
use Rattle.player_memory.specs.declared.labels.TheConstants.{NEXT_FREQUENCY_LOWS, NEXT_FREQUENCY_HIGHS}
use Rattle.player_memory.specs.declared.labels.TheConstants.{NEXT_WAVE_LEFTS, NEXT_WAVE_RIGHTS, NEXT_PULSE_LEFTS}
use Rattle.player_memory.specs.declared.labels.TheConstants.{NEXT_FILTER_LEFTS, ADS, SLIDES_LOW, SLIDES_HIGH, PERIODS}
use Rattle.player_memory.specs.declared.labels.TheConstants.{ORDERS, PATTERNS, ONE_TIMER, ONE_WAVE}
use Rattle.player_memory.specs.declared.labels.TheConstants.{GATE_FROM, ENVELOPE_FROM}
use Rattle.player_memory.specs.SongLists.{HasSongLists}
use Rattle.player_memory.specs.Holds.{order_in, order_label, VoiceHolds, Holds, IsPlayerLayout, PatternStands}
use Rattle.player_memory.specs.Holds.{KeepsUsed, held}
use Rattle.player_memory.specs.WorkedPlays.{with_variable}
use Rattle.player_memory.specs.WorkedStarting.{with_voice_begun}
use Rattle.player_memory.specs.WorkedLists.{all_pieces, worked_song, plain_song, list_layout, plain_layout}
use Rattle.packed_form.specs.declared.packed_songs.PackedSong.{PackedSong}
use Rattle.packed_form.specs.WalkCount.{walk_count}

-- ---- the memory

-- a byte of runs of bytes, each from its place on; all else is 0
abbrev pub byte_in : List (ℕ × List ℕ) → ℕ → ℕ
byte_in [] place = 0
byte_in (run ∷ runs) place =
    if nat_le run.0 place && nat_lt place (run.0 + length run.1) then slice_index run.1 (place - run.0)
    else byte_in runs place

-- the lists, and two of slides, in which the second row has these bytes
abbrev pub lists_with : ℕ → ℕ → ℕ → ℕ
lists_with low high =
    byte_in ((0x1100, 0x00 ∷ 0x30 ∷ low ∷ 0x05 ∷ []) ∷ (0x1104, 0x00 ∷ 0x04 ∷ high ∷ 0x10 ∷ [])
    ∷ map (λ p. (p.place + p.first, p.bytes)) all_pieces)

-- the variables as the second subtune begins at one play call in a picture, with its orderlists at $1180, $1291 and
-- $13A2
abbrev pub memory_with : ℕ → ℕ → ℕ → ℕ
memory_with low high =
    with_voice_begun 0 (with_voice_begun 1 (with_voice_begun 2 (with_variable VOLUME 15
    (with_variable FUNK_ONE 8 (with_variable FUNK_TWO 5 (lists_with low high))))))

abbrev pub song_memory : ℕ → ℕ
song_memory = memory_with 0 0

-- ---- lists

abbrev pub HasLists : (ℕ → ℕ) → Type 0
HasLists at = HasSongLists list_layout worked_song at

-- a label has another address
abbrev pub moved_in : Layout → ℕ → ℕ → Layout
moved_in layout label place =
    record layout { address = λ l. if nat_eq l label then place else layout.address l }

-- without calculated speeds
abbrev pub HasPlainLists : Layout → Type 0
HasPlainLists layout = HasSongLists layout plain_song (put song_memory 0x110A 0x03)

-- one byte is another: the first of a list, or the last
pub record ListsAreInMemory : Type 0 where
  -- the slides of a row with a speed that is calculated may be any
  pub stand : (low high : ℕ) → HasLists (memory_with low high)
  pub plain : HasPlainLists plain_layout
  pub first_frequency : ¬ HasLists (put song_memory 0x1215 0)
  pub last_frequency : ¬ HasLists (put song_memory 0x1301 1)
  pub speed_row_none : ¬ HasLists (put song_memory 0x1108 1)
  pub last_speed : ¬ HasLists (put song_memory 0x110F 0)
  pub last_period : ¬ HasLists (put song_memory 0x1113 0)
  pub first_wave : ¬ HasLists (put song_memory 0x1114 0)
  pub last_wave : ¬ HasLists (put song_memory 0x111B 0)
  pub first_pulse : ¬ HasLists (put song_memory 0x111C 0)
  pub last_pulse : ¬ HasLists (put song_memory 0x111F 1)
  pub first_filter : ¬ HasLists (put song_memory 0x1120 0)
  pub last_filter : ¬ HasLists (put song_memory 0x1125 1)
  pub first_ad : ¬ HasLists (put song_memory 0x1126 0)
  pub last_first_wave : ¬ HasLists (put song_memory 0x1137 0)
  pub one_timer : ¬ HasLists (put song_memory 0x1160 0x82)
  pub envelope_from : ¬ HasLists (put song_memory 0x1162 1)
  pub first_order_low : ¬ HasLists (put song_memory 0x1138 0)
  pub last_order_high : ¬ HasLists (put song_memory 0x1143 0)
  pub first_pattern_low : ¬ HasLists (put song_memory 0x1144 0)
  pub last_pattern_high : ¬ HasLists (put song_memory 0x1147 0)
  pub first_order : ¬ HasLists (put song_memory 0x1148 1)
  pub last_order : ¬ HasLists (put song_memory 0x13A7 1)
  pub first_pattern : ¬ HasLists (put song_memory 0x1200 0)
  pub last_pattern : ¬ HasLists (put song_memory 0x1157 1)
  -- a slide
  pub first_low_slide : ¬ HasLists (put song_memory 0x1100 1)
  pub last_low_slide : ¬ HasLists (put song_memory 0x1103 0)
  pub first_high_slide : ¬ HasLists (put song_memory 0x1104 1)
  pub last_high_slide : ¬ HasLists (put song_memory 0x1107 0)
  -- the last byte of all may not be read
  pub unread : ¬ HasSongLists
      (record list_layout { may_read = λ place. nat_le 0x1000 place && nat_lt place 0x13A7 }) worked_song song_memory
  -- without calculated speeds each of these lists is one of sides
  pub own_low : ¬ HasPlainLists (moved_in plain_layout SLIDES_LOW 0x1100)
  pub own_high : ¬ HasPlainLists (moved_in plain_layout SLIDES_HIGH 0x1104)
  pub own_periods : ¬ HasPlainLists (moved_in plain_layout PERIODS 0x1110)

-- ---- layouts

abbrev pub IsLaidOut : Layout → Type 0
IsLaidOut layout = IsPlayerLayout layout worked_song

-- the first pattern at this address, in a memory that may be read throughout
abbrev pub PatternAt : ℕ → Type 0
PatternAt address =
    PatternStands (record (moved_in list_layout PATTERNS address) { may_read = λ place. true }) worked_song 0

pub record LayoutsAreWorked : Type 0 where
  pub laid : IsLaidOut list_layout
  pub port : ¬ IsLaidOut (record list_layout { pointer = 1 })
  pub closed : ¬ IsLaidOut (record list_layout { may_write = λ place. nat_le 0x1006 place && nat_lt place 0x1108 })
  -- a walk along an orderlist of transposes and repeats
  pub few_turns : ¬ IsLaidOut (record list_layout { open_turns = walk_count worked_song - 1 })
  -- and one that takes more than a loop can have, whatever the layout says
  pub long_walk : (layout : Layout) (packed : PackedSong) → 255 < walk_count packed → ¬ IsPlayerLayout layout packed
  -- the byte behind a label's
  pub frequency_low : ¬ IsLaidOut (moved_in list_layout NEXT_FREQUENCY_LOWS 0x1210)
  pub frequency_high : ¬ IsLaidOut (moved_in list_layout NEXT_FREQUENCY_HIGHS 0x12A0)
  pub wave_left : ¬ IsLaidOut (moved_in list_layout NEXT_WAVE_LEFTS 0x1113)
  pub wave_right : ¬ IsLaidOut (moved_in list_layout NEXT_WAVE_RIGHTS 0x1117)
  pub pulse_left : ¬ IsLaidOut (moved_in list_layout NEXT_PULSE_LEFTS 0x111B)
  pub filter_left : ¬ IsLaidOut (moved_in list_layout NEXT_FILTER_LEFTS 0x111F)
  -- a list below $0800, and an orderlist over the end of memory, mod 65,536 in it
  pub low : ¬ IsLaidOut (moved_in list_layout ADS 0x07FE)
  pub over : ¬ IsLaidOut (moved_in list_layout (ORDERS + 5) 0x12000)
  pub timer_over : ¬ IsLaidOut (moved_in list_layout ONE_TIMER 0x11160)
  pub wave_over : ¬ IsLaidOut (moved_in list_layout ONE_WAVE 0x11161)
  pub gates_over : ¬ IsLaidOut (moved_in list_layout GATE_FROM 0x11163)
  pub envelopes_over : ¬ IsLaidOut (moved_in list_layout ENVELOPE_FROM 0x11162)
  -- a pattern may stand behind the last place of memory, which is then the place before it; but not further on, not
  -- at 0, where no place is before it, and not behind the last variable
  pub last : PatternAt 0x10000
  pub past : ¬ PatternAt 0x10001
  pub none : ¬ PatternAt 0
  pub variable : ¬ PatternAt 0x1077
  pub unread : ¬ PatternStands (moved_in list_layout PATTERNS 0x1401) worked_song 0
  pub each : ¬ IsLaidOut (moved_in list_layout (PATTERNS + 1) 0x1077)

-- ---- states

abbrev pub HoldsIn : (ℕ → ℕ) → Type 0
HoldsIn at = Holds list_layout worked_song 1 (start_state no_options) at

-- the second voice, whose orderlist has been walked to its pattern 1, at $1155
abbrev pub walked_memory : ℕ → ℕ
walked_memory =
    with_variable (OFFSET + 7) 1 (with_variable (PATTERN_LOW + 7) 0x54 (with_variable (PATTERN_HIGH + 7) 0x11
    (with_variable (ORDER_PLACE + 7) 1 (with_variable (TICK + 7) 2 song_memory))))

-- it has another tick than the others, and they are on another row
abbrev pub walked_state : FrameState
walked_state = record (start_state no_options) {
  one = record start_voice { row = 1 };
  two = record start_voice { tick = 2 };
  three = record start_voice { row = 1 };
}

abbrev pub HoldsSecond : (ℕ → ℕ) → Type 0
HoldsSecond at = VoiceHolds list_layout worked_song 1 1 walked_state at

pub record StatesAreHeld : Type 0 where
  pub label : order_label 1 2 ≡ ORDERS + 5
  pub order : order_in worked_song 1 2 ≡ record { entries = 0xE1 ∷ 0x00 ∷ 0xD2 ∷ 0x01 ∷ []; restart = 0 }
  pub holds : HoldsIn song_memory
  pub lists : ¬ HoldsIn (put song_memory 0x1126 0)
  pub lent : ¬ HoldsIn (with_variable LENT 1 song_memory)
  -- a voice doesn't play in the state, or isn't in its song
  pub plays : ¬ HoldsIn (with_variable (TICK + 14) 0 song_memory)
  pub rests : ¬ HoldsIn (with_variable REST 1 song_memory)
  pub other_order : ¬ HoldsIn (with_variable (ORDER_LOW + 7) 0x4B song_memory)
  pub walked : HoldsSecond walked_memory
  pub other_pattern : ¬ HoldsSecond (with_variable (PATTERN_LOW + 7) 0xFF walked_memory)
  pub other_tick : ¬ HoldsSecond (with_variable (TICK + 7) 1 walked_memory)
  pub other_subtune : ¬ Holds list_layout worked_song 0 (start_state no_options) song_memory

-- ---- what is kept

-- all lines are kept but those under this condition
abbrev pub KeepsBut : ℕ → FrameState → Type 0
KeepsBut gone x =
    KeepsUsed (record list_layout { holds = λ condition. not (nat_eq condition gone) }) worked_song no_options 1 x

abbrev pub filtering : FrameState
filtering = record (start_state no_options) {
  common = record (start_state no_options).common { filter_ptr = 1 };
}

pub record KeptAreWorked : Type 0 where
  -- the first frame of the subtune has no filter program
  pub unused : KeepsBut FILTER_TABLE (start_state no_options)
  pub filter : ¬ KeepsBut FILTER_TABLE filtering
  pub transpose : ¬ KeepsBut TRANSPOSES (start_state no_options)
  pub repeat : ¬ KeepsBut REPEATS (start_state no_options)

-- ---- voices that aren't run

-- where all voices are run each is held as the state has it; else the second, or the third, as it starts
pub record HeldAreWorked : Type 0 where
  pub all : held (λ condition. true) walked_state ≡ walked_state
  pub first : held (λ condition. false) walked_state ≡ record walked_state { two = start_voice; three = start_voice }
  pub second : held (nat_eq VOICE_TWO) walked_state ≡ record walked_state { three = start_voice }
  pub third : held (nat_eq VOICE_THREE) walked_state ≡ record walked_state { two = start_voice }
  pub not_second : held (nat_eq VOICE_THREE) walked_state ≢ walked_state
  pub not_third : held (nat_eq VOICE_TWO) walked_state ≢ walked_state
