-- The labels of the small song's lists, worked out by hand; layouts and memories in which the player has these lists,
-- and such in which it doesn't.
use Rattle.std.specs.Prelude.{◌≡◌, ℕ, ◌+◌, ◌-◌, ◌==◌, ◌&&◌, not, nat_lt, Bool, true, false}
use Rattle.std.specs.Prelude.{if◌then◌else◌}
use Rattle.std.specs.Prelude.{List, [], ◌∷◌, slice_index, replicate}
use Rattle.packed_form.specs.declared.packed_songs.PackedSong.{PackedSong}
use Rattle.cpu6502.specs.declared.mnemonic.Mnemonic.TheVariants.{Rts}
use Rattle.cpu6502.specs.declared.mnemonic.Mode.TheVariants.{Implied}
use Rattle.asm6502.specs.declared.lines.Operand.TheVariants.{Nothing}
use Rattle.asm6502.specs.declared.lines.Item.TheVariants.{Code, Bytes}
use Rattle.scopes.specs.Desk.{Layout}
use Rattle.player_memory.specs.declared.conditions.TheConstants.{NOTE_DEPENDENT}
use Rattle.player_memory.specs.declared.labels.TheConstants.{FREQUENCY_LOWS, NEXT_FREQUENCY_LOWS, FREQUENCY_HIGHS}
use Rattle.player_memory.specs.declared.labels.TheConstants.{NEXT_FREQUENCY_HIGHS, SPEED_RIGHTS, SPEED_LEFTS, PERIODS}
use Rattle.player_memory.specs.declared.labels.TheConstants.{WAVE_LEFTS, NEXT_WAVE_LEFTS, WAVE_RIGHTS}
use Rattle.player_memory.specs.declared.labels.TheConstants.{NEXT_WAVE_RIGHTS, PULSE_LEFTS, NEXT_PULSE_LEFTS}
use Rattle.player_memory.specs.declared.labels.TheConstants.{PULSE_RIGHTS, FILTER_LEFTS, NEXT_FILTER_LEFTS}
use Rattle.player_memory.specs.declared.labels.TheConstants.{FILTER_RIGHTS, ADS, SRS, WAVES, PULSES, FILTERS}
use Rattle.player_memory.specs.declared.labels.TheConstants.{VIBRATOS, DELAYS, GATE_TIMERS, FIRST_WAVES, ORDERS_LOW}
use Rattle.player_memory.specs.declared.labels.TheConstants.{ORDERS_HIGH, PATTERNS_LOW, PATTERNS_HIGH, SLIDES_LOW}
use Rattle.player_memory.specs.declared.labels.TheConstants.{SLIDES_HIGH, ONE_TIMER, ONE_WAVE, ORDERS, PATTERNS}
use Rattle.player_memory.specs.declared.labels.TheConstants.{GATE_FROM, ENVELOPE_FROM, VARIABLES}
use Rattle.player_memory.specs.SongLists.{HasSongLists}
use Rattle.song_lists.specs.declared.marks.Mark.{Mark}
use Rattle.song_lists.specs.Marks.{mark_at, bytes_line}
use Rattle.song_lists.specs.DataLists.{data_marks}
use Rattle.song_lists.specs.ListLaws.{IsListRoom, AreLaid, IsInside, IsBesideSlides, KeepsCounts, IsListLabel}
use Rattle.song_lists.specs.ListLaws.{IsDataLabel, IsPlainLine}
use Rattle.song_lists.specs.WorkedLists.{IsSmallSong, small_subtune, plain_bytes, kept_bytes}

-- ---- labels

-- without calculated speeds
abbrev pub plain_marks : List Mark
plain_marks =
    mark_at FREQUENCY_LOWS 17 ∷ mark_at NEXT_FREQUENCY_LOWS 18 ∷ mark_at FREQUENCY_HIGHS 20
    ∷ mark_at NEXT_FREQUENCY_HIGHS 21 ∷ mark_at SPEED_RIGHTS 0 ∷ mark_at SPEED_LEFTS 2 ∷ mark_at PERIODS 2
    ∷ mark_at WAVE_LEFTS 3 ∷ mark_at NEXT_WAVE_LEFTS 4 ∷ mark_at WAVE_RIGHTS 7 ∷ mark_at NEXT_WAVE_RIGHTS 8
    ∷ mark_at PULSE_LEFTS 11 ∷ mark_at NEXT_PULSE_LEFTS 12 ∷ mark_at PULSE_RIGHTS 12 ∷ mark_at FILTER_LEFTS 13
    ∷ mark_at NEXT_FILTER_LEFTS 14 ∷ mark_at FILTER_RIGHTS 13 ∷ mark_at ADS 13 ∷ mark_at SRS 15 ∷ mark_at WAVES 17
    ∷ mark_at PULSES 19 ∷ mark_at FILTERS 21 ∷ mark_at VIBRATOS 23 ∷ mark_at DELAYS 25 ∷ mark_at GATE_TIMERS 27
    ∷ mark_at FIRST_WAVES 27 ∷ mark_at ORDERS_LOW 32 ∷ mark_at ORDERS_HIGH 35 ∷ mark_at PATTERNS_LOW 38
    ∷ mark_at PATTERNS_HIGH 39 ∷ mark_at ONE_TIMER 30 ∷ mark_at ONE_WAVE 31 ∷ mark_at SLIDES_LOW 0
    ∷ mark_at SLIDES_HIGH 2 ∷ mark_at GATE_FROM 31 ∷ mark_at ENVELOPE_FROM 31 ∷ mark_at ORDERS 40
    ∷ mark_at (ORDERS + 1) 43 ∷ mark_at (ORDERS + 2) 47 ∷ mark_at PATTERNS 51 ∷ []

-- with them
abbrev pub kept_marks : List Mark
kept_marks =
    mark_at FREQUENCY_LOWS 23 ∷ mark_at NEXT_FREQUENCY_LOWS 24 ∷ mark_at FREQUENCY_HIGHS 26
    ∷ mark_at NEXT_FREQUENCY_HIGHS 27 ∷ mark_at SPEED_RIGHTS 0 ∷ mark_at SPEED_LEFTS 2 ∷ mark_at PERIODS 8
    ∷ mark_at WAVE_LEFTS 9 ∷ mark_at NEXT_WAVE_LEFTS 10 ∷ mark_at WAVE_RIGHTS 13 ∷ mark_at NEXT_WAVE_RIGHTS 14
    ∷ mark_at PULSE_LEFTS 17 ∷ mark_at NEXT_PULSE_LEFTS 18 ∷ mark_at PULSE_RIGHTS 18 ∷ mark_at FILTER_LEFTS 19
    ∷ mark_at NEXT_FILTER_LEFTS 20 ∷ mark_at FILTER_RIGHTS 19 ∷ mark_at ADS 19 ∷ mark_at SRS 21 ∷ mark_at WAVES 23
    ∷ mark_at PULSES 25 ∷ mark_at FILTERS 27 ∷ mark_at VIBRATOS 29 ∷ mark_at DELAYS 31 ∷ mark_at GATE_TIMERS 33
    ∷ mark_at FIRST_WAVES 33 ∷ mark_at ORDERS_LOW 38 ∷ mark_at ORDERS_HIGH 41 ∷ mark_at PATTERNS_LOW 44
    ∷ mark_at PATTERNS_HIGH 45 ∷ mark_at ONE_TIMER 36 ∷ mark_at ONE_WAVE 37 ∷ mark_at SLIDES_LOW 4
    ∷ mark_at SLIDES_HIGH 6 ∷ mark_at GATE_FROM 37 ∷ mark_at ENVELOPE_FROM 37 ∷ mark_at ORDERS 46
    ∷ mark_at (ORDERS + 1) 49 ∷ mark_at (ORDERS + 2) 53 ∷ mark_at PATTERNS 57 ∷ []

-- ---- layouts

abbrev pub place_among : List Mark → ℕ → ℕ
place_among [] label = 0
place_among (mark ∷ marks) label = if mark.label == label then mark.place else place_among marks label

-- the lists stand from a place on, under these labels; the variables from $3000 on; and all of memory may be read
abbrev pub laid_out : Bool → ℕ → List Mark → Layout
laid_out dependent start marks = record {
  address = λ label. if nat_lt label VARIABLES then 0x3000 + label else start + place_among marks label;
  pointer = 0xFB;
  holds = λ condition. dependent && condition == NOTE_DEPENDENT;
  open_turns = 255;
  may_read = λ place. true;
  may_write = λ place. true;
}

abbrev pub plain_layout : Layout
plain_layout = laid_out false 0x1FCD plain_marks

abbrev pub kept_layout : Layout
kept_layout = laid_out true 0x1FC7 kept_marks

-- the same with a label elsewhere
abbrev pub with_label : ℕ → ℕ → Layout → Layout
with_label label address layout =
    record layout { address = λ other. if other == label then address else layout.address other }

-- ---- memories

-- these bytes from a place on, and one byte other than it is
abbrev pub standing : ℕ → List ℕ → ℕ → ℕ
standing start bytes place = slice_index bytes (place - start)

abbrev pub with_byte : ℕ → ℕ → (ℕ → ℕ) → ℕ → ℕ
with_byte place byte at other = if other == place then byte else at other

abbrev pub plain_memory : ℕ → ℕ
plain_memory = standing 0x1FCD plain_bytes

abbrev pub kept_memory : ℕ → ℕ
kept_memory = standing 0x1FC7 kept_bytes

pub record SmallLayoutsAreWorked (packed : PackedSong) : Type 0 where
  pub plain_marks_are : data_marks false packed ≡ plain_marks
  pub kept_marks_are : data_marks true packed ≡ kept_marks
  pub plain : IsListRoom plain_layout packed 0x1FCD
  pub kept : IsListRoom kept_layout packed 0x1FC7
  pub plain_laid : AreLaid plain_layout packed
  pub kept_laid : AreLaid kept_layout packed
  pub plain_lists : HasSongLists plain_layout packed plain_memory
  pub kept_lists : HasSongLists kept_layout packed kept_memory

abbrev pub SmallLayoutsAre : Type 0
SmallLayoutsAre = (packed : PackedSong) → IsSmallSong packed → SmallLayoutsAreWorked packed

pub record OtherLayoutsAreNot (packed : PackedSong) : Type 0 where
  -- a label elsewhere, that of frequencies in front of their first byte; other lists, another place
  pub label : ¬ IsListRoom (with_label SLIDES_LOW 0x2000 plain_layout) packed 0x1FCD
  pub text : ¬ IsListRoom (with_label PATTERNS 0x2001 plain_layout) packed 0x1FCD
  pub frequencies : ¬ IsListRoom (with_label FREQUENCY_LOWS 0x2002 plain_layout) packed 0x1FCD
  pub lists : ¬ IsListRoom (laid_out true 0x1FCD plain_marks) packed 0x1FCD
  pub place : ¬ IsListRoom plain_layout packed 0x1FCE
  -- too low, too high
  pub low : ¬ IsListRoom (laid_out false 0x07FF plain_marks) packed 0x07FF
  pub high : ¬ IsListRoom (laid_out false 0xCFC6 plain_marks) packed 0xCFC6
  -- the first variable or the last among them, a pointer elsewhere, and a byte that may not be read
  pub first_variable : ¬ IsListRoom (with_label 0 0x2001 plain_layout) packed 0x1FCD
  pub last_variable : ¬ IsListRoom (with_label 112 0x2001 plain_layout) packed 0x1FCD
  pub pointer : ¬ IsListRoom (record plain_layout { pointer = 255 }) packed 0x1FCD
  pub unread : ¬ IsListRoom (record plain_layout { may_read = λ place. not (place == 0x2007) }) packed 0x1FCD
  -- a period with bit 7, a slide of row 0, the one gateoff timer with bit 7, the number from which on instruments hold
  -- the gate in place of the envelope's, the pattern's last byte, the last frequency's, and no lists of calculated
  -- speeds
  pub period : ¬ HasSongLists kept_layout packed (with_byte 0x1FD0 0x83 kept_memory)
  pub slide : ¬ HasSongLists kept_layout packed (with_byte 0x1FCB 0x01 kept_memory)
  pub timer : ¬ HasSongLists plain_layout packed (with_byte 0x1FEB 0x82 plain_memory)
  pub envelope : ¬ HasSongLists plain_layout packed (with_byte 0x1FEC 0x03 plain_memory)
  pub last : ¬ HasSongLists plain_layout packed (with_byte 0x2001 0x01 plain_memory)
  pub frequency : ¬ HasSongLists plain_layout packed (with_byte 0x2007 0x08 plain_memory)
  pub shorter : ¬ HasSongLists kept_layout packed (standing 0x1FC7 plain_bytes)

-- what lists decide of a layout: a byte that isn't the next one, slides in one place, a list too low; a timer, a
-- waveform, the numbers from which on instruments hold the gate and the envelope, and an orderlist behind the end of
-- memory; and a pattern at place 0
pub record OthersAreNotLaid (packed : PackedSong) : Type 0 where
  pub next : ¬ AreLaid (with_label NEXT_WAVE_LEFTS 0x2000 kept_layout) packed
  pub slides : ¬ AreLaid (with_label SLIDES_HIGH 0x1FCB kept_layout) packed
  pub low : ¬ AreLaid (with_label FREQUENCY_LOWS 0x07DB kept_layout) packed
  pub timer : ¬ AreLaid (with_label ONE_TIMER 0x10000 kept_layout) packed
  pub wave : ¬ AreLaid (with_label ONE_WAVE 0x10000 kept_layout) packed
  pub gates : ¬ AreLaid (with_label GATE_FROM 0x10000 kept_layout) packed
  pub envelopes : ¬ AreLaid (with_label ENVELOPE_FROM 0x10000 kept_layout) packed
  pub order : ¬ AreLaid (with_label ORDERS 0x10000 kept_layout) packed
  pub pattern : ¬ AreLaid (with_label PATTERNS 0 kept_layout) packed

abbrev pub OtherLayoutsAre : Type 0
OtherLayoutsAre =
    (packed : PackedSong) → IsSmallSong packed →
    OtherLayoutsAreNot packed × OthersAreNotLaid packed

-- ---- places

-- places in front of the bytes and behind them, and those of slides
pub record PlacesAreWorked (packed : PackedSong) : Type 0 where
  pub first : IsInside kept_layout packed 0x1FC7 0x1FC7
  pub last : IsInside kept_layout packed 0x1FC7 0x2007
  pub front : ¬ IsInside kept_layout packed 0x1FC7 0x1FC6
  pub behind : ¬ IsInside kept_layout packed 0x1FC7 0x2008
  pub speed : IsBesideSlides kept_layout packed 0x1FCA
  pub period : IsBesideSlides kept_layout packed 0x1FCF
  pub slide_low : ¬ IsBesideSlides kept_layout packed 0x1FCB
  pub slide_high : ¬ IsBesideSlides kept_layout packed 0x1FCE
  pub counts : KeepsCounts packed
  pub subtunes : ¬ KeepsCounts (record packed { subtunes = replicate 33 small_subtune })
  pub patterns : ¬ KeepsCounts (record packed { patterns = replicate 209 [] })

abbrev pub SmallPlacesAre : Type 0
SmallPlacesAre = (packed : PackedSong) → IsSmallSong packed → PlacesAreWorked packed

-- ---- labels and lines

-- the last labels of a kind, those next to them, and lines
pub record LabelsAreWorked : Type 0 where
  pub last_list : IsListLabel 159
  pub first_slide : IsListLabel 160
  pub last_holder : IsListLabel 163
  pub last_pattern : IsDataLabel 719
  pub variable : ¬ IsDataLabel 127
  pub behind_holders : ¬ IsDataLabel 164
  pub before_orders : ¬ IsDataLabel 255
  pub behind_patterns : ¬ IsDataLabel 720
  pub no_list : ¬ IsListLabel 256
  pub bytes : IsPlainLine (bytes_line (0x00 ∷ []))
  pub code : ¬ IsPlainLine (record { part = 255; item = Code Rts Implied Nothing })
  pub part : ¬ IsPlainLine (record { part = 0; item = Bytes [] })
