-- What a reader may rely on in the lines of a packed song's lists.
use Rattle.std.specs.Prelude.{◌≡◌, ℕ, ◌+◌, ◌*◌, ◌<◌, ◌≤◌, ◌⊎◌, Bool, true, false, List}
use Rattle.std.specs.Prelude.{◌∷◌, ◌++◌, length, All, Contains, Some}
use Rattle.cpu6502.specs.declared.memory.TheConstants.{MEMORY_SIZE}
use Rattle.packed_form.specs.declared.packed_songs.PackedSong.{PackedSong}
use Rattle.asm6502.specs.declared.lines.Item.{Item}
use Rattle.asm6502.specs.declared.lines.Item.TheVariants.{Label, Code, Bytes}
use Rattle.asm6502.specs.declared.lines.Line.{Line}
use Rattle.asm6502.specs.Lines.{kept, size_of, data_size, place_of, label_named}
use Rattle.asm6502.specs.Standing.{BytesStand}
use Rattle.asm6502.specs.Stretches.{NamesNoLabelTwice, IsNamedAlways, AtHome}
use Rattle.scopes.specs.Desk.{Layout}
use Rattle.player_memory.specs.declared.conditions.TheConstants.{NOTE_DEPENDENT}
use Rattle.player_memory.specs.declared.labels.TheConstants.{FREQUENCY_LOWS, ONE_TIMER, ONE_WAVE, ORDERS, PATTERNS}
use Rattle.player_memory.specs.declared.labels.TheConstants.{SLIDES_LOW, GATE_FROM, ENVELOPE_FROM}
use Rattle.player_memory.specs.declared.labels.TheConstants.{SLIDES_HIGH, VARIABLES}
use Rattle.player_memory.specs.Rooms.{AreSlides}
use Rattle.player_memory.specs.Playing.{place_in}
use Rattle.player_memory.specs.Fetching.{place_before}
use Rattle.player_memory.specs.SongLists.{SongList, IsSongList, HasNumber, SlidesStand, HasSongLists}
use Rattle.player_memory.specs.SongLists.{bytes_in_front, gap_size, list_label, list_byte, slide_rows}
use Rattle.player_memory.specs.Holds.{AreNext, PatternStands}
use Rattle.song_lists.specs.declared.marks.Mark.{Mark}
use Rattle.song_lists.specs.DataLists.{kept_rows, data_bytes, data_marks, HasLines, IsDataLayout}

-- at most 32 subtunes and 208 patterns, as each packed song has
pub record KeepsCounts (packed : PackedSong) : Type 0 where
  pub subtunes : length packed.subtunes ≤ 32
  pub patterns : length packed.patterns ≤ 208

-- ---- sizes

-- two zeros, what is read of the packed song and what stands alone for all its instruments, three lists of slides and
-- periods where they are kept, and behind a gap two bytes of each frequency
abbrev pub lists_size : Bool → PackedSong → ℕ
lists_size dependent packed =
    bytes_in_front packed + 3 * kept_rows dependent packed + gap_size packed + 2 * packed.numbers.count

abbrev pub DataTakesSize : Type 0
DataTakesSize =
    (dependent : Bool) (packed : PackedSong) (start : ℕ) →
    length (data_bytes dependent packed start) ≡ lists_size dependent packed

-- which the lines take, each of them as it is
abbrev pub LinesTakeSize : Type 0
LinesTakeSize =
    (dependent : Bool) (packed : PackedSong) (start : ℕ) (lines : List Line) → HasLines dependent packed start lines →
    (size_of lines ≡ lists_size dependent packed) × (data_size lines ≡ lists_size dependent packed)

-- ---- lines

abbrev pub is_plain : Item → Bool
is_plain (Label label) = true
is_plain (Code mnemonic mode operand) = false
is_plain (Bytes bytes) = true

-- a label or bytes, always kept
pub record IsPlainLine (line : Line) : Type 0 where
  pub part : line.part ≡ 255
  pub item : is_plain line.item ≡ true

abbrev pub LinesArePlain : Type 0
LinesArePlain =
    (dependent : Bool) (packed : PackedSong) (start : ℕ) (lines : List Line) → HasLines dependent packed start lines →
    All IsPlainLine lines

-- so they are kept with each set, and at home in any listing
abbrev pub LinesAreKept : Type 0
LinesAreKept =
    (dependent : Bool) (packed : PackedSong) (start set : ℕ) (lines : List Line) →
    HasLines dependent packed start lines → kept set lines ≡ lines

abbrev pub LinesAreAtHome : Type 0
LinesAreAtHome =
    (dependent : Bool) (packed : PackedSong) (start : ℕ) (lines before after : List Line) (others : ℕ → Bool) →
    HasLines dependent packed start lines → AtHome others before lines after

abbrev pub LinesAreFew : Type 0
LinesAreFew =
    (dependent : Bool) (packed : PackedSong) (start : ℕ) (lines : List Line) → KeepsCounts packed →
    HasLines dependent packed start lines → length lines ≤ 1000

-- ---- labels

abbrev pub NoLabelIsNamedTwice : Type 0
NoLabelIsNamedTwice =
    (dependent : Bool) (packed : PackedSong) (start : ℕ) (lines : List Line) → KeepsCounts packed →
    HasLines dependent packed start lines → NamesNoLabelTwice lines

-- a label of a list that each song has
abbrev pub IsListLabel : ℕ → Type 0
IsListLabel label =
    ((FREQUENCY_LOWS ≤ label) × (label ≤ ONE_WAVE)) ⊎ ((SLIDES_LOW ≤ label) × (label ≤ ENVELOPE_FROM))

-- or of an orderlist or a pattern
abbrev pub IsDataLabel : ℕ → Type 0
IsDataLabel label = IsListLabel label ⊎ ((ORDERS ≤ label) × (label ≤ 719))

abbrev pub OwnLabelsAreNamed : Type 0
OwnLabelsAreNamed =
    (dependent : Bool) (packed : PackedSong) (start : ℕ) (lines front : List Line) (line : Line) (back : List Line)
    (label : ℕ) → KeepsCounts packed → HasLines dependent packed start lines → lines ≡ front ++ line ∷ back →
    label_named line.item ≡ Some label → IsDataLabel label

-- those that the player reads by are named
abbrev pub ListLabelsAreNamed : Type 0
ListLabelsAreNamed =
    (dependent : Bool) (packed : PackedSong) (start : ℕ) (lines : List Line) (label : ℕ) →
    HasLines dependent packed start lines → IsListLabel label → IsNamedAlways lines label

-- and each label is at its byte
abbrev pub LabelsHavePlaces : Type 0
LabelsHavePlaces =
    (dependent : Bool) (packed : PackedSong) (start : ℕ) (lines : List Line) (mark : Mark) → KeepsCounts packed →
    HasLines dependent packed start lines → Contains (data_marks dependent packed) mark →
    place_of lines mark.label ≡ Some mark.place

-- ---- the lists in memory

-- each label has the address of its byte, in the lists with calculated speeds exactly where the layout keeps the code
-- for them, and these end within memory
pub record IsListLayout (layout : Layout) (packed : PackedSong) (start : ℕ) : Type 0 where
  pub laid : IsDataLayout layout (layout.holds NOTE_DEPENDENT) packed start
  pub ends : start + lists_size (layout.holds NOTE_DEPENDENT) packed ≤ MEMORY_SIZE

-- a place among these bytes
pub record IsInside (layout : Layout) (packed : PackedSong) (start place : ℕ) : Type 0 where
  pub from : start ≤ place
  pub to : place < start + lists_size (layout.holds NOTE_DEPENDENT) packed

-- and none of the slides, where they are kept
pub record IsBesideSlides (layout : Layout) (packed : PackedSong) (place : ℕ) : Type 0 where
  pub low : layout.holds NOTE_DEPENDENT ≡ true →
      (place < layout.address SLIDES_LOW) ⊎ (layout.address SLIDES_LOW + slide_rows packed ≤ place)
  pub high : layout.holds NOTE_DEPENDENT ≡ true →
      (place < layout.address SLIDES_HIGH) ⊎ (layout.address SLIDES_HIGH + slide_rows packed ≤ place)

-- where the bytes stand, each byte of a list stands at its place, and so do the slides
pub record DataStandsIn (layout : Layout) (packed : PackedSong) (at : ℕ → ℕ) : Type 0 where
  pub lists : (list : SongList) (number : ℕ) → IsSongList layout packed list → HasNumber packed list number →
      at (place_in layout (list_label list) number) ≡ list_byte layout packed list number
  pub slides : SlidesStand layout packed at

abbrev pub DataStands : Type 0
DataStands =
    (layout : Layout) (packed : PackedSong) (start : ℕ) (at : ℕ → ℕ) → IsListLayout layout packed start →
    BytesStand at start (data_bytes (layout.holds NOTE_DEPENDENT) packed start) → DataStandsIn layout packed at

-- each place of a list is among these bytes, beside the slides
abbrev pub ListsStandInside : Type 0
ListsStandInside =
    (layout : Layout) (packed : PackedSong) (start : ℕ) (list : SongList) (number : ℕ) →
    IsListLayout layout packed start → IsSongList layout packed list → HasNumber packed list number →
    IsInside layout packed start (place_in layout (list_label list) number)
    × IsBesideSlides layout packed (place_in layout (list_label list) number)

-- an orderlist begins among them, or at their end
abbrev pub OrdersStandInside : Type 0
OrdersStandInside =
    (layout : Layout) (packed : PackedSong) (start number : ℕ) → IsListLayout layout packed start →
    number < 3 * length packed.subtunes →
    (start ≤ layout.address (ORDERS + number))
    × (layout.address (ORDERS + number) ≤ start + lists_size (layout.holds NOTE_DEPENDENT) packed)

-- so does a pattern, and the place before it is one of them, beside the slides
pub record PatternStandsInside (layout : Layout) (packed : PackedSong) (start number : ℕ) : Type 0 where
  pub from : 1 ≤ layout.address (PATTERNS + number)
  pub to : layout.address (PATTERNS + number) ≤ start + lists_size (layout.holds NOTE_DEPENDENT) packed
  pub inside : IsInside layout packed start (place_before layout number)
  pub beside : IsBesideSlides layout packed (place_before layout number)

abbrev pub PatternsStandInside : Type 0
PatternsStandInside =
    (layout : Layout) (packed : PackedSong) (start number : ℕ) → IsListLayout layout packed start →
    number < length packed.patterns → PatternStandsInside layout packed start number

-- the slides, where they are kept, stand among them one behind the other
pub record SlidesStandInside (layout : Layout) (packed : PackedSong) (start : ℕ) : Type 0 where
  pub from : start ≤ layout.address SLIDES_LOW
  pub apart : layout.address SLIDES_LOW + slide_rows packed ≤ layout.address SLIDES_HIGH
  pub to : layout.address SLIDES_HIGH + slide_rows packed
      ≤ start + lists_size (layout.holds NOTE_DEPENDENT) packed

abbrev pub SlidesAreInside : Type 0
SlidesAreInside =
    (layout : Layout) (packed : PackedSong) (start : ℕ) → IsListLayout layout packed start →
    layout.holds NOTE_DEPENDENT ≡ true → SlidesStandInside layout packed start

abbrev pub NextBytesAreNext : Type 0
NextBytesAreNext =
    (layout : Layout) (packed : PackedSong) (start : ℕ) → IsListLayout layout packed start → AreNext layout

-- ---- what the player asks of a layout and of memory

-- the bytes stand from $0800 up to $D000, where the code may read them, and none of them is a variable
pub record IsListRoom (layout : Layout) (packed : PackedSong) (start : ℕ) : Type 0 where
  pub laid : IsDataLayout layout (layout.holds NOTE_DEPENDENT) packed start
  pub from : 0x0800 ≤ start
  pub to : start + lists_size (layout.holds NOTE_DEPENDENT) packed ≤ 0xD000
  pub variables : (label : ℕ) → label < VARIABLES → (layout.address label < start)
      ⊎ (start + lists_size (layout.holds NOTE_DEPENDENT) packed ≤ layout.address label)
  pub pointer : layout.pointer ≤ 254
  pub reads : (place : ℕ) → IsInside layout packed start place → layout.may_read place ≡ true

-- then the player has its lists
abbrev pub SongListsStand : Type 0
SongListsStand =
    (layout : Layout) (packed : PackedSong) (start : ℕ) (at : ℕ → ℕ) → IsListRoom layout packed start →
    BytesStand at start (data_bytes (layout.holds NOTE_DEPENDENT) packed start) → HasSongLists layout packed at

-- and the layout is what it asks for, in all that the lists decide; what stands alone for all instruments has its
-- labels within memory, where it isn't there, too
pub record AreLaid (layout : Layout) (packed : PackedSong) : Type 0 where
  pub slides : layout.holds NOTE_DEPENDENT ≡ true → AreSlides layout (slide_rows packed)
  pub next : AreNext layout
  pub lists : (list : SongList) (number : ℕ) → IsSongList layout packed list → HasNumber packed list number →
      0x0800 ≤ place_in layout (list_label list) number
  pub timer : layout.address ONE_TIMER < MEMORY_SIZE
  pub wave : layout.address ONE_WAVE < MEMORY_SIZE
  pub gates : layout.address GATE_FROM < MEMORY_SIZE
  pub envelopes : layout.address ENVELOPE_FROM < MEMORY_SIZE
  pub orders : (number : ℕ) → number < 3 * length packed.subtunes → layout.address (ORDERS + number) < MEMORY_SIZE
  pub patterns : (number : ℕ) → number < length packed.patterns → PatternStands layout packed number

abbrev pub ListsAreLaid : Type 0
ListsAreLaid =
    (layout : Layout) (packed : PackedSong) (start : ℕ) → IsListRoom layout packed start → AreLaid layout packed
