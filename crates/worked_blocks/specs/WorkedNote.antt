-- A packed song of one note in memory, worked by hand: a layout of a player, what stands in each of its lists, and
-- calls that begin its subtune.
use Rattle.std.specs.Prelude.{◌≡◌, ℕ, ◌+◌, ◌-◌, ◌*◌, ◌/◌, ◌%◌, ◌≤◌}
use Rattle.std.specs.Prelude.{◌&&◌, ◌||◌, Bool, true, false}
use Rattle.std.specs.Prelude.{nat_eq, nat_le, nat_lt, not}
use Rattle.std.specs.Prelude.{if◌then◌else◌, List, [], ◌∷◌, slice_index}
use Rattle.std.proofs.Common.{arith}
use Rattle.code_runs.specs.Runs.{put}
use Rattle.play_model.specs.declared.options.Options.{Options}
use Rattle.play_model.specs.Freq.{freq}
use Rattle.play_model.specs.State.{start_voice, start_common, start_state}
use Rattle.play_model.specs.WorkedSongs.{sides}
use Rattle.song_facts.specs.Facts.{all_facts}
use Rattle.packed_form.specs.declared.packed_songs.PackedSong.{PackedSong}
use Rattle.packed_form.specs.WorkedUnpacked.{note_subtune, note_instrument}
use Rattle.scopes.specs.Desk.{Desk, Layout}
use Rattle.scope_calls.specs.Entrances.{Entrance}
use Rattle.scope_calls.specs.Meaning.{entrance_ran}
use Rattle.player_memory.specs.declared.labels.TheConstants.{SLIDES_LOW, SLIDES_HIGH, NEXT_FREQUENCY_LOWS}
use Rattle.player_memory.specs.declared.labels.TheConstants.{NEXT_FREQUENCY_HIGHS, NEXT_WAVE_LEFTS, NEXT_WAVE_RIGHTS}
use Rattle.player_memory.specs.declared.labels.TheConstants.{NEXT_PULSE_LEFTS, NEXT_FILTER_LEFTS, WAVE_LEFTS, VARIABLES}
use Rattle.player_memory.specs.declared.labels.TheConstants.{FIRST_CLEARED}
use Rattle.player_memory.specs.declared.conditions.TheConstants.{SUBTUNES}
use Rattle.player_memory.specs.SongLists.{HasSongLists, has_gate_from, has_envelope_from}
use Rattle.player_memory.specs.Holds.{IsPlayerLayout, order_in}
use Rattle.init_code.specs.InitBlock.{MaySetTimer}
use Rattle.frame_code.specs.FrameBlock.{ReadsOffStack, counts_of, turn_in}
use Rattle.frame_code.specs.InitBlock.{BeginsSubtunes, ClearsVariables, ReadsOffTimer, HaveOrders, IsCalledWith}
use Rattle.frame_code.specs.InitBlock.{BeginsSubtune}
use Rattle.kept_lines.specs.Starts.{start_of}

-- ---- the song

-- its lists, whatever features it is said to have; it asks for the number of its note
abbrev pub note_packed : PackedSong → PackedSong
note_packed any = record any {
  subtunes = note_subtune ∷ [];
  patterns = (0x01 ∷ 0x90 ∷ 0xBE ∷ 0x00 ∷ []) ∷ (0xC0 ∷ 0x00 ∷ []) ∷ [];
  instruments = note_instrument ∷ [];
  wave = sides 0x41 0 ∷ sides 0xFF 0 ∷ [];
  pulse = sides 0x88 0 ∷ sides 0xFF 0 ∷ [];
  filter = [];
  speed = [];
  numbers = record { first = 48; count = 1 };
  numbers_within = omega arith;
}

-- ---- the layout

abbrev pub is_next : ℕ → Bool
is_next label =
    nat_eq label NEXT_FREQUENCY_LOWS || nat_eq label NEXT_FREQUENCY_HIGHS || nat_eq label NEXT_WAVE_LEFTS
    || nat_eq label NEXT_WAVE_RIGHTS || nat_eq label NEXT_PULSE_LEFTS || nat_eq label NEXT_FILTER_LEFTS

-- The variables stand from $1000 on, the slides at $1100 and $1180, and each list in a page of its own: from $2000 on
-- by its label, the orderlists from $4800 on, the patterns from $5000 on. All lines are kept, but those that take one of
-- several subtunes only where that is said. The code may read all of it, and may write the variables, the slides, the
-- registers and the timer.
abbrev pub layout_with : Bool → Layout
layout_with several = record {
  address = λ label.
      if nat_lt label 128 then 0x1000 + label
      else if nat_eq label SLIDES_LOW then 0x1100
      else if nat_eq label SLIDES_HIGH then 0x1180
      else if is_next label then 0x2001 + 0x100 * (label - 129)
      else if nat_lt label 256 then 0x2000 + 0x100 * (label - 128)
      else if nat_lt label 512 then 0x4800 + 0x100 * (label - 256)
      else 0x5000 + 0x100 * (label - 512);
  pointer = 0xFC;
  holds = λ condition. not (nat_eq condition SUBTUNES) || several;
  open_turns = 255;
  may_read = λ place. nat_le 0x1000 place && nat_lt place 0xD000;
  may_write = λ place.
      nat_le 0x1000 place && nat_lt place 0x1200 || nat_le 0xD400 place && nat_lt place 0xD419
      || nat_eq place 0xDC04 || nat_eq place 0xDC05;
}

-- all lines
abbrev pub note_layout : Layout
note_layout = layout_with true

-- the same, but with a table's left sides where the variables are
abbrev pub mixed_layout : Layout
mixed_layout = record note_layout {
  address = λ label. if nat_eq label WAVE_LEFTS then 0x1020 else note_layout.address label;
}

-- ---- the memory

-- what stands in a page of a list, from its first byte on: of the tables and of the instruments from number 1 on
abbrev pub page_bytes : ℕ → List ℕ
page_bytes page =
    -- the sides of the wave table, as they are stored, and of the pulse table
    if nat_eq page 0x27 then 0 ∷ 0x41 ∷ 0xFF ∷ []
    else if nat_eq page 0x29 then 0 ∷ 0x80 ∷ 0 ∷ []
    else if nat_eq page 0x2B then 0 ∷ 0x88 ∷ 0xFF ∷ []
    -- the instrument: its envelope, its programs, the delay less one, the gateoff timer, the first waveform
    else if nat_eq page 0x31 then 0 ∷ 0x09 ∷ []
    else if nat_eq page 0x32 then 0 ∷ 0xA0 ∷ []
    else if nat_eq page 0x33 then 0 ∷ 1 ∷ []
    else if nat_eq page 0x34 then 0 ∷ 1 ∷ []
    else if nat_eq page 0x37 then 0 ∷ 255 ∷ []
    else if nat_eq page 0x38 then 0 ∷ 2 ∷ []
    else if nat_eq page 0x39 then 0 ∷ 9 ∷ []
    -- the addresses of the orderlists, and the places before the patterns
    else if nat_eq page 0x3B then 0x48 ∷ 0x49 ∷ 0x4A ∷ []
    else if nat_eq page 0x3C then 0xFF ∷ 0xFF ∷ []
    else if nat_eq page 0x3D then 0x4F ∷ 0x50 ∷ []
    -- for all instruments, where no two differ in them: their gateoff timer, their first waveform
    else if nat_eq page 0x3E then 2 ∷ []
    else if nat_eq page 0x3F then 9 ∷ []
    -- the numbers from which on instruments hold the gate, and the envelope: one more than the last one has
    else if nat_eq page 0x42 then 2 ∷ []
    else if nat_eq page 0x43 then 2 ∷ []
    -- the orderlists, and the patterns
    else if nat_eq page 0x48 then 0 ∷ 0xFF ∷ 0 ∷ []
    else if nat_eq page 0x49 then 1 ∷ 0xFF ∷ 0 ∷ []
    else if nat_eq page 0x4A then 1 ∷ 0xFF ∷ 0 ∷ []
    else if nat_eq page 0x50 then 0x01 ∷ 0x90 ∷ 0xBE ∷ 0x00 ∷ []
    else if nat_eq page 0x51 then 0xC0 ∷ 0x00 ∷ []
    else []

-- in the voices' variables $4800, $4900 and $4A00, where their orderlists are
abbrev pub first_orders : ℕ → ℕ
first_orders place =
    if nat_eq place 0x1005 then 0x48 else if nat_eq place 0x100C then 0x49 else if nat_eq place 0x1013 then 0x4A else 0

-- these, the notes' frequencies, those lists, and 0 at each other place
abbrev pub note_memory : ℕ → ℕ
note_memory place =
    if nat_eq (place / 256) 0x10 then first_orders place
    else if nat_eq (place / 256) 0x20 then freq (place % 256) % 256
    else if nat_eq (place / 256) 0x22 then freq (place % 256) / 256
    else slice_index (page_bytes (place / 256)) (place % 256)

-- ---- what it is

pub record NoteIsLaid (packed : PackedSong) : Type 0 where
  pub is_layout : IsPlayerLayout note_layout packed
  pub off_stack : ReadsOffStack note_layout
  pub timer : MaySetTimer note_layout
  pub off_timer : ReadsOffTimer note_layout
  -- one variable or more can be cleared, since all that can be are 0; not none, nor one alone where the next isn't 0, nor lists
  pub clears : (count : ℕ) → 1 ≤ count → count ≤ VARIABLES - FIRST_CLEARED →
      ClearsVariables note_layout packed count note_memory
  pub none : ¬ ClearsVariables note_layout packed 0 note_memory
  pub one : ¬ ClearsVariables note_layout packed 1 (put note_memory 0x1016 1)
  pub mixed : ¬ ClearsVariables mixed_layout packed (VARIABLES - FIRST_CLEARED) note_memory
  pub lists : HasSongLists note_layout packed note_memory
  -- another byte in a list; of the frequencies there is that of number 48 alone
  pub wave : ¬ HasSongLists note_layout packed (put note_memory 0x2701 0x11)
  pub first_frequency : ¬ HasSongLists note_layout packed (put note_memory 0x2030 1)
  pub last_frequency : ¬ HasSongLists note_layout packed (put note_memory 0x2230 1)
  pub one_timer : packed.facts.own_timer ≡ false → ¬ HasSongLists note_layout packed (put note_memory 0x3E00 3)
  pub one_wave : packed.facts.own_wave ≡ false → ¬ HasSongLists note_layout packed (put note_memory 0x3F00 0x11)
  pub gate_from : has_gate_from packed ≡ true → ¬ HasSongLists note_layout packed (put note_memory 0x4200 1)
  pub envelope_from : has_envelope_from packed ≡ true → ¬ HasSongLists note_layout packed (put note_memory 0x4300 1)
  pub order : ¬ HasSongLists note_layout packed (put note_memory 0x4802 1)
  pub pattern : ¬ HasSongLists note_layout packed (put note_memory 0x5101 1)
  pub slide : ¬ HasSongLists note_layout packed (put note_memory 0x1100 1)

-- a desk with a number in A, and this memory
abbrev pub note_desk : Desk → ℕ → Desk
note_desk any number = record { cpu = record any.cpu { a = number }; at = note_memory }

-- Called with the number of its one subtune an entrance that begins subtunes begins it, with any options, however many
-- variables it clears, and memory holds the start state. The song is said to have the facts of which lines are kept:
-- all, or all but several subtunes.
pub record NoteBegins (packed : PackedSong) (any : Desk) (o : Options) : Type 0 where
  pub called : IsCalledWith packed 0 (note_desk any 0)
  pub second : ¬ IsCalledWith packed 1 (note_desk any 1)
  pub begins : (several : Bool) → packed.facts ≡ record all_facts { subtunes = several } → (count : ℕ) → 1 ≤ count →
      count ≤ VARIABLES - FIRST_CLEARED → (e : Entrance) → BeginsSubtunes e (start_of o) count →
      BeginsSubtune (layout_with several) packed o 0 count (note_desk any 0)
      (entrance_ran (layout_with several) e (note_desk any 0))

-- The voices have their orderlists, but not where the variables are 0, or where one byte is another. Where the lines are
-- kept that take them they need none.
pub record NoteHasOrders : Type 0 where
  pub has : HaveOrders (layout_with false) 0 note_memory
  pub none : ¬ HaveOrders (layout_with false) 0 (λ place. 0)
  pub low : ¬ HaveOrders (layout_with false) 0 (put note_memory 0x1012 1)
  pub high : ¬ HaveOrders (layout_with false) 0 (put note_memory 0x100C 0x4A)
  pub several : HaveOrders note_layout 0 (λ place. 0)

-- It has one instrument, two rows in two of its tables, and one number. The first voice of its first frame comes to its
-- step as it began, and the second one has the orderlist of pattern 1.
pub record NoteTurns (packed : PackedSong) (o : Options) : Type 0 where
  pub counts : counts_of packed
      ≡ record { instruments = 1; waves = 2; pulses = 2; speeds = 0; numbers = record { first = 48; count = 1 } }
  pub first : turn_in packed o 0 0 (start_state o) ≡ record { voice = start_voice; common = start_common o.speed }
  pub order : order_in packed 0 1 ≡ record { entries = 1 ∷ []; restart = 0 }

pub record NotesAreWorked : Type 0 where
  pub turns : (any : PackedSong) (o : Options) → NoteTurns (note_packed any) o
  pub laid : (any : PackedSong) → NoteIsLaid (note_packed any)
  pub orders : NoteHasOrders
  pub begins : (any : PackedSong) (desk : Desk) (o : Options) → NoteBegins (note_packed any) desk o
