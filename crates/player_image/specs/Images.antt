-- What an image of a packed song is made of: the code of the lines that are kept for what it asks for and the options,
-- with the variables as the first subtune begins, and the song's lists behind it. This is the project's own player.
use Rattle.std.specs.Prelude.{◌≡◌, ℕ, ◌+◌, ◌<◌, ◌&&◌, ◌||◌, nat_le, nat_lt, Bool, true, false, List, [], ◌∷◌, length}
use Rattle.std.specs.Prelude.{slice_index, nat_eq, Option, Some, None, map}
use Rattle.std.specs.List.{find, range_with_len}
use Rattle.play_model.specs.declared.options.Options.{Options}
use Rattle.packed_form.specs.declared.packed_songs.PackedSong.{PackedSong}
use Rattle.asm6502.specs.declared.lines.Line.{Line}
use Rattle.asm6502.specs.Lines.{size_of}
use Rattle.asm6502.specs.Assembly.{assembled_bytes}
use Rattle.scopes.specs.Desk.{Layout}
use Rattle.scope_lines.specs.Readings.{holds_in}
use Rattle.player_memory.specs.declared.conditions.TheConstants.{NOTE_DEPENDENT, TIMED}
use Rattle.player_memory.specs.declared.labels.TheConstants.{VARIABLES, PATTERN_LOW, PATTERN_HIGH}
use Rattle.player_memory.specs.Playing.{own_at}
use Rattle.player_memory.specs.Starting.{AreZero, Begins}
use Rattle.kept_lines.specs.Asked.{asked_by}
use Rattle.kept_lines.specs.Starts.{start_of}
use Rattle.kept_lines.specs.KeptLines.{kept_set}
use Rattle.variable_places.specs.Places.{place_of, variable_count}
use Rattle.song_lists.specs.DataLists.{HasLines, order_places}
use Rattle.song_lists.specs.ListLaws.{lists_size}
use Rattle.player_code.specs.CodeLines.{code_lines}
use Rattle.player_code.specs.CodeLaws.{code_takes}
use Rattle.player_code.specs.Plans.{Plan, plan_lines}
use Rattle.packed_form.specs.WalkCount.{walk_count}

-- which conditions hold
abbrev pub image_holds : PackedSong → Options → ℕ → Bool
image_holds packed o = holds_in (kept_set (asked_by packed) o)

-- the places of the variables, and how many they are
abbrev pub image_places : PackedSong → Options → ℕ → ℕ
image_places packed o = place_of (image_holds packed o)

abbrev pub image_count : PackedSong → Options → ℕ
image_count packed o = variable_count (image_holds packed o)

-- the first label that has a place, and its byte; 0 where none has
abbrev pub byte_of : List ℕ → Option ℕ → ℕ
byte_of variables None = 0
byte_of variables (Some label) = slice_index variables label

abbrev pub label_at : (ℕ → ℕ) → ℕ → Option ℕ
label_at places place = find (λ label. nat_eq (places label) place) (range_with_len 0 VARIABLES)

-- bytes that are given by their labels, in the order of their places, of which there are so many
unfoldable pub placed : (ℕ → ℕ) → ℕ → List ℕ → List ℕ
placed places count variables = map (λ place. byte_of variables (label_at places place)) (range_with_len 0 count)

abbrev pub image_variables : PackedSong → Options → List ℕ → List ℕ
image_variables packed o variables = placed (image_places packed o) (image_count packed o) variables

-- how many bytes the code takes, where the variables begin with these bytes, by their labels
abbrev pub code_bytes : PackedSong → Options → ℕ → List ℕ → ℕ
code_bytes packed o pointer variables =
    size_of (code_lines (image_places packed o) (image_variables packed o variables) pointer (image_holds packed o)
    (start_of o))

-- a place from one up to another
abbrev pub is_within : ℕ → ℕ → ℕ → Bool
is_within from to place = nat_le from place && nat_lt place to

-- The blocks may read the variables, of which there are so many bytes, and the lists behind the code; and may write these,
-- the registers, and the timer where it is set.
abbrev pub is_read : ℕ → ℕ → ℕ → ℕ → ℕ → Bool
is_read count origin code all place =
    is_within (origin + 6) (origin + (6 + count)) place || is_within (origin + code) (origin + all) place

abbrev pub is_written : Bool → ℕ → ℕ → ℕ → ℕ → ℕ → Bool
is_written timed count origin code all place =
    is_read count origin code all place || (is_within 0xD400 0xD419 place || (timed && is_within 0xDC04 0xDC06 place))

-- What the image with these variables, by their labels, and these lines of lists is made from, at an address, with a
-- pointer in page 0. An open loop has the turns of the song's longest walk.
abbrev pub plan_of : PackedSong → Options → ℕ → ℕ → List ℕ → List Line → Plan
plan_of packed o origin pointer variables lists = record {
  places = image_places packed o;
  variables = image_variables packed o variables;
  pointer = pointer;
  holds = image_holds packed o;
  start = start_of o;
  lists = lists;
  origin = origin;
  open_turns = walk_count packed;
  may_read = is_read (image_count packed o) origin (code_bytes packed o pointer variables)
      (code_bytes packed o pointer variables + size_of lists);
  may_write = is_written (image_holds packed o TIMED) (image_count packed o) origin (code_bytes packed o pointer variables)
      (code_bytes packed o pointer variables + size_of lists);
}

-- in a layout in which each label is its own place, and all lines are kept
abbrev pub numbered : Layout
numbered = record {
  address = λ label. label;
  pointer = 0;
  holds = λ condition. true;
  open_turns = 255;
  may_read = λ place. false;
  may_write = λ place. false;
}

-- no voice has a pattern yet: the bytes of its place, which say nothing then, are 0
abbrev pub HaveNoPattern : (ℕ → ℕ) → Type 0
HaveNoPattern variables =
    (voice : ℕ) → voice < 3 → AreZero (PATTERN_LOW ∷ PATTERN_HIGH ∷ []) (own_at numbered variables voice)

-- the address of a voice's orderlist in the first subtune: the lists stand behind the code
abbrev pub first_order : PackedSong → Options → ℕ → ℕ → List ℕ → ℕ → ℕ
first_order packed o origin pointer variables voice =
    origin + code_bytes packed o pointer variables
    + slice_index (order_places (image_holds packed o NOTE_DEPENDENT) packed) voice

-- A listing of an image: the lists stand behind the code, and the variables that have a byte begin as the first subtune
-- does where all lines are kept. So a variable begins with the same byte whatever lines the code keeps, but for the
-- addresses of the orderlists.
pub record IsListingOf (packed : PackedSong) (o : Options) (origin pointer : ℕ) (listing : List Line) : Type 0 where
  pub variables : List ℕ
  pub lists : List Line
  pub all : length variables ≡ VARIABLES
  pub has_lines : HasLines (image_holds packed o NOTE_DEPENDENT) packed
      (origin + code_bytes packed o pointer variables) lists
  pub first : Begins numbered (start_of o).tempo (start_of o).funk
      (first_order packed o origin pointer variables) (slice_index variables)
  pub unplayed : HaveNoPattern (slice_index variables)
  pub are : listing ≡ plan_lines (plan_of packed o origin pointer variables lists)

-- an image: the bytes of its listing
pub record IsImageOf (packed : PackedSong) (o : Options) (origin pointer : ℕ) (bytes : List ℕ) : Type 0 where
  pub listing : List Line
  pub its : IsListingOf packed o origin pointer listing
  pub are : bytes ≡ assembled_bytes 0 origin listing

-- its bytes: those of the code and those of the lists
abbrev pub image_size : PackedSong → Options → ℕ
image_size packed o =
    code_takes (image_holds packed o) (start_of o) (image_count packed o)
    + lists_size (image_holds packed o NOTE_DEPENDENT) packed
