-- The code that begins a subtune, as a call, and what it does. This is the project's own player.
use Rattle.std.specs.Prelude.{◌≡◌, ℕ, ◌+◌, ◌*◌, ◌<◌, ◌≤◌}
use Rattle.std.specs.Prelude.{◌⊎◌, None, true, false, length}
use Rattle.std.specs.Prelude.{if◌then◌else◌}
use Rattle.song_model.specs.LookUp.{is_playable_subtune}
use Rattle.play_model.specs.declared.options.Options.{Options}
use Rattle.play_model.specs.State.{start_state}
use Rattle.play_model.specs.Frame.{subtune_at}
use Rattle.packed_form.specs.declared.packed_songs.PackedSong.{PackedSong}
use Rattle.packed_form.specs.Unpacked.{unpacked_song}
use Rattle.scopes.specs.Desk.{Desk, Layout}
use Rattle.scopes.specs.Meaning.{Done, Ran}
use Rattle.scope_calls.specs.Entrances.{Entrance}
use Rattle.scope_calls.specs.Meaning.{entrance_ran}
use Rattle.player_memory.specs.declared.conditions.TheConstants.{TIMED, SUBTUNES}
use Rattle.player_memory.specs.declared.labels.TheConstants.{FIRST_CLEARED}
use Rattle.player_memory.specs.FactLines.{KeepsMarkedAlone}
use Rattle.player_memory.specs.Playing.{place_in, own_at}
use Rattle.player_memory.specs.Fetching.{HasOrder}
use Rattle.player_memory.specs.SongLists.{SongList, IsSongList, HasNumber, HasSongLists, list_label, slide_rows}
use Rattle.player_memory.specs.Holds.{Holds, IsPlayerLayout, order_label}
use Rattle.player_text.specs.declared.texts.Start.{Start}
use Rattle.player_text.specs.Texts.{init_tree}
use Rattle.init_code.specs.InitBlock.{IsOutOf, IsUntouched, MayClear, MaySetTimer}
use Rattle.kept_lines.specs.Starts.{start_of}

-- ---- the entrance

-- a beginning, where it clears so many bytes: no voice is called
pub record BeginsSubtunes (e : Entrance) (start : Start) (count : ℕ) : Type 0 where
  pub first : e.first ≡ init_tree start count
  pub voice : e.voice ≡ None

-- ---- what it stands on

-- each variable that it would clear is cleared or is 0, and no byte of a list is cleared
pub record ClearsVariables (layout : Layout) (packed : PackedSong) (count : ℕ) (at : ℕ → ℕ) : Type 0 where
  pub clears : MayClear layout (slide_rows packed) count at
  pub lists : (list : SongList) (number : ℕ) → IsSongList layout packed list → HasNumber packed list number →
      IsOutOf (layout.address FIRST_CLEARED) count (place_in layout (list_label list) number)

-- where the timer is set the blocks read neither of its places, so none of the lists stands there
abbrev pub ReadsOffTimer : Layout → Type 0
ReadsOffTimer layout =
    layout.holds TIMED ≡ true → (place : ℕ) → layout.may_read place ≡ true → (place < 0xDC04) ⊎ (0xDC06 ≤ place)

-- where there is one subtune alone its voices have its orderlists already
abbrev pub HaveOrders : Layout → ℕ → (ℕ → ℕ) → Type 0
HaveOrders layout k at =
    layout.holds SUBTUNES ≡ false → (voice : ℕ) → voice < 3 →
    HasOrder layout (order_label k voice) (own_at layout at voice)

-- the call's number is that of a subtune, whose third orderlist's number is a byte; none of its orderlists is empty
pub record IsCalledWith (packed : PackedSong) (k : ℕ) (desk : Desk) : Type 0 where
  pub a : desk.cpu.a ≡ k
  pub stored : k < length packed.subtunes
  pub byte : 3 * k + 2 < 256
  pub playable : is_playable_subtune (subtune_at (unpacked_song packed) k) ≡ true

-- ---- what it does

-- The call has come to its end: memory holds the start state, and the 25 registers are 0. The timer has its value where
-- it is set, and what it had where it isn't. What is elsewhere is as before.
pub record BeginsSubtune (layout : Layout) (packed : PackedSong) (o : Options) (k count : ℕ) (before : Desk)
    (run : Ran) : Type 0 where
  pub ends : run.outcome ≡ Done
  pub holds : Holds layout packed k (start_state o) run.desk.at
  pub registers : (register : ℕ) → register < 25 → run.desk.at (0xD400 + register) ≡ 0
  pub timer_low : run.desk.at 0xDC04 ≡ (if layout.holds TIMED then (start_of o).timer_low else before.at 0xDC04)
  pub timer_high : run.desk.at 0xDC05 ≡ (if layout.holds TIMED then (start_of o).timer_high else before.at 0xDC05)
  pub elsewhere : (place : ℕ) → IsUntouched layout (slide_rows packed) count place → run.desk.at place ≡ before.at place

-- In any memory that has the song's lists, and whose variables it clears, the call begins the subtune. The lines are
-- kept of the song's facts and of no others.
abbrev pub BeginningsStart : Type 0
BeginningsStart =
    (layout : Layout) (packed : PackedSong) (o : Options) (k count : ℕ) (e : Entrance) (desk : Desk) →
    BeginsSubtunes e (start_of o) count → IsPlayerLayout layout packed → KeepsMarkedAlone layout packed.facts →
    MaySetTimer layout → ReadsOffTimer layout → ClearsVariables layout packed count desk.at →
    HaveOrders layout k desk.at → IsCalledWith packed k desk → HasSongLists layout packed desk.at →
    BeginsSubtune layout packed o k count desk (entrance_ran layout e desk)
