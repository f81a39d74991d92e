-- The code of a frame, and what it does. This is the project's own player.
use Rattle.std.specs.Prelude.{◌≡◌, ◌≢◌, ℕ, ◌+◌, ◌<◌, ◌≤◌, ◌⊎◌, Some, true, false}
use Rattle.std.specs.Prelude.{length, slice_index}
use Rattle.song_model.specs.LookUp.{table_of}
use Rattle.song_model.specs.declared.tables.TableName.TheVariants.{Wave, Pulse, Filter}
use Rattle.play_model.specs.declared.options.Options.{Options}
use Rattle.play_model.specs.State.{FrameState, Playing, playing_of}
use Rattle.play_model.specs.Frame.{frame_with, subtune_at}
use Rattle.play_model.specs.Uses.{before_voice}
use Rattle.silent_voices.specs.Mute.{StaysSilent}
use Rattle.packed_form.specs.declared.packed_songs.PackedSong.{PackedSong}
use Rattle.packed_form.specs.Unpacked.{unpacked_song}
use Rattle.scopes.specs.Desk.{Desk, Layout}
use Rattle.scopes.specs.Meaning.{Done, Ran}
use Rattle.scope_calls.specs.Entrances.{Entrance}
use Rattle.scope_calls.specs.Meaning.{entrance_ran}
use Rattle.player_memory.specs.declared.conditions.TheConstants.{FILTER_TABLE}
use Rattle.player_memory.specs.FactLines.{KeepsShared, is_run}
use Rattle.player_memory.specs.Rooms.{IsElsewhere}
use Rattle.player_memory.specs.SongLists.{pattern_bytes, slide_rows}
use Rattle.player_memory.specs.Holds.{Holds, IsPlayerLayout, held, look_of, order_in, order_label}
use Rattle.player_text.specs.Texts.{filter_tree, voice_tree}
use Rattle.filter_code.specs.FilterBlock.{HasFilterTable, IsOnFilterRow}
use Rattle.slide_code.specs.SlideBlock.{KeepsCommon}
use Rattle.fetch_code.specs.FetchBlock.{HasOrderlist}
use Rattle.voice_code.specs.VoiceBlock.{Counts, HasVoiceLists, KeepsOptions, VoiceIsReady}

-- ---- the entrance

-- a frame: the filter, and then each voice
pub record PlaysFrames (e : Entrance) : Type 0 where
  pub first : e.first ≡ filter_tree
  pub voice : e.voice ≡ Some voice_tree

-- ---- what a frame is ready for

-- how many rows the lists of a packed song have, and of which numbers there are frequencies
abbrev pub counts_of : PackedSong → Counts
counts_of packed = record {
  instruments = length packed.instruments;
  waves = length (table_of (unpacked_song packed) Wave);
  pulses = length (table_of (unpacked_song packed) Pulse);
  speeds = length packed.speed;
  numbers = packed.numbers;
}

-- a voice, counted from 0, as the frame after a state of subtune k comes to it
abbrev pub turn_in : PackedSong → Options → ℕ → ℕ → FrameState → Playing
turn_in packed o k voice x =
    playing_of (voice + 1)
    (before_voice (voice + 1) o (look_of packed) (subtune_at (unpacked_song packed) k) x)

-- each voice has what its step reads, and is ready for it
pub record TurnIsReady (layout : Layout) (packed : PackedSong) (o : Options) (k voice : ℕ) (x : FrameState)
    (at : ℕ → ℕ) : Type 0 where
  pub orderlist : HasOrderlist layout (slide_rows packed) at (order_label k voice) (order_in packed k voice)
  pub ready : VoiceIsReady layout (slide_rows packed) at (voice + 1) o (look_of packed) (pattern_bytes packed)
      (order_in packed k voice) (counts_of packed) (turn_in packed o k voice x)

-- The filter is ready, and each voice that is run; another one would leave what the voices share, with 0 in each of its
-- registers. What facts or features have in common is kept with each.
pub record FrameIsReady (layout : Layout) (packed : PackedSong) (o : Options) (k : ℕ) (x : FrameState) (at : ℕ → ℕ)
    : Type 0 where
  pub common : KeepsCommon layout
  pub shared : KeepsShared layout
  pub options : KeepsOptions layout o
  pub filter_table : HasFilterTable layout (slide_rows packed) at (look_of packed)
      (length (table_of (unpacked_song packed) Filter))
  pub filter_row : IsOnFilterRow (look_of packed) (length (table_of (unpacked_song packed) Filter)) x.common
  pub filter_kept : x.common.filter_ptr ≢ 0 → layout.holds FILTER_TABLE ≡ true
  pub lists : HasVoiceLists layout (slide_rows packed) at (look_of packed) (counts_of packed)
  pub turns : (voice : ℕ) → voice < 3 → is_run layout.holds voice ≡ true → TurnIsReady layout packed o k voice x at
  pub still : (voice : ℕ) → voice < 3 → is_run layout.holds voice ≡ false →
      StaysSilent o (look_of packed) (order_in packed k voice) (voice + 1) (turn_in packed o k voice x)

-- ---- the stack

-- a place that isn't on the stack, where the calls of the voices put their return addresses
abbrev pub IsOffStack : ℕ → Type 0
IsOffStack place = (place < 256) ⊎ (512 ≤ place)

-- the blocks may read nothing on the stack
abbrev pub ReadsOffStack : Layout → Type 0
ReadsOffStack layout = (place : ℕ) → layout.may_read place ≡ true → IsOffStack place

-- ---- what it does

-- The call has come to its end: memory holds the state behind the frame, but voices that aren't run as they start; the 25
-- registers are those of the frame, and what is elsewhere is as before, but on the stack.
pub record Frames (layout : Layout) (packed : PackedSong) (o : Options) (k : ℕ) (x : FrameState) (before : Desk)
    (run : Ran) : Type 0 where
  pub ends : run.outcome ≡ Done
  pub holds : Holds layout packed k (held layout.holds (frame_with o (unpacked_song packed) k x).state) run.desk.at
  pub registers : (register : ℕ) → register < 25 →
      run.desk.at (0xD400 + register)
      ≡ slice_index (frame_with o (unpacked_song packed) k x).registers register
  pub elsewhere : (place : ℕ) → IsElsewhere layout (slide_rows packed) place → IsOffStack place →
      run.desk.at place ≡ before.at place

-- In any memory that holds a state so, from which the frame is ready, the call plays the frame, where the blocks read
-- nothing on the stack.
abbrev pub FramesPlay : Type 0
FramesPlay =
    (layout : Layout) (packed : PackedSong) (o : Options) (k : ℕ) (x : FrameState) (e : Entrance) (desk : Desk) →
    PlaysFrames e → IsPlayerLayout layout packed → ReadsOffStack layout →
    Holds layout packed k (held layout.holds x) desk.at → FrameIsReady layout packed o k x desk.at →
    Frames layout packed o k x desk (entrance_ran layout e desk)
