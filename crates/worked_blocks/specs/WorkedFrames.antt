-- What the definitions of the two entrances take, and what they refuse.
use Rattle.std.specs.Prelude.{◌≡◌, ◌≢◌, ℕ, ◌+◌, ◌%◌, ◌<◌, ◌≤◌, ◌||◌, true, false, nat_eq}
use Rattle.std.specs.Prelude.{nat_le, Some, None, length, replicate, slice_index}
use Rattle.code_runs.specs.Runs.{put}
use Rattle.play_model.specs.declared.options.Options.{Options}
use Rattle.play_model.specs.State.{FrameState}
use Rattle.play_model.specs.Frame.{frame_with, voice_step, voice_registers}
use Rattle.packed_form.specs.declared.packed_songs.PackedSong.{PackedSong}
use Rattle.packed_form.specs.Unpacked.{unpacked_song}
use Rattle.scopes.specs.Desk.{Desk, Layout}
use Rattle.scopes.specs.Meaning.{Outcome, Done, Ran}
use Rattle.scope_calls.specs.Entrances.{Entrance}
use Rattle.player_memory.specs.declared.conditions.TheConstants.{FILTER_TABLE, FILTER_USED, TIMED, SET_VOLUME}
use Rattle.player_memory.specs.declared.conditions.TheConstants.{ROW_COMMAND, PULSE_TABLE}
use Rattle.player_memory.specs.declared.labels.TheConstants.{TICK, NEW_COMMAND, PULSE_POINTER, VOLUME, ORDER_LOW}
use Rattle.player_memory.specs.declared.labels.TheConstants.{LENT}
use Rattle.player_memory.specs.Rooms.{IsElsewhere}
use Rattle.player_memory.specs.Playing.{place_in}
use Rattle.player_memory.specs.SongLists.{SongList, IsSongList, HasNumber, list_label, list_byte, slide_rows}
use Rattle.player_memory.specs.FactLines.{is_run}
use Rattle.player_memory.specs.Holds.{Holds, held, look_of, order_in, order_label}
use Rattle.player_text.specs.declared.texts.Start.{Start}
use Rattle.player_text.specs.Texts.{filter_tree, voice_tree, init_tree}
use Rattle.init_code.specs.InitBlock.{IsUntouched}
use Rattle.frame_code.specs.FrameBlock.{PlaysFrames, FrameIsReady, Frames, IsOffStack, ReadsOffStack, turn_in}
use Rattle.kept_lines.specs.Starts.{start_of}
use Rattle.frame_code.specs.InitBlock.{BeginsSubtunes, BeginsSubtune, ReadsOffTimer, IsCalledWith}

-- ---- entrances

-- the two of a player, in any place
abbrev pub frames_at : ℕ → ℕ → Entrance
frames_at label pointer = record {
  label = label;
  numbered = false;
  first = filter_tree;
  voice = Some voice_tree;
  pointer = pointer;
  holds = λ condition. false;
}

abbrev pub beginnings_at : ℕ → ℕ → Start → ℕ → Entrance
beginnings_at label pointer start count = record {
  label = label;
  numbered = true;
  first = init_tree start count;
  voice = None;
  pointer = pointer;
  holds = λ condition. false;
}

pub record EntrancesAreTold (label pointer count : ℕ) (start : Start) : Type 0 where
  pub frames : PlaysFrames (frames_at label pointer)
  -- it calls no voice
  pub alone : ¬ PlaysFrames (record (frames_at label pointer) { voice = None })
  pub beginnings : BeginsSubtunes (beginnings_at label pointer start count) start count
  -- it clears another byte, or calls the voices
  pub another : 1 ≤ count → ¬ BeginsSubtunes (beginnings_at label pointer start count) start (count + 1)
  pub voices : ¬ BeginsSubtunes (record (beginnings_at label pointer start count) { voice = Some voice_tree }) start count

-- ---- places

-- a layout whose code may read from a place on, and another place
abbrev pub reading : Layout → ℕ → ℕ → Layout
reading layout from other = record layout { may_read = λ place. nat_le from place || nat_eq place other }

-- and one that keeps the timer's lines, or doesn't, and may read everywhere but at a place and behind it
abbrev pub timed_reading : Layout → ℕ → Layout
timed_reading layout but = record layout {
  holds = λ condition. nat_eq condition TIMED;
  open_turns = 255;
  may_read = λ place. nat_le (but + 2) place || nat_le (place + 1) but;
}

pub record PlacesAreTold (layout : Layout) : Type 0 where
  pub page : ReadsOffStack (reading layout 0x0200 0x00FF)
  pub last : ¬ ReadsOffStack (reading layout 0x01FF 0)
  pub first : ¬ ReadsOffStack (reading layout 0x0800 0x0100)
  pub timer : ReadsOffTimer (timed_reading layout 0xDC04)
  pub low : ¬ ReadsOffTimer (timed_reading layout 0xDC05)
  pub high : ¬ ReadsOffTimer (timed_reading layout 0xDC03)
  -- where the timer isn't set the code may read there
  pub untimed : ReadsOffTimer (record (timed_reading layout 0) { holds = λ condition. false })

-- ---- states in memory

-- No memory holds a state with another byte of a voice or of what the voices share, where the byte's lines are kept,
-- with another byte of an orderlist's address, with a command lent, or with another byte of a list. Where the lines of
-- the volume or of the pulse width aren't kept, none holds a state in which the volume isn't 15 or the width isn't 0.
pub record HoldsExactly (layout : Layout) (packed : PackedSong) (k : ℕ) (x : FrameState) (at : ℕ → ℕ) : Type 0 where
  pub tick : ¬ Holds layout packed k x (put at (layout.address TICK) (x.one.tick + 1))
  pub third : ¬ Holds layout packed k x (put at (layout.address (PULSE_POINTER + 14)) (x.three.pulse_ptr + 1))
  pub command : layout.holds ROW_COMMAND ≡ true →
      ¬ Holds layout packed k x (put at (layout.address NEW_COMMAND) (x.one.new_command + 1))
  pub width : layout.holds PULSE_TABLE ≡ false → x.one.pulse ≢ 0 → ¬ Holds layout packed k x at
  pub volume : layout.holds SET_VOLUME ≡ true →
      ¬ Holds layout packed k x (put at (layout.address VOLUME) (x.common.volume + 1))
  pub no_volume : layout.holds SET_VOLUME ≡ false → x.common.volume ≢ 15 → ¬ Holds layout packed k x at
  pub order : ¬ Holds layout packed k x
      (put at (layout.address (ORDER_LOW + 7)) (layout.address (order_label k 1) % 256 + 1))
  pub lent : ¬ Holds layout packed k x (put at (layout.address LENT) 1)
  pub listed : (list : SongList) (number : ℕ) → IsSongList layout packed list → HasNumber packed list number →
      ¬ Holds layout packed k x
      (put at (place_in layout (list_label list) number) (list_byte layout packed list number + 1))

-- ---- calls

-- a run with another outcome, and one with another byte at a place
abbrev pub ending : Ran → Outcome → Ran
ending run outcome = record run { outcome = outcome }

abbrev pub leaving : Ran → ℕ → ℕ → Ran
leaving run place byte = record run { desk = record run.desk { at = put run.desk.at place byte } }

-- no call plays a frame that hasn't ended, that holds another state, or that leaves another byte in a register or
-- elsewhere
pub record FramesExactly (layout : Layout) (packed : PackedSong) (o : Options) (k : ℕ) (x : FrameState) (before : Desk)
    (run : Ran) : Type 0 where
  pub ends : (outcome : Outcome) → outcome ≢ Done → ¬ Frames layout packed o k x before (ending run outcome)
  pub holds : ¬ Holds layout packed k (held layout.holds (frame_with o (unpacked_song packed) k x).state) run.desk.at →
      ¬ Frames layout packed o k x before run
  pub register : (register : ℕ) → register < 25 →
      ¬ Frames layout packed o k x before
      (leaving run (0xD400 + register)
      (slice_index (frame_with o (unpacked_song packed) k x).registers register + 1))
  pub elsewhere : (place : ℕ) → IsElsewhere layout (slide_rows packed) place → IsOffStack place →
      ¬ Frames layout packed o k x before (leaving run place (before.at place + 1))

-- nor begins one a subtune so; nor does one that leaves the timer with another number
pub record BeginsExactly (layout : Layout) (packed : PackedSong) (o : Options) (k count : ℕ) (before : Desk)
    (run : Ran) : Type 0 where
  pub ends : (outcome : Outcome) → outcome ≢ Done →
      ¬ BeginsSubtune layout packed o k count before (ending run outcome)
  pub register : (register : ℕ) → register < 25 →
      ¬ BeginsSubtune layout packed o k count before (leaving run (0xD400 + register) 1)
  pub timer_low : layout.holds TIMED ≡ true →
      ¬ BeginsSubtune layout packed o k count before (leaving run 0xDC04 ((start_of o).timer_low + 1))
  pub timer_high : layout.holds TIMED ≡ true →
      ¬ BeginsSubtune layout packed o k count before (leaving run 0xDC05 ((start_of o).timer_high + 1))
  pub no_timer : layout.holds TIMED ≡ false →
      ¬ BeginsSubtune layout packed o k count before (leaving run 0xDC04 (before.at 0xDC04 + 1))
  pub elsewhere : (place : ℕ) → IsUntouched layout (slide_rows packed) count place →
      ¬ BeginsSubtune layout packed o k count before (leaving run place (before.at place + 1))

-- no frame is ready whose filter's program has no lines, nor any where the filter's table has lines and its bytes have
-- none, nor one with a voice that isn't run and would write another number than 0; and no call has the number of a
-- subtune with another number in A, with one that isn't stored, or with one whose third orderlist's number is no byte
pub record ReadyExactly (layout : Layout) (packed : PackedSong) (o : Options) (k : ℕ) (x : FrameState) (at : ℕ → ℕ)
    (desk : Desk) : Type 0 where
  pub filter : x.common.filter_ptr ≢ 0 → layout.holds FILTER_TABLE ≡ false → ¬ FrameIsReady layout packed o k x at
  pub shared : layout.holds FILTER_TABLE ≡ true → layout.holds FILTER_USED ≡ false →
      ¬ FrameIsReady layout packed o k x at
  pub still : (voice register : ℕ) → voice < 3 → is_run layout.holds voice ≡ false →
      slice_index
      (voice_registers (voice_step (voice + 1) o (look_of packed) (order_in packed k voice)
      (turn_in packed o k voice x)).voice) register ≢ slice_index (replicate 7 0) register →
      ¬ FrameIsReady layout packed o k x at
  pub a : ¬ IsCalledWith packed k (record desk { cpu = record desk.cpu { a = k + 1 } })
  pub stored : ¬ IsCalledWith packed (length packed.subtunes) desk
  pub byte : 85 ≤ k → ¬ IsCalledWith packed k desk

-- ---- all of it

pub record EntrancesAreExact : Type 0 where
  pub entrances : (label pointer count : ℕ) (start : Start) → EntrancesAreTold label pointer count start
  pub places : (layout : Layout) → PlacesAreTold layout
  pub states : (layout : Layout) (packed : PackedSong) (k : ℕ) (x : FrameState) (at : ℕ → ℕ) →
      HoldsExactly layout packed k x at
  pub frames : (layout : Layout) (packed : PackedSong) (o : Options) (k : ℕ) (x : FrameState) (before : Desk)
      (run : Ran) → FramesExactly layout packed o k x before run
  pub beginnings : (layout : Layout) (packed : PackedSong) (o : Options) (k count : ℕ) (before : Desk) (run : Ran) →
      BeginsExactly layout packed o k count before run
  pub ready : (layout : Layout) (packed : PackedSong) (o : Options) (k : ℕ) (x : FrameState) (at : ℕ → ℕ)
      (desk : Desk) → ReadyExactly layout packed o k x at desk
