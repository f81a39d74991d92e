-- That lines which a frame doesn't use can be left out. This is the project's own player.
use Rattle.std.specs.Prelude.{◌≡◌, ℕ, ◌+◌, ◌<◌}
use Rattle.play_model.specs.declared.options.Options.{Options}
use Rattle.play_model.specs.State.{FrameState}
use Rattle.play_model.specs.Frame.{frame_with}
use Rattle.packed_form.specs.declared.packed_songs.PackedSong.{PackedSong}
use Rattle.packed_form.specs.Unpacked.{unpacked_song}
use Rattle.scopes.specs.Desk.{Desk, Layout}
use Rattle.scopes.specs.Meaning.{Ran, Done}
use Rattle.scope_calls.specs.Entrances.{Entrance}
use Rattle.scope_calls.specs.Meaning.{entrance_ran}
use Rattle.player_memory.specs.Holds.{Holds, IsPlayerLayout, held}
use Rattle.frame_code.specs.FrameBlock.{PlaysFrames, ReadsOffStack, FrameIsReady}

-- a layout and a memory in it with a state of subtune k; the conditions of the lines that the frame uses hold
pub record IsReadyFor (layout : Layout) (packed : PackedSong) (o : Options) (k : ℕ) (x : FrameState) (desk : Desk)
    : Type 0 where
  pub laid : IsPlayerLayout layout packed
  pub reads : ReadsOffStack layout
  pub holds : Holds layout packed k (held layout.holds x) desk.at
  pub ready : FrameIsReady layout packed o k x desk.at

-- both calls come to their end, each with the state behind the frame in memory, but voices that it doesn't run as they
-- start, and with the same 25 registers
pub record PlayTheSame (one other : Layout) (packed : PackedSong) (o : Options) (k : ℕ) (x : FrameState)
    (here there : Ran) : Type 0 where
  pub ends : (here.outcome ≡ Done) × (there.outcome ≡ Done)
  pub state : Holds one packed k (held one.holds (frame_with o (unpacked_song packed) k x).state) here.desk.at
      × Holds other packed k (held other.holds (frame_with o (unpacked_song packed) k x).state) there.desk.at
  pub registers : (register : ℕ) → register < 25 →
      here.desk.at (0xD400 + register) ≡ there.desk.at (0xD400 + register)

-- Two layouts for which the frame is ready may differ in where all stands, and in each condition of what the frame
-- doesn't use: what stands under those can be kept or left out.
abbrev pub PartsCanBeLeftOut : Type 0
PartsCanBeLeftOut =
    (one other : Layout) (packed : PackedSong) (o : Options) (k : ℕ) (x : FrameState) (e : Entrance)
    (here there : Desk) →
    PlaysFrames e → IsReadyFor one packed o k x here → IsReadyFor other packed o k x there →
    PlayTheSame one other packed o k x (entrance_ran one e here) (entrance_ran other e there)
