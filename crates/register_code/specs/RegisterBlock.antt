-- The code that writes a voice's registers, and what it does. This is the project's own player.
use Rattle.std.specs.Prelude.{◌≡◌, ◌⊎◌, ℕ, ◌+◌, ◌*◌, ◌<◌, ◌≤◌, List, slice_index}
use Rattle.play_model.specs.State.{Playing}
use Rattle.play_model.specs.Frame.{voice_registers}
use Rattle.scopes.specs.Desk.{Desk, Layout}
use Rattle.scopes.specs.Trees.{Tree, tree_of}
use Rattle.scopes.specs.Meaning.{Ran, Done, each_one, ran}
use Rattle.player_memory.specs.Rooms.{IsRoom, MayUse}
use Rattle.player_memory.specs.Playing.{IsPlaying, IsAtVoice}
use Rattle.player_text.specs.declared.register.TheConstants.{REGISTERS}

abbrev pub register_tree : Tree
register_tree = tree_of REGISTERS.now

-- where a voice's seven registers begin
abbrev pub registers_of : ℕ → ℕ
registers_of voice = 0xD400 + 7 * voice

-- A block has come to its end with a voice's registers as they are listed. It has left every other place of memory.
pub record Sounds (voice : ℕ) (before : Desk) (run : Ran) (registers : List ℕ) : Type 0 where
  pub ends : run.outcome ≡ Done
  pub at_voice : IsAtVoice voice run.desk
  pub sounds : (register : ℕ) → register < 7 →
      run.desk.at (registers_of voice + register) ≡ slice_index registers register
  pub leaves : (place : ℕ) → (place < registers_of voice) ⊎ (registers_of voice + 7 ≤ place) →
      run.desk.at place ≡ before.at place

-- In any memory that holds a voice that is playing, the code writes the registers that a frame has from its state.
abbrev pub RegisterBlockWrites : Type 0
RegisterBlockWrites =
    (layout : Layout) (rows voice : ℕ) (s : Playing) (desk : Desk) → IsRoom layout rows → MayUse layout rows →
    voice < 3 → IsAtVoice voice desk → IsPlaying layout voice s desk.at →
    Sounds voice desk (ran each_one layout register_tree desk) (voice_registers s.voice)
