-- What a player that is played on and on gives: the trace of its subtune, a call after the other.
use Rattle.std.specs.Prelude.{◌≡◌, ℕ, suc, List}
use Rattle.song_model.specs.declared.songs.Song.{Song}
use Rattle.play_model.specs.declared.options.Options.{Options}
use Rattle.play_model.specs.State.{start_state}
use Rattle.play_model.specs.Frame.{state_after_with, trace_with}
use Rattle.playroutine.specs.Playback.{Playback, PlaysSubtune, PlayerStandsFor, PlaysFrame}

-- a player of this song, subtune and options, after n frames
pub record StandsAfter (player : Playback) (song : Song) (k : ℕ) (o : Options) (n : ℕ) : Type 0 where
  pub plays : PlaysSubtune player song k o
  pub stands : PlayerStandsFor player (state_after_with o song k n)

-- players each of which plays a frame, leaves these registers, and is the next one then
abbrev pub PlaysOn : (ℕ → Playback) → (ℕ → List ℕ) → Type 0
PlaysOn player registers = (n : ℕ) → PlaysFrame (player n) (registers n) (player (suc n))

-- after call n the player stands where the definitions do, and call n + 1, the n-th frame from 0, leaves entry n + 1
pub record GivesTrace (player : ℕ → Playback) (registers : ℕ → List ℕ) (song : Song) (k : ℕ) (o : Options)
    : Type 0 where
  pub after : (n : ℕ) → StandsAfter (player n) song k o n
  pub call : (n : ℕ) → registers n ≡ trace_with o song k (suc n)

abbrev pub PlayersGiveTheTrace : Type 0
PlayersGiveTheTrace =
    (player : ℕ → Playback) (registers : ℕ → List ℕ) (song : Song) (k : ℕ) (o : Options) →
    PlaysOn player registers → PlaysSubtune (player 0) song k o → PlayerStandsFor (player 0) (start_state o) →
    GivesTrace player registers song k o
