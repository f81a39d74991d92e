-- What a player plays and where it stands, and the states of the definitions that it stands for.
use Rattle.std.specs.Prelude.{◌≡◌, ℕ, List, Some}
use Rattle.song_model.specs.declared.songs.Song.{Song}
use Rattle.song_model.specs.declared.orders.Subtune.{Subtune}
use Rattle.song_model.specs.Endless.{IsEndless}
use Rattle.song_model.specs.LookUp.{playable_subtune}
use Rattle.play_model.specs.declared.options.Options.{Options}
use Rattle.play_model.specs.declared.states.PlayState.{PlayState}
use Rattle.play_model.specs.State.{FrameState}
use Rattle.play_model.specs.StandsFor.{StateStandsFor}
use Rattle.play_model.specs.Playable.{IsPlayable}
use Rattle.play_model.specs.Frame.{subtune_at, frame_with, state_after_with}

-- what a player plays, and the state that it keeps between its frames
pub record Playback : Type 0 where
  pub song : Song
  -- the playable subtune, counted from 0
  pub subtune : ℕ
  pub options : Options
  pub state : PlayState

-- a player of this song, subtune and options
pub record PlaysSubtune (player : Playback) (song : Song) (k : ℕ) (options : Options) : Type 0 where
  pub song_is : player.song ≡ song
  pub subtune_is : player.subtune ≡ k
  pub options_are : player.options ≡ options

-- the state of its subtune that a player stands for
abbrev pub PlayerStandsFor : Playback → FrameState → Type 0
PlayerStandsFor player x = StateStandsFor (subtune_at player.song player.subtune) player.state x

-- One frame: for each state that the player stands for, it leaves the registers of the frame from there and then
-- stands for the frame's state, of the same song, subtune and options.
pub record PlaysFrame (player : Playback) (registers : List ℕ) (after : Playback) : Type 0 where
  pub plays : PlaysSubtune after player.song player.subtune player.options
  pub registers_are : (x : FrameState) → PlayerStandsFor player x →
      registers ≡ (frame_with player.options player.song player.subtune x).registers
  pub stands : (x : FrameState) → PlayerStandsFor player x →
      PlayerStandsFor after (frame_with player.options player.song player.subtune x).state

-- each channel's orderlist goes on for ever
pub record IsEndlessSubtune (subtune : Subtune) : Type 0 where
  pub one : IsEndless subtune.one
  pub two : IsEndless subtune.two
  pub three : IsEndless subtune.three

-- what is true of every player: its song can be played, its subtune is that of its number, and it stands for the state
-- after some number of frames
pub record IsAtFrame (song : Song) (subtune : Subtune) (k : ℕ) (o : Options) (state : PlayState) : Type 0 where
  pub playable : IsPlayable song
  pub subtune_is : Some subtune ≡ playable_subtune song k
  pub frames : ℕ
  pub stands : StateStandsFor subtune state (state_after_with o song k frames)
