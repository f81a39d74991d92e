-- What an image does for one song it does for each song that plays the same.
use Rattle.std.specs.Prelude.{ℕ, List}
use Rattle.song_model.specs.declared.songs.Song.{Song}
use Rattle.play_model.specs.declared.options.Options.{Options}
use Rattle.same_frames.specs.SamePlays.{PlaysSame}
use Rattle.faithful.specs.Faithful.{IsFaithful}
use Rattle.faithful.specs.Histories.{PlaysAlways}
use Rattle.faithful.specs.Isolation.{IsIsolated}

-- an image that plays the other song plays this one, in order and after any calls, and where its calls depend on its
-- bytes alone for the other song they do for this one
pub record IsServedAs (image : List ℕ) (address zero_page : ℕ) (options : Options) (song other : Song) : Type 0 where
  pub faithful : IsFaithful image address zero_page other options → IsFaithful image address zero_page song options
  pub always : PlaysAlways image address zero_page other options → PlaysAlways image address zero_page song options
  pub isolated : IsIsolated image address other → IsIsolated image address song

-- a song is served as each other one that plays the same
abbrev pub SameSongsAreServed : Type 0
SameSongsAreServed =
    (image : List ℕ) (address zero_page : ℕ) (options : Options) (song other : Song) → PlaysSame options song other →
    IsServedAs image address zero_page options song other
