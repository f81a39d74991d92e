-- What a song uses without storing it, and which comes first.
use Rattle.std.specs.Prelude.{ℕ, ◌<◌, ◌≤◌, ◌==◌, if◌then◌else◌, length}
use Rattle.song_model.specs.declared.songs.Song.{Song}
use Rattle.song_model.specs.declared.tables.TableName.TheVariants.{Speed}
use Rattle.play_model.specs.Used.{IsUsedInstrument}
use Rattle.play_model.specs.Reached.{IsPointer}

-- song 1 or 2 of two
abbrev pub song_of : Song → Song → ℕ → Song
song_of first second number = if number == 1 then first else second

pub record IsSongNumber (number : ℕ) : Type 0 where
  pub first : 1 ≤ number
  pub last : number ≤ 2

-- a used instrument that isn't stored
pub record IsLooseInstrument (song : Song) (instrument : ℕ) : Type 0 where
  pub used : IsUsedInstrument song instrument
  pub above : length song.instruments < instrument

-- a row of the speed table that a used pointer names and that isn't stored
pub record IsLooseSpeed (song : Song) (row : ℕ) : Type 0 where
  pub pointer : IsPointer song Speed row
  pub above : length song.speed < row

-- the least first number, and with it the least second one, that are such
pub record IsFirstPlace (IsSuch : ℕ → ℕ → Type 0) (a b : ℕ) : Type 0 where
  pub is_such : IsSuch a b
  pub before : (i j : ℕ) → i < a → ¬ IsSuch i j
  pub below : (j : ℕ) → j < b → ¬ IsSuch a j

-- song 1 or 2 has something loose of a kind at this number
pub record IsLooseIn (IsLoose : Song → ℕ → Type 0) (first second : Song) (song n : ℕ) : Type 0 where
  pub number : IsSongNumber song
  pub loose : IsLoose (song_of first second song) n

-- neither song has anything loose of a kind
pub record NothingIsLoose (IsLoose : Song → ℕ → Type 0) (first second : Song) : Type 0 where
  pub first_song : (n : ℕ) → ¬ IsLoose first n
  pub second_song : (n : ℕ) → ¬ IsLoose second n
