-- Where the command that runs in a voice came from.
use Rattle.std.proofs.Common.{◌≡◌, ◌≢◌, ℕ, refl, arith}
use Rattle.song_model.specs.declared.songs.Song.{Song}
use Rattle.song_model.specs.LookUp.{instrument_at}
use Rattle.play_model.specs.Used.{IsUsedInstrument}
use Rattle.play_model.specs.Safe.{HasCommand, IsSafeRunning, none, of_instrument, of_row}

-- a command other than 0 is a row's
pub running_command : (song : Song) (command param : ℕ) → IsSafeRunning song command param → command ≢ 0 →
    HasCommand song command param
running_command song command param none some = absurd (some refl)
running_command song command param (of_instrument i used) some = absurd (some refl)
running_command song command param (of_row least most h) some = h

-- a used instrument has this vibrato
pub record RunsVibrato (song : Song) (param : ℕ) : Type 0 where
  pub number : ℕ
  pub used : IsUsedInstrument song number
  pub is : (instrument_at song number).vibrato ≡ param

-- command 0 with a parameter is an instrument's vibrato
pub running_vibrato : (song : Song) (command param : ℕ) → IsSafeRunning song command param → command ≡ 0 →
    param ≢ 0 → RunsVibrato song param
running_vibrato song command param none e some = absurd (some refl)
running_vibrato song command param (of_instrument i used) e some = record { number = i; used = used; is = refl }
running_vibrato song command param (of_row least most h) e some = absurd (omega arith)
