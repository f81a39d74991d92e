-- What is told of a song's plays: the dearest, what each costs, and when its state comes again.
use Rattle.std.specs.Prelude.{◌≡◌, ℕ, ◌+◌, ◌-◌, ◌<◌, ◌≤◌, List, Option, Some, None, length, get_or}
use Rattle.cpu6502.specs.declared.machine.Machine.{Machine}
use Rattle.song_length.specs.declared.counts.Dearest.{Dearest}
use Rattle.song_length.specs.Plays.{Lead, PlayTold, Tells}
use Rattle.song_length.specs.Repeats.{Repeats}

-- of the first plays of a song, so many, the dearest: no one takes more clock cycles, and each before it takes less; plays
-- are counted from 1, and there is none where there is no play
abbrev pub IsDearest : ℕ → Machine → ℕ → Option Dearest → Type 0
IsDearest play first n None = n ≡ 0
IsDearest play first n (Some dearest) =
    (1 ≤ dearest.call) × (dearest.call ≤ n)
    × ((told : PlayTold) × Tells play first (dearest.call - 1) told × (told.cycles ≡ dearest.cycles))
    × ((i : ℕ) (told : PlayTold) → i < n → Tells play first i told → told.cycles ≤ dearest.cycles)
    × ((i : ℕ) (told : PlayTold) → i + 1 < dearest.call → Tells play first i told → told.cycles < dearest.cycles)

-- the first plays of a song, so many, take these clock cycles, in order
pub record AreCosts (play : ℕ) (first : Machine) (n : ℕ) (cycles : List ℕ) : Type 0 where
  pub as_many : length cycles ≡ n
  pub each : (i : ℕ) → i < n → (told : PlayTold) × Tells play first i told × (get_or cycles i 0 ≡ told.cycles)

-- no two of the states after the first plays, up to so many, are the same
abbrev pub NeverRepeats : ℕ → Machine → ℕ → Type 0
NeverRepeats play first n =
    (i j : ℕ) (machine : Machine) → i < j → j ≤ n → Lead play i first machine → ¬ Lead play j first machine

-- the state comes again, from the first place on where it does, and after the fewest plays
pub record IsFirstRepeat (play : ℕ) (first : Machine) (from length : ℕ) : Type 0 where
  pub repeats : Repeats play first from length
  pub least : (i j : ℕ) (machine : Machine) → i < j → Lead play i first machine → Lead play j first machine →
      (from ≤ i) × (i + length ≤ j)
