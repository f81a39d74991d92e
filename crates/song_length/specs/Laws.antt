-- What follows from what is told of a song.
use Rattle.std.specs.Prelude.{◌≡◌, ℕ, ◌*◌, ◌≤◌, List, All, Some}
use Rattle.cpu6502.specs.declared.machine.Machine.{Machine}
use Rattle.cpu6502.specs.declared.stop.CallStop.{CallStop}
use Rattle.psid.specs.declared.header.Psid.{Psid}
use Rattle.sid_run.specs.State.{loaded, most_steps}
use Rattle.song_length.specs.declared.measuring.Repeat.{Repeat}
use Rattle.song_length.specs.declared.measuring.Measured.{Measured}
use Rattle.song_length.specs.Plays.{PlayTold, Tells}
use Rattle.song_length.specs.Repeats.{GoesOn}
use Rattle.song_length.specs.Told.{Begins, IsMeasured, CostSo, StopsAt}

-- a song whose state is told to come again goes on so for ever, and no play takes more clock cycles than the dearest
pub record GoesOnAsTold (psid : Psid) (song : ℕ) (measured : Measured) (repeat : Repeat) : Type 0 where
  pub first : Machine
  pub begins : Begins psid song measured.init first
  pub goes : GoesOn (loaded psid).play first repeat.from repeat.length
  pub most : (n : ℕ) (told : PlayTold) → Tells (loaded psid).play first n told → told.cycles ≤ measured.dearest.cycles

abbrev pub MeasuredSongsGoOn : Type 0
MeasuredSongsGoOn =
    (psid : Psid) (song calls : ℕ) (measured : Measured) (repeat : Repeat) → IsMeasured psid song calls measured →
    measured.repeat ≡ Some repeat → GoesOnAsTold psid song measured repeat

-- the clock cycles that are told are at most 7 for each step that a call may take
abbrev pub FewAreTold : Type 0
FewAreTold =
    (psid : Psid) (song calls : ℕ) (measured : Measured) → IsMeasured psid song calls measured →
    (measured.init ≤ 7 * most_steps) × (measured.dearest.cycles ≤ 7 * most_steps)

-- and so does each play
abbrev pub PlaysCostLittle : Type 0
PlaysCostLittle =
    (psid : Psid) (song calls : ℕ) (cycles : List ℕ) → CostSo psid song calls cycles →
    All (λ play. play ≤ 7 * most_steps) cycles

-- of a song one thing is told, or that one of its calls doesn't return
pub record ToldOnce (psid : Psid) (song calls : ℕ) (measured : Measured) : Type 0 where
  pub one : (other : Measured) → IsMeasured psid song calls other → other ≡ measured
  pub returns : (call : ℕ) (reason : CallStop) → ¬ StopsAt psid song calls call reason

abbrev pub SongsAreToldOnce : Type 0
SongsAreToldOnce =
    (psid : Psid) (song calls : ℕ) (measured : Measured) → IsMeasured psid song calls measured →
    ToldOnce psid song calls measured

-- and of one that stops one call
abbrev pub SongsStopOnce : Type 0
SongsStopOnce =
    (psid : Psid) (song calls more call other : ℕ) (reason why : CallStop) → StopsAt psid song calls call reason →
    StopsAt psid song more other why → (call ≡ other) × (reason ≡ why)

-- and what its plays cost is one list
abbrev pub SongsCostOnce : Type 0
SongsCostOnce =
    (psid : Psid) (song calls : ℕ) (cycles others : List ℕ) → CostSo psid song calls cycles →
    CostSo psid song calls others → cycles ≡ others
