-- What is told of a song of a file, and when nothing is.
use Rattle.std.specs.Prelude.{◌≡◌, ℕ, ◌+◌, ◌-◌, ◌≤◌, List, Option, Some, None}
use Rattle.cpu6502.specs.declared.machine.Machine.{Machine}
use Rattle.cpu6502.specs.declared.stop.CallStop.{CallStop}
use Rattle.cpu6502.specs.Call.{FailsBy, call_cycles}
use Rattle.psid.specs.declared.header.Psid.{Psid}
use Rattle.sid_run.specs.State.{loaded, most_steps}
use Rattle.song_length.specs.declared.counts.Dearest.{Dearest}
use Rattle.song_length.specs.declared.measuring.Repeat.{Repeat}
use Rattle.song_length.specs.declared.measuring.Measured.{Measured}
use Rattle.song_length.specs.declared.measuring.MeasureFault.{MeasureFault}
use Rattle.song_length.specs.declared.measuring.MeasureFault.TheVariants.{NoMemory, Stopped}
use Rattle.song_length.specs.Plays.{Takes, Lead, PlaysReturn}
use Rattle.song_length.specs.Measured.{IsDearest, AreCosts, NeverRepeats, IsFirstRepeat}

-- init of a song, counted from 0, returns after so many clock cycles in a machine, from which its plays begin
pub record Begins (psid : Psid) (song cycles : ℕ) (first : Machine) : Type 0 where
  pub steps : ℕ
  pub takes : Takes (loaded psid).machine (loaded psid).init song steps first
  pub cycles_are : cycles ≡ call_cycles (loaded psid).machine (loaded psid).init song steps

-- what is told of its plays: where its state comes again, when it does, and the dearest play up to there; and else that as
-- many plays return, that no two of the states after them are the same, and the dearest of them
abbrev pub AreTold : ℕ → Machine → ℕ → Dearest → Option Repeat → Type 0
AreTold play first calls dearest (Some repeat) =
    (repeat.from + repeat.length ≤ calls) × IsFirstRepeat play first repeat.from repeat.length
    × IsDearest play first (repeat.from + repeat.length) (Some dearest)
AreTold play first calls dearest None =
    PlaysReturn play calls first × NeverRepeats play first calls × IsDearest play first calls (Some dearest)

pub record IsMeasured (psid : Psid) (song calls : ℕ) (measured : Measured) : Type 0 where
  pub first : Machine
  pub begins : Begins psid song measured.init first
  pub told : AreTold (loaded psid).play first calls measured.dearest measured.repeat

-- its first plays, so many, take these clock cycles, in order
pub record CostSo (psid : Psid) (song calls : ℕ) (cycles : List ℕ) : Type 0 where
  pub init : ℕ
  pub first : Machine
  pub begins : Begins psid song init first
  pub costs : AreCosts (loaded psid).play first calls cycles

-- a call of the song, one of the first ones, doesn't return: init, or a play, where all before it do
pub data StopsAt (psid : Psid) (song calls call : ℕ) (reason : CallStop) : Type 0 where
  init_stops : (after : Machine) → call ≡ 0 →
      FailsBy (loaded psid).machine (loaded psid).init song most_steps reason after → StopsAt psid song calls call reason
  play_stops : (cycles : ℕ) (first before after : Machine) → 1 ≤ call → call ≤ calls → Begins psid song cycles first →
      Lead (loaded psid).play (call - 1) first before →
      FailsBy before (loaded psid).play before.cpu.a most_steps reason after → StopsAt psid song calls call reason

abbrev pub IsFault : Psid → ℕ → ℕ → MeasureFault → Type 0
IsFault psid song calls NoMemory = Unit {0}
IsFault psid song calls (Stopped call reason) = StopsAt psid song calls call reason
