-- Inner: a song as it is played.
use Rattle.std.specs.Prelude.{◌≡◌, ℕ, ◌+◌, ◌-◌, ◌<◌, ◌≤◌, min, Option, Some, None}
use Rattle.cpu6502.specs.declared.machine.Machine.{Machine}
use Rattle.cpu6502.specs.declared.stop.CallStop.{CallStop}
use Rattle.cpu6502.specs.Call.{FailsBy}
use Rattle.psid.specs.declared.header.Psid.{Psid}
use Rattle.sid_run.specs.State.{RunnerState, loaded, most_steps}
use Rattle.song_length.specs.declared.playing.Playing.{Playing}
use Rattle.song_length.specs.declared.counts.Counts.{Counts}
use Rattle.song_length.specs.declared.measuring.MeasureFault.{MeasureFault}
use Rattle.song_length.specs.declared.measuring.MeasureFault.TheVariants.{NoMemory, Stopped}
use Rattle.song_length.specs.Plays.{Lead, PlaysReturn}
use Rattle.song_length.specs.Repeats.{Repeats}
use Rattle.song_length.specs.declared.measuring.Repeat.{Repeat}
use Rattle.song_length.specs.Measured.{IsDearest, NeverRepeats, IsFirstRepeat}
use Rattle.song_length.specs.Told.{Begins}

-- it has come from the machine after init by as many plays as it counts, and the dearest of its first ones is known
pub record IsAt (first : Machine) (playing : Playing) : Type 0 where
  pub led : Lead playing.runner.play playing.counts.calls first playing.runner.machine
  pub running : playing.runner.stopped ≡ None
  pub dearest : IsDearest playing.runner.play first (min playing.counts.calls playing.counts.limit) playing.counts.dearest

-- it went on by so many plays
pub record GoesOnTo (old new : Playing) (count : ℕ) : Type 0 where
  pub on : (first : Machine) → IsAt first old → IsAt first new
  pub calls : new.counts.calls ≡ old.counts.calls + count
  pub limit : new.counts.limit ≡ old.counts.limit
  pub address : new.runner.play ≡ old.runner.play
  pub running : new.runner.stopped ≡ None

-- after none of the next plays, so many, it is in this state
abbrev pub StaysOut : Playing → Machine → ℕ → Type 0
StaysOut old state count =
    (first : Machine) (k : ℕ) → IsAt first old → 1 ≤ k → k ≤ count →
    ¬ Lead old.runner.play (old.counts.calls + k) first state

-- after so many plays it is in this state for the first time again; or it isn't, after the most
abbrev pub ComesTo : Playing → Playing → Machine → ℕ → Option ℕ → Type 0
ComesTo old new state most (Some count) =
    (1 ≤ count) × (count ≤ most) × GoesOnTo old new count × (new.runner.machine ≡ state) × StaysOut old state (count - 1)
ComesTo old new state most None = GoesOnTo old new most × StaysOut old state most

-- one of the next plays, so many, doesn't return
pub record StopsOn (old new : Playing) (most : ℕ) (reason : CallStop) : Type 0 where
  pub between : Playing
  pub count : ℕ
  pub few : count < most
  pub goes : GoesOnTo old between count
  pub fails : FailsBy between.runner.machine old.runner.play between.runner.machine.cpu.a most_steps reason new.runner.machine
  pub counts : new.counts ≡ between.counts

-- the state after so many plays comes again after no fewer than the length
abbrev pub ComesNoSooner : ℕ → Machine → ℕ → ℕ → Type 0
ComesNoSooner play first place length =
    (k : ℕ) (machine : Machine) → 1 ≤ k → k < length → Lead play place first machine → ¬ Lead play (place + k) first machine

-- of a song that begins there: its state comes again after so many plays, from some place on up to which it has come now,
-- and after no fewer from there
pub record ComesAgain (old new : Playing) (length : ℕ) : Type 0 where
  pub place : ℕ
  pub calls : new.counts.calls ≡ place + length
  pub on : (first : Machine) → IsAt first old → IsAt first new
  pub repeats : (first : Machine) → IsAt first old → Repeats old.runner.play first place length
  pub fewest : (first : Machine) → IsAt first old → ComesNoSooner old.runner.play first place length

-- or no two of its first states are the same, and it has come further
pub record ComesNever (old new : Playing) : Type 0 where
  pub on : (first : Machine) → IsAt first old → IsAt first new
  pub calls : old.counts.limit ≤ new.counts.calls
  pub never : (first : Machine) → IsAt first old → NeverRepeats old.runner.play first old.counts.limit

abbrev pub Period : Playing → Playing → Option ℕ → Type 0
Period old new (Some length) = ComesAgain old new length
Period old new None = ComesNever old new

-- one of its plays doesn't return
pub record PlayStops (old new : Playing) (reason : CallStop) : Type 0 where
  pub between : Playing
  pub on : (first : Machine) → IsAt first old → IsAt first between
  pub limit : between.counts.limit ≡ old.counts.limit
  pub address : between.runner.play ≡ old.runner.play
  pub fails : FailsBy between.runner.machine old.runner.play between.runner.machine.cpu.a most_steps reason new.runner.machine
  pub counts : new.counts ≡ between.counts

-- the state of a song from a machine on comes again
pub record HasRepeat (play : ℕ) (first : Machine) : Type 0 where
  pub from : ℕ
  pub length : ℕ
  pub repeats : Repeats play first from length

-- after as many plays from one machine and from another both come to one
pub record MeetAt (play : ℕ) (one other : Machine) (plays : ℕ) : Type 0 where
  pub machine : Machine
  pub of_one : Lead play plays one machine
  pub of_other : Lead play plays other machine

-- the first place at which they do, up to the most
abbrev pub IsFirstMeeting : ℕ → Machine → Machine → ℕ → Option ℕ → Type 0
IsFirstMeeting play one other most (Some from) =
    (from ≤ most) × MeetAt play one other from × ((place : ℕ) → place < from → ¬ MeetAt play one other place)
IsFirstMeeting play one other most None = (place : ℕ) → place ≤ most → ¬ MeetAt play one other place

-- the first place from which on the state comes again after so many plays, and no fewer, in the first calls; none where there
-- is no such place
abbrev pub IsFoundIn : ℕ → Machine → ℕ → ℕ → Option Repeat → Type 0
IsFoundIn play first length calls (Some repeat) =
    (repeat.from + repeat.length ≤ calls) × IsFirstRepeat play first repeat.from repeat.length
IsFoundIn play first length calls None = (from : ℕ) → from + length ≤ calls → ¬ Repeats play first from length

-- what is found out in the first plays: the state comes again after so many, and after no fewer from that place on; or no two
-- of the first states are the same, up to as many plays as were asked for. The dearest play is known, of the plays that were
-- made, but of no more than were asked for
abbrev pub IsSearched : ℕ → Machine → ℕ → Counts → Option ℕ → Type 0
IsSearched play first calls counts (Some length) =
    (place : ℕ) × (counts.calls ≡ place + length) × Repeats play first place length
    × ComesNoSooner play first place length
    × IsDearest play first (min counts.calls calls) counts.dearest
IsSearched play first calls counts None =
    PlaysReturn play calls first × NeverRepeats play first calls × IsDearest play first calls counts.dearest

-- a play of a song, one of the first ones, doesn't return; all before it do
abbrev pub IsPlayFault : ℕ → Machine → ℕ → MeasureFault → Type 0
IsPlayFault play first calls NoMemory = Unit {0}
IsPlayFault play first calls (Stopped call reason) =
    (1 ≤ call) × (call ≤ calls) × (before : Machine) × (after : Machine) × Lead play (call - 1) first before
    × FailsBy before play before.cpu.a most_steps reason after

-- a runner behind init of a song
pub record IsStarted (psid : Psid) (song : ℕ) (runner : RunnerState) : Type 0 where
  pub begins : Begins psid song runner.cycles runner.machine
  pub address : runner.play ≡ (loaded psid).play
  pub running : runner.stopped ≡ None

-- from this place on, and maybe sooner, the state of a song comes again after so many plays, and after no fewer
pub record ComesFrom (psid : Psid) (song place length : ℕ) : Type 0 where
  pub cycles : ℕ
  pub first : Machine
  pub begins : Begins psid song cycles first
  pub repeats : Repeats (loaded psid).play first place length
  pub fewest : ComesNoSooner (loaded psid).play first place length
