-- Why two songs can't be joined: the reasons in their order, each at its first place.
use Rattle.std.specs.Prelude.{◌≡◌, ◌≢◌, ℕ, ◌%◌}
use Rattle.song_model.specs.declared.songs.Song.{Song}
use Rattle.song_model.specs.LookUp.{instrument_at}
use Rattle.song_join.specs.declared.faults.JoinFault.{JoinFault}
use Rattle.song_join.specs.declared.faults.JoinFault.TheVariants.{OverLimit, LooseInstrument, LooseSpeed, GateTimer}
use Rattle.song_join.specs.declared.faults.JoinFault.TheVariants.{NoteBeforeInstrument, NoMemory}
use Rattle.song_join.specs.Limits.{IsFirstOver, AreWithin}
use Rattle.song_join.specs.Loose.{IsLooseInstrument, IsLooseSpeed, IsFirstPlace, IsLooseIn, NothingIsLoose}
use Rattle.song_join.specs.Openings.{IsUnnamedAt, NamesFirst}

-- the low six bits of the gateoff timer with which each voice begins
abbrev pub first_timer : Song → ℕ
first_timer song = (instrument_at song 1).gate_timer % 64

-- both songs' timers, where they differ
pub record TimersDiffer (first second : Song) (one two : ℕ) : Type 0 where
  pub one_is : one ≡ first_timer first
  pub two_is : two ≡ first_timer second
  pub differ : one ≢ two

-- the refusal that carries them
pub record IsTimerFault (first second : Song) (fault : JoinFault) : Type 0 where
  pub one : ℕ
  pub two : ℕ
  pub fault_is : fault ≡ GateTimer one two
  pub differ : TimersDiffer first second one two

-- no reason stands
pub record CanBeJoined (first second : Song) : Type 0 where
  pub within : AreWithin first second
  pub instruments : NothingIsLoose IsLooseInstrument first second
  pub speeds : NothingIsLoose IsLooseSpeed first second
  pub timers : first_timer first ≡ first_timer second
  pub named : NamesFirst second

-- Each reason at its first place, where none stands that comes earlier. Want of memory is none.
abbrev pub IsRefusedFor : Song → Song → JoinFault → Type 0
IsRefusedFor first second (OverLimit part sum) = IsFirstOver first second part sum
IsRefusedFor first second (LooseInstrument song instrument) =
    AreWithin first second × IsFirstPlace (IsLooseIn IsLooseInstrument first second) song instrument
IsRefusedFor first second (LooseSpeed song row) =
    AreWithin first second × NothingIsLoose IsLooseInstrument first second
    × IsFirstPlace (IsLooseIn IsLooseSpeed first second) song row
IsRefusedFor first second (GateTimer one two) =
    AreWithin first second × NothingIsLoose IsLooseInstrument first second
    × NothingIsLoose IsLooseSpeed first second × TimersDiffer first second one two
IsRefusedFor first second (NoteBeforeInstrument subtune channel) =
    AreWithin first second × NothingIsLoose IsLooseInstrument first second
    × NothingIsLoose IsLooseSpeed first second × (first_timer first ≡ first_timer second)
    × IsFirstPlace (IsUnnamedAt second) subtune channel
IsRefusedFor first second NoMemory = ⊥
