-- Two small machines whose plays are worked by hand, and what is refused of them. They have 512 bytes, enough for the code
-- of a play, a number and the stack.
use Rattle.std.specs.Prelude.{ℕ, ◌-◌, List, [], ◌∷◌, ◌++◌, None, Some, length, replicate, true}
use Rattle.cpu6502.specs.declared.cpu.Cpu.{Cpu}
use Rattle.cpu6502.specs.declared.machine.Machine.{Machine}
use Rattle.sid_run.specs.State.{cleared_cpu, sid_registers}
use Rattle.song_length.specs.Plays.{PlayTakes, Lead, PlayTold, Tells}
use Rattle.song_length.specs.Repeats.{Repeats}
use Rattle.song_length.specs.declared.counts.Dearest.{Dearest}
use Rattle.song_length.specs.Measured.{AreCosts, IsDearest, NeverRepeats, IsFirstRepeat}
use Rattle.song_length.specs.Told.{AreTold}

-- a number at $02, a play at $10, and the two bytes that a caller has pushed
abbrev pub memory_of : ℕ → List ℕ → List ℕ
memory_of number code =
    0 ∷ 0 ∷ number ∷ replicate 13 0 ++ code ++ replicate (494 - length code) 0 ++ 0xFF ∷ 0xFF ∷ []

-- a play that is RTS alone, in 6 clock cycles
abbrev pub silent : Machine
silent = record { cpu = cleared_cpu; memory = memory_of 0 (0x60 ∷ []) }

abbrev pub silence : ℕ → ℕ → PlayTold
silence steps cycles = record { steps = steps; cycles = cycles; registers = sid_registers silent }

-- a play that counts: INC $02; BNE to the next; RTS, in 5 and 3 and 6 clock cycles, and one fewer where the number is 0
abbrev pub counting : Cpu → ℕ → Machine
counting cpu number = record { cpu = cpu; memory = memory_of number (0xE6 ∷ 0x02 ∷ 0xD0 ∷ 0x00 ∷ 0x60 ∷ []) }

abbrev pub at_last : Machine
at_last = counting cleared_cpu 0xFF

abbrev pub at_zero : Machine
at_zero = counting (record cleared_cpu { z = true }) 0

abbrev pub at_one : Machine
at_one = counting cleared_cpu 1

pub record PlaysAreWorked : Type 0 where
  pub returns : PlayTakes 0x10 silent 1 silent
  pub no_second_step : ¬ PlayTakes 0x10 silent 2 silent
  pub no_other_machine : ¬ PlayTakes 0x10 silent 1 at_one
  pub first : PlayTakes 0x10 at_last 3 at_zero
  pub second : PlayTakes 0x10 at_zero 3 at_one
  pub both : Lead 0x10 2 at_last at_one
  pub not_one : ¬ Lead 0x10 1 at_last at_one
  pub told : Tells 0x10 silent 0 (silence 1 6)
  pub always : Tells 0x10 silent 1 (silence 1 6)
  pub no_other_cycles : ¬ Tells 0x10 silent 0 (silence 1 7)
  pub no_other_steps : ¬ Tells 0x10 silent 0 (silence 2 6)
  pub no_other_registers : ¬ Tells 0x10 silent 0 (record (silence 1 6) { registers = 0 ∷ sid_registers silent })

pub record RepeatsAreWorked : Type 0 where
  pub repeats : Repeats 0x10 silent 0 1
  pub not_after_none : ¬ Repeats 0x10 silent 0 0
  pub at_once : IsFirstRepeat 0x10 silent 0 1
  pub no_later : ¬ IsFirstRepeat 0x10 silent 1 1
  pub no_longer : ¬ IsFirstRepeat 0x10 silent 0 2
  pub none_in_none : NeverRepeats 0x10 silent 0
  pub one_in_one : ¬ NeverRepeats 0x10 silent 1
  -- a byte of memory alone differs
  pub counts : ¬ Repeats 0x10 at_last 0 2
  pub none_in_two : NeverRepeats 0x10 at_last 2

pub record DearestAreWorked : Type 0 where
  pub first : IsDearest 0x10 silent 2 (Some (record { cycles = 6; call = 1 }))
  pub no_equal : ¬ IsDearest 0x10 silent 2 (Some (record { cycles = 6; call = 2 }))
  pub no_init : ¬ IsDearest 0x10 silent 2 (Some (record { cycles = 6; call = 0 }))
  pub no_other_cycles : ¬ IsDearest 0x10 silent 2 (Some (record { cycles = 7; call = 1 }))
  pub not_none : ¬ IsDearest 0x10 silent 1 None
  pub none_of_none : IsDearest 0x10 silent 0 None
  pub second : IsDearest 0x10 at_last 2 (Some (record { cycles = 14; call = 2 }))
  pub no_cheaper : ¬ IsDearest 0x10 at_last 2 (Some (record { cycles = 13; call = 1 }))
  pub not_of_one : ¬ IsDearest 0x10 at_last 1 (Some (record { cycles = 14; call = 2 }))

-- a play of 6 clock cycles, the first
abbrev pub first_of_six : Dearest
first_of_six = record { cycles = 6; call = 1 }

pub record ToldAreWorked : Type 0 where
  pub repeats : AreTold 0x10 silent 1 first_of_six (Some (record { from = 0; length = 1 }))
  pub not_in_none : ¬ AreTold 0x10 silent 0 first_of_six (Some (record { from = 0; length = 1 }))
  pub not_unrepeated : ¬ AreTold 0x10 silent 1 first_of_six None
  pub no_other_dearest : ¬ AreTold 0x10 silent 1 (record { cycles = 7; call = 1 }) (Some (record { from = 0; length = 1 }))
  pub unrepeated : AreTold 0x10 at_last 2 (record { cycles = 14; call = 2 }) None
  pub costs : AreCosts 0x10 at_last 2 (13 ∷ 14 ∷ [])
  pub no_steps : ¬ AreCosts 0x10 at_last 2 (3 ∷ 3 ∷ [])
  pub in_order : ¬ AreCosts 0x10 at_last 2 (14 ∷ 13 ∷ [])
  pub not_fewer : ¬ AreCosts 0x10 at_last 2 (13 ∷ [])
  pub not_more : ¬ AreCosts 0x10 at_last 2 (13 ∷ 14 ∷ 13 ∷ [])
