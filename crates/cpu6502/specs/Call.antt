-- A call of machine code: how a machine enters it, what it is to return, and how a call that does not return ends.
-- JSR and RTS are those of the MOS 6502 programming manual; the return address $FFFF, which RTS makes 0, is this
-- project's own.
use Rattle.std.specs.Prelude.{◌≡◌, ℕ, zero, suc, ◌+◌, ◌*◌, ◌%◌, ◌<◌, ◌≤◌, List, [], ◌∷◌, ◌++◌}
use Rattle.std.specs.Prelude.{Result, Ok, Err}
use Rattle.cpu6502.specs.declared.effect.Write.{Write}
use Rattle.cpu6502.specs.declared.effect.Effect.{Effect}
use Rattle.cpu6502.specs.declared.machine.Machine.{Machine}
use Rattle.cpu6502.specs.declared.machine.TheConstants.{RETURN_BYTE}
use Rattle.cpu6502.specs.declared.machine.CallCost.{CallCost}
use Rattle.cpu6502.specs.declared.stop.Stop.{Stop}
use Rattle.cpu6502.specs.declared.stop.CallStop.{CallStop}
use Rattle.cpu6502.specs.declared.stop.CallStop.TheVariants.{Stopped, Budget}
use Rattle.cpu6502.specs.Effects.{stack_place}
use Rattle.cpu6502.specs.Step.{written, next_effect, next_cycles, step}

-- what follows a step, or its stop
abbrev pub after_step : Result Machine Stop → (Machine → Result Machine Stop) → Result Machine Stop
after_step (Ok machine) go = go machine
after_step (Err stop) go = Err stop

-- the machine after n steps, or the stop that one of them meets
abbrev pub run : ℕ → Machine → Result Machine Stop
run zero machine = Ok machine
run (suc n) machine = after_step (step machine) (run n)

-- the two writes of a caller that pushes $FF and $FF
abbrev pub return_address : ℕ → List Write
return_address sp =
    (record { place = stack_place sp; value = RETURN_BYTE }) ∷ (record
    { place = stack_place (sp + 255); value = RETURN_BYTE }) ∷ []

-- a machine as a call begins: $FF and $FF pushed, a in the accumulator, the address in the program counter
abbrev pub entered : Machine → ℕ → ℕ → Machine
entered machine address a = record {
  cpu = record machine.cpu { a = a; sp = (machine.cpu.sp + 254) % 256; pc = address };
  memory = written machine.memory (return_address machine.cpu.sp);
}

-- a call from the first machine is back in the second: at address 0, with the stack pointer of the first
pub record HasReturned (machine after : Machine) : Type 0 where
  pub at_zero : after.cpu.pc ≡ 0
  pub same_stack : after.cpu.sp ≡ machine.cpu.sp

-- a call is not back before it has made this many steps: the machine that it is entered at, after 0 steps, has not
-- returned, nor has that after 1 step, and so on up to one less than this number
pub record IsOutFor (machine : Machine) (address a steps : ℕ) : Type 0 where
  pub out : (k : ℕ) (between : Machine) → k < steps → run k (entered machine address a) ≡ Ok between →
      HasReturned machine between → ⊥

-- a call at an address, with a in the accumulator, returns after exactly this many steps, in the last machine
pub record Called (machine : Machine) (address a steps : ℕ) (after : Machine) : Type 0 where
  pub runs : run steps (entered machine address a) ≡ Ok after
  pub returned : HasReturned machine after
  pub first : IsOutFor machine address a steps

-- a call makes this many steps, and its next one meets a stop, in this machine; no machine on the way has returned,
-- nor has this one
pub record MeetsStop (machine : Machine) (address a steps : ℕ) (stop : Stop) (after : Machine) : Type 0 where
  pub runs : run steps (entered machine address a) ≡ Ok after
  pub stops : step after ≡ Err stop
  pub out : IsOutFor machine address a (steps + 1)

-- a call has made this many steps and has not returned, and is in this machine
pub record IsUnderWay (machine : Machine) (address a steps : ℕ) (after : Machine) : Type 0 where
  pub runs : run steps (entered machine address a) ≡ Ok after
  pub out : IsOutFor machine address a (steps + 1)

-- why a call with this budget of steps does not return: it meets a stop within the budget, or the budget is used up
abbrev pub FailsBy : Machine → ℕ → ℕ → ℕ → CallStop → Machine → Type 0
FailsBy machine address a budget (Stopped stop) after =
    (steps : ℕ) × (steps < budget) × MeetsStop machine address a steps stop after
FailsBy machine address a budget Budget after = IsUnderWay machine address a budget after

-- what an instruction writes; a stop writes nothing
abbrev pub writes_by : Result Effect Stop → List Write
writes_by (Ok done) = done.writes
writes_by (Err stop) = []

-- what follows a step in a list of writes; nothing follows a stop
abbrev pub writes_after : Result Machine Stop → (Machine → List Write) → List Write
writes_after (Ok machine) go = go machine
writes_after (Err stop) go = []

-- what a machine writes in its next n steps, in order; a stop ends them
abbrev pub writes_in : ℕ → Machine → List Write
writes_in zero machine = []
writes_in (suc n) machine = writes_by (next_effect machine) ++ writes_after (step machine) (writes_in n)

-- the clock cycles of what follows a step; nothing follows a stop
abbrev pub cycles_after : Result Machine Stop → (Machine → ℕ) → ℕ
cycles_after (Ok machine) go = go machine
cycles_after (Err stop) go = 0

-- the clock cycles of a machine's next n steps; a stop ends them
abbrev pub cycles_in : ℕ → Machine → ℕ
cycles_in zero machine = 0
cycles_in (suc n) machine = next_cycles machine + cycles_after (step machine) (cycles_in n)

-- the clock cycles of a call that returns after this many steps, from the first instruction at its address to its
-- return; those of the caller, which pushes and jumps, are none of them
abbrev pub call_cycles : Machine → ℕ → ℕ → ℕ → ℕ
call_cycles machine address a steps = cycles_in steps (entered machine address a)

-- they are at most 7 for each step
abbrev pub StepsTakeFewCycles : Type 0
StepsTakeFewCycles = (machine : Machine) (address a steps : ℕ) → call_cycles machine address a steps ≤ 7 * steps

-- these steps and their clock cycles
abbrev pub cost_of : Machine → ℕ → ℕ → ℕ → CallCost
cost_of machine address a steps = record { steps = steps; cycles = call_cycles machine address a steps }
