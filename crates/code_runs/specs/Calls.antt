-- What a run on a function memory says of a machine, whose memory is a list: where it writes, what it leaves, how many
-- clock cycles it takes, and that it is a call.
use Rattle.std.specs.Prelude.{◌≡◌, ◌≢◌, ℕ, ◌+◌, ◌%◌, ◌<◌, Bool, IsTrue, length, slice_index, Ok, All}
use Rattle.cpu6502.specs.declared.effect.Write.{Write}
use Rattle.cpu6502.specs.declared.machine.Machine.{Machine}
use Rattle.cpu6502.specs.declared.memory.TheConstants.{MEMORY_SIZE}
use Rattle.cpu6502.specs.Registers.{stack_place}
use Rattle.cpu6502.specs.Step.{written}
use Rattle.cpu6502.specs.Call.{run, return_address, entered, Called, writes_in, cycles_in, call_cycles}
use Rattle.code_runs.specs.Runs.{State, view, Leads, cycles_from}

-- the places that a test picks out
abbrev pub In : (ℕ → Bool) → ℕ → Type 0
In places q = IsTrue (places q)

-- the places are among the 65,536 of a memory
pub record IsBelow (W : ℕ → Type 0) : Type 0 where
  pub below : (q : ℕ) → W q → q < MEMORY_SIZE

-- a machine is at the end of a run from its view after n steps, none of which began at address 0, and which wrote at
-- the run's places alone
pub record Arrives (W : ℕ → Type 0) (n : ℕ) (machine : Machine) (end : State) : Type 0 where
  pub after : Machine
  pub runs : run n machine ≡ Ok after
  pub seen : view after ≡ end
  pub size : length after.memory ≡ MEMORY_SIZE
  pub away : (k : ℕ) (between : Machine) → k < n → run k machine ≡ Ok between → 0 < between.cpu.pc
  pub inside : All (λ (write : Write). W write.place) (writes_in n machine)
  pub takes : cycles_in n machine ≡ cycles_from n (view machine)

-- the machine goes where the run goes
abbrev pub MachinesFollowRuns : Type 0
MachinesFollowRuns =
    (places : ℕ → Bool) → IsBelow (In places) → (n : ℕ) (machine : Machine) (end : State) →
    length machine.memory ≡ MEMORY_SIZE → Leads (In places) n (view machine) end → Arrives (In places) n machine end

-- a place at which a run may not write has the byte that it had
abbrev pub RunsStayInside : Type 0
RunsStayInside =
    (places : ℕ → Bool) (n : ℕ) (state after : State) → Leads (In places) n state after → (q : ℕ) →
    (In places q → ⊥) → after.at q ≡ state.at q

-- a call leads to a state in n steps, and writes at these places alone
pub record CallsTo (W : ℕ → Type 0) (machine : Machine) (address a n : ℕ) (end : State) : Type 0 where
  pub after : Machine
  pub called : Called machine address a n after
  pub seen : view after ≡ end
  pub size : length after.memory ≡ MEMORY_SIZE
  pub inside : All (λ (write : Write). W write.place) (writes_in n (entered machine address a))
  pub takes : call_cycles machine address a n ≡ cycles_from n (view (entered machine address a))

-- a run from the entry of a call to address 0, with the stack pointer back, is that call
abbrev pub RunsAreCalls : Type 0
RunsAreCalls =
    (places : ℕ → Bool) → IsBelow (In places) → (machine : Machine) (address a n : ℕ) (end : State) →
    length machine.memory ≡ MEMORY_SIZE → Leads (In places) n (view (entered machine address a)) end →
    end.cpu.pc ≡ 0 → end.cpu.sp ≡ machine.cpu.sp → CallsTo (In places) machine address a n end

-- the two bytes that a return pulls, the low one first
pub record Pulls (at : ℕ → ℕ) (sp low high : ℕ) : Type 0 where
  pub low_is : at (stack_place (sp + 1)) ≡ low
  pub high_is : at (stack_place (sp + 2)) ≡ high

-- the memory that a call begins with: a return pulls the address before 0, and every place but the two that hold it
-- has its byte
pub record IsEntry (machine : Machine) (at : ℕ → ℕ) : Type 0 where
  pub pulls : Pulls at ((machine.cpu.sp + 254) % 256) 255 255
  pub kept : (q : ℕ) → q ≢ stack_place machine.cpu.sp → q ≢ stack_place (machine.cpu.sp + 255)
      → at q ≡ slice_index machine.memory q

abbrev pub CallsBeginSo : Type 0
CallsBeginSo =
    (machine : Machine) → length machine.memory ≡ MEMORY_SIZE →
    IsEntry machine (slice_index (written machine.memory (return_address machine.cpu.sp)))
