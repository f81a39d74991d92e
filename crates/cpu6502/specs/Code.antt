-- The machines that there are, and the bytes that their memory holds. Source: the sizes of the MOS 6502 programming
-- manual.
use Rattle.std.specs.Prelude.{◌≡◌, ℕ, zero, suc, ◌+◌, ◌<◌, List, [], ◌∷◌, length, slice_index, All}
use Rattle.cpu6502.specs.declared.machine.Machine.{Machine}
use Rattle.cpu6502.specs.declared.memory.TheConstants.{MEMORY_SIZE}

-- the machines that there are: 65,536 bytes of memory, registers of one byte, and an address as the program counter
pub record IsMachine (machine : Machine) : Type 0 where
  pub size : length machine.memory ≡ MEMORY_SIZE
  pub bytes : All (λ byte. byte < 256) machine.memory
  pub a : machine.cpu.a < 256
  pub x : machine.cpu.x < 256
  pub y : machine.cpu.y < 256
  pub sp : machine.cpu.sp < 256
  pub pc : machine.cpu.pc < MEMORY_SIZE

-- a memory holds these bytes from an address on, one place after the other; places are not taken mod 65,536, so bytes
-- that would go beyond the last place are held by no memory of that size
pub record Holds (memory : List ℕ) (address : ℕ) (bytes : List ℕ) : Type 0 where
  pub byte : (k : ℕ) → k < length bytes → slice_index memory (address + k) ≡ slice_index bytes k

-- n bytes from a place on, one place after the other; places are not taken mod 65,536
abbrev pub bytes_at : (ℕ → ℕ) → ℕ → ℕ → List ℕ
bytes_at at place zero = []
bytes_at at place (suc n) = at place ∷ bytes_at at (place + 1) n
