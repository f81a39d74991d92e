-- How far a branch reaches. Source: the MOS 6502 programming manual.
use Rattle.std.specs.Prelude.{◌≡◌, ◌≢◌, ℕ, ◌+◌, ◌-◌, ◌*◌, ◌%◌, ◌<◌, ◌≤◌, Option}
use Rattle.std.specs.Prelude.{Some, None, nat_lt, if◌then◌else◌}
use Rattle.cpu6502.specs.declared.memory.TheConstants.{MEMORY_SIZE}
use Rattle.cpu6502.specs.Effects.{displacement}

-- what has to be added, mod 65,536, to the address after the branch at pc to come to the target
abbrev pub way_from : ℕ → ℕ → ℕ
way_from pc target = (target + 2 * MEMORY_SIZE - (pc + 2)) % MEMORY_SIZE

-- the displacement byte that leads to the target from a branch at pc: a way of 0 to 127 is its own byte, one of -128
-- to -1 has the bytes from 128 on; none where it is further
abbrev pub branch_byte : ℕ → ℕ → Option ℕ
branch_byte pc target =
    if nat_lt (way_from pc target) 128 then Some (way_from pc target)
    else if nat_lt (way_from pc target) 65408 then None
    else Some (way_from pc target - 65280)

-- the displacement byte is one that leads to the target
abbrev pub BranchesReach : Type 0
BranchesReach =
    (pc target byte : ℕ) → pc ≤ MEMORY_SIZE → target < MEMORY_SIZE → branch_byte pc target ≡ Some byte →
    (byte < 256)
    × ((pc + 2 + displacement byte) % MEMORY_SIZE ≡ target)

-- and where there is none, no displacement leads there
abbrev pub FarIsOutOfReach : Type 0
FarIsOutOfReach =
    (pc target byte : ℕ) → pc ≤ MEMORY_SIZE → target < MEMORY_SIZE → branch_byte pc target ≡ None → byte < 256 →
    (pc + 2 + displacement byte) % MEMORY_SIZE ≢ target

-- a branch depends on distances alone: as far apart at another place, it has the same byte, or none
abbrev pub BranchesKeepDistance : Type 0
BranchesKeepDistance =
    (pc target pc' target' : ℕ) → pc ≤ MEMORY_SIZE → pc' ≤ MEMORY_SIZE → target < MEMORY_SIZE →
    target' < MEMORY_SIZE →
    (target + pc') % MEMORY_SIZE ≡ (target' + pc) % MEMORY_SIZE → branch_byte pc target ≡ branch_byte pc' target'

-- a branch over n bytes to what stands after them
abbrev pub BranchesReachAfter : Type 0
BranchesReachAfter = (pc n : ℕ) → pc ≤ MEMORY_SIZE → n ≤ 127 → branch_byte pc ((pc + 2 + n) % MEMORY_SIZE) ≡ Some n

-- a branch back over n bytes to what stands before them
abbrev pub BranchesReachBefore : Type 0
BranchesReachBefore =
    (start n : ℕ) → start + n ≤ MEMORY_SIZE → n ≤ 126 →
    branch_byte (start + n) (start % MEMORY_SIZE) ≡ Some (254 - n)
