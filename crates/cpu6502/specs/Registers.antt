-- The words that the effects of instructions share: registers with a byte and its flags, the stack, and what is
-- written. Source: the MOS 6502 programming manual.
use Rattle.std.specs.Prelude.{ℕ, ◌+◌, ◌%◌, Bool, [], ◌∷◌, nat_eq, nat_le, if◌then◌else◌}
use Rattle.cpu6502.specs.declared.cpu.Cpu.{Cpu}
use Rattle.cpu6502.specs.declared.effect.Effect.{Effect}

-- a flag as a number
abbrev pub one_if : Bool → ℕ
one_if flag = if flag then 1 else 0

-- the place of the stack that a stack pointer names, in page 1
abbrev pub stack_place : ℕ → ℕ
stack_place sp = 256 + sp % 256

-- the registers with N and Z of a result
abbrev pub with_sign_and_zero : Cpu → ℕ → Cpu
with_sign_and_zero cpu byte = record cpu { n = nat_le 128 byte; z = nat_eq byte 0 }

-- the registers with a byte in A, and its N and Z
abbrev pub with_a : Cpu → ℕ → Cpu
with_a cpu byte = with_sign_and_zero (record cpu { a = byte }) byte

-- the registers with a byte in X, and its N and Z
abbrev pub with_x : Cpu → ℕ → Cpu
with_x cpu byte = with_sign_and_zero (record cpu { x = byte }) byte

-- the registers with a byte in Y, and its N and Z
abbrev pub with_y : Cpu → ℕ → Cpu
with_y cpu byte = with_sign_and_zero (record cpu { y = byte }) byte

-- an effect that writes nothing
abbrev pub quiet : Cpu → Effect
quiet cpu = record { cpu = cpu; writes = [] }

-- an effect that writes one byte
abbrev pub storing : Cpu → ℕ → ℕ → Effect
storing cpu place byte = record { cpu = cpu; writes = (record { place = place; value = byte }) ∷ [] }
