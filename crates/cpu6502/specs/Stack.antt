-- Pushes and pulls of A and of the flags. The stack wraps in page 1. Source: the MOS 6502 programming manual.
use Rattle.std.specs.Prelude.{ℕ, ◌+◌, ◌*◌, ◌/◌, ◌%◌, Option, Some, None, nat_eq}
use Rattle.cpu6502.specs.declared.mnemonic.Mnemonic.{Mnemonic}
use Rattle.cpu6502.specs.declared.mnemonic.Mnemonic.TheVariants.{Pha, Php, Pla, Plp}
use Rattle.cpu6502.specs.declared.cpu.Cpu.{Cpu}
use Rattle.cpu6502.specs.declared.effect.Effect.{Effect}
use Rattle.cpu6502.specs.Registers.{one_if, stack_place, with_a, quiet, storing}

-- the flags as a byte: N V 1 1 D I Z C from bit 7 to bit 0
abbrev pub status_of : Cpu → ℕ
status_of cpu =
    128 * one_if cpu.n + 64 * one_if cpu.v + 48 + 8 * one_if cpu.d + 4 * one_if cpu.i + 2 * one_if cpu.z + one_if
    cpu.c

-- the registers with the flags of a byte; bits 5 and 4 are no flags
abbrev pub with_status : Cpu → ℕ → Cpu
with_status cpu byte = record cpu {
  n = nat_eq (byte / 128 % 2) 1;
  v = nat_eq (byte / 64 % 2) 1;
  d = nat_eq (byte / 8 % 2) 1;
  i = nat_eq (byte / 4 % 2) 1;
  z = nat_eq (byte / 2 % 2) 1;
  c = nat_eq (byte % 2) 1;
}

-- the effect of a push
abbrev pub push_effect : Cpu → ℕ → Effect
push_effect cpu byte = storing (record cpu { sp = (cpu.sp + 255) % 256 }) (stack_place cpu.sp) byte

-- the registers after a pull of this many bytes, but for what is pulled: the stack pointer alone moves
abbrev pub after_pull : Cpu → ℕ → Cpu
after_pull cpu count = record cpu { sp = (cpu.sp + count) % 256 }

-- what PHA, PHP, PLA and PLP do: a push writes where the stack pointer is and then lowers it, a pull raises it and
-- then reads; none for any other name
abbrev pub stack_effect : Mnemonic → (ℕ → ℕ) → Cpu → Option Effect
stack_effect Pha at cpu = Some (push_effect cpu cpu.a)
stack_effect Php at cpu = Some (push_effect cpu (status_of cpu))
stack_effect Pla at cpu = Some (quiet (with_a (after_pull cpu 1) (at (stack_place (cpu.sp + 1)))))
stack_effect Plp at cpu = Some (quiet (with_status (after_pull cpu 1) (at (stack_place (cpu.sp + 1)))))
stack_effect _ at cpu = None
