-- Jumps, the call, and the returns. Source: the MOS 6502 programming manual.
use Rattle.std.specs.Prelude.{ℕ, ◌+◌, ◌*◌, ◌/◌, ◌%◌, [], ◌∷◌, Option, Some, None}
use Rattle.cpu6502.specs.declared.mnemonic.Mnemonic.{Mnemonic}
use Rattle.cpu6502.specs.declared.mnemonic.Mnemonic.TheVariants.{Jmp, Jsr, Rts, Rti}
use Rattle.cpu6502.specs.declared.cpu.Cpu.{Cpu}
use Rattle.cpu6502.specs.declared.effect.Effect.{Effect}
use Rattle.cpu6502.specs.declared.memory.TheConstants.{MEMORY_SIZE}
use Rattle.cpu6502.specs.Registers.{stack_place, quiet}
use Rattle.cpu6502.specs.Stack.{with_status}

-- a call pushes the address of its own last byte, the high byte first
abbrev pub call_effect : Cpu → ℕ → ℕ → Effect
call_effect cpu last place = record {
  cpu = record cpu { sp = (cpu.sp + 254) % 256; pc = place };
  writes = (record { place = stack_place cpu.sp; value = last / 256 }) ∷ (record
      { place = stack_place (cpu.sp + 255); value = last % 256 }) ∷ [];
}

-- the registers after a pull of two bytes, the low one first: the program counter is one more than their number
abbrev pub after_return : (ℕ → ℕ) → Cpu → Cpu
after_return at cpu = record cpu {
  sp = (cpu.sp + 2) % 256;
  pc = (at (stack_place (cpu.sp + 1)) + 256 * at (stack_place (cpu.sp + 2)) + 1) % MEMORY_SIZE;
}

-- the registers after a pull of the flags and of an address, to which nothing is added
abbrev pub after_interrupt : (ℕ → ℕ) → Cpu → Cpu
after_interrupt at cpu =
    with_status
    (record cpu {
      sp = (cpu.sp + 3) % 256;
      pc = at (stack_place (cpu.sp + 2)) + 256 * at (stack_place (cpu.sp + 3));
    })
    (at (stack_place (cpu.sp + 1)))

-- what JMP and JSR to a place do, and RTS and RTI; own is the place of the opcode, so that own + 2 is the last byte
-- of a JSR; none for any other name
abbrev pub jump_effect : Mnemonic → ℕ → ℕ → (ℕ → ℕ) → Cpu → Option Effect
jump_effect Jmp own place at cpu = Some (quiet (record cpu { pc = place }))
jump_effect Jsr own place at cpu = Some (call_effect cpu ((own + 2) % MEMORY_SIZE) place)
jump_effect Rts own place at cpu = Some (quiet (after_return at cpu))
jump_effect Rti own place at cpu = Some (quiet (after_interrupt at cpu))
jump_effect _ own place at cpu = None
