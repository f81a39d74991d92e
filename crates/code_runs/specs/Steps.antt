-- What a step of an instruction does, by its name: at which place it works, or which byte it reads, comes from its
-- mode. Each number that a result computes is a parameter with an equation. Source: the MOS 6502 programming manual.
use Rattle.std.specs.Prelude.{◌≡◌, ℕ, ◌+◌, ◌-◌, ◌*◌, ◌/◌, ◌%◌, ◌<◌, Bool, true, false}
use Rattle.std.specs.Prelude.{[], ◌∷◌, Some, nat_eq, nat_le, bit_and, bit_or, bit_xor}
use Rattle.cpu6502.specs.declared.cpu.Cpu.{Cpu}
use Rattle.cpu6502.specs.declared.memory.TheConstants.{MEMORY_SIZE}
use Rattle.cpu6502.specs.declared.mnemonic.Mnemonic.{Mnemonic}
use Rattle.cpu6502.specs.declared.mnemonic.Mnemonic.TheVariants.{Adc, And, Asl, Bit}
use Rattle.cpu6502.specs.declared.mnemonic.Mnemonic.TheVariants.{Clc, Cld, Cli, Clv, Cmp, Cpx, Cpy, Dec, Dex, Dey}
use Rattle.cpu6502.specs.declared.mnemonic.Mnemonic.TheVariants.{Eor, Inc, Inx, Iny, Jmp, Jsr, Lda, Ldx, Ldy, Lsr, Nop}
use Rattle.cpu6502.specs.declared.mnemonic.Mnemonic.TheVariants.{Ora, Pha, Php, Pla, Plp, Rol, Ror, Rti, Rts, Sbc, Sec}
use Rattle.cpu6502.specs.declared.mnemonic.Mnemonic.TheVariants.{Sed, Sei, Sta, Stx, Sty, Tax, Tay, Tsx, Txa, Txs, Tya}
use Rattle.cpu6502.specs.Registers.{one_if, stack_place, with_sign_and_zero, with_a, with_x, with_y}
use Rattle.cpu6502.specs.Branches.{is_taken}
use Rattle.cpu6502.specs.Logic.{tested}
use Rattle.cpu6502.specs.Arithmetic.{overflows}
use Rattle.cpu6502.specs.Shifts.{accumulator_effect}
use Rattle.cpu6502.specs.Stack.{status_of, with_status}
use Rattle.cpu6502.specs.Effects.{effect_of, effect}
use Rattle.code_runs.specs.Runs.{State, Does, Goes, Puts}
use Rattle.code_runs.specs.Calls.{Pulls}

-- registers with another program counter
abbrev pub jumped : Cpu → ℕ → Cpu
jumped cpu pc = record cpu { pc = pc }

-- the instruction at the program counter works at a place, and the next one is at next
pub record Works (state : State) (mnemonic : Mnemonic) (place next : ℕ) : Type 0 where
  pub is : effect state.at state.cpu ≡ effect_of mnemonic state.cpu.pc place state.at (jumped state.cpu next)
  pub away : 0 < state.cpu.pc

-- it reads a byte at the place at which it works
pub record Reads (state : State) (mnemonic : Mnemonic) (byte next : ℕ) : Type 0 where
  pub place : ℕ
  pub works : Works state mnemonic place next
  pub byte_is : state.at place ≡ byte

-- it works on the accumulator
pub record WorksOnA (state : State) (mnemonic : Mnemonic) (next : ℕ) : Type 0 where
  pub is : effect state.at state.cpu ≡ accumulator_effect mnemonic state.cpu.pc (jumped state.cpu next)
  pub away : 0 < state.cpu.pc

-- loads and stores, in any of their modes: a byte into a register with its N and Z, or a register into memory
pub record LoadSteps : Type 0 where
  pub lda : {state : State} {byte next : ℕ} → Reads state Lda byte next →
      Goes state (with_a (jumped state.cpu next) byte)
  pub ldx : {state : State} {byte next : ℕ} → Reads state Ldx byte next →
      Goes state (with_x (jumped state.cpu next) byte)
  pub ldy : {state : State} {byte next : ℕ} → Reads state Ldy byte next →
      Goes state (with_y (jumped state.cpu next) byte)
  pub sta : {state : State} {place next : ℕ} → Works state Sta place next →
      Puts state (jumped state.cpu next) place state.cpu.a
  pub stx : {state : State} {place next : ℕ} → Works state Stx place next →
      Puts state (jumped state.cpu next) place state.cpu.x
  pub sty : {state : State} {place next : ℕ} → Works state Sty place next →
      Puts state (jumped state.cpu next) place state.cpu.y

-- from one register to another
pub record TransferSteps : Type 0 where
  pub tax : {state : State} {place next : ℕ} → Works state Tax place next →
      Goes state (with_x (jumped state.cpu next) state.cpu.a)
  pub tay : {state : State} {place next : ℕ} → Works state Tay place next →
      Goes state (with_y (jumped state.cpu next) state.cpu.a)
  pub tsx : {state : State} {place next : ℕ} → Works state Tsx place next →
      Goes state (with_x (jumped state.cpu next) state.cpu.sp)
  pub txa : {state : State} {place next : ℕ} → Works state Txa place next →
      Goes state (with_a (jumped state.cpu next) state.cpu.x)
  pub tya : {state : State} {place next : ℕ} → Works state Tya place next →
      Goes state (with_a (jumped state.cpu next) state.cpu.y)
  pub txs : {state : State} {place next : ℕ} → Works state Txs place next →
      Goes state (record state.cpu { pc = next; sp = state.cpu.x })

-- AND, ORA, EOR and BIT, in any of their modes
pub record LogicSteps : Type 0 where
  pub and : {state : State} {byte result next : ℕ} → Reads state And byte next → bit_and state.cpu.a byte ≡ result →
      Goes state (with_a (jumped state.cpu next) result)
  pub ora : {state : State} {byte result next : ℕ} → Reads state Ora byte next → bit_or state.cpu.a byte ≡ result →
      Goes state (with_a (jumped state.cpu next) result)
  pub eor : {state : State} {byte result next : ℕ} → Reads state Eor byte next → bit_xor state.cpu.a byte ≡ result →
      Goes state (with_a (jumped state.cpu next) result)
  pub bit : {state : State} {byte next : ℕ} → Reads state Bit byte next →
      Goes state (tested (jumped state.cpu next) byte)

-- the registers with a sum in A, whose byte is low
abbrev pub summed : Cpu → ℕ → ℕ → ℕ → Cpu
summed cpu byte sum low = with_a (record cpu { v = overflows cpu.a byte low; c = nat_le 256 sum }) low

-- ADC and SBC, in any of their modes; the decimal flag is clear, else they stop. A difference is the sum with the
-- byte's complement
pub record SumSteps : Type 0 where
  pub adc : {state : State} {byte sum low next : ℕ} → Reads state Adc byte next → state.cpu.d ≡ false →
      state.cpu.a + byte + one_if state.cpu.c ≡ sum → sum % 256 ≡ low →
      Goes state (summed (jumped state.cpu next) byte sum low)
  pub sbc : {state : State} {byte complement sum low next : ℕ} → Reads state Sbc byte next → state.cpu.d ≡ false →
      255 - byte ≡ complement → state.cpu.a + complement + one_if state.cpu.c ≡ sum → sum % 256 ≡ low →
      Goes state (summed (jumped state.cpu next) complement sum low)

-- CMP, CPX and CPY, in any of their modes: flags alone change
pub record CompareSteps : Type 0 where
  pub cmp : {state : State} {byte rest next : ℕ} {carry : Bool} → Reads state Cmp byte next →
      nat_le byte state.cpu.a ≡ carry → (state.cpu.a + (256 - byte)) % 256 ≡ rest →
      Goes state (with_sign_and_zero (record state.cpu { pc = next; c = carry }) rest)
  pub cpx : {state : State} {byte rest next : ℕ} {carry : Bool} → Reads state Cpx byte next →
      nat_le byte state.cpu.x ≡ carry → (state.cpu.x + (256 - byte)) % 256 ≡ rest →
      Goes state (with_sign_and_zero (record state.cpu { pc = next; c = carry }) rest)
  pub cpy : {state : State} {byte rest next : ℕ} {carry : Bool} → Reads state Cpy byte next →
      nat_le byte state.cpu.y ≡ carry → (state.cpu.y + (256 - byte)) % 256 ≡ rest →
      Goes state (with_sign_and_zero (record state.cpu { pc = next; c = carry }) rest)

-- shifts and rotations: of a byte in memory, which is written once, and of A
pub record ShiftSteps : Type 0 where
  pub asl : {state : State} {place byte result next : ℕ} {carry : Bool} → Works state Asl place next →
      state.at place ≡ byte → 2 * byte % 256 ≡ result → nat_le 128 byte ≡ carry →
      Puts state (with_sign_and_zero (record state.cpu { pc = next; c = carry }) result) place result
  pub asl_a : {state : State} {result next : ℕ} {carry : Bool} → WorksOnA state Asl next →
      2 * state.cpu.a % 256 ≡ result → nat_le 128 state.cpu.a ≡ carry →
      Goes state (with_a (record state.cpu { pc = next; c = carry }) result)
  pub lsr : {state : State} {place byte result next : ℕ} {carry : Bool} → Works state Lsr place next →
      state.at place ≡ byte → byte / 2 ≡ result → nat_eq (byte % 2) 1 ≡ carry →
      Puts state (with_sign_and_zero (record state.cpu { pc = next; c = carry }) result) place result
  pub lsr_a : {state : State} {result next : ℕ} {carry : Bool} → WorksOnA state Lsr next → state.cpu.a / 2 ≡ result →
      nat_eq (state.cpu.a % 2) 1 ≡ carry → Goes state (with_a (record state.cpu { pc = next; c = carry }) result)
  pub rol : {state : State} {place byte result next : ℕ} {carry : Bool} → Works state Rol place next →
      state.at place ≡ byte → (2 * byte + one_if state.cpu.c) % 256 ≡ result → nat_le 128 byte ≡ carry →
      Puts state (with_sign_and_zero (record state.cpu { pc = next; c = carry }) result) place result
  pub rol_a : {state : State} {result next : ℕ} {carry : Bool} → WorksOnA state Rol next →
      (2 * state.cpu.a + one_if state.cpu.c) % 256 ≡ result → nat_le 128 state.cpu.a ≡ carry →
      Goes state (with_a (record state.cpu { pc = next; c = carry }) result)
  pub ror : {state : State} {place byte result next : ℕ} {carry : Bool} → Works state Ror place next →
      state.at place ≡ byte → byte / 2 + 128 * one_if state.cpu.c ≡ result → nat_eq (byte % 2) 1 ≡ carry →
      Puts state (with_sign_and_zero (record state.cpu { pc = next; c = carry }) result) place result
  pub ror_a : {state : State} {result next : ℕ} {carry : Bool} → WorksOnA state Ror next →
      state.cpu.a / 2 + 128 * one_if state.cpu.c ≡ result → nat_eq (state.cpu.a % 2) 1 ≡ carry →
      Goes state (with_a (record state.cpu { pc = next; c = carry }) result)

-- one up or down: a byte in memory, which is written once, X and Y
pub record CountSteps : Type 0 where
  pub inc : {state : State} {place byte result next : ℕ} → Works state Inc place next → state.at place ≡ byte →
      (byte + 1) % 256 ≡ result → Puts state (with_sign_and_zero (jumped state.cpu next) result) place result
  pub dec : {state : State} {place byte result next : ℕ} → Works state Dec place next → state.at place ≡ byte →
      (byte + 255) % 256 ≡ result → Puts state (with_sign_and_zero (jumped state.cpu next) result) place result
  pub inx : {state : State} {place result next : ℕ} → Works state Inx place next → (state.cpu.x + 1) % 256 ≡ result →
      Goes state (with_x (jumped state.cpu next) result)
  pub dex : {state : State} {place result next : ℕ} → Works state Dex place next → (state.cpu.x + 255) % 256 ≡ result →
      Goes state (with_x (jumped state.cpu next) result)
  pub iny : {state : State} {place result next : ℕ} → Works state Iny place next → (state.cpu.y + 1) % 256 ≡ result →
      Goes state (with_y (jumped state.cpu next) result)
  pub dey : {state : State} {place result next : ℕ} → Works state Dey place next → (state.cpu.y + 255) % 256 ≡ result →
      Goes state (with_y (jumped state.cpu next) result)

-- one flag cleared or set, and NOP
pub record FlagSteps : Type 0 where
  pub clc : {state : State} {place next : ℕ} → Works state Clc place next →
      Goes state (record state.cpu { pc = next; c = false })
  pub cld : {state : State} {place next : ℕ} → Works state Cld place next →
      Goes state (record state.cpu { pc = next; d = false })
  pub cli : {state : State} {place next : ℕ} → Works state Cli place next →
      Goes state (record state.cpu { pc = next; i = false })
  pub clv : {state : State} {place next : ℕ} → Works state Clv place next →
      Goes state (record state.cpu { pc = next; v = false })
  pub sec : {state : State} {place next : ℕ} → Works state Sec place next →
      Goes state (record state.cpu { pc = next; c = true })
  pub sed : {state : State} {place next : ℕ} → Works state Sed place next →
      Goes state (record state.cpu { pc = next; d = true })
  pub sei : {state : State} {place next : ℕ} → Works state Sei place next →
      Goes state (record state.cpu { pc = next; i = true })
  pub nop : {state : State} {place next : ℕ} → Works state Nop place next → Goes state (jumped state.cpu next)

-- JMP in both its modes, a call, which writes the address of its own last byte, the high byte first, and the returns
pub record JumpSteps : Type 0 where
  pub jmp : {state : State} {place next : ℕ} → Works state Jmp place next → Goes state (jumped state.cpu place)
  pub jsr : {state : State} {place next last high low upper lower sp : ℕ} → Works state Jsr place next →
      (state.cpu.pc + 2) % MEMORY_SIZE ≡ last → last / 256 ≡ high → last % 256 ≡ low →
      stack_place state.cpu.sp ≡ upper → stack_place (state.cpu.sp + 255) ≡ lower → (state.cpu.sp + 254) % 256 ≡ sp →
      Does state (record {
        cpu = record state.cpu { pc = place; sp = sp };
        writes = (record { place = upper; value = high }) ∷ (record { place = lower; value = low }) ∷ [];
      })
  pub rts : {state : State} {place low high back sp next : ℕ} → Works state Rts place next →
      Pulls state.at state.cpu.sp low high → (low + 256 * high + 1) % MEMORY_SIZE ≡ back →
      (state.cpu.sp + 2) % 256 ≡ sp → Goes state (record state.cpu { pc = back; sp = sp })
  pub rti : {state : State} {place flags back sp next : ℕ} → Works state Rti place next →
      state.at (stack_place (state.cpu.sp + 1)) ≡ flags →
      state.at (stack_place (state.cpu.sp + 2)) + 256 * state.at (stack_place (state.cpu.sp + 3)) ≡ back →
      (state.cpu.sp + 3) % 256 ≡ sp → Goes state (with_status (record state.cpu { pc = back; sp = sp }) flags)

-- pushes and pulls, of A and of the flags
pub record StackSteps : Type 0 where
  pub pha : {state : State} {place next q sp : ℕ} → Works state Pha place next → stack_place state.cpu.sp ≡ q →
      (state.cpu.sp + 255) % 256 ≡ sp → Puts state (record state.cpu { pc = next; sp = sp }) q state.cpu.a
  pub php : {state : State} {place next q sp byte : ℕ} → Works state Php place next → stack_place state.cpu.sp ≡ q →
      (state.cpu.sp + 255) % 256 ≡ sp → status_of state.cpu ≡ byte →
      Puts state (record state.cpu { pc = next; sp = sp }) q byte
  pub pla : {state : State} {place next byte sp : ℕ} → Works state Pla place next →
      state.at (stack_place (state.cpu.sp + 1)) ≡ byte → (state.cpu.sp + 1) % 256 ≡ sp →
      Goes state (with_a (record state.cpu { pc = next; sp = sp }) byte)
  pub plp : {state : State} {place next byte sp : ℕ} → Works state Plp place next →
      state.at (stack_place (state.cpu.sp + 1)) ≡ byte → (state.cpu.sp + 1) % 256 ≡ sp →
      Goes state (with_status (record state.cpu { pc = next; sp = sp }) byte)

-- branches: to their place where they are taken, else to the next instruction
pub record BranchSteps : Type 0 where
  pub taken : {state : State} {mn : Mnemonic} {place next : ℕ} → Works state mn place next →
      is_taken mn state.cpu ≡ Some true → Goes state (jumped state.cpu place)
  pub passed : {state : State} {mn : Mnemonic} {place next : ℕ} → Works state mn place next →
      is_taken mn state.cpu ≡ Some false → Goes state (jumped state.cpu next)
