-- What a plain instruction does doesn't depend on where it stands.
use Rattle.std.proofs.Common.{◌≡◌, ℕ, Bool, true, false, Option, None, refl}
use Rattle.std.proofs.lemmas.Bool.{false≢true}
use Rattle.std.specs.Option.{option_map}
use Rattle.cpu6502.specs.declared.cpu.Cpu.{Cpu}
use Rattle.cpu6502.specs.declared.effect.Effect.{Effect}
use Rattle.cpu6502.specs.declared.mnemonic.Mnemonic.{Mnemonic}
use Rattle.cpu6502.specs.declared.mnemonic.Mnemonic.TheVariants.{Adc, And, Asl, Bcc, Bcs, Beq, Bit, Bmi, Bne, Bpl, Bvc}
use Rattle.cpu6502.specs.declared.mnemonic.Mnemonic.TheVariants.{Bvs}
use Rattle.cpu6502.specs.declared.mnemonic.Mnemonic.TheVariants.{Clc, Clv, Cmp, Cpx, Cpy}
use Rattle.cpu6502.specs.declared.mnemonic.Mnemonic.TheVariants.{Dec, Dex, Dey, Eor, Inc, Inx, Iny, Lda}
use Rattle.cpu6502.specs.declared.mnemonic.Mnemonic.TheVariants.{Ldx, Ldy, Lsr, Nop, Ora, Rol}
use Rattle.cpu6502.specs.declared.mnemonic.Mnemonic.TheVariants.{Ror, Sbc, Sec, Sta, Stx, Sty}
use Rattle.cpu6502.specs.declared.mnemonic.Mnemonic.TheVariants.{Tax, Tay, Txa, Tya}
use Rattle.cpu6502.specs.Opcodes.{length_of, is_accumulator}
use Rattle.cpu6502.specs.Branches.{is_taken}
use Rattle.cpu6502.specs.Cycles.{is_paged}
use Rattle.code_runs.specs.Code.{place_of}
use Rattle.cpu6502.specs.Shifts.{accumulator_effect}
use Rattle.cpu6502.specs.Effects.{effect_of, or_effect}
use Rattle.scopes.specs.Steps.{unless_stopped}
use Rattle.scopes.specs.Plain.{is_plain}
use Rattle.scope_lines.specs.Instructions.{alone_mode}

-- an effect with the program counter somewhere
abbrev pub at_pc : ℕ → Effect → Effect
at_pc pc effect = record { cpu = record effect.cpu { pc = pc }; writes = effect.writes }

-- whether it writes a byte in memory
abbrev pub writes_byte : Mnemonic → Bool
writes_byte Asl = true
writes_byte Dec = true
writes_byte Inc = true
writes_byte Lsr = true
writes_byte Rol = true
writes_byte Ror = true
writes_byte Sta = true
writes_byte Stx = true
writes_byte Sty = true
writes_byte _ = false

-- Where it stands, and where its operand does if it doesn't write there, is no matter: what counts is the operand's
-- byte.
pub plain_effect : (mnemonic : Mnemonic) (own pc place place' : ℕ) (at at' : ℕ → ℕ) (cpu : Cpu) →
    is_plain mnemonic ≡ true → at place ≡ at' place' → (writes_byte mnemonic ≡ true → place ≡ place') →
    unless_stopped (effect_of mnemonic own place at (record cpu { pc = pc }))
    ≡ option_map (at_pc pc) (unless_stopped (effect_of mnemonic 0 place' at' cpu))
plain_effect Adc own pc place place' at at' cpu plain byte same = by_decimal cpu.d refl
  where
    by_decimal : (d : Bool) → cpu.d ≡ d →
        unless_stopped (effect_of Adc own place at (record cpu { pc = pc }))
        ≡ option_map (at_pc pc) (unless_stopped (effect_of Adc 0 place' at' cpu))
    by_decimal true e = rw e refl
    by_decimal false e = rw (e, byte) refl
plain_effect And own pc place place' at at' cpu plain byte same = rw byte refl
plain_effect Asl own pc place place' at at' cpu plain byte same = rw (byte, same refl) refl
plain_effect Bit own pc place place' at at' cpu plain byte same = rw byte refl
plain_effect Clc own pc place place' at at' cpu plain byte same = refl
plain_effect Clv own pc place place' at at' cpu plain byte same = refl
plain_effect Cmp own pc place place' at at' cpu plain byte same = rw byte refl
plain_effect Cpx own pc place place' at at' cpu plain byte same = rw byte refl
plain_effect Cpy own pc place place' at at' cpu plain byte same = rw byte refl
plain_effect Dec own pc place place' at at' cpu plain byte same = rw (byte, same refl) refl
plain_effect Dex own pc place place' at at' cpu plain byte same = refl
plain_effect Dey own pc place place' at at' cpu plain byte same = refl
plain_effect Eor own pc place place' at at' cpu plain byte same = rw byte refl
plain_effect Inc own pc place place' at at' cpu plain byte same = rw (byte, same refl) refl
plain_effect Inx own pc place place' at at' cpu plain byte same = refl
plain_effect Iny own pc place place' at at' cpu plain byte same = refl
plain_effect Lda own pc place place' at at' cpu plain byte same = rw byte refl
plain_effect Ldx own pc place place' at at' cpu plain byte same = rw byte refl
plain_effect Ldy own pc place place' at at' cpu plain byte same = rw byte refl
plain_effect Lsr own pc place place' at at' cpu plain byte same = rw (byte, same refl) refl
plain_effect Nop own pc place place' at at' cpu plain byte same = refl
plain_effect Ora own pc place place' at at' cpu plain byte same = rw byte refl
plain_effect Rol own pc place place' at at' cpu plain byte same = rw (byte, same refl) refl
plain_effect Ror own pc place place' at at' cpu plain byte same = rw (byte, same refl) refl
plain_effect Sbc own pc place place' at at' cpu plain byte same = by_decimal cpu.d refl
  where
    by_decimal : (d : Bool) → cpu.d ≡ d →
        unless_stopped (effect_of Sbc own place at (record cpu { pc = pc }))
        ≡ option_map (at_pc pc) (unless_stopped (effect_of Sbc 0 place' at' cpu))
    by_decimal true e = rw e refl
    by_decimal false e = rw (e, byte) refl
plain_effect Sec own pc place place' at at' cpu plain byte same = refl
plain_effect Sta own pc place place' at at' cpu plain byte same = rw (same refl) refl
plain_effect Stx own pc place place' at at' cpu plain byte same = rw (same refl) refl
plain_effect Sty own pc place place' at at' cpu plain byte same = rw (same refl) refl
plain_effect Tax own pc place place' at at' cpu plain byte same = refl
plain_effect Tay own pc place place' at at' cpu plain byte same = refl
plain_effect Txa own pc place place' at at' cpu plain byte same = refl
plain_effect Tya own pc place place' at at' cpu plain byte same = refl
plain_effect _ own pc place place' at at' cpu plain byte same = absurd (false≢true plain)

-- ---- without an operand

-- an instruction that is no shift isn't one of the accumulator
pub alone_is : (mnemonic : Mnemonic) (own : ℕ) (cpu : Cpu) (other : Option Effect) →
    is_accumulator (alone_mode mnemonic) ≡ false →
    or_effect (unless_stopped (accumulator_effect mnemonic own cpu)) other ≡ other
alone_is Asl own cpu other memory = absurd (cc)
alone_is Lsr own cpu other memory = absurd (cc)
alone_is Rol own cpu other memory = absurd (cc)
alone_is Ror own cpu other memory = absurd (cc)
alone_is _ own cpu other memory = refl

-- a shift of A is the same wherever it stands
pub shift_is : (mnemonic : Mnemonic) (own pc : ℕ) (cpu : Cpu) (other : Option Effect) →
    is_accumulator (alone_mode mnemonic) ≡ true →
    unless_stopped (accumulator_effect mnemonic own (record cpu { pc = pc }))
    ≡ option_map (at_pc pc) (or_effect (unless_stopped (accumulator_effect mnemonic 0 cpu)) other)
shift_is Asl own pc cpu other memory = refl
shift_is Lsr own pc cpu other memory = refl
shift_is Rol own pc cpu other memory = refl
shift_is Ror own pc cpu other memory = refl
shift_is _ own pc cpu other memory = absurd (cc)

-- it has one byte, and works at no place
pub alone_one : (mnemonic : Mnemonic) → length_of (alone_mode mnemonic) ≡ 1
alone_one Asl = refl
alone_one Lsr = refl
alone_one Rol = refl
alone_one Ror = refl
alone_one _ = refl

pub alone_nowhere : (mnemonic : Mnemonic) → is_accumulator (alone_mode mnemonic) ≡ false → (at : ℕ → ℕ) (cpu : Cpu) →
    place_of (alone_mode mnemonic) 0 at cpu ≡ 0
alone_nowhere Asl memory at cpu = refl
alone_nowhere Lsr memory at cpu = refl
alone_nowhere Rol memory at cpu = refl
alone_nowhere Ror memory at cpu = refl
alone_nowhere _ memory at cpu = refl

-- it is no branch
pub plain_is_no_branch : (mnemonic : Mnemonic) (cpu : Cpu) → is_plain mnemonic ≡ true → is_taken mnemonic cpu ≡ None
plain_is_no_branch Bcc cpu plain = absurd (false≢true plain)
plain_is_no_branch Bcs cpu plain = absurd (false≢true plain)
plain_is_no_branch Beq cpu plain = absurd (false≢true plain)
plain_is_no_branch Bmi cpu plain = absurd (false≢true plain)
plain_is_no_branch Bne cpu plain = absurd (false≢true plain)
plain_is_no_branch Bpl cpu plain = absurd (false≢true plain)
plain_is_no_branch Bvc cpu plain = absurd (false≢true plain)
plain_is_no_branch Bvs cpu plain = absurd (false≢true plain)
plain_is_no_branch _ cpu plain = refl

-- without an operand it crosses no page
pub alone_unpaged : (mnemonic : Mnemonic) → is_paged (alone_mode mnemonic) ≡ false
alone_unpaged Asl = refl
alone_unpaged Lsr = refl
alone_unpaged Rol = refl
alone_unpaged Ror = refl
alone_unpaged _ = refl
