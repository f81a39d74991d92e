-- An instruction of a voice's code does on the whole desk what it does on the desk as the code sees it.
use Rattle.std.proofs.Common.{◌≡◌, ℕ, true, false, Option, Some, refl}
use Rattle.std.proofs.lemmas.Bool.{false≢true}
use Rattle.cpu6502.specs.declared.cpu.Cpu.{Cpu}
use Rattle.cpu6502.specs.declared.effect.Effect.{Effect}
use Rattle.cpu6502.specs.declared.mnemonic.Mnemonic.{Mnemonic}
use Rattle.cpu6502.specs.declared.mnemonic.Mnemonic.TheVariants.{Adc, And, Asl, Bit, Clc, Clv, Cmp, Cpy, Dec, Dey}
use Rattle.cpu6502.specs.declared.mnemonic.Mnemonic.TheVariants.{Eor, Inc, Iny, Lda, Ldy, Lsr, Nop, Ora, Rol, Ror}
use Rattle.cpu6502.specs.declared.mnemonic.Mnemonic.TheVariants.{Sbc, Sec, Sta, Sty, Tay, Tya}
use Rattle.cpu6502.specs.Registers.{quiet, storing}
use Rattle.cpu6502.specs.Shifts.{accumulator_effect}
use Rattle.cpu6502.specs.Effects.{effect_of, or_effect}
use Rattle.scopes.specs.Steps.{unless_stopped, is_store}
use Rattle.player_desk.proofs.VoiceDesks.{VoiceDesk, cpu_of, alone_done, is_alone, leaves_x}

-- the registers of a desk, where the code sees those that it asks for
abbrev pub cpu_with : Cpu → VoiceDesk → Cpu
cpu_with rest d = record rest { a = d.a; y = d.y; d = false; n = d.n; z = d.z; c = d.c }

-- the same registers afterwards, X as it was and the decimal flag clear
pub record AgreeOn (rest one two : Cpu) : Type 0 where
  pub a : one.a ≡ two.a
  pub y : one.y ≡ two.y
  pub c : one.c ≡ two.c
  pub z : one.z ≡ two.z
  pub n : one.n ≡ two.n
  pub x : one.x ≡ rest.x
  pub d : one.d ≡ false

-- both stop, both write nothing, or both write one byte, the one at the operand's place, and leave Y as it was
pub data SameEffect (rest : Cpu) (place y : ℕ) : Option Effect → Option Effect → Type 0 where
  Quiet : (one two : Cpu) → AgreeOn rest one two → SameEffect rest place y (Some (quiet one)) (Some (quiet two))
  Stores : (one two : Cpu) (byte : ℕ) → AgreeOn rest one two → two.y ≡ y →
      SameEffect rest place y (Some (storing one place byte)) (Some (storing two 0 byte))

pub same_effect : (mnemonic : Mnemonic) (rest : Cpu) (d : VoiceDesk) (place byte : ℕ) (read : ℕ → ℕ) →
    leaves_x mnemonic ≡ true → (is_store mnemonic ≡ false → read place ≡ byte) →
    SameEffect rest place d.y (unless_stopped (effect_of mnemonic 0 place read (cpu_with rest d)))
    (unless_stopped (effect_of mnemonic 0 0 (λ q. byte) (cpu_of d)))
same_effect Adc rest d place byte read leaves same =
    (let e = same refl in rw e (Quiet _ _
    (record { a = refl; y = refl; c = refl; z = refl; n = refl; x = refl; d = refl })))
same_effect And rest d place byte read leaves same =
    (let e = same refl in rw e (Quiet _ _
    (record { a = refl; y = refl; c = refl; z = refl; n = refl; x = refl; d = refl })))
same_effect Asl rest d place byte read leaves same =
    (let e = same refl in rw e (Stores _ _ _
    (record { a = refl; y = refl; c = refl; z = refl; n = refl; x = refl; d = refl }) refl))
same_effect Bit rest d place byte read leaves same =
    (let e = same refl in rw e (Quiet _ _
    (record { a = refl; y = refl; c = refl; z = refl; n = refl; x = refl; d = refl })))
same_effect Clc rest d place byte read leaves same = Quiet _ _
    (record { a = refl; y = refl; c = refl; z = refl; n = refl; x = refl; d = refl })
same_effect Clv rest d place byte read leaves same = Quiet _ _
    (record { a = refl; y = refl; c = refl; z = refl; n = refl; x = refl; d = refl })
same_effect Cmp rest d place byte read leaves same =
    (let e = same refl in rw e (Quiet _ _
    (record { a = refl; y = refl; c = refl; z = refl; n = refl; x = refl; d = refl })))
same_effect Cpy rest d place byte read leaves same =
    (let e = same refl in rw e (Quiet _ _
    (record { a = refl; y = refl; c = refl; z = refl; n = refl; x = refl; d = refl })))
same_effect Dec rest d place byte read leaves same =
    (let e = same refl in rw e (Stores _ _ _
    (record { a = refl; y = refl; c = refl; z = refl; n = refl; x = refl; d = refl }) refl))
same_effect Dey rest d place byte read leaves same = Quiet _ _
    (record { a = refl; y = refl; c = refl; z = refl; n = refl; x = refl; d = refl })
same_effect Eor rest d place byte read leaves same =
    (let e = same refl in rw e (Quiet _ _
    (record { a = refl; y = refl; c = refl; z = refl; n = refl; x = refl; d = refl })))
same_effect Inc rest d place byte read leaves same =
    (let e = same refl in rw e (Stores _ _ _
    (record { a = refl; y = refl; c = refl; z = refl; n = refl; x = refl; d = refl }) refl))
same_effect Iny rest d place byte read leaves same = Quiet _ _
    (record { a = refl; y = refl; c = refl; z = refl; n = refl; x = refl; d = refl })
same_effect Lda rest d place byte read leaves same =
    (let e = same refl in rw e (Quiet _ _
    (record { a = refl; y = refl; c = refl; z = refl; n = refl; x = refl; d = refl })))
same_effect Ldy rest d place byte read leaves same =
    (let e = same refl in rw e (Quiet _ _
    (record { a = refl; y = refl; c = refl; z = refl; n = refl; x = refl; d = refl })))
same_effect Lsr rest d place byte read leaves same =
    (let e = same refl in rw e (Stores _ _ _
    (record { a = refl; y = refl; c = refl; z = refl; n = refl; x = refl; d = refl }) refl))
same_effect Nop rest d place byte read leaves same = Quiet _ _
    (record { a = refl; y = refl; c = refl; z = refl; n = refl; x = refl; d = refl })
same_effect Ora rest d place byte read leaves same =
    (let e = same refl in rw e (Quiet _ _
    (record { a = refl; y = refl; c = refl; z = refl; n = refl; x = refl; d = refl })))
same_effect Rol rest d place byte read leaves same =
    (let e = same refl in rw e (Stores _ _ _
    (record { a = refl; y = refl; c = refl; z = refl; n = refl; x = refl; d = refl }) refl))
same_effect Ror rest d place byte read leaves same =
    (let e = same refl in rw e (Stores _ _ _
    (record { a = refl; y = refl; c = refl; z = refl; n = refl; x = refl; d = refl }) refl))
same_effect Sbc rest d place byte read leaves same =
    (let e = same refl in rw e (Quiet _ _
    (record { a = refl; y = refl; c = refl; z = refl; n = refl; x = refl; d = refl })))
same_effect Sec rest d place byte read leaves same = Quiet _ _
    (record { a = refl; y = refl; c = refl; z = refl; n = refl; x = refl; d = refl })
same_effect Sta rest d place byte read leaves same = Stores _ _ _
    (record { a = refl; y = refl; c = refl; z = refl; n = refl; x = refl; d = refl }) refl
same_effect Sty rest d place byte read leaves same = Stores _ _ _
    (record { a = refl; y = refl; c = refl; z = refl; n = refl; x = refl; d = refl }) refl
same_effect Tay rest d place byte read leaves same = Quiet _ _
    (record { a = refl; y = refl; c = refl; z = refl; n = refl; x = refl; d = refl })
same_effect Tya rest d place byte read leaves same = Quiet _ _
    (record { a = refl; y = refl; c = refl; z = refl; n = refl; x = refl; d = refl })
same_effect _ rest d place byte read leaves same = absurd (false≢true leaves)

-- both write nothing
pub data SameQuiet (rest : Cpu) : Option Effect → Option Effect → Type 0 where
  BothQuiet : (one two : Cpu) → AgreeOn rest one two → SameQuiet rest (Some (quiet one)) (Some (quiet two))

-- without an operand nothing is written
pub same_alone : (mnemonic : Mnemonic) (rest : Cpu) (d : VoiceDesk) (read : ℕ → ℕ) → is_alone mnemonic ≡ true →
    SameQuiet rest (or_effect (unless_stopped (accumulator_effect mnemonic 0 (cpu_with rest d)))
    (unless_stopped (effect_of mnemonic 0 0 read (cpu_with rest d)))) (alone_done mnemonic d)
same_alone Asl rest d read alone = BothQuiet _ _
    (record { a = refl; y = refl; c = refl; z = refl; n = refl; x = refl; d = refl })
same_alone Clc rest d read alone = BothQuiet _ _
    (record { a = refl; y = refl; c = refl; z = refl; n = refl; x = refl; d = refl })
same_alone Clv rest d read alone = BothQuiet _ _
    (record { a = refl; y = refl; c = refl; z = refl; n = refl; x = refl; d = refl })
same_alone Dey rest d read alone = BothQuiet _ _
    (record { a = refl; y = refl; c = refl; z = refl; n = refl; x = refl; d = refl })
same_alone Iny rest d read alone = BothQuiet _ _
    (record { a = refl; y = refl; c = refl; z = refl; n = refl; x = refl; d = refl })
same_alone Lsr rest d read alone = BothQuiet _ _
    (record { a = refl; y = refl; c = refl; z = refl; n = refl; x = refl; d = refl })
same_alone Nop rest d read alone = BothQuiet _ _
    (record { a = refl; y = refl; c = refl; z = refl; n = refl; x = refl; d = refl })
same_alone Rol rest d read alone = BothQuiet _ _
    (record { a = refl; y = refl; c = refl; z = refl; n = refl; x = refl; d = refl })
same_alone Ror rest d read alone = BothQuiet _ _
    (record { a = refl; y = refl; c = refl; z = refl; n = refl; x = refl; d = refl })
same_alone Sec rest d read alone = BothQuiet _ _
    (record { a = refl; y = refl; c = refl; z = refl; n = refl; x = refl; d = refl })
same_alone Tay rest d read alone = BothQuiet _ _
    (record { a = refl; y = refl; c = refl; z = refl; n = refl; x = refl; d = refl })
same_alone Tya rest d read alone = BothQuiet _ _
    (record { a = refl; y = refl; c = refl; z = refl; n = refl; x = refl; d = refl })
same_alone _ rest d read alone = absurd (false≢true alone)
