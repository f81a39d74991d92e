-- What holds of each row of the decode table, by one look over all of them.
use Rattle.std.proofs.Common.{◌≡◌, ℕ, zero, suc, ◌<◌, Bool, true, false, Option, Some, None}
use Rattle.std.proofs.Common.{if◌then◌else◌, refl, ap, ◌∙◌, sym, arith, inl, inr}
use Rattle.std.proofs.lemmas.Bool.{false≢true, cases_lt}
use Rattle.cpu6502.specs.declared.mnemonic.Mnemonic.{Mnemonic}
use Rattle.cpu6502.specs.declared.mnemonic.Mnemonic.TheVariants.{Asl, Brk, Lsr, Rol, Ror}
use Rattle.cpu6502.specs.declared.mnemonic.Mode.{Mode}
use Rattle.cpu6502.specs.declared.mnemonic.Mode.TheVariants.{Implied}
use Rattle.cpu6502.specs.Opcodes.{Meaning, meaning_of, is_accumulator}

-- a test of all bytes below a number
abbrev pub all_below : (ℕ → Bool) → ℕ → Bool
all_below test zero = true
all_below test (suc n) = if test n then all_below test n else false

both : (b c : Bool) → (if b then c else false) ≡ true → (b ≡ true) × (c ≡ true)
both true c e = (refl, e)
both false c e = absurd (false≢true e)

pub each_below : (test : ℕ → Bool) (n k : ℕ) → all_below test n ≡ true → k < n → test k ≡ true
each_below test zero k e lt = absurd (omega arith)
each_below test (suc n) k e lt =
    let parts = both (test n) (all_below test n) e in
    elim (cases_lt k n) [
      | inl below ↦ each_below test n k parts.1 below
      | inr above ↦
          let same : k ≡ n = omega arith in
          rw same parts.0
    ]

-- ---- the accumulator's rows are shifts and rotations

abbrev pub shifts : Mnemonic → Bool
shifts Asl = true
shifts Lsr = true
shifts Rol = true
shifts Ror = true
shifts _ = false

abbrev shifts_there : Option Meaning → Bool
shifts_there None = true
shifts_there (Some meaning) = if is_accumulator meaning.1 then shifts meaning.0 else true

all_shift : all_below (λ opcode. shifts_there (meaning_of opcode)) 256 ≡ true
all_shift = refl

pub accumulator_shifts : (opcode : ℕ) (mn : Mnemonic) (mode : Mode) → opcode < 256 →
    meaning_of opcode ≡ Some (mn, mode) → is_accumulator mode ≡ true → shifts mn ≡ true
accumulator_shifts opcode mn mode small row is =
    let here = each_below (λ byte. shifts_there (meaning_of byte)) 256 opcode all_shift small in
    let there : shifts_there (Some (mn, mode)) ≡ true = ap shifts_there (sym row) ∙ here in
    ap (λ b. if b then shifts mn else true) (sym is) ∙ there

-- ---- BRK has no operand

abbrev is_break : Mnemonic → Bool
is_break Brk = true
is_break _ = false

abbrev is_implied : Mode → Bool
is_implied Implied = true
is_implied _ = false

abbrev breaks_there : Option Meaning → Bool
breaks_there None = true
breaks_there (Some meaning) = if is_break meaning.0 then is_implied meaning.1 else true

all_break : all_below (λ opcode. breaks_there (meaning_of opcode)) 256 ≡ true
all_break = refl

implied : (mode : Mode) → is_implied mode ≡ true → mode ≡ Implied
implied Implied e = refl
implied _ e = absurd (false≢true e)

pub break_is_implied : (opcode : ℕ) (mode : Mode) → opcode < 256 → meaning_of opcode ≡ Some (Brk, mode) →
    mode ≡ Implied
break_is_implied opcode mode small row =
    implied mode (ap breaks_there (sym row) ∙ each_below (λ byte. breaks_there (meaning_of byte)) 256 opcode all_break small)
