-- Each instruction is named by its letters, and by them alone.
use Rattle.std.proofs.Common.{◌≡◌, ℕ, true, false, ◌&&◌, [], ◌∷◌, nat_eq, slice_index, position}
use Rattle.std.proofs.Common.{Option, Some, None, refl}
use Rattle.std.specs.Option.{is_some}
use Rattle.std.proofs.lemmas.Bool.{false≢true}
use Rattle.cpu6502.specs.declared.mnemonic.Mnemonic.{Mnemonic}
use Rattle.cpu6502.specs.declared.mnemonic.Mnemonic.TheVariants.{Adc}
use Rattle.cpu6502.specs.declared.mnemonic.Mode.TheVariants.{Absolute, Relative}
use Rattle.cpu6502.specs.Opcodes.{opcode_of}
use Rattle.asm_text.specs.declared.names.TheConstants.{NAMES}
use Rattle.asm_text.specs.Names.{is_name_of, letters_of, named}

-- a letter of an instruction
abbrev pub letter : Mnemonic → ℕ → ℕ
letter mnemonic place = slice_index (letters_of mnemonic) place

pub is_in_table : (mnemonic : Mnemonic) → is_some (position (is_name_of mnemonic) NAMES) ≡ true
is_in_table Adc = refl
is_in_table mnemonic = refl

pub three_letters : (mnemonic : Mnemonic) →
    letters_of mnemonic ≡ letter mnemonic 0 ∷ letter mnemonic 1 ∷ letter mnemonic 2 ∷ []
three_letters Adc = refl
three_letters mnemonic = refl

pub named_again : (mnemonic : Mnemonic) →
    named (letter mnemonic 0) (letter mnemonic 1) (letter mnemonic 2) ≡ Some mnemonic
named_again Adc = refl
named_again mnemonic = refl

-- the first letter is neither a point nor a semicolon
pub no_point : (mnemonic : Mnemonic) → nat_eq (letter mnemonic 0) 46 ≡ false
no_point Adc = refl
no_point mnemonic = refl

pub no_semicolon : (mnemonic : Mnemonic) → nat_eq (letter mnemonic 0) 59 ≡ false
no_semicolon Adc = refl
no_semicolon mnemonic = refl

-- no instruction has both an address alone and a branch's target
pub one_of_two : (mnemonic : Mnemonic) →
    (is_some (opcode_of mnemonic Absolute) && is_some (opcode_of mnemonic Relative)) ≡ false
one_of_two Adc = refl
one_of_two mnemonic = refl

never_by : (o : Option ℕ) → is_some o ≡ true → o ≡ None → ⊥
never_by None h e = absurd (false≢true h)
never_by (Some place) h e = absurd (cc)

-- each instruction is in the table
pub never_none : (mnemonic : Mnemonic) → position (is_name_of mnemonic) NAMES ≡ None → ⊥
never_none mnemonic e = never_by (position (is_name_of mnemonic) NAMES) (is_in_table mnemonic) e
