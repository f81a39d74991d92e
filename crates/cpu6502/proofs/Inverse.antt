-- The two directions of the decode table are each other's inverse, so no two of its rows are alike.
use Rattle.std.proofs.Common.{◌≡◌, ℕ, Bool, true, false, Option, Some, None, nat_eq, refl, sym, ap}
use Rattle.std.proofs.Common.{◌∙◌, subst}
use Rattle.std.specs.Option.{option_map}
use Rattle.std.proofs.lemmas.Bool.{and_parts, eqb-true, false≢true}
use Rattle.std.proofs.lemmas.List.Quantifiers.{position-Some}
use Rattle.base.proofs.Laws.{same_some}
use Rattle.cpu6502.specs.declared.mnemonic.Mnemonic.{Mnemonic}
use Rattle.cpu6502.specs.declared.mnemonic.Mode.{Mode}
use Rattle.cpu6502.specs.declared.table.Row.{Row}
use Rattle.cpu6502.specs.declared.table.TheConstants.{TABLE}
use Rattle.cpu6502.specs.contracts.mnemonic.Mnemonic.{the_type as mnemonics}
use Rattle.cpu6502.specs.contracts.mnemonic.Mode.{the_type as modes}
use Rattle.cpu6502.specs.Opcodes.{Meaning, row_of, meaning_in, meaning_of, is_row, opcode_of, OpcodesHaveRows, RowsHaveOpcodes}
use Rattle.cpu6502.specs.Rows.{RowsDiffer}
use Rattle.cpu6502.proofs.EachRow.{all_below, each_below}
use denote.Enum.Bare.{sameb, same_true}

-- ---- from an instruction to its row

-- a row of an instruction in a mode stands for it
row_stands : (mn : Mnemonic) (mode : Mode) (row : Option Row) → is_row mn mode row ≡ true →
    option_map meaning_in row ≡ Some (mn, mode)
row_stands mn mode None e = absurd (false≢true e)
row_stands mn mode (Some row) e =
    let parts = and_parts (sameb modes row.mode mode) (sameb mnemonics row.mnemonic mn) e in
    let same_mode = same_true modes tt row.mode mode parts.0 in
    let same_name = same_true mnemonics tt row.mnemonic mn parts.1 in
    λ i. Some (same_name i, same_mode i)

pub opcodes_have_rows : OpcodesHaveRows
opcodes_have_rows mn mode op e =
    let found = position-Some (is_row mn mode) TABLE op None e in
    row_stands mn mode (row_of op) found.1

-- ---- from a row to its instruction

-- whether a byte's meaning, if it has one, has that byte as its opcode
abbrev is_opcode : Option ℕ → ℕ → Bool
is_opcode None byte = false
is_opcode (Some opcode) byte = nat_eq opcode byte

abbrev agrees : Option Meaning → ℕ → Bool
agrees None byte = true
agrees (Some meaning) byte = is_opcode (opcode_of meaning.0 meaning.1) byte

all_agree : all_below (λ byte. agrees (meaning_of byte) byte) 256 ≡ true
all_agree = refl

agreed : (mn : Mnemonic) (mode : Mode) (op : ℕ) (r : Option ℕ) → opcode_of mn mode ≡ r → is_opcode r op ≡ true →
    opcode_of mn mode ≡ Some op
agreed mn mode op None e h = absurd (false≢true h)
agreed mn mode op (Some o) e h = e ∙ ap Some (eqb-true o op h)

pub rows_have_opcodes : RowsHaveOpcodes
rows_have_opcodes op mn mode lt e =
    let h : agrees (Some (mn, mode)) op ≡ true =
    subst (λ (m : Option Meaning). agrees m op ≡ true) e
    (each_below (λ byte. agrees (meaning_of byte) byte) 256 op all_agree lt) in
    agreed mn mode op (opcode_of mn mode) refl h

pub rows_differ : RowsDiffer
rows_differ one other meaning a b e f =
    same_some one other
    (sym (rows_have_opcodes one meaning.0 meaning.1 a e) ∙ rows_have_opcodes other meaning.0 meaning.1 b f)
