-- The names of instructions and the digits of numbers, all of them, by hand from the MOS 6502 programming manual.
use Rattle.std.specs.Prelude.{◌≡◌, ℕ, List, [], ◌∷◌, codes, map}
use Rattle.cpu6502.specs.declared.mnemonic.Mnemonic.{Mnemonic}
use Rattle.cpu6502.specs.declared.mnemonic.Mnemonic.TheVariants.{Adc, And, Asl, Bcc, Bcs, Beq, Bit, Bmi, Bne, Bpl, Brk}
use Rattle.cpu6502.specs.declared.mnemonic.Mnemonic.TheVariants.{Bvc, Bvs, Clc, Cld, Cli, Clv, Cmp, Cpx, Cpy, Dec, Dex}
use Rattle.cpu6502.specs.declared.mnemonic.Mnemonic.TheVariants.{Dey, Eor, Inc, Inx, Iny, Jmp, Jsr, Lda, Ldx, Ldy, Lsr}
use Rattle.cpu6502.specs.declared.mnemonic.Mnemonic.TheVariants.{Nop, Ora, Pha, Php, Pla, Plp, Rol, Ror, Rti, Rts, Sbc}
use Rattle.cpu6502.specs.declared.mnemonic.Mnemonic.TheVariants.{Sec, Sed, Sei, Sta, Stx, Sty, Tax, Tay, Tsx, Txa, Txs}
use Rattle.cpu6502.specs.declared.mnemonic.Mnemonic.TheVariants.{Tya}
use Rattle.asm_text.specs.Names.{letters_of}
use Rattle.asm_text.specs.Numbers.{byte_digits, word_digits}

-- each of the 56 instructions, and the letters of its name
abbrev pub names_by_hand : List (Mnemonic × List ℕ)
names_by_hand =
    (Adc, codes "ADC") ∷ (And, codes "AND") ∷ (Asl, codes "ASL") ∷ (Bcc, codes "BCC") ∷ (Bcs, codes "BCS")
    ∷ (Beq, codes "BEQ") ∷ (Bit, codes "BIT") ∷ (Bmi, codes "BMI") ∷ (Bne, codes "BNE") ∷ (Bpl, codes "BPL")
    ∷ (Brk, codes "BRK") ∷ (Bvc, codes "BVC") ∷ (Bvs, codes "BVS") ∷ (Clc, codes "CLC") ∷ (Cld, codes "CLD")
    ∷ (Cli, codes "CLI") ∷ (Clv, codes "CLV") ∷ (Cmp, codes "CMP") ∷ (Cpx, codes "CPX") ∷ (Cpy, codes "CPY")
    ∷ (Dec, codes "DEC") ∷ (Dex, codes "DEX") ∷ (Dey, codes "DEY") ∷ (Eor, codes "EOR") ∷ (Inc, codes "INC")
    ∷ (Inx, codes "INX") ∷ (Iny, codes "INY") ∷ (Jmp, codes "JMP") ∷ (Jsr, codes "JSR") ∷ (Lda, codes "LDA")
    ∷ (Ldx, codes "LDX") ∷ (Ldy, codes "LDY") ∷ (Lsr, codes "LSR") ∷ (Nop, codes "NOP") ∷ (Ora, codes "ORA")
    ∷ (Pha, codes "PHA") ∷ (Php, codes "PHP") ∷ (Pla, codes "PLA") ∷ (Plp, codes "PLP") ∷ (Rol, codes "ROL")
    ∷ (Ror, codes "ROR") ∷ (Rti, codes "RTI") ∷ (Rts, codes "RTS") ∷ (Sbc, codes "SBC") ∷ (Sec, codes "SEC")
    ∷ (Sed, codes "SED") ∷ (Sei, codes "SEI") ∷ (Sta, codes "STA") ∷ (Stx, codes "STX") ∷ (Sty, codes "STY")
    ∷ (Tax, codes "TAX") ∷ (Tay, codes "TAY") ∷ (Tsx, codes "TSX") ∷ (Txa, codes "TXA") ∷ (Txs, codes "TXS")
    ∷ (Tya, codes "TYA") ∷ []

-- so they are written
abbrev pub NamesAreWritten : Type 0
NamesAreWritten = map (λ row. letters_of row.0) names_by_hand ≡ map (λ row. row.1) names_by_hand

-- the sixteen digits, each as the first of a byte and as the second; an address is four of them
abbrev pub DigitsAreWritten : Type 0
DigitsAreWritten =
    (map byte_digits (0x01 ∷ 0x23 ∷ 0x45 ∷ 0x67 ∷ 0x89 ∷ 0xAB ∷ 0xCD ∷ 0xEF ∷ [])
    ≡ codes "01" ∷ codes "23" ∷ codes "45" ∷ codes "67" ∷ codes "89" ∷ codes "AB" ∷ codes "CD"
    ∷ codes "EF" ∷ [])
    × (map byte_digits (0x10 ∷ 0x32 ∷ 0x54 ∷ 0x76 ∷ 0x98 ∷ 0xBA ∷ 0xDC ∷ 0xFE ∷ [])
    ≡ codes "10" ∷ codes "32" ∷ codes "54" ∷ codes "76" ∷ codes "98" ∷ codes "BA" ∷ codes "DC"
    ∷ codes "FE" ∷ [])
    × (map word_digits (0x1234 ∷ 0x000F ∷ 0x0000 ∷ 0xF000 ∷ [])
    ≡ codes "1234" ∷ codes "000F" ∷ codes "0000" ∷ codes "F000" ∷ [])
