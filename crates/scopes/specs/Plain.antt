-- Which instructions a block may have. Source: the MOS 6502 programming manual.
use Rattle.std.specs.Prelude.{Bool, true, false}
use Rattle.cpu6502.specs.declared.mnemonic.Mnemonic.{Mnemonic}
use Rattle.cpu6502.specs.declared.mnemonic.Mnemonic.TheVariants.{Adc, And, Asl, Bit, Clc, Clv, Cmp, Cpx, Cpy, Dec, Dex}
use Rattle.cpu6502.specs.declared.mnemonic.Mnemonic.TheVariants.{Dey, Eor, Inc, Inx, Iny, Lda, Ldx, Ldy, Lsr, Nop, Ora}
use Rattle.cpu6502.specs.declared.mnemonic.Mnemonic.TheVariants.{Rol, Ror, Sbc, Sec, Sta, Stx, Sty, Tax, Tay, Txa, Tya}

-- an instruction that works on bytes, A, X, Y and the flags alone, and goes on to the next one: no branch, jump, call
-- or return, none on the stack, and none that sets or clears the decimal flag or the interrupt flag
abbrev pub is_plain : Mnemonic → Bool
is_plain Adc = true
is_plain And = true
is_plain Asl = true
is_plain Bit = true
is_plain Clc = true
is_plain Clv = true
is_plain Cmp = true
is_plain Cpx = true
is_plain Cpy = true
is_plain Dec = true
is_plain Dex = true
is_plain Dey = true
is_plain Eor = true
is_plain Inc = true
is_plain Inx = true
is_plain Iny = true
is_plain Lda = true
is_plain Ldx = true
is_plain Ldy = true
is_plain Lsr = true
is_plain Nop = true
is_plain Ora = true
is_plain Rol = true
is_plain Ror = true
is_plain Sbc = true
is_plain Sec = true
is_plain Sta = true
is_plain Stx = true
is_plain Sty = true
is_plain Tax = true
is_plain Tay = true
is_plain Txa = true
is_plain Tya = true
is_plain _ = false
