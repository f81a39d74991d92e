-- The limits of a listing, and listings that are worked by hand from the manual's opcodes.
use Rattle.std.specs.Prelude.{◌≡◌, ℕ, List, [], ◌∷◌, replicate, Some, None}
use Rattle.cpu6502.specs.declared.mnemonic.Mnemonic.TheVariants.{Bne, Jmp, Lda, Ldx, Nop, Rts, Sta}
use Rattle.cpu6502.specs.declared.mnemonic.Mode.TheVariants.{Implied, Immediate, Absolute, Relative}
use Rattle.asm6502.specs.declared.lines.Operand.TheVariants.{Nothing, Number, Label, Low, High}
use Rattle.asm6502.specs.declared.lines.Item.{Item}
use Rattle.asm6502.specs.declared.lines.Item.TheVariants.{Label as Named, Code, Bytes}
use Rattle.asm6502.specs.declared.lines.Line.{Line}
use Rattle.asm6502.specs.declared.lines.TheConstants.{MOST_LINES, MOST_BYTES}
use Rattle.asm6502.specs.declared.fixes.FixKind.TheVariants.{Word, Low as LowByte, High as HighByte}
use Rattle.asm6502.specs.declared.faults.AsmFault.TheVariants.{BadLine, DoubleLabel, UnknownLabel, PastEnd, BranchTooFar}
use Rattle.asm6502.specs.Assembly.{assembled_bytes, assembled_fixes}
use Rattle.asm6502.specs.Faults.{fault_of}

-- a listing may have 1,000,000 lines, and as many bytes in items of bytes
abbrev pub ConstantsAre : Type 0
ConstantsAre = (MOST_LINES ≡ 1000000) × (MOST_BYTES ≡ 1000000)

-- a line that is always kept
abbrev pub always : Item → Line
always item = record { part = 255; item = item }

-- LDA #$0F, STA $D418, a NOP in part 3, RTS
abbrev pub tone : List Line
tone =
    always (Code Lda Immediate (Number 15)) ∷ always
    (Code Sta Absolute (Number 0xD418)) ∷ record { part = 3; item = Code Nop Implied Nothing } ∷ always
    (Code Rts Implied Nothing) ∷ []

-- without its part it is A9 0F 8D 18 D4 60, and nothing is wrong with it
abbrev pub TonePlays : Type 0
TonePlays = (assembled_bytes 0 0x1000 tone ≡ 0xA9 ∷ 0x0F ∷ 0x8D ∷ 0x18 ∷ 0xD4 ∷ 0x60 ∷ [])
    × (fault_of 0 0x1000 tone ≡ None)

-- with bit 3 in the set it has EA where the line stands
abbrev pub ToneWithPart : Type 0
ToneWithPart = assembled_bytes 8 0x1000 tone ≡ 0xA9 ∷ 0x0F ∷ 0x8D ∷ 0x18 ∷ 0xD4 ∷ 0xEA ∷ 0x60 ∷ []

-- JMP to two bytes after a label, the low and the high byte of $0201 bytes after it, and the label
abbrev pub jumps : List Line
jumps =
    always (Code Jmp Absolute (Label 1 2)) ∷ always (Code Lda Immediate (Low 1 0x0201)) ∷ always
    (Code Ldx Immediate (High 1 0x0201)) ∷ always (Named 1) ∷ []

-- the label stands at $1007, so the numbers are $1009 and $1208; they are fixed at places 1, 4 and 6
abbrev pub LabelsHaveAddresses : Type 0
LabelsHaveAddresses =
    (assembled_bytes 0 0x1000 jumps ≡ 0x4C ∷ 0x09 ∷ 0x10 ∷ 0xA9 ∷ 0x08 ∷ 0xA2 ∷ 0x12 ∷ [])
    × (assembled_fixes 0 jumps ≡ record { at = 1; kind = Word; to = 9 } ∷ record {
      at = 4;
      kind = LowByte;
      to =
          0x0208;
    } ∷ record { at = 6; kind = HighByte; to = 0x0208 } ∷ [])

-- a branch over n bytes to a label
abbrev pub branch_over : ℕ → List Line
branch_over n = always (Code Bne Relative (Label 1 0)) ∷ always (Bytes (replicate n 0)) ∷ always (Named 1) ∷ []

-- 127 bytes are reached, 128 and 200 are not
abbrev pub FarBranchIsRefused : Type 0
FarBranchIsRefused =
    (fault_of 0 0x1000 (branch_over 127) ≡ None) × (fault_of 0 0x1000 (branch_over 128) ≡ Some (BranchTooFar 0))
    × (fault_of 0 0x1000 (branch_over 200) ≡ Some (BranchTooFar 0))

-- a label twice, a jump to another, and a line in part 32
abbrev pub broken : List Line
broken =
    always (Code Jmp Absolute (Label 2 0)) ∷ always (Named 1) ∷ always
    (Named 1) ∷ record { part = 32; item = Code Nop Implied Nothing } ∷ []

abbrev pub doubled : List Line
doubled = always (Code Jmp Absolute (Label 2 0)) ∷ always (Named 1) ∷ always (Named 1) ∷ []

abbrev pub unnamed : List Line
unnamed = always (Code Bne Relative (Label 1 300)) ∷ always (Code Jmp Absolute (Label 2 0)) ∷ always (Named 1) ∷ []

abbrev pub last : List Line
last = always (Code Bne Relative (Label 1 300)) ∷ always (Named 1) ∷ []

-- the refusals in their order, each before those that hold as well
abbrev pub OrderOfRefusals : Type 0
OrderOfRefusals =
    (fault_of 0 0xFFFF broken ≡ Some (BadLine 3)) × (fault_of 0 0xFFFF doubled ≡ Some (DoubleLabel 1))
    × (fault_of 0 0xFFFF unnamed ≡ Some (UnknownLabel 2)) × (fault_of 0 0xFFFF last ≡ Some (PastEnd 2))
    × (fault_of 0 0xFFFE last ≡ Some (BranchTooFar 0))
