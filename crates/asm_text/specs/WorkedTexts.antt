-- Lines and texts that were worked out by hand from the manual's opcodes, and lines and texts that are refused.
use Rattle.std.specs.Prelude.{◌≡◌, ℕ, zero, suc, List, [], ◌∷◌, ◌++◌, codes, None, All}
use Rattle.cpu6502.specs.declared.mnemonic.Mnemonic.TheVariants.{Asl, Bne, Jmp, Lda, Ldx, Nop, Sta}
use Rattle.cpu6502.specs.declared.mnemonic.Mode.TheVariants.{Implied, Accumulator, Immediate, ZeroPage, ZeroPageX}
use Rattle.cpu6502.specs.declared.mnemonic.Mode.TheVariants.{ZeroPageY, Absolute, AbsoluteX, AbsoluteY, IndirectX}
use Rattle.cpu6502.specs.declared.mnemonic.Mode.TheVariants.{IndirectY, Indirect, Relative}
use Rattle.asm6502.specs.declared.assembled.Assembled.{Assembled}
use Rattle.asm6502.specs.declared.fixes.Fix.{Fix}
use Rattle.asm6502.specs.declared.fixes.FixKind.TheVariants.{Word, Low}
use Rattle.asm6502.specs.Assembly.{assembled_bytes, assembled_fixes}
use Rattle.asm_text.specs.declared.statements.Operand.TheVariants.{Nothing, Number, Label as LabelOf}
use Rattle.asm_text.specs.declared.statements.Statement.TheVariants.{Label, Byte, Code}
use Rattle.asm_text.specs.declared.statements.Written.{Written}
use Rattle.asm_text.specs.declared.faults.TextKind.{TextKind}
use Rattle.asm_text.specs.declared.faults.TextKind.TheVariants.{BadLine, DoubleLabel, UnknownLabel, PastEnd, BranchTooFar}
use Rattle.asm_text.specs.Lines.{SaysNothing, Spells, IsLine, IsListing}
use Rattle.asm_text.specs.Laying.{listing_at}
use Rattle.asm_text.specs.Faults.{fault_in, IsFaultOf}
use Rattle.asm_text.specs.Printing.{listing_of}
use Rattle.asm_text.specs.Laws.{AreSame}

-- an instruction in each mode, with a number
abbrev pub NumbersAreSpelled : Type 0
NumbersAreSpelled =
    Spells (codes "NOP") (Code Nop Implied Nothing) × Spells (codes "ASL A") (Code Asl Accumulator Nothing)
    × Spells (codes "LDA #$0F") (Code Lda Immediate (Number 0x0F))
    × Spells (codes "LDA $12") (Code Lda ZeroPage (Number 0x12))
    × Spells (codes "LDA $12,X") (Code Lda ZeroPageX (Number 0x12))
    × Spells (codes "LDX $AB,Y") (Code Ldx ZeroPageY (Number 0xAB))
    × Spells (codes "LDA $0012") (Code Lda Absolute (Number 0x12))
    × Spells (codes "STA $D418,X") (Code Sta AbsoluteX (Number 0xD418))
    × Spells (codes "LDA $FFFF,Y") (Code Lda AbsoluteY (Number 0xFFFF))
    × Spells (codes "LDA ($12,X)") (Code Lda IndirectX (Number 0x12))
    × Spells (codes "LDA ($12),Y") (Code Lda IndirectY (Number 0x12))
    × Spells (codes "JMP ($1234)") (Code Jmp Indirect (Number 0x1234))
    × Spells (codes "BNE $0FFF") (Code Bne Relative (Number 0x0FFF))

-- a label wherever there are four digits, the name of one, and a byte
abbrev pub LabelsAreSpelled : Type 0
LabelsAreSpelled =
    Spells (codes "LDA L0012") (Code Lda Absolute (LabelOf 0x12))
    × Spells (codes "STA LD418,X") (Code Sta AbsoluteX (LabelOf 0xD418))
    × Spells (codes "LDA LFFFF,Y") (Code Lda AbsoluteY (LabelOf 0xFFFF))
    × Spells (codes "JMP (L1234)") (Code Jmp Indirect (LabelOf 0x1234))
    × Spells (codes "BNE L0FFF") (Code Bne Relative (LabelOf 0x0FFF)) × Spells (codes "LDA01:") (Label 0xDA01)
    × Spells (codes ".byte $C0") (Byte 0xC0)

-- an empty line and comments
abbrev pub NothingIsSaid : Type 0
NothingIsSaid = SaysNothing [] × SaysNothing (codes ";") × SaysNothing (codes "; \t LDA")

-- lines that may not stand behind the first: an unknown name; two spaces, one at an end, one before, a tab and a
-- carriage return; lower case; digits that are none, too few and too many; modes that the name doesn't have; no
-- operand; labels where there are two digits; more on a label's line; a comment behind; an origin
abbrev pub no_lines : List (List ℕ)
no_lines =
    codes "LAX" ∷ codes "LDA  $12" ∷ codes "NOP " ∷ codes " NOP" ∷ codes "\tNOP" ∷ codes "NOP\r" ∷ codes "nop"
    ∷ codes "LDA #$0f" ∷ codes "LDA $12,x" ∷ codes "l0001:" ∷ codes ".BYTE $01" ∷ codes "LDA $1G" ∷ codes "LDA $1"
    ∷ codes "LDA $123" ∷ codes "LDA $12345" ∷ codes "LDA #$0012" ∷ codes "JMP $12" ∷ codes "BNE $12"
    ∷ codes "LDA $12,Y" ∷ codes "STX $12,X" ∷ codes "ASL" ∷ codes "NOP A" ∷ codes "LDA" ∷ codes "JMP ($12)"
    ∷ codes "LDA #L0012" ∷ codes "LDA (L0012),Y" ∷ codes "LDA L12" ∷ codes "L0001: NOP" ∷ codes "L0001"
    ∷ codes "L001:" ∷ codes "NOP ;" ∷ codes "NOP;" ∷ codes ".byte $1" ∷ codes ".byte $0001" ∷ codes ".byte 01"
    ∷ codes "* = $1000" ∷ codes "LDA 12" ∷ codes "LDA $12 " ∷ codes "LDA ($12,Y)" ∷ codes "LDA ($12)"
    ∷ codes "LDA A" ∷ codes "STA #$01" ∷ codes ".byte L0001" ∷ codes "LDX $1234,X" ∷ codes "JMP $1234,X"
    ∷ codes "L00ff:" ∷ []

abbrev pub NoLinesAreSpelled : Type 0
NoLinesAreSpelled = All (λ line. IsLine line → ⊥) no_lines

-- statements that no line spells: numbers that are no bytes and no addresses, an operand that doesn't suit the mode, and
-- modes that the instruction doesn't have
abbrev pub NoLineSpells : Type 0
NoLineSpells =
    (line : List ℕ) → (Spells line (Label 0x10000) → ⊥) × (Spells line (Byte 0x100) → ⊥)
    × (Spells line (Code Lda Absolute (Number 0x10000)) → ⊥) × (Spells line (Code Lda Absolute (LabelOf 0x10000)) → ⊥)
    × (Spells line (Code Lda ZeroPage (Number 0x100)) → ⊥) × (Spells line (Code Lda Absolute Nothing) → ⊥)
    × (Spells line (Code Nop Implied (Number 0)) → ⊥) × (Spells line (Code Lda Immediate (LabelOf 1)) → ⊥)
    × (Spells line (Code Jmp ZeroPage (Number 1)) → ⊥) × (Spells line (Code Lda ZeroPageY (Number 1)) → ⊥)

-- the text is a listing with nothing wrong, and gives these bytes and fixes
pub record Gives (text : List ℕ) (start : ℕ) (bytes : List ℕ) (fixes : List Fix) : Type 0 where
  pub script : List Written
  pub listing : IsListing text start script
  pub sound : fault_in start script ≡ None
  pub bytes_are : assembled_bytes 0 start (listing_at start script) ≡ bytes
  pub fixes_are : assembled_fixes 0 (listing_at start script) ≡ fixes

-- this is wrong with the text
abbrev pub Fails : List ℕ → ℕ → TextKind → Type 0
Fails text line kind = IsFaultOf text (record { line = line; kind = kind })

-- the first line, which all of these begin with
abbrev pub from_1000 : List ℕ → List ℕ
from_1000 lines = codes "* = $1000\n" ++ lines

-- an image of three instructions and a jump, one of a branch backwards and two bytes that stand for none, branches over
-- the end of memory both ways, a break, which takes one byte, and an image without bytes
abbrev pub ImagesAreListed : Type 0
ImagesAreListed =
    (listing_of 0x1000 (0x60 ∷ 0xEA ∷ 0xEA ∷ 0x4C ∷ 0x03 ∷ 0x10 ∷ [])
    ≡ from_1000 (codes "RTS\nNOP\nNOP\nJMP $1003\n"))
    × (listing_of 0x1000 (0xD0 ∷ 0xFD ∷ 0x02 ∷ 0xD0 ∷ []) ≡ from_1000 (codes "BNE $0FFF\n.byte $02\n.byte $D0\n"))
    × (listing_of 0xFFFE (0xD0 ∷ 0x00 ∷ []) ≡ codes "* = $FFFE\nBNE $0000\n")
    × (listing_of 0x0000 (0xA5 ∷ 0x12 ∷ 0xF0 ∷ 0x80 ∷ []) ≡ codes "* = $0000\nLDA $12\nBEQ $FF84\n")
    × (listing_of 0x1000 (0x00 ∷ 0x00 ∷ []) ≡ from_1000 (codes "BRK\nBRK\n"))
    × (listing_of 0x1000 [] ≡ codes "* = $1000\n")

-- back again; the origin alone; a label, a comment and an empty line; a branch over the end of memory both ways; a label
-- behind the last byte of memory, which stands at 0
abbrev pub TextsAreRead : Type 0
TextsAreRead =
    Gives (from_1000 (codes "RTS\nNOP\nNOP\nJMP $1003\n")) 0x1000 (0x60 ∷ 0xEA ∷ 0xEA ∷ 0x4C ∷ 0x03 ∷ 0x10 ∷ []) []
    × Gives (from_1000 []) 0x1000 [] []
    × Gives (from_1000 (codes "; a\n\nL0001:\nJMP L0001\n")) 0x1000 (0x4C ∷ 0x00 ∷ 0x10 ∷ [])
    (record { at = 1; kind = Word; to = 0 } ∷ [])
    × Gives (codes "* = $FFFE\nBNE $0000\n") 0xFFFE (0xD0 ∷ 0x00 ∷ []) []
    × Gives (codes "* = $0000\nBNE $FFFE\n") 0x0000 (0xD0 ∷ 0xFC ∷ []) []
    × Gives (codes "* = $FFFF\nNOP\nL0001:\n") 0xFFFF (0xEA ∷ []) []
    × Gives (codes "* = $FFFD\nJMP L0001\nL0001:\n") 0xFFFD (0x4C ∷ 0x00 ∷ 0x00 ∷ [])
    (record { at = 1; kind = Word; to = 3 } ∷ [])

-- a branch reaches 127 bytes on and 128 back, from the next instruction
abbrev pub BranchesReachSoFar : Type 0
BranchesReachSoFar =
    Gives (from_1000 (codes "BNE $1081\n")) 0x1000 (0xD0 ∷ 0x7F ∷ []) []
    × Fails (from_1000 (codes "BNE $1082\n")) 2 BranchTooFar
    × Gives (from_1000 (codes "BNE $0F82\n")) 0x1000 (0xD0 ∷ 0x80 ∷ []) []
    × Fails (from_1000 (codes "BNE $0F81\n")) 2 BranchTooFar

-- so many jumps of three bytes each, as text and as bytes
abbrev pub jumps : ℕ → List ℕ
jumps zero = []
jumps (suc n) = codes "JMP $1234\n" ++ jumps n

abbrev pub jump_bytes : ℕ → List ℕ
jump_bytes zero = []
jump_bytes (suc n) = 0x4C ∷ 0x34 ∷ 0x12 ∷ jump_bytes n

-- a branch to a label before and behind it has no fix; it goes 127 bytes on and 128 back, but no further
abbrev pub BranchesReachLabels : Type 0
BranchesReachLabels =
    Gives (from_1000 (codes "BNE L0001\nNOP\nL0001:\n")) 0x1000 (0xD0 ∷ 0x01 ∷ 0xEA ∷ []) []
    × Gives (from_1000 (codes "L0001:\nNOP\nBNE L0001\n")) 0x1000 (0xEA ∷ 0xD0 ∷ 0xFD ∷ []) []
    × Gives (from_1000 (codes "BNE L0001\nNOP\n" ++ jumps 42 ++ codes "L0001:\n")) 0x1000
    (0xD0 ∷ 0x7F ∷ 0xEA ∷ jump_bytes 42) []
    × Fails (from_1000 (codes "BNE L0001\nNOP\nNOP\n" ++ jumps 42 ++ codes "L0001:\n")) 2 BranchTooFar
    × Gives (from_1000 (codes "L0001:\n" ++ jumps 42 ++ codes "BNE L0001\n")) 0x1000
    (jump_bytes 42 ++ 0xD0 ∷ 0x80 ∷ []) []
    × Fails (from_1000 (codes "L0001:\nNOP\n" ++ jumps 42 ++ codes "BNE L0001\n")) 46 BranchTooFar

-- each fault at its line, and before those that come behind it in the order of kinds
abbrev pub FaultsAreTold : Type 0
FaultsAreTold =
    Fails [] 1 BadLine × Fails (codes "* = $1000") 1 BadLine × Fails (codes "\n* = $1000\n") 1 BadLine
    × Fails (codes ";\n* = $1000\n") 1 BadLine × Fails (codes "* = $100g\n") 1 BadLine
    × Fails (from_1000 (codes "L0001:\nL0001:\n* = $1000\n")) 4 BadLine
    × Fails (from_1000 (codes "NOP")) 2 BadLine
    × Fails (from_1000 (codes "JMP L0002\nL0001:\n\nL0001:\nL0001:\n")) 5 DoubleLabel
    × Fails (codes "* = $FFFF\nNOP\nJMP L0002\nBNE L0003\n") 3 UnknownLabel
    × Fails (codes "* = $FFFE\nBNE $8000\nL0001:\n; a\nNOP\nNOP\n") 5 PastEnd
    × Fails (codes "* = $FFFD\nJMP $0000\nNOP\n") 3 PastEnd
    × Fails (codes "* = $FFFF\nJMP $0000\n") 2 PastEnd

-- a result has this origin, these bytes and these fixes
pub record Has (origin : ℕ) (bytes : List ℕ) (fixes : List Fix) (result : Assembled) : Type 0 where
  pub origin_is : result.origin ≡ origin
  pub bytes_are : result.bytes ≡ bytes
  pub fixes_are : result.fixes ≡ fixes

-- there are results that have one and the other, and they aren't the same
pub record AreToldApart (HasOne HasOther : Assembled → Type 0) : Type 0 where
  pub one : Assembled
  pub other : Assembled
  pub is_one : HasOne one
  pub is_other : HasOther other
  pub differ : AreSame one other → ⊥

-- results that differ in their origins alone, in their bytes alone, and in their fixes alone
abbrev pub ResultsAreToldApart : Type 0
ResultsAreToldApart =
    AreToldApart (Has 0x1000 (0xEA ∷ []) []) (Has 0x1001 (0xEA ∷ []) [])
    × AreToldApart (Has 0x1000 (0xEA ∷ []) []) (Has 0x1000 (0x60 ∷ []) [])
    × AreToldApart (Has 0x1000 (0x00 ∷ []) [])
    (Has 0x1000 (0x00 ∷ []) (record { at = 0; kind = Low; to = 0 } ∷ []))
