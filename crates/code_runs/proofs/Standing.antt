-- When instructions stand in memory: from the bytes, and after writes elsewhere.
use Rattle.std.proofs.Common.{◌≡◌, ◌≢◌, ℕ, ◌+◌, ◌*◌, ◌%◌, ◌≤◌, List, [], ◌∷◌}
use Rattle.std.proofs.Common.{Some, refl, ap, ◌∙◌, arith}
use Rattle.cpu6502.specs.declared.memory.TheConstants.{MEMORY_SIZE}
use Rattle.cpu6502.specs.declared.mnemonic.Mnemonic.{Mnemonic}
use Rattle.cpu6502.specs.declared.mnemonic.Mode.{Mode}
use Rattle.cpu6502.specs.declared.mnemonic.Mode.TheVariants.{Implied, Accumulator, Immediate, ZeroPage, ZeroPageX}
use Rattle.cpu6502.specs.declared.mnemonic.Mode.TheVariants.{ZeroPageY, Absolute, AbsoluteX, AbsoluteY, IndirectX}
use Rattle.cpu6502.specs.declared.mnemonic.Mode.TheVariants.{IndirectY, Indirect, Relative}
use Rattle.cpu6502.specs.Opcodes.{meaning_of, length_of}
use Rattle.cpu6502.specs.Effects.{displacement, word_at}
use Rattle.code_runs.specs.Code.{Instruction, operand_at, Stands, CodeAt, size_of, SameFrom}
use Rattle.code_runs.specs.Decoded.{StandAlone, StandByByte, StandByWord, BranchesStand}

-- ---- from the bytes: the opcode, and then the operand byte or its two bytes at the places that follow

-- the modes without operand
pub stand_alone : StandAlone
stand_alone at pc opcode mn Implied n e m = record { decoded = ap meaning_of e ∙ m; operand_is = refl }
stand_alone at pc opcode mn Accumulator n e m = record { decoded = ap meaning_of e ∙ m; operand_is = refl }
stand_alone at pc opcode mn _ n e m = absurd (omega arith)

pub stands_implied : (at : ℕ → ℕ) (pc opcode : ℕ) (mn : Mnemonic) → at pc ≡ opcode →
    meaning_of opcode ≡ Some (mn, Implied) → Stands at pc mn Implied 0
stands_implied at pc opcode mn = stand_alone at pc opcode mn Implied refl

-- the modes whose operand is the byte that follows
byte_operand : (mode : Mode) (at : ℕ → ℕ) (pc : ℕ) → length_of mode ≡ 2 → mode ≢ Relative →
    operand_at mode at pc ≡ at ((pc + 1) % MEMORY_SIZE)
byte_operand Immediate at pc n h = refl
byte_operand ZeroPage at pc n h = refl
byte_operand ZeroPageX at pc n h = refl
byte_operand ZeroPageY at pc n h = refl
byte_operand IndirectX at pc n h = refl
byte_operand IndirectY at pc n h = refl
byte_operand Relative at pc n h = absurd (h refl)
byte_operand _ at pc n h = absurd (omega arith)

pub stand_by_byte : StandByByte
stand_by_byte at pc opcode p1 byte mn mode n h e m f b =
    record { decoded = ap meaning_of e ∙ m; operand_is = byte_operand mode at pc n h ∙ ap at f ∙ b }

pub stands_immediate : (at : ℕ → ℕ) (pc opcode p1 byte : ℕ) (mn : Mnemonic) → at pc ≡ opcode →
    meaning_of opcode ≡ Some (mn, Immediate) → (pc + 1) % MEMORY_SIZE ≡ p1 → at p1 ≡ byte →
    Stands at pc mn Immediate byte
stands_immediate at pc opcode p1 byte mn = stand_by_byte at pc opcode p1 byte mn Immediate refl (λ e. cc)

-- the modes whose operand is the word that follows
word_operand : (mode : Mode) (at : ℕ → ℕ) (pc : ℕ) → length_of mode ≡ 3 →
    operand_at mode at pc ≡ word_at at ((pc + 1) % MEMORY_SIZE)
word_operand Absolute at pc n = refl
word_operand AbsoluteX at pc n = refl
word_operand AbsoluteY at pc n = refl
word_operand Indirect at pc n = refl
word_operand _ at pc n = absurd (omega arith)

word_is : (at : ℕ → ℕ) (pc p1 p2 low high word : ℕ) → (pc + 1) % MEMORY_SIZE ≡ p1 → (p1 + 1) % MEMORY_SIZE ≡ p2 →
    at p1 ≡ low → at p2 ≡ high → low + 256 * high ≡ word → word_at at ((pc + 1) % MEMORY_SIZE) ≡ word
word_is at pc p1 p2 low high word f g l h w = rw (f, g, l, h) w

pub stand_by_word : StandByWord
stand_by_word at pc opcode p1 p2 low high word mn mode n e m f g l h w =
    record {
      decoded = ap meaning_of e ∙ m;
      operand_is = word_operand mode at pc n ∙ word_is at pc p1 p2 low high word f g l h w;
    }

pub stands_absolute : (at : ℕ → ℕ) (pc opcode p1 p2 low high word : ℕ) (mn : Mnemonic) → at pc ≡ opcode →
    meaning_of opcode ≡ Some (mn, Absolute) → (pc + 1) % MEMORY_SIZE ≡ p1 → (p1 + 1) % MEMORY_SIZE ≡ p2 →
    at p1 ≡ low → at p2 ≡ high → low + 256 * high ≡ word → Stands at pc mn Absolute word
stands_absolute at pc opcode p1 p2 low high word mn = stand_by_word at pc opcode p1 p2 low high word mn Absolute refl

pub stands_absolute_x : (at : ℕ → ℕ) (pc opcode p1 p2 low high word : ℕ) (mn : Mnemonic) → at pc ≡ opcode →
    meaning_of opcode ≡ Some (mn, AbsoluteX) → (pc + 1) % MEMORY_SIZE ≡ p1 → (p1 + 1) % MEMORY_SIZE ≡ p2 →
    at p1 ≡ low → at p2 ≡ high → low + 256 * high ≡ word → Stands at pc mn AbsoluteX word
stands_absolute_x at pc opcode p1 p2 low high word mn =
    stand_by_word at pc opcode p1 p2 low high word mn AbsoluteX refl

-- a branch, whose operand is the place that it goes to
pub stands_relative : BranchesStand
stands_relative at pc opcode p1 byte target mn e m f b t =
    record {
      decoded = ap meaning_of e ∙ m;
      operand_is = ap (λ d. (pc + 2 + displacement d) % MEMORY_SIZE) (ap at f ∙ b) ∙ t;
    }

-- ---- after writes elsewhere

-- the operand byte and the operand word, where the bytes are the same
byte_stays : (at at' : ℕ → ℕ) (pc high : ℕ) → pc + 2 ≤ high → high ≤ MEMORY_SIZE → SameFrom pc high at at' →
    at' ((pc + 1) % MEMORY_SIZE) ≡ at ((pc + 1) % MEMORY_SIZE)
byte_stays at at' pc high within below s =
    let e : (pc + 1) % MEMORY_SIZE ≡ pc + 1 = omega arith in
    rw e (s.same (pc + 1) (omega arith) (omega arith))

word_stays : (at at' : ℕ → ℕ) (pc high : ℕ) → pc + 3 ≤ high → high ≤ MEMORY_SIZE → SameFrom pc high at at' →
    word_at at' ((pc + 1) % MEMORY_SIZE) ≡ word_at at ((pc + 1) % MEMORY_SIZE)
word_stays at at' pc high within below s =
    let e : (pc + 1) % MEMORY_SIZE ≡ pc + 1 = omega arith in
    let f : (pc + 1 + 1) % MEMORY_SIZE ≡ pc + 1 + 1 = omega arith in
    let a = s.same (pc + 1) (omega arith) (omega arith) in
    let b = s.same (pc + 1 + 1) (omega arith) (omega arith) in
    rw (e, f, a, b) refl

operand_stays : (at at' : ℕ → ℕ) (pc high : ℕ) (mode : Mode) → pc + length_of mode ≤ high → high ≤ MEMORY_SIZE →
    SameFrom pc high at at' → operand_at mode at' pc ≡ operand_at mode at pc
operand_stays at at' pc high Implied within below s = refl
operand_stays at at' pc high Accumulator within below s = refl
operand_stays at at' pc high Immediate within below s = byte_stays at at' pc high within below s
operand_stays at at' pc high ZeroPage within below s = byte_stays at at' pc high within below s
operand_stays at at' pc high ZeroPageX within below s = byte_stays at at' pc high within below s
operand_stays at at' pc high ZeroPageY within below s = byte_stays at at' pc high within below s
operand_stays at at' pc high Absolute within below s = word_stays at at' pc high within below s
operand_stays at at' pc high AbsoluteX within below s = word_stays at at' pc high within below s
operand_stays at at' pc high AbsoluteY within below s = word_stays at at' pc high within below s
operand_stays at at' pc high IndirectX within below s = byte_stays at at' pc high within below s
operand_stays at at' pc high IndirectY within below s = byte_stays at at' pc high within below s
operand_stays at at' pc high Indirect within below s = word_stays at at' pc high within below s
operand_stays at at' pc high Relative within below s =
    ap (λ d. (pc + 2 + displacement d) % MEMORY_SIZE) (byte_stays at at' pc high within below s)

-- an instruction has at least one byte
length_of-pos : (mode : Mode) → 1 ≤ length_of mode
length_of-pos Implied = omega arith
length_of-pos Accumulator = omega arith
length_of-pos Immediate = omega arith
length_of-pos ZeroPage = omega arith
length_of-pos ZeroPageX = omega arith
length_of-pos ZeroPageY = omega arith
length_of-pos Absolute = omega arith
length_of-pos AbsoluteX = omega arith
length_of-pos AbsoluteY = omega arith
length_of-pos IndirectX = omega arith
length_of-pos IndirectY = omega arith
length_of-pos Indirect = omega arith
length_of-pos Relative = omega arith

-- an instruction still stands where its bytes are the same
pub stands_stay : (at at' : ℕ → ℕ) (pc high operand : ℕ) (mn : Mnemonic) (mode : Mode) → pc + length_of mode ≤ high →
    high ≤ MEMORY_SIZE → SameFrom pc high at at' → Stands at pc mn mode operand → Stands at' pc mn mode operand
stands_stay at at' pc high operand mn mode within below s stands = record {
  decoded = ap meaning_of (s.same pc (omega arith) (omega (arith, length_of-pos mode))) ∙ stands.decoded;
  operand_is = operand_stays at at' pc high mode within below s ∙ stands.operand_is;
}

-- the same of code
pub code_stays : (at at' : ℕ → ℕ) (pc high : ℕ) (code : List Instruction) → pc + size_of code ≤ high →
    high ≤ MEMORY_SIZE → SameFrom pc high at at' → CodeAt at pc code → CodeAt at' pc code
code_stays at at' pc high [] within below s c = tt
code_stays at at' pc high (i ∷ rest) within below s c = (
  stands_stay at at' pc high i.operand i.mnemonic i.mode (omega arith) below s c.0,
  code_stays at at' (pc + length_of i.mode) high rest (omega arith) below
      (record { same = λ q lo hi. s.same q (omega arith) hi }) c.1,
)
