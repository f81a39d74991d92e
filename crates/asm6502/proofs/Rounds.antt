-- What is encoded decodes, and nothing else does.
use Rattle.std.proofs.Common.{◌≡◌, ℕ, suc, ◌+◌, ◌*◌, ◌/◌, ◌%◌, ◌<◌, List, [], ◌∷◌}
use Rattle.std.proofs.Common.{◌++◌, length, take, Bool, true, false, Option, Some, None, nat_eq, nat_lt}
use Rattle.std.proofs.Common.{if◌then◌else◌, refl, ap, sym, ◌∙◌, arith}
use Rattle.std.specs.Prelude.{All}
use Rattle.std.specs.Option.{option_map, option_and_then}
use Rattle.std.proofs.lemmas.Bool.{eqb-true, lt-ltb}
use Rattle.std.proofs.lemmas.Option.{some_pair_parts}
use Rattle.std.proofs.lemmas.List.Elements.{All-head, All-tail}
use Rattle.cpu6502.specs.declared.mnemonic.Mnemonic.{Mnemonic}
use Rattle.cpu6502.specs.declared.mnemonic.Mode.{Mode}
use Rattle.cpu6502.specs.declared.mnemonic.Mode.TheVariants.{Implied, Accumulator, Immediate, ZeroPage, ZeroPageX}
use Rattle.cpu6502.specs.declared.mnemonic.Mode.TheVariants.{ZeroPageY, Absolute, AbsoluteX, AbsoluteY, IndirectX}
use Rattle.cpu6502.specs.declared.mnemonic.Mode.TheVariants.{IndirectY, Indirect, Relative}
use Rattle.cpu6502.specs.Opcodes.{Meaning, meaning_of, opcode_of, length_of, OpcodesHaveRows, RowsHaveOpcodes}
use Rattle.asm6502.specs.declared.instructions.Instr.{Instr}
use Rattle.asm6502.specs.Instructions.{operand_bytes, encoding, byte_from, word_from, operand_from, decoding_as, decoding}

-- operand bytes are read as the operand, and are as many as the mode says
pub record IsRead (mode : Mode) (operand : ℕ) (bytes rest : List ℕ) : Type 0 where
  pub from : operand_from mode (bytes ++ rest) ≡ Some operand
  pub size : length_of mode ≡ suc (length bytes)

none_read : (n : ℕ) (bytes rest : List ℕ) (z : Bool) → nat_eq n 0 ≡ z → (if z then Some [] else None) ≡ Some bytes →
    (Some 0 ≡ Some n) × (1 ≡ suc (length bytes))
none_read n bytes rest true e h =
    let n0 : n ≡ 0 = eqb-true n 0 e in
    let b0 : [] ≡ bytes = cc in
    (ap Some (sym n0), ap (λ (l : List ℕ). suc (length l)) b0)
none_read n bytes rest false e h = absurd (cc)

byte_read : (n : ℕ) (bytes rest : List ℕ) (z : Bool) → (if z then Some (n ∷ []) else None) ≡ Some bytes →
    (byte_from (bytes ++ rest) ≡ Some n) × (2 ≡ suc (length bytes))
byte_read n bytes rest true h =
    let b0 : n ∷ [] ≡ bytes = cc in
    (ap (λ (l : List ℕ). byte_from (l ++ rest)) (sym b0), ap (λ (l : List ℕ). suc (length l)) b0)
byte_read n bytes rest false h = absurd (cc)

word_read : (n : ℕ) (bytes rest : List ℕ) → Some (n % 256 ∷ n / 256 ∷ []) ≡ Some bytes →
    (word_from (bytes ++ rest) ≡ Some n) × (3 ≡ suc (length bytes))
word_read n bytes rest h =
    let b0 : n % 256 ∷ n / 256 ∷ [] ≡ bytes = cc in
    let whole : n % 256 + 256 * (n / 256) ≡ n = omega arith in
    (ap (λ (l : List ℕ). word_from (l ++ rest)) (sym b0) ∙ ap Some whole, ap (λ (l : List ℕ). suc (length l)) b0)

pub operand_read : (mode : Mode) (n : ℕ) (bytes rest : List ℕ) → operand_bytes mode n ≡ Some bytes →
    IsRead mode n bytes rest
operand_read Implied n bytes rest h =
    let r = none_read n bytes rest (nat_eq n 0) refl h in record { from = r.0; size = r.1 }
operand_read Accumulator n bytes rest h =
    let r = none_read n bytes rest (nat_eq n 0) refl h in record { from = r.0; size = r.1 }
operand_read Immediate n bytes rest h =
    let r = byte_read n bytes rest (nat_lt n 256) h in record { from = r.0; size = r.1 }
operand_read ZeroPage n bytes rest h =
    let r = byte_read n bytes rest (nat_lt n 256) h in record { from = r.0; size = r.1 }
operand_read ZeroPageX n bytes rest h =
    let r = byte_read n bytes rest (nat_lt n 256) h in record { from = r.0; size = r.1 }
operand_read ZeroPageY n bytes rest h =
    let r = byte_read n bytes rest (nat_lt n 256) h in record { from = r.0; size = r.1 }
operand_read IndirectX n bytes rest h =
    let r = byte_read n bytes rest (nat_lt n 256) h in record { from = r.0; size = r.1 }
operand_read IndirectY n bytes rest h =
    let r = byte_read n bytes rest (nat_lt n 256) h in record { from = r.0; size = r.1 }
operand_read Relative n bytes rest h =
    let r = byte_read n bytes rest (nat_lt n 256) h in record { from = r.0; size = r.1 }
operand_read Absolute n bytes rest h = let r = word_read n bytes rest h in record { from = r.0; size = r.1 }
operand_read AbsoluteX n bytes rest h = let r = word_read n bytes rest h in record { from = r.0; size = r.1 }
operand_read AbsoluteY n bytes rest h = let r = word_read n bytes rest h in record { from = r.0; size = r.1 }
operand_read Indirect n bytes rest h = let r = word_read n bytes rest h in record { from = r.0; size = r.1 }

-- the parts of what an instruction encodes to
pub record Parts (instr : Instr) (bytes : List ℕ) : Type 0 where
  pub opcode : ℕ
  pub following : List ℕ
  pub row : opcode_of instr.mnemonic instr.mode ≡ Some opcode
  pub operand : operand_bytes instr.mode instr.operand ≡ Some following
  pub is : bytes ≡ opcode ∷ following

parts_of : (instr : Instr) (bytes : List ℕ) (op : Option ℕ) (following : Option (List ℕ)) →
    opcode_of instr.mnemonic instr.mode ≡ op → operand_bytes instr.mode instr.operand ≡ following →
    option_and_then (λ (opcode : ℕ). option_map (λ (l : List ℕ). opcode ∷ l) following) op ≡ Some bytes →
    Parts instr bytes
parts_of instr bytes None following e f h = absurd (cc)
parts_of instr bytes (Some op) None e f h = absurd (cc)
parts_of instr bytes (Some op) (Some following) e f h =
    record { opcode = op; following = following; row = e; operand = f; is = cc }

pub encoding_parts : (instr : Instr) (bytes : List ℕ) → encoding instr ≡ Some bytes → Parts instr bytes
encoding_parts instr bytes h =
    parts_of instr bytes (opcode_of instr.mnemonic instr.mode) (operand_bytes instr.mode instr.operand) refl refl h

pub what_is_encoded_decodes : OpcodesHaveRows → (instr : Instr) (bytes rest : List ℕ) → encoding instr ≡ Some bytes →
    decoding (bytes ++ rest) ≡ Some (instr, length bytes)
what_is_encoded_decodes rows instr bytes rest h =
    let p = encoding_parts instr bytes h in
    let m = rows instr.mnemonic instr.mode p.opcode p.row in
    let r = operand_read instr.mode instr.operand p.following rest p.operand in
    let f = r.from in
    let s = r.size in
    let i = p.is in
    rw (i, m, f, s) refl

-- the other way: what is read is spelled so
none_spelled : (rest : List ℕ) (n : ℕ) → Some 0 ≡ Some n → operand_bytes Implied n ≡ Some []
none_spelled rest n h = let e : n ≡ 0 = cc in rw e refl

byte_spelled : (rest : List ℕ) (n : ℕ) → All (λ byte. byte < 256) rest → byte_from rest ≡ Some n →
    ((if nat_lt n 256 then Some (n ∷ []) else None) ≡ Some (take 1 rest)) × (length (take 1 rest) ≡ 1)
byte_spelled [] n a h = absurd (cc)
byte_spelled (b ∷ rest) n a h =
    let e : b ≡ n = cc in
    let small : b < 256 = All-head (λ (byte : ℕ). byte < 256) b rest a in
    let t : nat_lt b 256 ≡ true = lt-ltb b 256 small in
    (rw (← e) (rw t refl), refl)

word_spelled : (rest : List ℕ) (n : ℕ) → All (λ byte. byte < 256) rest → word_from rest ≡ Some n →
    (Some (n % 256 ∷ n / 256 ∷ []) ≡ Some (take 2 rest)) × (length (take 2 rest) ≡ 2)
word_spelled [] n a h = absurd (cc)
word_spelled (low ∷ []) n a h = absurd (cc)
word_spelled (low ∷ high ∷ rest) n a h =
    let e : low + 256 * high ≡ n = cc in
    let small : low < 256 = All-head (λ (byte : ℕ). byte < 256) low (high ∷ rest) a in
    let l : n % 256 ≡ low = omega arith in
    let g : n / 256 ≡ high = omega arith in
    (rw (l, g) refl, refl)

pub record IsSpelled (mode : Mode) (n : ℕ) (rest : List ℕ) : Type 0 where
  pub following : List ℕ
  pub bytes : operand_bytes mode n ≡ Some following
  pub taken : (opcode : ℕ) → take (length_of mode) (opcode ∷ rest) ≡ opcode ∷ following
  pub size : suc (length following) ≡ length_of mode

operand_spelled : (mode : Mode) (n : ℕ) (rest : List ℕ) → All (λ byte. byte < 256) rest →
    operand_from mode rest ≡ Some n → IsSpelled mode n rest
operand_spelled Implied n rest a h =
    record { following = []; bytes = none_spelled rest n h; taken = λ o. refl; size = refl }
operand_spelled Accumulator n rest a h =
    record { following = []; bytes = none_spelled rest n h; taken = λ o. refl; size = refl }
operand_spelled Immediate n rest a h =
    let r = byte_spelled rest n a h in record {
      following = take 1 rest;
      bytes = r.0;
      taken = λ o. refl;
      size =
          ap suc r.1;
    }
operand_spelled ZeroPage n rest a h =
    let r = byte_spelled rest n a h in record {
      following = take 1 rest;
      bytes = r.0;
      taken = λ o. refl;
      size =
          ap suc r.1;
    }
operand_spelled ZeroPageX n rest a h =
    let r = byte_spelled rest n a h in record {
      following = take 1 rest;
      bytes = r.0;
      taken = λ o. refl;
      size =
          ap suc r.1;
    }
operand_spelled ZeroPageY n rest a h =
    let r = byte_spelled rest n a h in record {
      following = take 1 rest;
      bytes = r.0;
      taken = λ o. refl;
      size =
          ap suc r.1;
    }
operand_spelled IndirectX n rest a h =
    let r = byte_spelled rest n a h in record {
      following = take 1 rest;
      bytes = r.0;
      taken = λ o. refl;
      size =
          ap suc r.1;
    }
operand_spelled IndirectY n rest a h =
    let r = byte_spelled rest n a h in record {
      following = take 1 rest;
      bytes = r.0;
      taken = λ o. refl;
      size =
          ap suc r.1;
    }
operand_spelled Relative n rest a h =
    let r = byte_spelled rest n a h in record {
      following = take 1 rest;
      bytes = r.0;
      taken = λ o. refl;
      size =
          ap suc r.1;
    }
operand_spelled Absolute n rest a h =
    let r = word_spelled rest n a h in record {
      following = take 2 rest;
      bytes = r.0;
      taken = λ o. refl;
      size =
          ap suc r.1;
    }
operand_spelled AbsoluteX n rest a h =
    let r = word_spelled rest n a h in record {
      following = take 2 rest;
      bytes = r.0;
      taken = λ o. refl;
      size =
          ap suc r.1;
    }
operand_spelled AbsoluteY n rest a h =
    let r = word_spelled rest n a h in record {
      following = take 2 rest;
      bytes = r.0;
      taken = λ o. refl;
      size =
          ap suc r.1;
    }
operand_spelled Indirect n rest a h =
    let r = word_spelled rest n a h in record {
      following = take 2 rest;
      bytes = r.0;
      taken = λ o. refl;
      size =
          ap suc r.1;
    }

spelled_as : RowsHaveOpcodes → (opcode : ℕ) (rest : List ℕ) (mn : Mnemonic) (mode : Mode) (read : Option ℕ)
    (instr : Instr) (taken : ℕ) → All (λ byte. byte < 256) (opcode ∷ rest) → meaning_of opcode ≡ Some (mn, mode) →
    operand_from mode rest ≡ read → option_map {U = Instr × ℕ} (λ
    (n : ℕ). (record { mnemonic = mn; mode = mode; operand = n }, length_of mode)) read ≡ Some (instr, taken) →
    (encoding instr ≡ Some (take taken (opcode ∷ rest))) × (length (take taken (opcode ∷ rest)) ≡ taken)
spelled_as rows opcode rest mn mode None instr taken a m e h = absurd (cc)
spelled_as rows opcode rest mn mode (Some n) instr taken a m e h =
    let both = some_pair_parts {A = Instr} {B = ℕ} (record { mnemonic = mn; mode = mode; operand = n }) instr
    (length_of mode) taken h in
    let i = both.0 in
    let t = both.1 in
    let s = operand_spelled mode n rest (All-tail (λ (byte : ℕ). byte < 256) opcode rest a) e in
    let row = rows opcode mn mode (All-head (λ (byte : ℕ). byte < 256) opcode rest a) m in
    let b = s.bytes in
    let k = s.taken opcode in
    let z = s.size in
    rw (← i, ← t) (rw (row, b, k) refl, ap length k ∙ z)

spelled_by : RowsHaveOpcodes → (opcode : ℕ) (rest : List ℕ) (m : Option Meaning) (instr : Instr) (taken : ℕ) →
    All (λ byte. byte < 256) (opcode ∷ rest) → meaning_of opcode ≡ m →
    option_and_then (λ (meaning : Meaning). decoding_as meaning rest) m ≡ Some (instr, taken) →
    (encoding instr ≡ Some (take taken (opcode ∷ rest))) × (length (take taken (opcode ∷ rest)) ≡ taken)
spelled_by rows opcode rest None instr taken a e h = absurd (cc)
spelled_by rows opcode rest (Some m) instr taken a e h =
    spelled_as rows opcode rest m.0 m.1 (operand_from m.1 rest) instr taken a e refl h

pub nothing_else_decodes : RowsHaveOpcodes → (bytes : List ℕ) (instr : Instr) (taken : ℕ) →
    All (λ byte. byte < 256) bytes → decoding bytes ≡ Some (instr, taken) → (encoding instr ≡ Some (take taken bytes))
    × (length (take taken bytes) ≡ taken)
nothing_else_decodes rows [] instr taken a h = absurd (cc)
nothing_else_decodes rows (opcode ∷ rest) instr taken a h =
    spelled_by rows opcode rest (meaning_of opcode) instr taken a refl h
