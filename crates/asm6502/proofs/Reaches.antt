-- The displacement byte of a branch leads to its target, and where there is none, no displacement does.
use Rattle.std.proofs.Common.{◌≡◌, ◌≢◌, ℕ, ◌+◌, ◌-◌, ◌*◌, ◌/◌, ◌%◌, ◌<◌}
use Rattle.std.proofs.Common.{◌≤◌, Bool, true, false, Some, None, nat_lt, if◌then◌else◌, refl, ap, sym}
use Rattle.std.proofs.Common.{◌∙◌, arith}
use Rattle.std.proofs.lemmas.Bool.{ltb-true, lt-ltb}
use Rattle.std.proofs.lemmas.Bool.{ltb-false, le-ltb}
use Rattle.cpu6502.specs.declared.memory.TheConstants.{MEMORY_SIZE}
use Rattle.cpu6502.specs.Effects.{displacement}
use Rattle.asm6502.specs.Branches.{way_from, branch_byte}

-- a way leads back to the target
back : (pc target q way r s : ℕ) → target + 2 * MEMORY_SIZE - (pc + 2) ≡ MEMORY_SIZE * q + way →
    pc + 2 + way ≡ MEMORY_SIZE * r + s → pc ≤ MEMORY_SIZE → target < MEMORY_SIZE → s < MEMORY_SIZE → s ≡ target
back pc target q way r s e f l t k = omega arith

pub way_back : (pc target : ℕ) → pc ≤ MEMORY_SIZE → target < MEMORY_SIZE →
    (pc + 2 + way_from pc target) % MEMORY_SIZE ≡ target
way_back pc target l t =
    let e : target + 2 * MEMORY_SIZE - (pc + 2)
    ≡ MEMORY_SIZE * ((target + 2 * MEMORY_SIZE - (pc + 2)) / MEMORY_SIZE) + way_from pc target =
    omega arith in
    ended pc target ((target + 2 * MEMORY_SIZE - (pc + 2)) / MEMORY_SIZE) (way_from pc target) e l t
  where
    ended : (pc target q way : ℕ) → target + 2 * MEMORY_SIZE - (pc + 2) ≡ MEMORY_SIZE * q + way → pc ≤ MEMORY_SIZE →
        target < MEMORY_SIZE → (pc + 2 + way) % MEMORY_SIZE ≡ target
    ended pc target q way e l t =
        let f : pc + 2 + way ≡ MEMORY_SIZE * ((pc + 2 + way) / MEMORY_SIZE) + (pc + 2 + way) % MEMORY_SIZE =
        omega arith in
        back pc target q way ((pc + 2 + way) / MEMORY_SIZE) ((pc + 2 + way) % MEMORY_SIZE) e f l t (omega arith)

-- the displacement of each byte
low_displacement : (byte : ℕ) → byte < 128 → displacement byte ≡ byte
low_displacement byte h = let t : nat_lt byte 128 ≡ true = lt-ltb byte 128 h in rw t refl

high_displacement : (byte : ℕ) → 128 ≤ byte → displacement byte ≡ byte + 65280
high_displacement byte h = let t : nat_lt byte 128 ≡ false = le-ltb byte 128 h in rw t refl

reach_by : (pc target byte way : ℕ) (y z : Bool) → way < MEMORY_SIZE → (pc + 2 + way) % MEMORY_SIZE ≡ target →
    nat_lt way 128 ≡ y → nat_lt way 65408 ≡ z →
    (if y then Some way else if z then None else Some (way - 65280)) ≡ Some byte → (byte < 256)
    × ((pc + 2 + displacement byte) % MEMORY_SIZE ≡ target)
reach_by pc target byte way true z w b e f h =
    let small : way < 128 = ltb-true way 128 e in
    let same : way ≡ byte = cc in
    (omega arith, ap (λ (d : ℕ). (pc + 2 + d) % MEMORY_SIZE) (low_displacement byte (omega arith) ∙ sym same) ∙ b)
reach_by pc target byte way false true w b e f h = absurd (cc)
reach_by pc target byte way false false w b e f h =
    let big : 65408 ≤ way = ltb-false way 65408 f in
    let same : way - 65280 ≡ byte = cc in
    let whole : byte + 65280 ≡ way = omega arith in
    (omega arith, ap (λ (d : ℕ). (pc + 2 + d) % MEMORY_SIZE) (high_displacement byte (omega arith) ∙ whole) ∙ b)

pub branches_reach : (pc target byte : ℕ) → pc ≤ MEMORY_SIZE → target < MEMORY_SIZE →
    branch_byte pc target ≡ Some byte → (byte < 256) × ((pc + 2 + displacement byte) % MEMORY_SIZE ≡ target)
branches_reach pc target byte l t h =
    reach_by pc target byte (way_from pc target) (nat_lt (way_from pc target) 128) (nat_lt (way_from pc target) 65408)
    (omega arith) (way_back pc target l t) refl refl h

-- a displacement that leads to the target is the way
only_way : (pc target d : ℕ) → pc ≤ MEMORY_SIZE → target < MEMORY_SIZE → d < MEMORY_SIZE →
    (pc + 2 + d) % MEMORY_SIZE ≡ target → way_from pc target ≡ d
only_way pc target d l t k h =
    let e : pc + 2 + d ≡ MEMORY_SIZE * ((pc + 2 + d) / MEMORY_SIZE) + target = split (pc + 2 + d) target h in
    let f : target + 2 * MEMORY_SIZE - (pc + 2)
    ≡ MEMORY_SIZE * ((target + 2 * MEMORY_SIZE - (pc + 2)) / MEMORY_SIZE) + way_from pc target =
    omega arith in
    met pc target d ((pc + 2 + d) / MEMORY_SIZE) ((target + 2 * MEMORY_SIZE - (pc + 2)) / MEMORY_SIZE)
    (way_from pc target) e f l t k
    (omega arith)
  where
    split : (n s : ℕ) → n % MEMORY_SIZE ≡ s → n ≡ MEMORY_SIZE * (n / MEMORY_SIZE) + s
    split n s h = omega arith

    met : (pc target d r q way : ℕ) → pc + 2 + d ≡ MEMORY_SIZE * r + target →
        target + 2 * MEMORY_SIZE - (pc + 2) ≡ MEMORY_SIZE * q + way → pc ≤ MEMORY_SIZE → target < MEMORY_SIZE →
        d < MEMORY_SIZE → way < MEMORY_SIZE → way ≡ d
    met pc target d r q way e f l t k w = omega arith

far_by_way : (way : ℕ) (y z : Bool) → nat_lt way 128 ≡ y → nat_lt way 65408 ≡ z →
    (if y then Some way else if z then None else Some (way - 65280)) ≡ None → (128 ≤ way) × (way < 65408)
far_by_way way true z e f h = absurd (cc)
far_by_way way false true e f h = (ltb-false way 128 e, ltb-true way 65408 f)
far_by_way way false false e f h = absurd (cc)

displaced : (byte : ℕ) (z : Bool) → byte < 256 → nat_lt byte 128 ≡ z → (displacement byte < MEMORY_SIZE)
    × ((128 ≤ displacement byte) × (displacement byte < 65408) → ⊥)
displaced byte true h e =
    let small : byte < 128 = ltb-true byte 128 e in
    let d = low_displacement byte small in
    (omega arith, λ r. absurd (omega (arith, r.0, r.1)))
displaced byte false h e =
    let big : 128 ≤ byte = ltb-false byte 128 e in
    let d = high_displacement byte big in
    (omega arith, λ r. absurd (omega (arith, r.0, r.1)))

pub far_is_out_of_reach : (pc target byte : ℕ) → pc ≤ MEMORY_SIZE → target < MEMORY_SIZE →
    branch_byte pc target ≡ None → byte < 256 → (pc + 2 + displacement byte) % MEMORY_SIZE ≢ target
far_is_out_of_reach pc target byte l t h b e =
    let far = far_by_way (way_from pc target) (nat_lt (way_from pc target) 128) (nat_lt (way_from pc target) 65408)
    refl refl h in
    let d = displaced byte (nat_lt byte 128) b refl in
    let w = only_way pc target (displacement byte) l t d.0 e in
    d.1 (omega arith, omega arith)

-- ---- distances

same_way : (pc target pc' target' : ℕ) → pc ≤ MEMORY_SIZE → pc' ≤ MEMORY_SIZE → target < MEMORY_SIZE →
    target' < MEMORY_SIZE → (target + pc') % MEMORY_SIZE ≡ (target' + pc) % MEMORY_SIZE →
    way_from pc target ≡ way_from pc' target'
same_way pc target pc' target' l l' t t' e =
    let a : target + pc' ≡ MEMORY_SIZE * ((target + pc') / MEMORY_SIZE) + (target + pc') % MEMORY_SIZE = omega arith in
    let b : target' + pc ≡ MEMORY_SIZE * ((target' + pc) / MEMORY_SIZE) + (target' + pc) % MEMORY_SIZE = omega arith in
    met target target' pc pc' ((target + pc') / MEMORY_SIZE) ((target' + pc) / MEMORY_SIZE)
    ((target + pc') % MEMORY_SIZE)
    ((target' + pc) % MEMORY_SIZE) a b e l l'
  where
    met : (t t' pc pc' q q' r r' : ℕ) → t + pc' ≡ MEMORY_SIZE * q + r → t' + pc ≡ MEMORY_SIZE * q' + r' → r ≡ r' →
        pc ≤ MEMORY_SIZE → pc' ≤ MEMORY_SIZE →
        (t + 2 * MEMORY_SIZE - (pc + 2)) % MEMORY_SIZE ≡ (t' + 2 * MEMORY_SIZE - (pc' + 2)) % MEMORY_SIZE
    met t t' pc pc' q q' r r' e f g l l' = omega arith

pub branches_keep_distance : (pc target pc' target' : ℕ) → pc ≤ MEMORY_SIZE → pc' ≤ MEMORY_SIZE → target < MEMORY_SIZE →
    target' < MEMORY_SIZE → (target + pc') % MEMORY_SIZE ≡ (target' + pc) % MEMORY_SIZE →
    branch_byte pc target ≡ branch_byte pc' target'
branches_keep_distance pc target pc' target' l l' t t' e =
    ap (λ (way : ℕ). if nat_lt way 128 then Some way else if nat_lt way 65408 then None else Some (way - 65280))
    (same_way pc target pc' target' l l' t t' e)

pub branches_reach_after : (pc n : ℕ) → pc ≤ MEMORY_SIZE → n ≤ 127 →
    branch_byte pc ((pc + 2 + n) % MEMORY_SIZE) ≡ Some n
branches_reach_after pc n l h =
    let way : way_from pc ((pc + 2 + n) % MEMORY_SIZE) ≡ n = omega arith in
    let low : nat_lt n 128 ≡ true = lt-ltb n 128 (omega arith) in
    rw (way, low) refl

pub branches_reach_before : (start n : ℕ) → start + n ≤ MEMORY_SIZE → n ≤ 126 →
    branch_byte (start + n) (start % MEMORY_SIZE) ≡ Some (254 - n)
branches_reach_before start n l h =
    let way : way_from (start + n) (start % MEMORY_SIZE) ≡ 65534 - n = omega arith in
    let high : nat_lt (65534 - n) 128 ≡ false = le-ltb (65534 - n) 128 (omega arith) in
    let top : nat_lt (65534 - n) 65408 ≡ false = le-ltb (65534 - n) 65408 (omega arith) in
    let byte : 65534 - n - 65280 ≡ 254 - n = omega arith in
    rw (way, high, top, byte) refl
