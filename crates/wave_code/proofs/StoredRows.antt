-- The rows of the wave table as they stand in the lists, kind by kind.
use Rattle.std.proofs.Common.{◌≡◌, ◌≢◌, ℕ, ◌+◌, ◌-◌, ◌%◌, ◌<◌, ◌≤◌, true, false}
use Rattle.std.proofs.Common.{nat_eq, nat_le, nat_lt}
use Rattle.std.proofs.Common.{inl, inr, refl, sym, ap, ◌∙◌, bit_and, arith}
use Rattle.std.proofs.lemmas.Bool.{le-leb, lt-leb, lt-ltb, le-ltb, cases_lt, agree_below_at, eqb-true, eqb-false}
use Rattle.song_model.specs.declared.tables.TableRow.{TableRow}
use Rattle.player_memory.specs.Forms.{stored_left, stored_right}

-- ---- left sides

-- what the byte of a left side says
pub data Kind (left byte : ℕ) : Type 0 where
  Delay : left < 0x10 → byte ≡ 0xE0 + left → Kind left byte
  Sound : 0x10 ≤ left → left < 0xE0 → byte ≡ left → Kind left byte
  LowSound : 0xE0 ≤ left → left < 0xF0 → byte ≡ left - 0xE0 → Kind left byte
  Command : 0xF0 ≤ left → byte ≡ left → Kind left byte

stored_delay : (left : ℕ) → left < 0x10 → stored_left left ≡ 0xE0 + left
stored_delay left low = let a : nat_lt left 0x10 ≡ true = lt-ltb left 0x10 low in rw a refl

stored_sound : (left : ℕ) → 0x10 ≤ left → left < 0xE0 → stored_left left ≡ left
stored_sound left from to =
    let a : nat_lt left 0x10 ≡ false = le-ltb left 0x10 from in
    let b : nat_le 0xE0 left ≡ false = lt-leb 0xE0 left to in
    rw (a, b) refl

stored_low : (left : ℕ) → 0xE0 ≤ left → left < 0xF0 → stored_left left ≡ left - 0xE0
stored_low left from to =
    let a : nat_lt left 0x10 ≡ false = le-ltb left 0x10 (omega (arith, from)) in
    let b : nat_le 0xE0 left ≡ true = le-leb 0xE0 left from in
    let c : nat_le left 0xEF ≡ true = le-leb left 0xEF (omega (arith, to)) in
    rw (a, b, c) refl

pub stored_command : (left : ℕ) → 0xF0 ≤ left → stored_left left ≡ left
stored_command left from =
    let a : nat_lt left 0x10 ≡ false = le-ltb left 0x10 (omega (arith, from)) in
    let b : nat_le 0xE0 left ≡ true = le-leb 0xE0 left (omega (arith, from)) in
    let c : nat_le left 0xEF ≡ false = lt-leb left 0xEF (omega (arith, from)) in
    rw (a, b, c) refl

pub kind_of : (left byte : ℕ) → byte ≡ stored_left left → Kind left byte
kind_of left byte e =
    elim (cases_lt left 0x10) [
      | inl low ↦ Delay low (e ∙ stored_delay left low)
      | inr from ↦
          elim (cases_lt left 0xE0) [
            | inl to ↦ Sound from to (e ∙ stored_sound left from to)
            | inr high ↦
                elim (cases_lt left 0xF0) [
                  | inl to ↦ LowSound high to (e ∙ stored_low left high to)
                  | inr last ↦ Command last (e ∙ stored_command left last)
                ]
          ]
    ]

-- a left side of $FF alone is $FF there
pub is_jump_byte : (left byte : ℕ) → byte ≡ stored_left left → byte ≡ 0xFF → left ≡ 0xFF
is_jump_byte left byte e f =
    elim (kind_of left byte e) [
      | Delay low is ↦ absurd (let l = low in let i = is in omega (arith, l, i, f))
      | Sound from to is ↦ absurd (let l = to in let i = is in omega (arith, l, i, f))
      | LowSound from to is ↦ absurd (let l = to in let i = is in omega (arith, l, i, f))
      | Command from is ↦ sym is ∙ f
    ]

pub is_jump_stored : (left byte : ℕ) → byte ≡ stored_left left → left ≡ 0xFF → byte ≡ 0xFF
is_jump_stored left byte e f = e ∙ ap stored_left f

-- from $F0 on it is as it is
pub high_left : (left byte : ℕ) → byte ≡ stored_left left → 0xF0 ≤ byte → 0xF0 ≤ left
high_left left byte e high =
    elim (kind_of left byte e) [
      | Delay low is ↦ (let l = low in let i = is in absurd (omega (arith, l, i, high)))
      | Sound from to is ↦ (let l = to in let i = is in absurd (omega (arith, l, i, high)))
      | LowSound from to is ↦ (let l = to in let i = is in absurd (omega (arith, l, i, high)))
      | Command from is ↦ from
    ]

pub low_left : (left byte : ℕ) → byte ≡ stored_left left → byte < 0xF0 → left < 0xF0
low_left left byte e low =
    elim (kind_of left byte e) [
      | Delay few is ↦ (let l = few in omega (arith, l))
      | Sound from to is ↦ (let l = to in omega (arith, l))
      | LowSound from to is ↦ to
      | Command from is ↦ (let l = from in let i = is in absurd (omega (arith, l, i, low)))
    ]

-- a byte that isn't $FF is less
pub below_last : (byte : ℕ) → byte < 256 → nat_eq ((byte + 1) % 256) 0 ≡ false → byte < 255
below_last byte few other =
    elim (cases_lt byte 255) [
      | inl low ↦ low
      | inr high ↦ absurd (eqb-false ((byte + 1) % 256) 0 other (let h = high in omega (arith, h, few)))
    ]

pub below : (left : ℕ) → 0xF0 ≤ left → left < 256 → left ≢ 0xFF → left < 0xFF
below left from few other =
    elim (cases_lt left 255) [
      | inl low ↦ low
      | inr high ↦ absurd (other (let h = high in omega (arith, h, few)))
    ]

-- ---- right sides

pub stored_note : (row : TableRow) → row.left < 0xF0 → stored_right row ≡ (row.right + 0x80) % 256
stored_note row low = let a : nat_le 0xF0 row.left ≡ false = lt-leb 0xF0 row.left low in rw a refl

pub stored_as_is : (row : TableRow) → 0xF0 ≤ row.left → stored_right row ≡ row.right
stored_as_is row from = let a : nat_le 0xF0 row.left ≡ true = le-leb 0xF0 row.left from in rw a refl

-- ---- masks

pub low_four : (n : ℕ) → n < 256 → bit_and n 0x0F ≡ n % 16
low_four n l = eqb-true _ _ (agree_below_at (λ n. nat_eq (bit_and n 0x0F) (n % 16)) (λ _. true) 256 n refl l)

pub low_seven : (n : ℕ) → n < 256 → bit_and n 0x7F ≡ n % 128
low_seven n l = eqb-true _ _ (agree_below_at (λ n. nat_eq (bit_and n 0x7F) (n % 128)) (λ _. true) 256 n refl l)
