-- The numbers of a pulse width: what the code does to its two bytes is what the rule says. Of the high byte the low
-- four bits count.
use Rattle.std.proofs.Common.{◌≡◌, ℕ, ◌+◌, ◌/◌, ◌%◌, ◌<◌, ◌≤◌, true, false, nat_lt, arith}
use Rattle.std.proofs.lemmas.Bool.{lt-ltb, le-ltb}
use Rattle.play_model.specs.PulseStep.{pulse_moved}

-- the two bytes of a width
pub record IsWidth (low high width : ℕ) : Type 0 where
  pub low_is : low ≡ width % 256
  pub high_is : high % 16 ≡ width / 256

-- a byte is added to the low one: without a carry, and with one, where the high one is one more
pub risen : (low high width right : ℕ) → width < 4096 → right < 0x80 → right + low + 0 < 256 → IsWidth low high width →
    IsWidth ((right + low + 0) % 256) high (pulse_moved width right)
risen low high width right small byte below is =
    let l = is.low_is in
    let h = is.high_is in
    let test : nat_lt right 0x80 ≡ true = lt-ltb right 0x80 byte in
    record { low_is = rw test (omega (arith, l, below)); high_is = rw test (omega (arith, l, h, small, below)) }

pub risen_over : (low high width right : ℕ) → width < 4096 → right < 0x80 → 256 ≤ right + low + 0 →
    IsWidth low high width → IsWidth ((right + low + 0) % 256) ((high + 1) % 256) (pulse_moved width right)
risen_over low high width right small byte over is =
    let l = is.low_is in
    let h = is.high_is in
    let test : nat_lt right 0x80 ≡ true = lt-ltb right 0x80 byte in
    record {
      low_is = rw test (omega (arith, l, over, byte));
      high_is = rw test
          (omega (arith, l, h, small, over, byte));
    }

-- a byte from $80 on is 256 less: with a carry, and without one, where the high one is one less
pub fallen : (low high width right : ℕ) → width < 4096 → 0x80 ≤ right → right < 256 → 256 ≤ right + low + 0 →
    IsWidth low high width → IsWidth ((right + low + 0) % 256) high (pulse_moved width right)
fallen low high width right small from byte over is =
    let l = is.low_is in
    let h = is.high_is in
    let test : nat_lt right 0x80 ≡ false = le-ltb right 0x80 from in
    record {
      low_is = rw test (omega (arith, l, over, byte, from, small));
      high_is = rw test
          (omega (arith, l, h, small, over, byte, from));
    }

pub fallen_under : (low high width right : ℕ) → width < 4096 → 0x80 ≤ right → right < 256 → right + low + 0 < 256 →
    IsWidth low high width → IsWidth ((right + low + 0) % 256) ((high + 255) % 256) (pulse_moved width right)
fallen_under low high width right small from byte below is =
    let l = is.low_is in
    let h = is.high_is in
    let test : nat_lt right 0x80 ≡ false = le-ltb right 0x80 from in
    record {
      low_is = rw test (omega (arith, l, below, byte, from, small));
      high_is = rw test
          (omega (arith, l, h, small, below, byte, from));
    }
