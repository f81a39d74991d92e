-- The numbers of a frequency: what the code does to its two bytes is what the rule says.
use Rattle.std.proofs.Common.{◌≡◌, ℕ, ◌+◌, ◌-◌, ◌*◌, ◌/◌, ◌%◌, ◌<◌, ◌≤◌, arith}
use Rattle.play_model.specs.Wrap.{freq_plus, freq_minus}

-- the two bytes of a word
pub record IsWord (low high word : ℕ) : Type 0 where
  pub low_is : low ≡ word % 256
  pub high_is : high ≡ word / 256

-- a byte is added to the low one: without a carry, and with one, where the high one is one more
pub risen : (low high word byte b k : ℕ) → word < 65536 → b ≡ byte → byte < 256 → k ≡ 0 → low + b + k < 256 →
    IsWord low high word → IsWord ((low + b + k) % 256) high (freq_plus word byte)
risen low high word byte b k small e few none below is =
    let l = is.low_is in
    let h = is.high_is in
    record {
      low_is = omega (arith, l, e, none, below);
      high_is = omega (arith, l, h, e, none, below, small);
    }

pub risen_over : (low high word byte b k : ℕ) → word < 65536 → b ≡ byte → byte < 256 → k ≡ 0 →
    256 ≤ low + b + k →
    IsWord low high word → IsWord ((low + b + k) % 256) ((high + 1) % 256) (freq_plus word byte)
risen_over low high word byte b k small e few none over is =
    let l = is.low_is in
    let h = is.high_is in
    record {
      low_is = omega (arith, l, e, none, over, few);
      high_is = omega (arith, l, h, e, none, over, small, few);
    }

-- and taken away: with a carry, and without one, where the high one is one less
pub fallen : (low high word byte b k : ℕ) → word < 65536 → b ≡ byte → byte < 256 → k ≡ 1 →
    256 ≤ low + (255 - b) + k → IsWord low high word → IsWord ((low + (255 - b) + k) % 256) high (freq_minus word byte)
fallen low high word byte b k small e few one over is =
    let l = is.low_is in
    let h = is.high_is in
    record {
      low_is = omega (arith, l, e, one, over, few, small);
      high_is = omega (arith, l, h, e, one, over, few, small);
    }

pub fallen_under : (low high word byte b k : ℕ) → word < 65536 → b ≡ byte → byte < 256 → k ≡ 1 →
    low + (255 - b) + k < 256 → IsWord low high word →
    IsWord ((low + (255 - b) + k) % 256) ((high + 255) % 256) (freq_minus word byte)
fallen_under low high word byte b k small e few one under is =
    let l = is.low_is in
    let h = is.high_is in
    record {
      low_is = omega (arith, l, e, one, under, few, small);
      high_is = omega (arith, l, h, e, one, under, few, small);
    }

-- a byte is added to the high one, or taken away
pub climbed : (low high word byte b k : ℕ) → word < 65536 → b ≡ byte → byte < 256 → k ≡ 0 →
    IsWord low high word →
    IsWord low ((high + b + k) % 256) (freq_plus word (256 * byte))
climbed low high word byte b k small e few none is =
    let l = is.low_is in
    let h = is.high_is in
    record { low_is = omega (arith, l); high_is = omega (arith, l, h, e, none, small, few) }

pub dropped : (low high word byte b k : ℕ) → word < 65536 → b ≡ byte → byte < 256 → k ≡ 1 →
    IsWord low high word →
    IsWord low ((high + (255 - b) + k) % 256) (freq_minus word (256 * byte))
dropped low high word byte b k small e few one is =
    let l = is.low_is in
    let h = is.high_is in
    record { low_is = omega (arith, l, few, small); high_is = omega (arith, l, h, e, one, small, few) }

-- both bytes, one after the other
pub plus_twice : (word by : ℕ) → word < 65536 → by < 65536 →
    freq_plus (freq_plus word (256 * (by / 256))) (by % 256) ≡ freq_plus word by
plus_twice word by small few = omega (arith, small, few)

pub minus_twice : (word by : ℕ) → word < 65536 → by < 65536 →
    freq_minus (freq_minus word (256 * (by / 256))) (by % 256) ≡ freq_minus word by
minus_twice word by small few = omega (arith, small, few)

pub minus_small : (word by : ℕ) → freq_minus word by < 65536
minus_small word by = omega arith

pub plus_small : (word by : ℕ) → freq_plus word by < 65536
plus_small word by = omega arith
