-- The distance of a frequency from that of a note, by its bytes, and whether a step reaches it.
use Rattle.std.proofs.Common.{◌≡◌, ℕ, ◌+◌, ◌-◌, ◌*◌, ◌/◌, ◌%◌, ◌<◌, ◌≤◌, true}
use Rattle.std.proofs.Common.{false, inl, inr, nat_le, sym, ◌∙◌, arith}
use Rattle.std.proofs.lemmas.Bool.{le-leb, lt-leb, leb-true, leb-false}
use Rattle.std.proofs.lemmas.Bool.Decides.{leb_tells}
use Rattle.cpu6502.specs.Registers.{one_if}
use Rattle.play_model.specs.Wrap.{freq_minus, distance}
use Rattle.slide_code.proofs.Words.{IsWord}

-- the carry out of a word's sum
carries : (a b c d k : ℕ) → a < 256 → b < 256 → k ≤ 1 →
    nat_le 256 (c + d + one_if (nat_le 256 (a + b + k))) ≡ nat_le 65536 (a + b + k + 256 * (c + d))
carries a b c d k la lb lk =
    elim (leb_tells 256 (a + b + k)) [
      | inl le ↦ let h = le.1 in rw le.0 (same 1 (omega arith) (omega arith))
      | inr lt ↦ let h = lt.1 in rw lt.0 (same 0 (omega arith) (omega arith))
    ]
  where
    same : (t : ℕ) → 256 * t ≤ a + b + k → a + b + k < 256 * (t + 1) →
        nat_le 256 (c + d + t) ≡ nat_le 65536 (a + b + k + 256 * (c + d))
    same t from to =
        elim (leb_tells 256 (c + d + t)) [
          | inl le ↦ let h = le.1 in rw le.0 (sym (le-leb 65536 _ (omega arith)))
          | inr lt ↦ let h = lt.1 in rw lt.0 (sym (lt-leb 65536 _ (omega arith)))
        ]

-- a word less a word, by their bytes
pub difference : (a c n b d m : ℕ) → n < 65536 → m < 65536 → IsWord a c n → b ≡ m % 256 → d ≡ m / 256 →
    IsWord ((a + (255 - b) + 1) % 256) ((c + (255 - d) + one_if (nat_le 256 (a + (255 - b) + 1))) % 256)
    (freq_minus n m)
difference a c n b d m small few is low high =
    let l = is.low_is in
    let h = is.high_is in
    elim (leb_tells 256 (a + (255 - b) + 1)) [
      | inl le ↦
          let over = le.1 in
          rw le.0 (record {
            low_is = omega (arith, l, low, over, small, few);
            high_is = omega (arith, l, low, h, high, over, small, few);
          })
      | inr lt ↦
          let under = lt.1 in
          rw lt.0 (record {
            low_is = omega (arith, l, low, under, small, few);
            high_is = omega (arith, l, low, h, high, under, small, few);
          })
    ]

difference_carries : (a c n b d m : ℕ) → n < 65536 → m < 65536 → IsWord a c n → b ≡ m % 256 → d ≡ m / 256 →
    nat_le 256 (c + (255 - d) + one_if (nat_le 256 (a + (255 - b) + 1)))
    ≡ nat_le 65536 (a + (255 - b) + 1 + 256 * (c + (255 - d)))
difference_carries a c n b d m small few is low high =
    let l = is.low_is in
    carries a (255 - b) c (255 - d) 1 (omega (arith, l)) (omega arith) (omega arith)

-- it doesn't borrow where the first is as much
pub is_above : (a c n b d m : ℕ) → n < 65536 → m < 65536 → IsWord a c n → b ≡ m % 256 → d ≡ m / 256 →
    nat_le 256 (c + (255 - d) + one_if (nat_le 256 (a + (255 - b) + 1))) ≡ true → m ≤ n
is_above a c n b d m small few is low high carry =
    let l = is.low_is in
    let h = is.high_is in
    let over = leb-true 65536 _ (sym (difference_carries a c n b d m small few is low high) ∙ carry) in
    omega (arith, l, h, low, high, over, small, few)

pub is_below : (a c n b d m : ℕ) → n < 65536 → m < 65536 → IsWord a c n → b ≡ m % 256 → d ≡ m / 256 →
    nat_le 256 (c + (255 - d) + one_if (nat_le 256 (a + (255 - b) + 1))) ≡ false → n < m
is_below a c n b d m small few is low high carry =
    let l = is.low_is in
    let h = is.high_is in
    let under = leb-false 65536 _ (sym (difference_carries a c n b d m small few is low high) ∙ carry) in
    omega (arith, l, h, low, high, under, small, few)

-- from below: a step reaches the note where it carries over the difference
pub reaches_up : (wl wh sl sh k word target step : ℕ) → IsWord wl wh (freq_minus word target) → sl ≡ step % 256 →
    sh ≡ step / 256 → step < 65536 → k ≡ 0 → word < target → target < 65536 →
    nat_le 256 (wh + sh + one_if (nat_le 256 (wl + sl + k))) ≡ true → distance word target ≤ step
reaches_up wl wh sl sh k word target step is low high few none below small carry =
    let l = is.low_is in
    let h = is.high_is in
    let over = leb-true 65536 _ (sym
    (carries wl sl wh sh k (omega (arith, l)) (omega (arith, low)) (omega (arith, none)))
    ∙ carry) in
    omega (arith, l, h, low, high, over, none, below, small, few)

pub passes_up : (wl wh sl sh k word target step : ℕ) → IsWord wl wh (freq_minus word target) → sl ≡ step % 256 →
    sh ≡ step / 256 → step < 65536 → k ≡ 0 → word < target → target < 65536 →
    nat_le 256 (wh + sh + one_if (nat_le 256 (wl + sl + k))) ≡ false → step < distance word target
passes_up wl wh sl sh k word target step is low high few none below small carry =
    let l = is.low_is in
    let h = is.high_is in
    let under = leb-false 65536 _ (sym
    (carries wl sl wh sh k (omega (arith, l)) (omega (arith, low)) (omega (arith, none)))
    ∙ carry) in
    omega (arith, l, h, low, high, under, none, below, small, few)

-- from above: where it borrows from the difference less one
pub reaches_down : (wl wh sl sh word target step : ℕ) → IsWord wl wh (freq_minus word target) → sl ≡ step % 256 →
    sh ≡ step / 256 → step < 65536 → target ≤ word → word < 65536 →
    nat_le 256 (wh + (255 - sh) + one_if (nat_le 256 (wl + (255 - sl) + 0))) ≡ false → distance word target ≤ step
reaches_down wl wh sl sh word target step is low high few above small carry =
    let l = is.low_is in
    let h = is.high_is in
    let under = leb-false 65536 _ (sym
    (carries wl (255 - sl) wh (255 - sh) 0 (omega (arith, l)) (omega arith) (omega arith))
    ∙ carry) in
    omega (arith, l, h, low, high, under, above, small, few)

pub passes_down : (wl wh sl sh word target step : ℕ) → IsWord wl wh (freq_minus word target) → sl ≡ step % 256 →
    sh ≡ step / 256 → step < 65536 → target ≤ word → word < 65536 →
    nat_le 256 (wh + (255 - sh) + one_if (nat_le 256 (wl + (255 - sl) + 0))) ≡ true → step < distance word target
passes_down wl wh sl sh word target step is low high few above small carry =
    let l = is.low_is in
    let h = is.high_is in
    let over = leb-true 65536 _ (sym
    (carries wl (255 - sl) wh (255 - sh) 0 (omega (arith, l)) (omega arith) (omega arith))
    ∙ carry) in
    omega (arith, l, h, low, high, over, above, small, few)
