-- The first part that would be over its limit.
use Rattle.std.proofs.Common.{◌≡◌, ℕ, zero, suc, ◌+◌, ◌<◌, ◌≤◌, get_or, refl, sym, ◌∙◌, ap}
use Rattle.std.proofs.Common.{subst, inl, inr, arith}
use Rattle.std.proofs.lemmas.Bool.{cases_lt}
use Rattle.song_model.specs.declared.songs.Song.{Song}
use Rattle.song_join.specs.declared.faults.JoinPart.{JoinPart}
use Rattle.song_join.specs.declared.faults.JoinPart.TheVariants.{Subtunes, Instruments, Wave, Pulse, Filter, Speed, Patterns}
use Rattle.song_join.specs.declared.limits.TheConstants.{PARTS}
use Rattle.song_join.specs.Limits.{sum_of, limit_of, part_number, IsWithin, AreWithin, IsFirstOver}

-- the parts stand in their order
parts_at : (part : JoinPart) (d : JoinPart) → get_or PARTS (part_number part) d ≡ part
parts_at Subtunes d = refl
parts_at Instruments d = refl
parts_at Wave d = refl
parts_at Pulse d = refl
parts_at Filter d = refl
parts_at Speed d = refl
parts_at Patterns d = refl

pub number_at : (k : ℕ) (d : JoinPart) → k < 7 → part_number (get_or PARTS k d) ≡ k
number_at zero d low = refl
number_at (suc zero) d low = refl
number_at (suc (suc zero)) d low = refl
number_at (suc (suc (suc zero))) d low = refl
number_at (suc (suc (suc (suc zero)))) d low = refl
number_at (suc (suc (suc (suc (suc zero))))) d low = refl
number_at (suc (suc (suc (suc (suc (suc zero)))))) d low = refl
number_at (suc (suc (suc (suc (suc (suc (suc k))))))) d low = absurd (omega arith)

pub number_low : (part : JoinPart) → part_number part < 7
number_low Subtunes = omega arith
number_low Instruments = omega arith
number_low Wave = omega arith
number_low Pulse = omega arith
number_low Filter = omega arith
number_low Speed = omega arith
number_low Patterns = omega arith

pub same_part : (p q : JoinPart) → part_number p ≡ part_number q → p ≡ q
same_part p q e = sym (parts_at p p) ∙ ap (λ (k : ℕ). get_or PARTS k p) e ∙ parts_at q p

-- the parts up to this one are within their limits
abbrev pub AreWithinBelow : Song → Song → ℕ → Type 0
AreWithinBelow first second k = (other : JoinPart) → part_number other < k → IsWithin first second other

pub within_more : (first second : Song) (k : ℕ) (part : JoinPart) → part_number part ≡ k →
    AreWithinBelow first second k → IsWithin first second part → AreWithinBelow first second (k + 1)
within_more first second k part at below here other low = elim (cases_lt (part_number other) k) [
  | inl before ↦ below other before
  | inr on ↦ (
      let same : part_number part ≡ part_number other = omega arith in
      subst (IsWithin first second) (same_part part other same) here)
]

pub all_within : (first second : Song) (k : ℕ) → 7 ≤ k → AreWithinBelow first second k → AreWithin first second
all_within first second k end below = record {
  part = λ part. let low = number_low part in below part (omega arith);
}

pub first_over : (first second : Song) (k sum limit : ℕ) (part : JoinPart) → part_number part ≡ k →
    sum ≡ sum_of first second part → limit ≡ limit_of part → limit < sum → AreWithinBelow first second k →
    IsFirstOver first second part sum
first_over first second k sum limit part at sum_is limit_is over below = record {
  over = omega arith;
  sum_is = sum_is;
  earlier = λ other low. below other (omega arith);
}
