-- In a set are exactly the conditions that hold, and in what a song asks for its features and facts.
use Rattle.std.proofs.Common.{◌≡◌, ℕ, ◌≤◌, Bool, true, false, ◌&&◌, nat_lt, nat_eq, if◌then◌else◌, refl, arith}
use Rattle.std.proofs.Common.{inl, inr, ap, sym, ◌∙◌}
use Rattle.std.proofs.lemmas.Bool.{cases_lt, ne_eqb, lt-ltb, le-ltb, le-leb}
use Rattle.song_facts.specs.declared.facts.Facts.{Facts}
use Rattle.play_model.specs.declared.options.Options.{Options}
use Rattle.kept_lines.specs.Asked.{asks, asked}
use Rattle.kept_lines.specs.KeptLines.{keeps, kept_set}
use Rattle.kept_lines.specs.KeptLaws.{SetsAreExact, AskedIsExact}
use Rattle.kept_lines.proofs.Sums.{bits_are, none_above}

-- behind the last condition none holds
pub no_more : (set : ℕ) (options : Options) (condition : ℕ) → 61 ≤ condition →
    keeps set options condition ≡ false
no_more set options condition behind =
    rw (
      le-ltb condition 24 (omega (arith, behind)),
      le-ltb condition 56 (omega (arith, behind)),
      le-leb 34 condition (omega (arith, behind)),
      ne_eqb condition 24 (λ e. omega (arith, behind, e)),
      ne_eqb condition 25 (λ e. omega (arith, behind, e)),
      ne_eqb condition 26 (λ e. omega (arith, behind, e)),
      ne_eqb condition 27 (λ e. omega (arith, behind, e)),
      ne_eqb condition 28 (λ e. omega (arith, behind, e)),
      ne_eqb condition 29 (λ e. omega (arith, behind, e)),
      ne_eqb condition 30 (λ e. omega (arith, behind, e)),
      ne_eqb condition 31 (λ e. omega (arith, behind, e)),
      ne_eqb condition 32 (λ e. omega (arith, behind, e)),
      ne_eqb condition 33 (λ e. omega (arith, behind, e)),
      ne_eqb condition 56 (λ e. omega (arith, behind, e)),
      ne_eqb condition 57 (λ e. omega (arith, behind, e)),
      ne_eqb condition 58 (λ e. omega (arith, behind, e)),
      ne_eqb condition 59 (λ e. omega (arith, behind, e)),
      ne_eqb condition 60 (λ e. omega (arith, behind, e)),
    ) refl

told : (z : Bool) → nat_eq (if z then 1 else 0) 1 ≡ z
told true = refl
told false = refl

no_bit : (z : Bool) → (z && nat_eq 0 1) ≡ false
no_bit true = refl
no_bit false = refl

pub sets_are_exact : SetsAreExact
unfolding kept_set
sets_are_exact set options condition = elim (cases_lt condition 61) [
  | inl low ↦
      rw (lt-ltb condition 128 (omega (arith, low)), bits_are (keeps set options) 61 condition low)
      (told (keeps set options condition))
  | inr high ↦
      rw (none_above (keeps set options) 61 condition high, no_more set options condition high)
      (no_bit (nat_lt condition 128))
]

-- behind the facts nothing is asked for
none_asked : (features : ℕ) (facts : Facts) (condition : ℕ) → 56 ≤ condition → asks features facts condition ≡ false
none_asked features facts condition behind =
    rw (
      le-ltb condition 24 (omega (arith, behind)),
      ne_eqb condition 34 (λ e. omega (arith, behind, e)),
      ne_eqb condition 35 (λ e. omega (arith, behind, e)),
      ne_eqb condition 36 (λ e. omega (arith, behind, e)),
      ne_eqb condition 37 (λ e. omega (arith, behind, e)),
      ne_eqb condition 38 (λ e. omega (arith, behind, e)),
      ne_eqb condition 39 (λ e. omega (arith, behind, e)),
      ne_eqb condition 40 (λ e. omega (arith, behind, e)),
      ne_eqb condition 41 (λ e. omega (arith, behind, e)),
      ne_eqb condition 42 (λ e. omega (arith, behind, e)),
      ne_eqb condition 43 (λ e. omega (arith, behind, e)),
      ne_eqb condition 44 (λ e. omega (arith, behind, e)),
      ne_eqb condition 45 (λ e. omega (arith, behind, e)),
      ne_eqb condition 46 (λ e. omega (arith, behind, e)),
      ne_eqb condition 47 (λ e. omega (arith, behind, e)),
      ne_eqb condition 48 (λ e. omega (arith, behind, e)),
      ne_eqb condition 49 (λ e. omega (arith, behind, e)),
      ne_eqb condition 50 (λ e. omega (arith, behind, e)),
      ne_eqb condition 51 (λ e. omega (arith, behind, e)),
      ne_eqb condition 52 (λ e. omega (arith, behind, e)),
      ne_eqb condition 53 (λ e. omega (arith, behind, e)),
      ne_eqb condition 54 (λ e. omega (arith, behind, e)),
      ne_eqb condition 55 (λ e. omega (arith, behind, e)),
    ) refl

pub asked_is_exact : AskedIsExact
unfolding asked
asked_is_exact features facts condition = elim (cases_lt condition 56) [
  | inl low ↦
      ap (λ bit. nat_eq bit 1) (bits_are (asks features facts) 56 condition low) ∙ told (asks features facts condition)
  | inr high ↦
      ap (λ bit. nat_eq bit 1) (none_above (asks features facts) 56 condition high)
      ∙ sym (none_asked features facts condition high)
]
