-- Whose byte a label is: a voice's or none's, and two that are one have one owner.
use Rattle.std.proofs.Common.{◌≡◌, ℕ, zero, suc, ◌+◌, ◌*◌, ◌/◌, ◌%◌}
use Rattle.std.proofs.Common.{◌<◌, ◌&&◌, ◌||◌, Bool, true}
use Rattle.std.proofs.Common.{not, nat_eq, nat_lt, if◌then◌else◌, inl, inr, refl, sym, ap, ◌∙◌, arith}
use Rattle.std.proofs.lemmas.Bool.{and_parts, or_cases, agree_below_at, not-true, ltb-true, eqb-true}
use Rattle.std.proofs.lemmas.Bool.{both_ways}
use Rattle.player_memory.specs.declared.labels.TheConstants.{VARIABLES}
use Rattle.player_memory.specs.Labels.{is_own, is_shared}

-- ---- labels

-- whose byte a label is: a voice's, or none's
abbrev pub owner : ℕ → ℕ
owner label = if is_shared label then 3 else (label % 21) / 7

-- the three bytes of a voice's label are each voice's own
abbrev pub owns : ℕ → Bool
owns label =
    not (is_own label)
    || (nat_eq (owner (label + 7 * 0)) 0 && nat_eq (owner (label + 7 * 1)) 1 && nat_eq (owner (label + 7 * 2)) 2
    && nat_lt (label + 14) 105)

pub record OwnLabel (label voice : ℕ) : Type 0 where
  pub owner_is : owner (label + 7 * voice) ≡ voice
  pub below : label + 7 * voice < 105

own_parts : (label : ℕ) → is_own label ≡ true →
    (nat_eq (owner (label + 7 * 0)) 0 && nat_eq (owner (label + 7 * 1)) 1 && nat_eq (owner (label + 7 * 2)) 2
    && nat_lt (label + 14) 105) ≡ true
own_parts label h =
    let small : label < 90 = ltb-true label 90 (and_parts (nat_lt label 90) (nat_lt (label % 21) 7) h).0 in
    elim (or_cases (not (is_own label))
    (nat_eq (owner (label + 7 * 0)) 0 && nat_eq (owner (label + 7 * 1)) 1 && nat_eq (owner (label + 7 * 2)) 2
    && nat_lt (label + 14) 105) (agree_below_at owns (λ _. true) 90 label refl small)) [
      | inl n ↦ absurd (both_ways (is_own label) (not-true (is_own label) n) h)
      | inr y ↦ y
    ]

pub own_label : (label voice : ℕ) → is_own label ≡ true → voice < 3 → OwnLabel label voice
own_label label voice h l = by_voice voice l
  where
    one : Bool
    one = nat_eq (owner (label + 7 * 0)) 0

    two : Bool
    two = nat_eq (owner (label + 7 * 1)) 1

    three : Bool
    three = nat_eq (owner (label + 7 * 2)) 2

    all : (one && two && three && nat_lt (label + 14) 105) ≡ true
    all = own_parts label h

    owned : (one && two && three) ≡ true
    owned = (and_parts (one && two && three) (nat_lt (label + 14) 105) all).0

    firsts : (one && two) ≡ true
    firsts = (and_parts (one && two) three owned).0

    small : label + 14 < 105
    small = ltb-true (label + 14) 105 (and_parts (one && two && three) (nat_lt (label + 14) 105) all).1

    by_voice : (voice : ℕ) → voice < 3 → OwnLabel label voice
    by_voice zero l = record {
      owner_is = eqb-true (owner (label + 7 * 0)) 0 (and_parts one two firsts).0;
      below = omega (arith, small);
    }
    by_voice (suc zero) l = record {
      owner_is = eqb-true (owner (label + 7 * 1)) 1 (and_parts one two firsts).1;
      below = omega (arith, small);
    }
    by_voice (suc (suc zero)) l = record {
      owner_is = eqb-true (owner (label + 7 * 2)) 2 (and_parts (one && two) three owned).1;
      below = omega (arith, small);
    }
    by_voice (suc (suc (suc more))) l = absurd (omega (arith, l))

pub record SharedLabel (label : ℕ) : Type 0 where
  pub owner_is : owner label ≡ 3
  pub below : label < 113

pub shared_label : (label : ℕ) → is_shared label ≡ true → SharedLabel label
shared_label label h = record { owner_is = rw h refl; below = ltb-true label 113 (and_parts (nat_lt label 113) _ h).0 }

-- each is one of the variables
pub own_below : (label voice : ℕ) → is_own label ≡ true → voice < 3 → label + 7 * voice < VARIABLES
own_below label voice h l = (let small = (own_label label voice h l).below in omega (arith, small))

pub shared_below : (label : ℕ) → is_shared label ≡ true → label < VARIABLES
shared_below label h = (shared_label label h).below

-- two bytes of voices under one label are one
pub same_own : (label other voice its : ℕ) → is_own label ≡ true → is_own other ≡ true → voice < 3 → its < 3 →
    label + 7 * voice ≡ other + 7 * its → (voice ≡ its) × (label ≡ other)
same_own label other voice its h k l m e =
    let one = own_label label voice h l in
    let two = own_label other its k m in
    let same : voice ≡ its = sym one.owner_is ∙ ap owner e ∙ two.owner_is in
    (same, omega (arith, same, e))

pub not_shared : (label other voice : ℕ) → is_own label ≡ true → is_shared other ≡ true → voice < 3 →
    label + 7 * voice ≡ other → ⊥
not_shared label other voice h k l e =
    let one = own_label label voice h l in
    let two = shared_label other k in
    let same : voice ≡ 3 = sym one.owner_is ∙ ap owner e ∙ two.owner_is in
    omega (arith, same, l)
