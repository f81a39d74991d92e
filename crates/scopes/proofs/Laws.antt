-- What a reader may rely on in the turns of loops.
use Rattle.std.proofs.Common.{◌≡◌, ℕ, ◌<◌, ◌≤◌, Bool, true, false, nat_eq, min, if◌then◌else◌, refl, arith}
use Rattle.std.proofs.lemmas.Bool.{eqb-true, ne_eqb}
use Rattle.std.proofs.Math.Nat.{min-le_left, min-eq_right}
use Rattle.scopes.specs.declared.line.TheConstants.{OPEN}
use Rattle.scopes.specs.Meaning.{turns_in}

-- a loop with a lesser count isn't open
pub few_turns : (most count : ℕ) → count < OPEN → turns_in most count ≡ count
few_turns most count few = rw (ne_eqb count OPEN (λ e. omega (arith, e, few))) refl

-- an open one has as many turns as the layout says
pub open_turns_are : (most : ℕ) → most ≤ OPEN → turns_in most OPEN ≡ most
open_turns_are most within = min-eq_right within

-- none has more than its count
pub turns_within : (most count : ℕ) → turns_in most count ≤ count
turns_within most count = by_count (nat_eq count OPEN) refl
  where
    by_count : (z : Bool) → nat_eq count OPEN ≡ z → (if z then min OPEN most else count) ≤ count
    by_count false other = omega arith
    by_count true is =
        let same : count ≡ OPEN = eqb-true count OPEN is in
        let least = min-le_left OPEN most in
        omega (arith, same, least)
