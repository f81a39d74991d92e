-- Where the scopes around lines end and the loop around them begins: no further than what has lines may reach.
use Rattle.std.proofs.Common.{◌≡◌, ℕ, ◌+◌, ◌≤◌, Bool, true, false, nat_eq, Option, Some, None, refl}
use Rattle.std.proofs.Common.{subst, arith, if◌then◌else◌}
use Rattle.std.proofs.lemmas.Bool.{leb-true}
use Rattle.std.specs.Option.{option_map}
use Rattle.scope_lines.specs.Lines.{Around, in_scope, in_loop}
use Rattle.scope_lines.specs.Reach.{Reach, nothing_around, before_bytes, behind_bytes, is_within}
use Rattle.scope_lines.specs.Reach.{in_scope as reach_in_scope, in_loop as reach_in_loop}

-- scopes end behind the lines and the loop begins before them, at most as far from them as a tree's reach says
pub record IsNear (around : Around) (reach : Reach) (place end : ℕ) : Type 0 where
  pub ends : (name far : ℕ) → reach.ends name ≡ Some far → (end ≤ around.ends name) × (around.ends name ≤ end + far)
  pub head : (far : ℕ) → reach.head ≡ Some far → (around.head ≤ place) × (place ≤ around.head + far)

-- the ways of both sides of an option
pub some_of : {X Y : Type 0} (f : X → Y) (option : Option X) (y : Y) → option_map f option ≡ Some y →
    (x : X) × (option ≡ Some x) × (f x ≡ y)
some_of f (Some x) y e = (x, refl, cc)
some_of f None y e = absurd (cc)

-- a label within so many bytes
pub within : (bytes : ℕ) (option : Option ℕ) → is_within bytes option ≡ true →
    (far : ℕ) × (option ≡ Some far) × (far ≤ bytes)
within bytes (Some far) e = (far, refl, leb-true far bytes e)
within bytes None e = absurd (cc)

-- nothing is around
pub nothing_near : (around : Around) (place end : ℕ) → IsNear around nothing_around place end
nothing_near around place end = record { ends = λ name far e. absurd (cc); head = λ far e. absurd (cc) }

-- lines with more behind them, and with more before them
pub near_first : {around : Around} {reach : Reach} {place mid end : ℕ} (more : ℕ) → mid ≤ end → end ≤ mid + more →
    IsNear around reach place end → IsNear around (before_bytes more reach) place mid
near_first {reach = reach} more low high is = record {
  ends = λ name far e.
      let some = some_of (λ f. more + f) (reach.ends name) far e in
      let at = is.ends name some.0 some.1 in
      (omega (arith, at.0, low), omega (arith, at.1, some.2, high));
  head = is.head;
}

pub near_rest : {around : Around} {reach : Reach} {place mid end : ℕ} (more : ℕ) → place ≤ mid → mid ≤ place + more →
    IsNear around reach place end → IsNear around (behind_bytes more reach) mid end
near_rest {reach = reach} more low high is = record {
  ends = is.ends;
  head = λ far e.
      let some = some_of (λ f. f + more) reach.head far e in
      let at = is.head some.0 some.1 in
      (omega (arith, at.0, low), omega (arith, at.1, some.2, high));
}

-- the end of the scope itself, and those of the scopes around it
pub near_scope : {around : Around} {reach : Reach} {place end : ℕ} (name : ℕ) → IsNear around reach place end →
    IsNear (in_scope name end around) (reach_in_scope name reach) place end
near_scope {around = around} {reach = reach} {end = end} name is = record {
  ends = λ other far e. named other (nat_eq other name) refl far e;
  head = is.head;
}
  where
    named : (other : ℕ) (z : Bool) → nat_eq other name ≡ z → (far : ℕ) →
        (if nat_eq other name then Some 0 else reach.ends other) ≡ Some far →
        (end ≤ (if nat_eq other name then end else around.ends other))
        × ((if nat_eq other name then end else around.ends other) ≤ end + far)
    named other true e far some = rw e (omega arith, omega arith)
    named other false e far some =
        let at = is.ends other far (subst (λ b. (if b then Some 0 else reach.ends other) ≡ Some far) e some) in
        rw e at

-- a loop begins where its lines do
pub near_loop : {around : Around} {reach : Reach} {place end : ℕ} → IsNear around reach place end →
    IsNear (in_loop place around) (reach_in_loop reach) place end
near_loop is = record { ends = is.ends; head = λ far e. (omega arith, omega arith) }
