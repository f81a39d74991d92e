-- A value that may be there.
use Rattle.std.proofs.Common.{◌≡◌, true, Option, Some, None, refl}
use Rattle.std.specs.Option.{option_or, is_some}

-- the value that is there
pub some_of : {X : Type 0} (o : Option X) → is_some o ≡ true → (x : X) × (o ≡ Some x)
some_of (Some x) h = (x, refl)
some_of None h = absurd (cc)

-- one value stands there
pub same_some : {X : Type 0} (x y : X) → Some x ≡ Some y → x ≡ y
same_some x y e = cc

-- where there is none the other counts
pub or_first : {X : Type 0} (o p : Option X) → o ≡ None → option_or o p ≡ p
or_first o p h = rw h refl

pub or_none : {X : Type 0} (o : Option X) → option_or o None ≡ o
or_none (Some x) = refl
or_none None = refl
