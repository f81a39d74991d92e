-- The items of a slice of bytes.
use Rattle.std.proofs.Common.{ℕ, List, All, Fits, w8, get_or, arith}
use Rattle.std.proofs.lemmas.List.Elements.{All-from_get_or}
use Rattle.base.specs.Bytes.{IsByte}

pub bytes_are : (xs : List ℕ) → ((i : ℕ) → Fits w8 (get_or xs i 0)) → All IsByte xs
bytes_are xs fits = All-from_get_or IsByte xs 0 (λ i inside. omega (arith, fits i))
