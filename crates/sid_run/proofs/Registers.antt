-- The n bytes from a place on, as a list.
use Rattle.std.proofs.Common.{◌≡◌, ℕ, zero, suc, ◌+◌, ◌<◌, List, length, get_or, refl, sym, ap, ◌∙◌, arith}
use Rattle.std.proofs.lemmas.List.{ext_get_or}
use Rattle.cpu6502.specs.Code.{bytes_at}

pub length-bytes_at : (at : ℕ → ℕ) (place n : ℕ) → length (bytes_at at place n) ≡ n
length-bytes_at at place zero = refl
length-bytes_at at place (suc n) = ap suc (length-bytes_at at (place + 1) n)

pub get_or-bytes_at : (at : ℕ → ℕ) (place n k : ℕ) → k < n → get_or (bytes_at at place n) k 0 ≡ at (place + k)
get_or-bytes_at at place zero k h = absurd (omega arith)
get_or-bytes_at at place (suc n) zero h = let e : place + 0 ≡ place = omega arith in rw e refl
get_or-bytes_at at place (suc n) (suc k) h =
    let e : place + 1 + k ≡ place + suc k = omega arith in
    get_or-bytes_at at (place + 1) n k (omega arith) ∙ ap at e

-- a list of bytes that stand from a place on
pub are_bytes_at : (at : ℕ → ℕ) (place n : ℕ) (bytes : List ℕ) → length bytes ≡ n →
    ((k : ℕ) → k < n → get_or bytes k 0 ≡ at (place + k))
    → bytes ≡ bytes_at at place n
are_bytes_at at place n bytes l h =
    ext_get_or 0 bytes (bytes_at at place n) (l ∙ sym (length-bytes_at at place n))
    (λ k lt. h k (omega (arith, l)) ∙ sym (get_or-bytes_at at place n k (omega (arith, l))))
