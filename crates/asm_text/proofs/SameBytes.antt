-- Two texts of the same bytes are one.
use Rattle.std.proofs.Common.{◌≡◌, ℕ, true, false, eqb, List, [], ◌∷◌, refl, sym, ap, ◌∙◌}
use Rattle.std.specs.Str.{bytes_eq}
use Rattle.std.proofs.lemmas.Bool.{and_parts, eqb-true, eq-eqb, false≢true}

pub same_bytes : (a b : List ℕ) → bytes_eq a b ≡ true → a ≡ b
same_bytes [] [] h = refl
same_bytes [] (byte ∷ rest) h = absurd (false≢true h)
same_bytes (byte ∷ rest) [] h = absurd (false≢true h)
same_bytes (byte ∷ rest) (other ∷ more) h =
    let parts = and_parts (eqb byte other) (bytes_eq rest more) h in
    ap (λ (bytes : List ℕ). byte ∷ bytes) (same_bytes rest more parts.1)
    ∙ ap (λ n. n ∷ more) (eqb-true byte other parts.0)

pub same_itself : (text : List ℕ) → bytes_eq text text ≡ true
same_itself [] = refl
same_itself (byte ∷ rest) = rw (eq-eqb byte byte refl) (same_itself rest)

-- what differs is not the same
pub never_same : (a b : List ℕ) → bytes_eq a b ≡ false → b ≡ a → ⊥
never_same a b h e = false≢true (sym h ∙ ap (bytes_eq a) e ∙ same_itself a)
