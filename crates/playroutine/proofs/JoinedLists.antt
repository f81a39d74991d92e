-- Registers from four lists of known lengths.
use Rattle.std.proofs.Common.{◌≡◌, ℕ, List, [], ◌∷◌, ◌++◌, length, get_or, sym, arith}
use Rattle.std.proofs.Math.Seq.{drop-cons}
use Rattle.std.proofs.lemmas.List.{drop_all}

-- the seven items of a list, and the four
abbrev seven_of : List ℕ → List ℕ
seven_of xs =
    get_or xs 0 0 ∷ get_or xs 1 0 ∷ get_or xs 2 0 ∷ get_or xs 3 0 ∷ get_or xs 4 0 ∷ get_or xs 5 0 ∷ get_or xs 6 0 ∷ []

abbrev four_of : List ℕ → List ℕ
four_of xs = get_or xs 0 0 ∷ get_or xs 1 0 ∷ get_or xs 2 0 ∷ get_or xs 3 0 ∷ []

seven_lem : (xs : List ℕ) → length xs ≡ 7 → xs ≡ seven_of xs
seven_lem xs h =
    let d0 = drop-cons xs 0 0 (omega arith) in
    let d1 = drop-cons xs 1 0 (omega arith) in
    let d2 = drop-cons xs 2 0 (omega arith) in
    let d3 = drop-cons xs 3 0 (omega arith) in
    let d4 = drop-cons xs 4 0 (omega arith) in
    let d5 = drop-cons xs 5 0 (omega arith) in
    let d6 = drop-cons xs 6 0 (omega arith) in
    let end = drop_all 7 xs (omega arith) in
    cc

four_lem : (xs : List ℕ) → length xs ≡ 4 → xs ≡ four_of xs
four_lem xs h =
    let d0 = drop-cons xs 0 0 (omega arith) in
    let d1 = drop-cons xs 1 0 (omega arith) in
    let d2 = drop-cons xs 2 0 (omega arith) in
    let d3 = drop-cons xs 3 0 (omega arith) in
    let end = drop_all 4 xs (omega arith) in
    cc

-- four lists that are equal make up equal lists
pub same_joined : (a a' b b' c c' d d' : List ℕ) → a ≡ a' → b ≡ b' → c ≡ c' → d ≡ d' →
    a ++ b ++ c ++ d ≡ a' ++ b' ++ c' ++ d'
same_joined a a' b b' c c' d d' p q r s = cc

pub joined_lem : (a b c d : List ℕ) → length a ≡ 7 → length b ≡ 7 → length c ≡ 7 → length d ≡ 4 →
    seven_of a ++ seven_of b ++ seven_of c ++ four_of d ≡ a ++ b ++ c ++ d
joined_lem a b c d p q r s =
    sym (same_joined a (seven_of a) b (seven_of b) c (seven_of c) d (four_of d)
    (seven_lem a p) (seven_lem b q) (seven_lem c r) (four_lem d s))
