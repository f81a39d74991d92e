-- Lists joined end to end: what they take, and where each one stands.
use Rattle.std.proofs.Common.{◌≡◌, ℕ, zero, suc, ◌+◌, ◌*◌, ◌<◌, ◌≤◌, List, [], ◌∷◌}
use Rattle.std.proofs.Common.{◌++◌, length, get_or, refl, ap, ◌∙◌, arith, length-append}
use Rattle.std.specs.Prelude.{sum_by}
use Rattle.std.specs.List.{concat, flat_map}
use Rattle.std.proofs.lemmas.List.{append_assoc, get_or_append_left, get_or-append-add}
use Rattle.std.proofs.lemmas.List.Sums.{sum_by-cons}
use Rattle.packed_form.specs.declared.packed_songs.PackedSubtune.{PackedSubtune}
use Rattle.packed_form.specs.Sizes.{list_size, subtune_size}
use Rattle.song_lists.specs.DataLists.{orders_of, places_from}

-- ---- a list that stands in another

pub record StandsIn (whole : List ℕ) (place : ℕ) (piece : List ℕ) : Type 0 where
  pub inside : place + length piece ≤ length whole
  pub byte : (i : ℕ) → i < length piece → get_or whole (place + i) 0 ≡ get_or piece i 0

-- the bytes of the first k of these lists
abbrev pub size_before : ℕ → List (List ℕ) → ℕ
size_before zero lists = 0
size_before (suc k) [] = 0
size_before (suc k) (list ∷ lists) = length list + size_before k lists

stands_first : (piece rest : List ℕ) → StandsIn (piece ++ rest) 0 piece
stands_first piece rest = record {
  inside = omega (arith, length-append piece rest);
  byte = λ i inside.
      let e : 0 + i ≡ i = omega arith in
      ap (λ (n : ℕ). get_or (piece ++ rest) n 0) e ∙ get_or_append_left piece rest 0 i inside;
}

stands_behind : (front whole piece : List ℕ) (place : ℕ) → StandsIn whole place piece →
    StandsIn (front ++ whole) (length front + place) piece
stands_behind front whole piece place there = record {
  inside = omega (arith, length-append front whole, there.inside);
  byte = λ i inside.
      let e : length front + place + i ≡ length front + (place + i) = omega arith in
      ap (λ (n : ℕ). get_or (front ++ whole) n 0) e ∙ get_or-append-add front whole (place + i) 0
      ∙ there.byte i inside;
}

pub piece_stands : (lists : List (List ℕ)) (k : ℕ) → k < length lists →
    StandsIn (concat lists) (size_before k lists) (get_or lists k [])
piece_stands [] k inside = absurd (omega arith)
piece_stands (list ∷ lists) zero inside = stands_first list (concat lists)
piece_stands (list ∷ lists) (suc k) inside =
    stands_behind list (concat lists) (get_or lists k []) (size_before k lists)
    (piece_stands lists k (omega arith))

pub concat-append : (front back : List (List ℕ)) → concat (front ++ back) ≡ concat front ++ concat back
concat-append [] back = refl
concat-append (list ∷ front) back =
    ap (λ (bytes : List ℕ). list ++ bytes) (concat-append front back)
    ∙ append_assoc' list (concat front) (concat back)
  where
    append_assoc' : (a b c : List ℕ) → a ++ (b ++ c) ≡ (a ++ b) ++ c
    append_assoc' a b c = simp append_assoc

-- lists behind others
pub stands_after : (front back : List (List ℕ)) (place : ℕ) (piece : List ℕ) → StandsIn (concat back) place piece →
    StandsIn (concat (front ++ back)) (length (concat front) + place) piece
stands_after front back place piece there =
    rw concat-append (stands_behind (concat front) (concat back) piece place there)

-- and before them
pub stands_before : (front back : List (List ℕ)) (place : ℕ) (piece : List ℕ) → StandsIn (concat front) place piece →
    StandsIn (concat (front ++ back)) place piece
stands_before front back place piece there = rw concat-append (record {
  inside = omega (arith, length-append (concat front) (concat back), there.inside);
  byte = λ i inside.
      get_or_append_left (concat front) (concat back) 0 (place + i) (omega (arith, there.inside)) ∙ there.byte i inside;
})

-- ---- places

pub places_count : (from : ℕ) (lists : List (List ℕ)) → length (places_from from lists) ≡ length lists
places_count from [] = refl
places_count from (list ∷ lists) = ap (λ (n : ℕ). suc n) (places_count (from + length list) lists)

pub place_at : (from : ℕ) (lists : List (List ℕ)) (k : ℕ) → k < length lists →
    get_or (places_from from lists) k 0 ≡ from + size_before k lists
place_at from [] k inside = absurd (omega arith)
place_at from (list ∷ lists) zero inside = omega arith
place_at from (list ∷ lists) (suc k) inside =
    omega (arith, place_at (from + length list) lists k (omega arith))

pub size_within : (lists : List (List ℕ)) (k : ℕ) → size_before k lists ≤ length (concat lists)
size_within lists zero = omega arith
size_within [] (suc k) = omega arith
size_within (list ∷ lists) (suc k) = omega (arith, length-append list (concat lists), size_within lists k)

pub size_all : (lists : List (List ℕ)) → size_before (length lists) lists ≡ length (concat lists)
size_all [] = refl
size_all (list ∷ lists) = omega (arith, length-append list (concat lists), size_all lists)

-- ---- sizes

pub orders_count : (subtunes : List PackedSubtune) → length (flat_map orders_of subtunes) ≡ 3 * length subtunes
orders_count [] = omega arith
orders_count (subtune ∷ subtunes) = omega (arith, orders_count subtunes)

pub orders_size : (subtunes : List PackedSubtune) →
    length (concat (flat_map orders_of subtunes)) + 6 * length subtunes ≡ sum_by subtune_size subtunes
orders_size [] = omega arith
orders_size (subtune ∷ subtunes) =
    let rest = concat (flat_map orders_of subtunes) in
    let one = length-append subtune.one (subtune.two ++ (subtune.three ++ rest)) in
    let two = length-append subtune.two (subtune.three ++ rest) in
    let three = length-append subtune.three rest in
    let sum = sum_by-cons subtune_size subtune subtunes in
    let later = orders_size subtunes in
    omega arith

pub texts_size : (texts : List (List ℕ)) → length (concat texts) + 2 * length texts ≡ sum_by list_size texts
texts_size [] = omega arith
texts_size (text ∷ texts) =
    let here = length-append text (concat texts) in
    let sum = sum_by-cons list_size text texts in
    let later = texts_size texts in
    omega arith

-- the three orderlists of a subtune
pub order_at : (subtunes : List PackedSubtune) (k channel : ℕ) (d : PackedSubtune) → k < length subtunes →
    channel < 3 →
    get_or (flat_map orders_of subtunes) (3 * k + channel) [] ≡ get_or (orders_of (get_or subtunes k d)) channel []
order_at [] k channel d inside below = absurd (omega arith)
order_at (subtune ∷ subtunes) zero channel d inside below =
    let e : 3 * 0 + channel ≡ channel = omega arith in
    ap (λ (n : ℕ). get_or (orders_of subtune ++ flat_map orders_of subtunes) n []) e
    ∙ get_or_append_left (orders_of subtune) (flat_map orders_of subtunes) [] channel below
order_at (subtune ∷ subtunes) (suc k) channel d inside below =
    let e : 3 * suc k + channel ≡ 3 + (3 * k + channel) = omega arith in
    ap (λ (n : ℕ). get_or (orders_of subtune ++ flat_map orders_of subtunes) n []) e
    ∙ get_or-append-add (orders_of subtune) (flat_map orders_of subtunes) (3 * k + channel) []
    ∙ order_at subtunes k channel d (omega arith) below
