-- The way from a place of an orderlist to a pattern.
use Rattle.std.proofs.Common.{◌≡◌, ℕ, suc, ◌+◌, ◌-◌, ◌*◌, ◌<◌, ◌≤◌, max, true, false}
use Rattle.std.proofs.Common.{cond, eqb, leb, List, ◌∷◌, ◌++◌, length, get_or, drop, refl, sym, ap, subst}
use Rattle.std.proofs.Common.{◌∙◌, inl, inr, zero-add, arith}
use Rattle.std.specs.List.{prefix_len, range_with_len, Any}
use Rattle.std.proofs.lemmas.Bool.{cases_lt, eq-eqb, ne_eqb, le-leb, lt-leb, leb-true, leb-false}
use Rattle.std.proofs.lemmas.List.{drop_more, drop_all, length-drop, length-append, get_or-drop}
use Rattle.std.proofs.lemmas.List.FromFn.{length-range_with_len, get_or-range_with_len}
use Rattle.std.proofs.lemmas.List.Sums.{prefix_len-le-length, prefix_len_passes, prefix_len_stops}
use Rattle.std.proofs.lemmas.List.Folds.{prefix_len-append}
use Rattle.song_model.specs.declared.orders.Order.{Order}
use Rattle.song_model.specs.Endless.{IsPatternByte, IsEndless}
use Rattle.packed_form.specs.WalkCount.{is_passed, way_from, looks_from, greatest, most_looks}
use Rattle.packed_form.specs.WalkLaws.{LooksGoOn}
use Rattle.packed_form.proofs.Greatest.{greatest_cons, greatest_at, greatest_within}

-- ---- one look

-- at an entry
pub looks_here : (order : Order) (place : ℕ) → place < length order.entries →
    looks_from order place ≡ cond (is_passed (get_or order.entries place 0)) (1 + looks_from order (place + 1)) 0
unfolding looks_from
looks_here order place inside =
    ap (λ (bytes : List ℕ). prefix_len is_passed (bytes ++ 0xFF ∷ drop order.restart order.entries))
    (drop_more order.entries place 0 inside)

pub looks_pattern : (order : Order) (place : ℕ) → place < length order.entries →
    get_or order.entries place 0 < 0xD0 → looks_from order place ≡ 0
looks_pattern order place inside low =
    let test : leb 0xD0 (get_or order.entries place 0) ≡ false = lt-leb 0xD0 (get_or order.entries place 0) low in
    looks_here order place inside ∙ rw test refl

pub looks_other : (order : Order) (place : ℕ) → place < length order.entries →
    0xD0 ≤ get_or order.entries place 0 → looks_from order place ≡ 1 + looks_from order (place + 1)
looks_other order place inside high =
    let test : leb 0xD0 (get_or order.entries place 0) ≡ true = le-leb 0xD0 (get_or order.entries place 0) high in
    looks_here order place inside ∙ rw test refl

-- at the endmark
pub looks_behind : (order : Order) (place : ℕ) → length order.entries ≤ place →
    looks_from order place ≡ 1 + prefix_len is_passed (drop order.restart order.entries)
unfolding looks_from
looks_behind order place past =
    ap (λ (bytes : List ℕ). prefix_len is_passed (bytes ++ 0xFF ∷ drop order.restart order.entries))
    (drop_all place order.entries past)

-- no more bytes than the way has
pub looks_short : (order : Order) (place : ℕ) → looks_from order place ≤ 2 * length order.entries + 1
unfolding looks_from
looks_short order place =
    let way = prefix_len-le-length is_passed (way_from order place) in
    let whole = length-append (drop place order.entries) (0xFF ∷ drop order.restart order.entries) in
    omega (arith, way, whole, length-drop place order.entries, length-drop order.restart order.entries)

-- ---- orderlists that go on for ever

-- where a pattern stands not all bytes are passed
pub pattern_stops : (bytes : List ℕ) → Any IsPatternByte bytes → prefix_len is_passed bytes < length bytes
pattern_stops bytes (k, byte, inside, is, low) = elim (cases_lt (prefix_len is_passed bytes) (length bytes)) [
  | inl lt ↦ lt
  | inr ge ↦
      let passed : leb 0xD0 (get_or bytes k byte) ≡ true = prefix_len_passes is_passed bytes k byte (omega arith) in
      let high = leb-true 0xD0 (get_or bytes k byte) passed in
      absurd (omega (arith, is, high))
]

-- more bytes behind them don't count
pub front_stops : (bytes more : List ℕ) → prefix_len is_passed bytes < length bytes →
    prefix_len is_passed (bytes ++ more) ≡ prefix_len is_passed bytes
front_stops bytes more stops =
    let test : eqb (prefix_len is_passed bytes) (length bytes) ≡ false = ne_eqb _ _ (λ e. absurd (omega arith)) in
    prefix_len-append is_passed bytes more ∙ rw test refl

-- where all are passed they do
front_passes : (bytes more : List ℕ) → length bytes ≤ prefix_len is_passed bytes →
    prefix_len is_passed (bytes ++ more) ≡ length bytes + prefix_len is_passed more
front_passes bytes more passes =
    let most = prefix_len-le-length is_passed bytes in
    let test : eqb (prefix_len is_passed bytes) (length bytes) ≡ true = eq-eqb _ _ (omega arith) in
    prefix_len-append is_passed bytes more ∙ rw test refl

pub looks_endmark : (order : Order) → IsEndless order →
    looks_from order (length order.entries) ≡ 1 + looks_from order order.restart
unfolding looks_from
looks_endmark order endless =
    looks_behind order (length order.entries) (omega arith)
    ∙ ap (λ (n : ℕ). 1 + n)
    (sym (front_stops (drop order.restart order.entries) (0xFF ∷ drop order.restart order.entries)
    (pattern_stops (drop order.restart order.entries) endless.pattern)))

pub looks_go_on : (order : Order) → IsEndless order → LooksGoOn order
looks_go_on order endless = record {
  pattern = looks_pattern order;
  other = looks_other order;
  endmark = looks_endmark order endless;
}

-- the pattern behind the restart position stands in front of a place from which all bytes are passed
pattern_before : (entries : List ℕ) (restart place : ℕ) → place ≤ length entries →
    prefix_len is_passed (drop restart entries) < length (drop restart entries) →
    length (drop place entries) ≤ prefix_len is_passed (drop place entries) →
    restart + prefix_len is_passed (drop restart entries) < place
pattern_before entries restart place inside stops passes =
    elim (cases_lt (restart + prefix_len is_passed (drop restart entries)) place) [
      | inl lt ↦ lt
      | inr ge ↦
          let n = prefix_len is_passed (drop restart entries) in
          let k = restart + n - place in
          let e : place + k ≡ restart + n = omega arith in
          let within : k < prefix_len is_passed (drop place entries) =
          omega (arith, length-drop restart entries, length-drop place entries) in
          let passed : leb 0xD0 (get_or (drop place entries) k 0) ≡ true =
          prefix_len_passes is_passed (drop place entries) k 0 within in
          let stopped : leb 0xD0 (get_or (drop restart entries) n 0) ≡ false =
          prefix_len_stops is_passed (drop restart entries) 0 stops in
          let high = leb-true 0xD0 (get_or (drop place entries) k 0) passed in
          let low = leb-false 0xD0 (get_or (drop restart entries) n 0) stopped in
          let same : get_or (drop place entries) k 0 ≡ get_or (drop restart entries) n 0 =
          get_or-drop place entries k 0 ∙ ap (λ (i : ℕ). get_or entries i 0) e
          ∙ sym (get_or-drop restart entries n 0) in
          absurd (omega (arith, high, low, same))
    ]

-- no byte is passed twice, and one isn't passed
pub looks_within : (order : Order) (place : ℕ) → IsEndless order → place ≤ length order.entries →
    looks_from order place ≤ length order.entries
unfolding looks_from
looks_within order place endless inside =
    let stops = pattern_stops (drop order.restart order.entries) endless.pattern in
    elim (cases_lt (prefix_len is_passed (drop place order.entries)) (length (drop place order.entries))) [
      | inl lt ↦
          let front =
          front_stops (drop place order.entries) (0xFF ∷ drop order.restart order.entries) lt in
          omega (arith, front, length-drop place order.entries)
      | inr ge ↦
          let front =
          front_passes (drop place order.entries) (0xFF ∷ drop order.restart order.entries) ge in
          let before = pattern_before order.entries order.restart place inside stops ge in
          omega (arith, front, before, length-drop place order.entries)
    ]

-- ---- the most from a place

-- the places of an orderlist
place_is : (n place d : ℕ) → place ≤ n → get_or (range_with_len 0 (n + 1)) place d ≡ place
place_is n place d inside = get_or-range_with_len 0 (n + 1) place d (omega arith) ∙ zero-add place

-- the most from any place is at least that from each, and within what each is within
pub most_at : (order : Order) (place : ℕ) → place ≤ length order.entries → looks_from order place ≤ most_looks order
unfolding most_looks
most_at order place inside =
    let places = range_with_len 0 (length order.entries + 1) in
    let within : place < length places = omega (arith, length-range_with_len 0 (length order.entries + 1)) in
    subst (λ (n : ℕ). looks_from order n ≤ greatest (looks_from order) places)
    (place_is (length order.entries) place 0 inside) (greatest_at (looks_from order) places place 0 within)

pub most_within : (order : Order) (m : ℕ) →
    ((place : ℕ) → place ≤ length order.entries → looks_from order place ≤ m) → most_looks order ≤ m
unfolding most_looks
most_within order m each =
    greatest_within (looks_from order) m (range_with_len 0 (length order.entries + 1)) (λ k d inside.
    let within : k ≤ length order.entries = omega (arith, length-range_with_len 0 (length order.entries + 1)) in
    subst (λ (n : ℕ). looks_from order n ≤ m) (sym (place_is (length order.entries) k d within)) (each k within))

-- the most from this place or one behind it
pub most_from : Order → ℕ → ℕ
most_from order place = greatest (looks_from order) (range_with_len place (length order.entries + 1 - place))

pub most_from_end : (order : Order) → most_from order (length order.entries) ≡ looks_from order (length order.entries)
unfolding most_from
most_from_end order =
    let one : length order.entries + 1 - length order.entries ≡ 1 = omega arith in
    rw one (omega arith)

pub most_from_here : (order : Order) (place : ℕ) → place < length order.entries →
    most_from order place ≡ max (looks_from order place) (most_from order (place + 1))
unfolding most_from
most_from_here order place inside =
    let more : length order.entries + 1 - place ≡ suc (length order.entries + 1 - (place + 1)) = omega arith in
    ap (λ (n : ℕ). greatest (looks_from order) (range_with_len place n)) more
    ∙ greatest_cons (looks_from order) place (range_with_len (place + 1) (length order.entries + 1 - (place + 1)))

-- one place to the left
pub looks_left : (order : Order) (place : ℕ) → 0 < place → place ≤ length order.entries →
    0xD0 ≤ get_or order.entries (place - 1) 0 → looks_from order (place - 1) ≡ looks_from order place + 1
looks_left order place some inside high =
    let back : place - 1 + 1 ≡ place = omega arith in
    let on : looks_from order (place - 1 + 1) ≡ looks_from order place = ap (looks_from order) back in
    omega (arith, looks_other order (place - 1) (omega arith) high, on)

pub most_left : (order : Order) (place looks : ℕ) → 0 < place → place ≤ length order.entries →
    looks ≡ looks_from order (place - 1) → max (most_from order place) looks ≡ most_from order (place - 1)
most_left order place looks some inside is =
    let back : place - 1 + 1 ≡ place = omega arith in
    let on : most_from order (place - 1 + 1) ≡ most_from order place = ap (most_from order) back in
    omega (arith, is, on, most_from_here order (place - 1) (omega arith))

pub most_from_start : (order : Order) → most_from order 0 ≡ most_looks order
unfolding most_from most_looks
most_from_start order =
    let all : length order.entries + 1 - 0 ≡ length order.entries + 1 = omega arith in
    rw all refl
