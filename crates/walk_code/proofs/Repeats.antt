-- What holds of each repeat of an orderlist holds of the repeat at each of its plays.
use Rattle.std.proofs.Common.{ℕ, ℤ, pos, zero, suc, ◌+◌, ◌-◌, ◌%◌, ◌<◌, ◌≤◌, nat_eq, nat_lt}
use Rattle.std.proofs.Common.{if◌then◌else◌, List, [], ◌∷◌, length, drop, slice_index_or, All}
use Rattle.std.proofs.lemmas.Bool.{cond_both, ltb-true, ltb-false}
use Rattle.std.proofs.lemmas.List.Elements.{All-nil, All-head, All-tail, All-append, All-drop, All-cons}
use Rattle.song_model.specs.declared.orders.Order.{Order}
use Rattle.song_model.specs.declared.orders.OrderPlace.{OrderPlace}
use Rattle.song_model.specs.Walk.{transpose_after, repeat_after, end_transpose, end_repeat, unrolled}
use Rattle.song_model.specs.Places.{first_place, places_of, places_of_pattern, walk_places, prefix_places, cycle_places}
use Rattle.song_model.specs.Places.{place_after, place_of}
use Rattle.base.proofs.Laws.{All-get_or_any}

-- a fact of repeats that stays where one is used up, and holds where there is none
pub record IsFine (P : ℕ → Type 0) : Type 0 where
  pub none : P 0
  pub less : (r : ℕ) → P (suc r) → P r

-- it holds of the repeat that a byte sets
abbrev pub OfByte : (ℕ → Type 0) → ℕ → Type 0
OfByte P byte = 0xD0 ≤ byte → byte < 0xE0 → P (byte - 0xD0)

abbrev AtPlace : (ℕ → Type 0) → OrderPlace → Type 0
AtPlace P at = P at.repeat

after_byte : (P : ℕ → Type 0) → IsFine P → (byte r : ℕ) → OfByte P byte → P r → P (repeat_after byte r)
after_byte P fine byte r of h =
    cond_both (nat_lt byte 0xD0) 0 (if nat_lt byte 0xE0 then byte - 0xD0 else r) P (λ z. fine.none)
    (λ z.
    cond_both (nat_lt byte 0xE0) (byte - 0xD0) r P (λ y. of (ltb-false byte 0xD0 z) (ltb-true byte 0xE0 y)) (λ y. h))

pattern_places : (P : ℕ → Type 0) → IsFine P → (p : ℕ) (t : ℤ) (r : ℕ) → P r →
    All (AtPlace P) (places_of_pattern p t r)
pattern_places P fine p t zero h = All-cons (AtPlace P) _ [] fine.none (All-nil (AtPlace P))
pattern_places P fine p t (suc r) h =
    All-cons (AtPlace P) _ _ (fine.less r h) (pattern_places P fine p t r (fine.less r h))

byte_places : (P : ℕ → Type 0) → IsFine P → (byte p : ℕ) (t : ℤ) (r : ℕ) → P r → All (AtPlace P)
    (places_of byte p t r)
byte_places P fine byte p t r h =
    cond_both (nat_lt byte 0xD0) (places_of_pattern p t r) [] (All (AtPlace P)) (λ z. pattern_places P fine p t r h)
    (λ z. All-nil (AtPlace P))

places_fine : (P : ℕ → Type 0) → IsFine P → (bytes : List ℕ) → All (OfByte P) bytes → (p : ℕ) (t : ℤ)
    (r : ℕ) → P r →
    All (AtPlace P) (walk_places bytes p t r)
places_fine P fine [] of p t r h = All-nil (AtPlace P)
places_fine P fine (byte ∷ bytes) of p t r h =
    All-append (AtPlace P) (places_of byte p t r)
    (walk_places bytes (p + 1) (transpose_after byte t) (repeat_after byte r)) (byte_places P fine byte p t r h)
    (places_fine P fine bytes (All-tail (OfByte P) byte bytes of) (p + 1) (transpose_after byte t) (repeat_after byte r)
    (after_byte P fine byte r (All-head (OfByte P) byte bytes of) h))

end_fine : (P : ℕ → Type 0) → IsFine P → (bytes : List ℕ) → All (OfByte P) bytes → (r : ℕ) → P r → P
    (end_repeat bytes r)
end_fine P fine [] of r h = h
end_fine P fine (byte ∷ bytes) of r h =
    end_fine P fine bytes (All-tail (OfByte P) byte bytes of) (repeat_after byte r)
    (after_byte P fine byte r (All-head (OfByte P) byte bytes of) h)

prefix_fine : (P : ℕ → Type 0) → IsFine P → (order : Order) → All (OfByte P) order.entries →
    All (AtPlace P) (prefix_places order)
unfolding prefix_places
prefix_fine P fine order of = places_fine P fine order.entries of 0 (pos 0) 0 fine.none

cycle_fine : (P : ℕ → Type 0) → IsFine P → (order : Order) → All (OfByte P) order.entries →
    All (AtPlace P) (cycle_places order)
unfolding cycle_places
cycle_fine P fine order of =
    places_fine P fine (drop order.restart order.entries) (All-drop (OfByte P) order.restart order.entries of)
    order.restart (end_transpose order.entries (pos 0)) (end_repeat order.entries 0)
    (end_fine P fine order.entries of 0 fine.none)

-- at the place of each play
pub repeat_fine : (P : ℕ → Type 0) → IsFine P → (order : Order) → All (OfByte P) order.entries → (n : ℕ) →
    P (place_of order n).repeat
unfolding place_of place_after
repeat_fine P fine order of zero = fine.none
repeat_fine P fine order of (suc n) =
    let at = unrolled (prefix_places order) (cycle_places order) first_place n in
    let bare : P at.repeat =
    cond_both (nat_lt n (length (prefix_places order))) (slice_index_or (prefix_places order) n first_place)
    (slice_index_or (cycle_places order) ((n - length (prefix_places order)) % length (cycle_places order)) first_place)
    (AtPlace P) (λ z. All-get_or_any (AtPlace P) (prefix_places order) n first_place fine.none
    (prefix_fine P fine order of))
    (λ z. All-get_or_any (AtPlace P) (cycle_places order) _ first_place fine.none (cycle_fine P fine order of)) in
    cond_both (nat_eq at.place (length order.entries)) (record at { place = order.restart }) at (AtPlace P) (λ z. bare)
    (λ z. bare)
