-- Which instruments of a packed song hold so much before their notes.
use Rattle.std.proofs.Common.{◌≡◌, ℕ, zero, suc, ◌+◌, ◌-◌, ◌<◌, ◌≤◌, ◌↔◌, true, false, List, [], ◌∷◌}
use Rattle.std.proofs.Common.{length, get_or, inl, inr, arith}
use Rattle.std.specs.Prelude.{nat_le}
use Rattle.std.specs.List.{position_or_len}
use Rattle.std.specs.List.Sorted.{IsNonDecreasingBy}
use Rattle.std.proofs.lemmas.Bool.{cases_lt, le-leb, lt-leb, ne_eqb}
use Rattle.std.proofs.lemmas.List.{length-map, get_or-map}
use Rattle.song_model.specs.LookUp.{IsNumbered, zero_instrument, instrument_at}
use Rattle.song_facts.specs.Hold.{how_much}
use Rattle.packed_form.specs.declared.packed_songs.PackedInstrument.{PackedInstrument}
use Rattle.packed_form.specs.declared.packed_songs.PackedSong.{PackedSong}
use Rattle.packed_form.specs.Unpacked.{unpacked_instrument, unpacked_song}
use Rattle.packed_form.specs.Holders.{held, HoldersStandLast}

-- behind an item that hasn't t
behind_less : {X : Type 0} (n : X → ℕ) (t : ℕ) (x : X) (xs : List X) (k : ℕ) (d : X) → n x < t →
    k < suc (length xs) →
    ((j : ℕ) → j < length xs → (position_or_len (λ y. nat_le t (n y)) xs ≤ j) ↔ (t ≤ n (get_or xs j d))) →
    (position_or_len (λ y. nat_le t (n y)) (x ∷ xs) ≤ k) ↔ (t ≤ n (get_or (x ∷ xs) k d))
behind_less n t x xs zero d less inside rest =
    let fails : nat_le t (n x) ≡ false = lt-leb t (n x) less in (
      λ low. absurd (let no : 1 + position_or_len (λ y. nat_le t (n y)) xs ≤ 0 = rw fails at low in omega arith),
      λ least. absurd (omega arith),
    )
behind_less n t x xs (suc j) d less inside rest =
    let fails : nat_le t (n x) ≡ false = lt-leb t (n x) less in
    let there = rest j (omega arith) in (
      λ low.
          (let more : 1 + position_or_len (λ y. nat_le t (n y)) xs ≤ suc j = rw fails at low in
          there.0 (omega arith)),
      λ least. (let low = there.1 least in rw fails (omega arith)),
    )

-- of items whose numbers rise, one has at least t exactly where it doesn't stand before the first of those
last_have : {X : Type 0} (n : X → ℕ) (t : ℕ) (xs : List X) (k : ℕ) (d : X) → IsNonDecreasingBy n xs → k < length xs →
    (position_or_len (λ x. nat_le t (n x)) xs ≤ k) ↔ (t ≤ n (get_or xs k d))
last_have n t [] k d rise inside = absurd (omega arith)
last_have n t (x ∷ xs) k d rise inside = elim (cases_lt (n x) t) [
  | inl less ↦ behind_less n t x xs k d less inside
      (λ j low. last_have n t xs j d (λ i m e least most. rise (suc i) (suc m) e (omega arith) (omega arith)) low)
  | inr passes ↦ (
      let is : nat_le t (n x) ≡ true = le-leb t (n x) passes in
      let here = rise 0 k d (omega arith) inside in
      (λ low. omega arith, λ least. rw is (omega arith)))
]

-- the packed instrument with this number
instrument_is : (packed : PackedSong) (n : ℕ) (d : PackedInstrument) → IsNumbered (unpacked_song packed).instruments n →
    instrument_at (unpacked_song packed) n ≡ unpacked_instrument (get_or packed.instruments (n - 1) d)
unfolding instrument_at
instrument_is packed n d is =
    let first = is.first in
    let last = is.last in
    let long = length-map packed.instruments unpacked_instrument in
    let some = ne_eqb n 0 (λ (z : n ≡ 0). omega arith) in
    rw some (get_or-map unpacked_instrument packed.instruments (n - 1) d zero_instrument (omega arith))

pub holders_stand_last : HoldersStandLast
holders_stand_last packed hold n rise is =
    let d : PackedInstrument = record { bytes = [] } in
    let first = is.first in
    let last = is.last in
    let long = length-map packed.instruments unpacked_instrument in
    let have = last_have held (how_much hold) packed.instruments (n - 1) d rise (omega arith) in
    let same = instrument_is packed n d is in
    (λ low. rw same (have.0 (omega arith)), λ least. (let from = have.1 (rw same at least) in omega arith))
