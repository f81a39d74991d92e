-- The instruments of a packed song agree with those of its song.
use Rattle.std.proofs.Common.{◌≡◌, ℕ, ◌-◌, ◌<◌, ◌≤◌, true, List, []}
use Rattle.std.proofs.Common.{◌∷◌, map, length, get_or, refl, sym, ◌∙◌, ap, subst, inl, inr}
use Rattle.std.proofs.Common.{arith}
use Rattle.std.specs.List.Sorted.{IsNonDecreasingBy}
use Rattle.std.proofs.lemmas.Bool.{cases_lt, ne_eqb}
use Rattle.std.proofs.lemmas.List.{length-map, get_or-map}
use Rattle.std.proofs.lemmas.List.Elements.{All-contains}
use Rattle.song_model.specs.declared.rows.Row.{Row}
use Rattle.song_model.specs.declared.instruments.Instrument.{Instrument}
use Rattle.song_model.specs.declared.instruments.TheConstants.{MOST_INSTRUMENTS}
use Rattle.song_model.specs.declared.songs.Song.{Song}
use Rattle.song_model.specs.PatternLimits.{IsRow}
use Rattle.song_model.specs.Limits.{KeepsLimits}
use Rattle.song_model.specs.LookUp.{IsNumbered, numbered, zero_instrument, instrument_at, pattern_at}
use Rattle.song_model.proofs.Laws.{pattern_rows_in_range}
use Rattle.play_model.specs.LookUps.{look_ups_of}
use Rattle.play_model.specs.Used.{IsUsedRow, IsUsedInstrument}
use Rattle.song_facts.specs.Hold.{HoldsMore}
use Rattle.same_frames.specs.Agreement.{InstrumentsAgree}
use Rattle.packed_form.specs.declared.packed_songs.PackedInstrument.{PackedInstrument}
use Rattle.packed_form.specs.declared.packed_songs.PackedSong.{PackedSong}
use Rattle.packing_rules.specs.UsedSets.{UsedSets, AreUsedSets}
use Rattle.packing_rules.specs.Renumbering.{instruments_in_order, place_in, instrument_number, table_number}
use Rattle.packed_form.specs.Unpacked.{unpacked_instrument, unpacked_song}
use Rattle.packed_form.specs.Holders.{held, AreInOrder}
use Rattle.packing_rules.proofs.Laws.{instruments_few, IsPlaced, place_most, instrument_placed, no_instrument}
use Rattle.packing_rules.proofs.Laws.{order_rises}
use Rattle.song_pack.specs.Packed.{new_numbers, packed_instrument, IsPacked}

-- what is made of items has the items' order
map_rises : {X Y : Type 0} (f : X → Y) (n : Y → ℕ) (xs : List X) → IsNonDecreasingBy (λ x. n (f x)) xs →
    IsNonDecreasingBy n (map f xs)
map_rises f n [] rise i j d least most = absurd (omega arith)
map_rises f n (x ∷ xs) rise i j d least most =
    let long = length-map (x ∷ xs) f in
    let one = get_or-map f (x ∷ xs) i x d (omega arith) in
    let other = get_or-map f (x ∷ xs) j x d (omega arith) in
    let here = rise i j x least (omega arith) in
    rw (one, other) here

not_more : (a b : ℕ) → ¬ (b < a) → a ≤ b
not_more a b not = elim (cases_lt b a) [
  | inl less ↦ absurd (not less)
  | inr most ↦ most
]

-- one of the numbers of instruments
pub record IsOneOf (i : ℕ) : Type 0 where
  pub least : 1 ≤ i
  pub most : i ≤ MOST_INSTRUMENTS

-- ---- used instruments

-- a used instrument has a number of one byte, from 1 to 63
row_instrument : (song : Song) (row : Row) → KeepsLimits song → IsUsedRow song row → row.instrument ≤ 63
row_instrument song row limits used =
    let is = All-contains IsRow (pattern_at song used.pattern) row (pattern_rows_in_range song used.pattern limits)
    used.has in
    is.instrument

pub used_small : (song : Song) (i : ℕ) → KeepsLimits song → IsUsedInstrument song i → IsOneOf i
used_small song i limits (inl first) = record { least = omega arith; most = omega arith }
used_small song i limits (inr named) =
    let small = row_instrument song named.row limits named.used in
    let names = named.names in
    let some = named.some in
    record { least = grind arith; most = omega arith }

-- ---- instruments

numbered_at : (items : List Instrument) (n : ℕ) → 1 ≤ n → numbered items n zero_instrument ≡ get_or items (n - 1)
    zero_instrument
numbered_at items n some = let e = ne_eqb n 0 (λ (z : n ≡ 0). omega arith) in rw e refl

instrument_is : (song : Song) (n : ℕ) → instrument_at song n ≡ numbered song.instruments n zero_instrument
unfolding instrument_at
instrument_is song n = refl

number_is : (song : Song) (used : UsedSets) (i : ℕ) →
    instrument_number song used i ≡ place_in (instruments_in_order song used) i
unfolding instrument_number
number_is song used i = refl

-- numbers, used or not, are no larger than there may be instruments
pub number_small : (song : Song) (used : UsedSets) (i : ℕ) → instrument_number song used i ≤ MOST_INSTRUMENTS
number_small song used i =
    let e = number_is song used i in
    let most = place_most (instruments_in_order song used) i in
    let few = instruments_few song used in
    omega arith

module _ (song : Song) (used : UsedSets) (packed : PackedSong) (limits : KeepsLimits song) (are : AreUsedSets song used)
    (is : IsPacked song used packed) where
  packed_at : ℕ → PackedInstrument
  packed_at n = packed_instrument (table_number song used) (instrument_at song n)

  passes : (i : ℕ) → IsUsedInstrument song i → used.instruments i ≡ true
  passes i is_used = (are.instruments i).1 is_used

  placed_at : (i : ℕ) → IsUsedInstrument song i → IsPlaced (instruments_in_order song used) i
  placed_at i is_used =
      let small = used_small song i limits is_used in
      instrument_placed song used i small.least small.most (passes i is_used)

  number_low : (i : ℕ) → IsUsedInstrument song i → 1 ≤ instrument_number song used i
  number_low i is_used =
      let e = number_is song used i in
      let low = (placed_at i is_used).low in
      omega arith

  number_high : (i : ℕ) → IsUsedInstrument song i →
      instrument_number song used i ≤ length (instruments_in_order song used)
  number_high i is_used =
      let e = number_is song used i in
      let high = (placed_at i is_used).high in
      omega arith

  found : (i : ℕ) → IsUsedInstrument song i →
      instrument_at (unpacked_song packed) (instrument_number song used i) ≡ unpacked_instrument (packed_at i)
  unfolding packed_at
  found i is_used =
      let kept = instruments_in_order song used in
      let k = instrument_number song used i in
      let low = number_low i is_used in
      let high = number_high i is_used in
      let count = length-map kept packed_at in
      instrument_is (unpacked_song packed) k
      ∙ numbered_at (unpacked_song packed).instruments k low
      ∙ ap (λ (xs : List PackedInstrument). get_or (map unpacked_instrument xs) (k - 1) zero_instrument) is.instruments
      ∙ get_or-map unpacked_instrument (map packed_at kept) (k - 1) (packed_at 0) zero_instrument (omega arith)
      ∙ ap unpacked_instrument (get_or-map packed_at kept (k - 1) 0 (packed_at 0) (omega arith))
      ∙ ap (λ (n : ℕ). unpacked_instrument (packed_at (get_or kept (n - 1) 0))) (number_is song used i)
      ∙ ap (λ (n : ℕ). unpacked_instrument (packed_at n)) ((placed_at i is_used).there 0)

  pub instruments_agree : InstrumentsAgree (new_numbers song used) song (look_ups_of (unpacked_song packed))
  unfolding packed_at
  instruments_agree = record {
    nothing = no_instrument song used;
    some = λ i is_used none. let low = number_low i is_used in omega arith;
    stands_for = λ i is_used. record {
      moved = ap (λ (other : Instrument). record other { name = (instrument_at song i).name }) (found i is_used);
    };
  }

  pub instrument_stored : (i : ℕ) → IsUsedInstrument song i →
      IsNumbered (unpacked_song packed).instruments (instrument_number song used i)
  unfolding packed_at
  instrument_stored i is_used =
      let high = number_high i is_used in
      let count = length-map (instruments_in_order song used) packed_at in
      let two = length-map packed.instruments unpacked_instrument in
      let three = ap length is.instruments in
      record { first = number_low i is_used; last = omega arith }

  -- ---- their order

  -- where no used instrument holds less than the first
  pub instruments_rise :
      ((i : ℕ) → IsUsedInstrument song i → ¬ HoldsMore (instrument_at song 1) (instrument_at song i)) →
      AreInOrder packed.instruments
  unfolding packed_at
  instruments_rise none =
      subst AreInOrder (sym is.instruments)
      (map_rises packed_at held (instruments_in_order song used)
      (order_rises song used
      (λ n low high kept. not_more _ _ (none n ((are.instruments n).0 kept)))))
