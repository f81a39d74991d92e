-- What was exchanged leads back.
use Rattle.std.proofs.Common.{◌≡◌, ℕ, ◌-◌, ◌<◌, false, ◌==◌, List, length, set, get_or, Some, refl}
use Rattle.std.proofs.Common.{ap, ◌∙◌, inl, inr, arith}
use Rattle.std.proofs.Math.ListN.{length-set}
use Rattle.std.proofs.lemmas.Bool.{cases_Bool}
use Rattle.std.proofs.lemmas.Bool.Decides.{nat_tests}
use Rattle.std.proofs.lemmas.List.{set-set, set-get_or, get_or-set_same, get_or_default}
use Rattle.song_model.specs.declared.rows.Row.{Row}
use Rattle.song_model.specs.declared.orders.Order.{Order}
use Rattle.song_model.specs.declared.orders.Subtune.{Subtune}
use Rattle.song_model.specs.declared.instruments.Instrument.{Instrument}
use Rattle.song_model.specs.declared.songs.Song.{Song}
use Rattle.song_model.specs.LookUp.{numbered, order_of, void_subtune}
use Rattle.edit_ops.specs.declared.inverses.Inverse.TheVariants.{OnePattern, OneOrder, OneInstrument}
use Rattle.edit_ops.specs.Patterns.{lacks_pattern, with_pattern}
use Rattle.edit_ops.specs.Orders.{lacks_order, subtune_at, order_at, with_channel, with_order}
use Rattle.edit_ops.specs.Instruments.{lacks_instrument}
use Rattle.edit_ops.specs.Back.{back}
use Rattle.edit_ops.proofs.OrderLaws.{subtune_stands, subtune_of_order}

-- an item put back where it stood
set_back : {X : Type 0} (xs : List X) (i : ℕ) (x was : X) → was ≡ get_or xs i was → set (set xs i x) i was ≡ xs
set_back {X} xs i x was e =
    set-set xs i x was ∙ ap (λ (y : X). set xs i y) e ∙ set-get_or xs i was

pub pattern_back : (song : Song) (pattern : ℕ) (rows was : List Row) → lacks_pattern song pattern ≡ false →
    was ≡ get_or song.patterns pattern was → back (with_pattern song pattern rows) (OnePattern pattern was) ≡ Some song
unfolding back
pattern_back song pattern rows was stored is =
    rw (length-set song.patterns pattern rows, stored, set_back song.patterns pattern rows was is) refl

pub instrument_back : (song : Song) (number : ℕ) (instrument was : Instrument) → lacks_instrument song number ≡ false →
    was ≡ get_or song.instruments (number - 1) was →
    back (record song { instruments = set song.instruments (number - 1) instrument })
    (OneInstrument number was) ≡ Some song
unfolding back
instrument_back song number instrument was stored is =
    rw (
      length-set song.instruments (number - 1) instrument,
      stored,
      set_back song.instruments (number - 1) instrument
          was is,
    ) refl

channel_back : (subtune : Subtune) (channel : ℕ) (order : Order) →
    with_channel (with_channel subtune channel order) channel (order_of channel subtune) ≡ subtune
channel_back subtune channel order = elim (cases_Bool (channel == 1)) [
  | inl one ↦ rw one refl
  | inr other ↦ elim (cases_Bool (channel == 2)) [
    | inl two ↦ rw (other, two) refl
    | inr three ↦ rw (other, three) refl
  ]
]

numbered_from_1 : (number : ℕ) → 0 < number → (number == 0) ≡ false
numbered_from_1 number h = grind (arith, nat_tests)

stored_number : {X : Type 0} (xs : List X) (number : ℕ) (d : X) → (number == 0) ≡ false →
    numbered xs number d ≡ get_or xs (number - 1) d
stored_number xs number d some = rw some refl

order_again : (song : Song) (subtune channel : ℕ) (order : Order) → (subtune == 0) ≡ false →
    subtune - 1 < length song.subtunes →
    with_order (with_order song subtune channel order) subtune channel (order_at song subtune channel) ≡ song
order_again song subtune channel order some inside =
    let was = subtune_at song subtune in
    let changed = with_channel was channel order in
    let stored : was ≡ get_or song.subtunes (subtune - 1) void_subtune =
    stored_number song.subtunes subtune void_subtune some in
    let same : was ≡ get_or song.subtunes (subtune - 1) was =
    stored ∙ get_or_default song.subtunes (subtune - 1) void_subtune was inside in
    let found : subtune_at (with_order song subtune channel order) subtune ≡ changed =
    stored_number (set song.subtunes (subtune - 1) changed) subtune void_subtune some
    ∙ get_or-set_same song.subtunes (subtune - 1) changed void_subtune inside in
    let behind : set (set song.subtunes (subtune - 1) changed) (subtune - 1)
    (with_channel (subtune_at (with_order song subtune channel order) subtune) channel (order_of channel was))
    ≡ song.subtunes =
    ap (λ (s : Subtune). set (set song.subtunes (subtune - 1) changed) (subtune - 1)
    (with_channel s channel (order_of channel was))) found
    ∙ ap (λ (s : Subtune). set (set song.subtunes (subtune - 1) changed) (subtune - 1) s)
    (channel_back was channel order)
    ∙ set_back song.subtunes (subtune - 1) changed was same in
    ap (λ (ss : List Subtune). record song { subtunes = ss }) behind

pub order_back : (song : Song) (subtune channel : ℕ) (order was : Order) → lacks_order song subtune channel ≡ false →
    was ≡ order_at song subtune channel →
    back (with_order song subtune channel order) (OneOrder subtune channel was) ≡ Some song
unfolding back
order_back song subtune channel order was stored is =
    let stands = subtune_stands song subtune (subtune_of_order song subtune channel stored) in
    let inside : subtune - 1 < length song.subtunes = omega (arith, stands.0, stands.1) in
    let some = numbered_from_1 subtune stands.0 in
    let changed = with_channel (subtune_at song subtune) channel order in
    let still : lacks_order (with_order song subtune channel order) subtune channel ≡ false =
    rw (length-set song.subtunes (subtune - 1) changed) stored in
    rw (still, is) (ap Some (order_again song subtune channel order some inside))
