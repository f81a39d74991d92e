-- Instruments and what they hold that were worked out by hand.
use Rattle.std.proofs.Common.{ℕ, ◌+◌, ◌-◌, ◌<◌, ◌≤◌, List, [], ◌∷◌, ◌++◌, length}
use Rattle.std.proofs.Common.{get_or, ap, arith}
use Rattle.std.specs.Prelude.{nat_le}
use Rattle.std.specs.List.{position_or_len}
use Rattle.std.proofs.lemmas.List.Sorted.{IsNonDecreasingBy-short, IsNonDecreasingBy-push}
use Rattle.song_facts.specs.declared.hold.Hold.{Hold}
use Rattle.song_facts.specs.declared.hold.Hold.TheVariants.{Nothing, Envelope, Gate}
use Rattle.song_facts.specs.Hold.{how_much}
use Rattle.packed_form.specs.declared.packed_songs.PackedInstrument.{PackedInstrument}
use Rattle.packed_form.specs.Holders.{held, AreInOrder}
use Rattle.packed_form.specs.WorkedHolders.{of_timer, OrdersAreTold, HoldersAreCounted}

-- one more instrument that holds at least what the last one holds
one_more : (instruments : List PackedInstrument) (i : PackedInstrument) → AreInOrder instruments →
    ((d : PackedInstrument) → 0 < length instruments → held (get_or instruments (length instruments - 1) d) ≤ held i) →
    AreInOrder (instruments ++ i ∷ [])
one_more instruments i in_order least = IsNonDecreasingBy-push held instruments i in_order least

pub orders_are_told : OrdersAreTold
orders_are_told = record {
  none = IsNonDecreasingBy-short held [] (omega arith);
  in_order =
      one_more (of_timer 0x02 ∷ of_timer 0x83 ∷ of_timer 0x80 ∷ []) (of_timer 0x42)
      (one_more (of_timer 0x02 ∷ of_timer 0x83 ∷ []) (of_timer 0x80)
      (one_more (of_timer 0x02 ∷ []) (of_timer 0x83) (IsNonDecreasingBy-short held (of_timer 0x02 ∷ []) (omega arith))
      (λ d some. omega arith)) (λ d some. omega arith)) (λ d some. omega arith);
  first_more = λ rise. omega (arith, rise 0 1 (of_timer 0) (omega arith) (omega arith));
  last_less = λ rise. omega (arith, rise 1 2 (of_timer 0) (omega arith) (omega arith));
}

-- how many stand before the first that holds so much
counted : Hold → List PackedInstrument → ℕ
counted hold instruments = position_or_len (λ i. nat_le (how_much hold) (held i)) instruments + 1

pub holders_are_counted : HoldersAreCounted
unfolding counted
holders_are_counted packed = record {
  gate = ap (counted Gate);
  envelope = ap (counted Envelope);
  nothing = ap (counted Nothing);
  gate_alone = ap (counted Envelope);
  no_gate = ap (counted Gate);
}
