-- What one subtune and several cost, worked out by hand.
use Rattle.std.proofs.Common.{refl, arith}
use Rattle.play_model.specs.State.{no_options}
use Rattle.song_facts.specs.declared.facts.Fact.TheVariants.{Subtunes}
use Rattle.player_memory.specs.declared.conditions.TheConstants.{SUBTUNES}
use Rattle.kept_lines.specs.Asked.{asked}
use Rattle.kept_lines.specs.KeptLines.{kept_set}
use Rattle.variable_places.specs.Places.{voice_rows, shared_rows, asks, has_byte, voice_labels, other_labels}
use Rattle.variable_places.specs.Places.{free_places, funk_place, variable_count}
use Rattle.song_places.specs.declared.places.Place.{Place}
use Rattle.song_places.specs.declared.places.Place.TheVariants.{InOrder}
use Rattle.song_places.specs.Places.{IsFirstFactPlace}
use Rattle.song_places.specs.PartPlaces.{IsPartPlace}
use Rattle.song_places.specs.WorkedPlaces.{several}
use Rattle.song_places.proofs.Laws.{fact_places_are_first, subtunes_are_worked}
use Rattle.song_costs.specs.declared.kept.Cause.TheVariants.{InSong}
use Rattle.song_costs.specs.Kept.{IsPartCost}
use Rattle.song_costs.specs.WorkedCosts.{OrdersAreCounted, SubtunePartIsWorked, several_asked, part_cost}

pub orders_are_counted : OrdersAreCounted
unfolding asked kept_set
orders_are_counted = record { one = refl; two = refl; unplayable = refl }

-- the place of the part is that of the fact
first_place : (place : Place) → IsPartPlace several SUBTUNES place → IsFirstFactPlace several Subtunes place
first_place place first = (fact_places_are_first several Subtunes place).0 first

second : IsPartCost several several_asked no_options (part_cost SUBTUNES 20 (InSong (InOrder 4 1 0)))
unfolding asked kept_set voice_rows shared_rows asks has_byte voice_labels other_labels free_places funk_place
    variable_count
second = record {
  kept = refl;
  bytes = refl;
  some = λ e. absurd (omega arith);
  cause = (fact_places_are_first several Subtunes (InOrder 4 1 0)).1 subtunes_are_worked.first;
}

pub subtune_part_is_worked : SubtunePartIsWorked
unfolding asked
subtune_part_is_worked = record {
  second = second;
  later = λ told. subtunes_are_worked.not_next_order (first_place (InOrder 4 2 0) told.cause);
  first = λ told. subtunes_are_worked.first_subtune (first_place (InOrder 2 1 0) told.cause).is_such;
  one_alone = λ bytes cause told. (let e = told.kept in absurd (cc));
}
