-- What is left of a walk along an orderlist from a place on.
use Rattle.std.specs.Prelude.{◌≡◌, ℕ, ◌≤◌, pos, List, ◌++◌, length, drop}
use Rattle.song_model.specs.declared.orders.Order.{Order}
use Rattle.song_model.specs.declared.orders.Step.{Step}
use Rattle.song_model.specs.declared.orders.OrderPlace.{OrderPlace}
use Rattle.song_model.specs.Walk.{walk_plays, end_transpose, end_repeat, cycle_of}
use Rattle.song_model.specs.Places.{walk_places, cycle_places}

-- the plays from here to the end
abbrev pub plays_from : List ℕ → OrderPlace → List Step
plays_from entries at = walk_plays (drop at.place entries) at.transpose at.repeat

-- the places after them
abbrev pub places_from : List ℕ → OrderPlace → List OrderPlace
places_from entries at = walk_places (drop at.place entries) at.place at.transpose at.repeat

-- from both places the same is left of the walk
pub record IsSameRest (entries : List ℕ) (here there : OrderPlace) : Type 0 where
  pub plays : plays_from entries here ≡ plays_from entries there
  pub places : places_from entries here ≡ places_from entries there
  pub transpose :
      end_transpose (drop here.place entries) here.transpose
      ≡ end_transpose (drop there.place entries) there.transpose
  pub repeat :
      end_repeat (drop here.place entries) here.repeat
      ≡ end_repeat (drop there.place entries) there.repeat

-- a walk from here comes to the end as the walk from the start does
pub record IsOnWalk (order : Order) (at : OrderPlace) : Type 0 where
  pub inside : at.place ≤ length order.entries
  pub transpose :
      end_transpose (drop at.place order.entries) at.transpose
      ≡ end_transpose order.entries (pos 0)
  pub repeat : end_repeat (drop at.place order.entries) at.repeat ≡ end_repeat order.entries 0

-- the plays from here to the end of the next round
abbrev pub coming_plays : Order → OrderPlace → List Step
coming_plays order at = plays_from order.entries at ++ cycle_of order

-- the places after them
abbrev pub coming_places : Order → OrderPlace → List OrderPlace
coming_places order at = places_from order.entries at ++ cycle_places order
