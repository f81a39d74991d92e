-- The variables that aren't cleared have the first bytes in each player, and all others stand behind them.
use Rattle.std.proofs.Common.{◌≡◌, ℕ, ◌&&◌, Bool, true, nat_eq, refl, sym, inl, inr, arith}
use Rattle.std.proofs.lemmas.Bool.{and_parts, eqb-true, cases_lt, agree_below, agree_below_at}
use Rattle.player_memory.specs.declared.labels.TheConstants.{FIRST_CLEARED}
use Rattle.variable_places.specs.Places.{voice_rows, asks, has_byte, voice_labels, place_of}
use Rattle.variable_places.specs.PlaceLaws.{UnclearedAreFirst, ClearedAreBehind}
use Rattle.variable_places.proofs.Apart.{places_are_apart}

-- a label's variable has a byte, at the place of its number: tested for each of them
abbrev stands_at : (ℕ → Bool) → ℕ → Bool
stands_at holds label = has_byte holds label && nat_eq (place_of holds label) label

all_stand : (holds : ℕ → Bool) → agree_below (stands_at holds) (λ _. true) 22 ≡ true
unfolding asks has_byte voice_rows voice_labels place_of
all_stand holds = refl

pub uncleared_are_first : UnclearedAreFirst
uncleared_are_first holds label few =
    let both = and_parts (has_byte holds label) (nat_eq (place_of holds label) label)
    (agree_below_at (stands_at holds) (λ _. true) 22 label (all_stand holds) (omega (arith, few))) in
    (both.0, eqb-true (place_of holds label) label both.1)

-- one in front would have the place of a variable that isn't cleared, and be that
pub cleared_are_behind : ClearedAreBehind
cleared_are_behind holds label from few there = elim (cases_lt (place_of holds label) FIRST_CLEARED) [
  | inr behind ↦ behind
  | inl front ↦
      let its = uncleared_are_first holds (place_of holds label) (omega (arith, front)) in
      let same : label ≡ place_of holds label =
      places_are_apart holds label (place_of holds label) few (omega (arith, front)) there its.0 (sym its.1) in
      omega (arith, from, front, same)
]
