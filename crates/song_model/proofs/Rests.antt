-- What is left of a walk along an orderlist, a byte at a time.
use Rattle.std.proofs.Common.{◌≡◌, ℕ, ℤ, inl, inr, zero, suc, pos, ◌+◌, ◌<◌, ◌≤◌, true, false}
use Rattle.std.proofs.Common.{ltb, eqb, List, [], ◌∷◌, ◌++◌, length, get_or, drop, replicate, refl, sym, ap}
use Rattle.std.proofs.Common.{◌∙◌, arith, add-one}
use Rattle.std.proofs.lemmas.Bool.{cases_lt}
use Rattle.std.proofs.lemmas.Bool.Decides.{nat_tests}
use Rattle.std.proofs.lemmas.List.{drop_more, drop_all}
use Rattle.base.proofs.Laws.{some_append_left, some_append_right, first_of_append}
use Rattle.song_model.specs.declared.orders.Order.{Order}
use Rattle.song_model.specs.declared.orders.OrderPlace.{OrderPlace}
use Rattle.song_model.specs.declared.orders.Step.{Step}
use Rattle.song_model.specs.Walk.{transpose_after, repeat_after, plays_of, walk_plays, end_transpose, end_repeat}
use Rattle.song_model.specs.Walk.{cycle_of, no_step}
use Rattle.song_model.specs.Endless.{IsEndless}
use Rattle.song_model.specs.Places.{first_place, places_of_pattern, walk_places, cycle_places, restarted}
use Rattle.song_model.specs.WalkRest.{plays_from, places_from, IsSameRest, IsOnWalk, coming_plays, coming_places}
use Rattle.song_model.proofs.Walks.{walk_some}

abbrev pub place_at : ℕ → ℤ → ℕ → OrderPlace
place_at p t r = record { place = p; transpose = t; repeat = r }

abbrev pub play_of : ℕ → ℤ → Step
play_of byte t = record { pattern = byte; transpose = t }

-- a walk that begins at a pattern
pub pattern_plays : (bytes : List ℕ) (byte : ℕ) (t : ℤ) (r : ℕ) → byte < 0xD0 →
    walk_plays (byte ∷ bytes) t r ≡ replicate (suc r) (play_of byte t) ++ walk_plays bytes t 0
pattern_plays bytes byte t r h =
    let low : ltb byte 0xD0 ≡ true = grind (arith, nat_tests) in
    let lower : ltb byte 0xE0 ≡ true = grind (arith, nat_tests) in
    rw (low, lower, add-one) refl

pub pattern_places : (bytes : List ℕ) (byte p : ℕ) (t : ℤ) (r : ℕ) → byte < 0xD0 →
    walk_places (byte ∷ bytes) p t r ≡ places_of_pattern p t r ++ walk_places bytes (p + 1) t 0
pattern_places bytes byte p t r h =
    let low : ltb byte 0xD0 ≡ true = grind (arith, nat_tests) in
    let lower : ltb byte 0xE0 ≡ true = grind (arith, nat_tests) in
    rw (low, lower) refl

pub pattern_transpose : (bytes : List ℕ) (byte : ℕ) (t : ℤ) → byte < 0xD0 →
    end_transpose (byte ∷ bytes) t ≡ end_transpose bytes t
pattern_transpose bytes byte t h =
    let lower : ltb byte 0xE0 ≡ true = grind (arith, nat_tests) in
    rw lower refl

pub pattern_repeat : (bytes : List ℕ) (byte r : ℕ) → byte < 0xD0 → end_repeat (byte ∷ bytes) r ≡ end_repeat bytes 0
pattern_repeat bytes byte r h =
    let low : ltb byte 0xD0 ≡ true = grind (arith, nat_tests) in
    rw low refl

-- the first of a pattern's plays and of their places
pub first_play_here : (entries : List ℕ) (p : ℕ) (t : ℤ) (r : ℕ) → p < length entries → get_or entries p 0 < 0xD0 →
    plays_from entries (place_at p t r) ≡ play_of (get_or entries p 0) t ∷
    (replicate r (play_of (get_or entries p 0) t) ++ walk_plays (drop (p + 1) entries) t 0)
first_play_here entries p t r h low =
    rw (drop_more entries p 0 h) (pattern_plays (drop (p + 1) entries) (get_or entries p 0) t r low)

pub first_place_here : (entries : List ℕ) (p : ℕ) (t : ℤ) (r : ℕ) → p < length entries → get_or entries p 0 < 0xD0 →
    places_from entries (place_at p t r) ≡ places_of_pattern p t r ++ walk_places (drop (p + 1) entries) (p + 1) t 0
first_place_here entries p t r h low =
    rw (drop_more entries p 0 h) (pattern_places (drop (p + 1) entries) (get_or entries p 0) p t r low)

-- nothing is left at the end
pub at_end : (entries : List ℕ) (p : ℕ) → length entries ≤ p → drop p entries ≡ []
at_end entries p h = drop_all p entries h

-- a pattern somewhere is played
some_at : (bytes : List ℕ) (k : ℕ) (t : ℤ) (r x : ℕ) → k < length bytes → get_or bytes k x ≡ x → x < 0xD0 →
    0 < length (walk_plays bytes t r)
some_at [] k t r x inside is low = absurd (omega arith)
some_at (byte ∷ bytes) zero t r x inside is low =
    let here : byte < 0xD0 = omega arith in
    walk_some byte bytes t r here
some_at (byte ∷ bytes) (suc k) t r x inside is low =
    some_append_right (plays_of byte t r) (walk_plays bytes (transpose_after byte t) (repeat_after byte r))
    (some_at bytes k (transpose_after byte t) (repeat_after byte r) x (omega arith) is low)

pub endless_cycle : (order : Order) → IsEndless order → 0 < length (cycle_of order)
unfolding cycle_of
endless_cycle order endless =
    some_at (drop order.restart order.entries) endless.pattern.0 (end_transpose order.entries (pos 0))
    (end_repeat order.entries 0)
    endless.pattern.1 endless.pattern.2 endless.pattern.3 endless.pattern.4

some_places_of : (p : ℕ) (t : ℤ) (r : ℕ) → 0 < length (places_of_pattern p t r)
some_places_of p t zero = omega arith
some_places_of p t (suc r) = omega arith

some_place : (entries : List ℕ) (p : ℕ) (t : ℤ) (r : ℕ) → p < length entries → get_or entries p 0 < 0xD0 →
    0 < length (places_from entries (place_at p t r))
some_place entries p t r h low =
    rw (first_place_here entries p t r h low)
    (some_append_left (places_of_pattern p t r) (walk_places (drop (p + 1) entries) (p + 1) t 0) (some_places_of p t r))

-- a pattern in this round
pub place_in_round : (order : Order) (at here : OrderPlace) → IsSameRest order.entries at here →
    here.place < length order.entries →
    get_or order.entries here.place 0 < 0xD0 →
    get_or (coming_places order at) 0 first_place ≡ get_or (places_from order.entries here) 0 first_place
place_in_round order at here same h low =
    ap (λ places. get_or (places ++ cycle_places order) 0 first_place) same.places
    ∙ first_of_append (places_from order.entries here) (cycle_places order) first_place
    (some_place order.entries here.place here.transpose here.repeat h low)

-- a walk that has come to the end, and goes on at the restart position
pub record GoesRound (order : Order) (at here there : OrderPlace) : Type 0 where
  pub on_walk : IsOnWalk order at
  pub along : IsSameRest order.entries at here
  pub ended : length order.entries ≤ here.place
  pub again : IsSameRest order.entries (place_at order.restart here.transpose here.repeat) there

-- the transpose and the repeat that stand at the end
round_transpose : (order : Order) (at here there : OrderPlace) → GoesRound order at here there →
    here.transpose ≡ end_transpose order.entries (pos 0)
round_transpose order at here there go =
    let ends : end_transpose (drop here.place order.entries) here.transpose ≡ here.transpose =
    rw (at_end order.entries here.place go.ended) refl in
    sym ends ∙ sym go.along.transpose ∙ go.on_walk.transpose

round_repeat : (order : Order) (at here there : OrderPlace) → GoesRound order at here there →
    here.repeat ≡ end_repeat order.entries 0
round_repeat order at here there go =
    let ends : end_repeat (drop here.place order.entries) here.repeat ≡ here.repeat =
    rw (at_end order.entries here.place go.ended) refl in
    sym ends ∙ sym go.along.repeat ∙ go.on_walk.repeat

round_plays : (order : Order) (at here there : OrderPlace) → GoesRound order at here there →
    cycle_of order ≡ plays_from order.entries there
unfolding cycle_of
round_plays order at here there go =
    (λ i. walk_plays (drop order.restart order.entries) (sym (round_transpose order at here there go) i)
    (sym (round_repeat order at here there go) i))
    ∙ go.again.plays

round_places : (order : Order) (at here there : OrderPlace) → GoesRound order at here there →
    cycle_places order ≡ places_from order.entries there
unfolding cycle_places
round_places order at here there go =
    (λ i. walk_places (drop order.restart order.entries) order.restart (sym (round_transpose order at here there go) i)
    (sym (round_repeat order at here there go) i))
    ∙ go.again.places

pub play_in_next_round : (order : Order) (at here there : OrderPlace) → GoesRound order at here there →
    get_or (coming_plays order at) 0 no_step ≡ get_or (plays_from order.entries there) 0 no_step
play_in_next_round order at here there go =
    let none : plays_from order.entries at ≡ [] = go.along.plays ∙ rw (at_end order.entries here.place go.ended) refl in
    ap (λ plays. get_or (plays ++ cycle_of order) 0 no_step) none ∙ ap (λ plays. get_or plays 0 no_step)
    (round_plays order at here there go)

pub place_in_next_round : (order : Order) (at here there : OrderPlace) → GoesRound order at here there →
    get_or (coming_places order at) 0 first_place ≡ get_or (places_from order.entries there) 0 first_place
place_in_next_round order at here there go =
    let none : places_from order.entries at ≡ [] =
    go.along.places ∙ rw (at_end order.entries here.place go.ended) refl in
    ap (λ places. get_or (places ++ cycle_places order) 0 first_place) none ∙ ap
    (λ places. get_or places 0 first_place) (round_places order at here there go)

-- the next round has a pattern
ended_plays : (entries : List ℕ) (at : OrderPlace) → length entries ≤ at.place → length (plays_from entries at) ≡ 0
ended_plays entries at h = rw (at_end entries at.place h) refl

pub inside_next_round : (order : Order) (at here there : OrderPlace) → IsEndless order → GoesRound order at here there →
    there.place < length order.entries
inside_next_round order at here there endless go =
    elim (cases_lt there.place (length order.entries)) [
      | inl lt ↦ lt
      | inr ge ↦
          let some : 0 < length (cycle_of order) = endless_cycle order endless in
          let same : length (cycle_of order) ≡ length (plays_from order.entries there) =
          ap length (round_plays order at here there go) in
          let none : length (plays_from order.entries there) ≡ 0 = ended_plays order.entries there ge in
          absurd (omega arith)
    ]

-- where the walk stands after the first play of a pattern
pub after_a_repeat : (order : Order) (p : ℕ) (t : ℤ) (r q : ℕ) → p < length order.entries →
    get_or order.entries p 0 < 0xD0 → r ≡ suc q →
    restarted order (get_or (places_from order.entries (place_at p t r)) 0 first_place) ≡ place_at p t q
after_a_repeat order p t r q h low e =
    let test : eqb p (length order.entries) ≡ false = grind (arith, nat_tests) in
    rw (first_place_here order.entries p t r h low, e, test) refl

pub after_the_last : (order : Order) (p : ℕ) (t : ℤ) (r : ℕ) → p < length order.entries →
    get_or order.entries p 0 < 0xD0 → r ≡ 0 →
    restarted order (get_or (places_from order.entries (place_at p t r)) 0 first_place) ≡ restarted order
    (place_at (p + 1) t 0)
after_the_last order p t r h low e = rw (first_place_here order.entries p t r h low, e) refl

pub after_the_last_inside : (order : Order) (p : ℕ) (t : ℤ) (r : ℕ) → p < length order.entries →
    get_or order.entries p 0 < 0xD0 → r ≡ 0 → ¬ (p + 1 ≡ length order.entries) →
    restarted order (get_or (places_from order.entries (place_at p t r)) 0 first_place) ≡ place_at (p + 1) t r
after_the_last_inside order p t r h low e differs =
    let test : eqb (p + 1) (length order.entries) ≡ false = grind (arith, nat_tests) in
    after_the_last order p t r h low e ∙ rw (test, e) refl

pub first_step : (entries : List ℕ) (p : ℕ) (t : ℤ) (r : ℕ) → p < length entries → get_or entries p 0 < 0xD0 →
    get_or (plays_from entries (place_at p t r)) 0 no_step ≡ play_of (get_or entries p 0) t
first_step entries p t r h low = rw (first_play_here entries p t r h low) refl
