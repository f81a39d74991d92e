-- The places of an orderlist's plays are where its walk stands: from each of them on the walk plays
-- what is left, and then the cycle.
use Rattle.std.proofs.Common.{◌≡◌, ℕ, ℤ, zero, suc, pos, subst, ◌+◌, ◌-◌, ◌%◌, ◌<◌, ◌≤◌}
use Rattle.std.proofs.Common.{Bool, true, false, cond, ltb, eqb, inl, inr, List, [], ◌∷◌, ◌++◌, length}
use Rattle.std.proofs.Common.{get_or, drop, replicate, refl, sym, ap, ◌∙◌, arith, add-one, length-append}
use Rattle.std.proofs.lemmas.Bool.{cases_lt}
use Rattle.std.proofs.lemmas.Bool.Decides.{nat_tests}
use Rattle.std.proofs.lemmas.List.{length-replicate}
use Rattle.std.proofs.lemmas.Nat.{mod_below}
use Rattle.base.proofs.Laws.{mod_goes_on, mod_goes_round, first_of_rest, first_after_all}
use Rattle.song_model.specs.declared.orders.Order.{Order}
use Rattle.song_model.specs.declared.orders.OrderPlace.{OrderPlace}
use Rattle.song_model.specs.declared.orders.Step.{Step}
use Rattle.song_model.specs.Walk.{transpose_after, repeat_after, plays_of, walk_plays, end_transpose, end_repeat}
use Rattle.song_model.specs.Walk.{prefix_of, cycle_of, played, no_step, unrolled}
use Rattle.song_model.specs.Endless.{IsEndless}
use Rattle.song_model.specs.Places.{first_place, places_of, places_of_pattern, walk_places, prefix_places, cycle_places}
use Rattle.song_model.specs.Places.{restarted, place_after, place_of}
use Rattle.song_model.specs.WalkRest.{plays_from, places_from, IsOnWalk, coming_plays, coming_places}
use Rattle.song_model.proofs.Walks.{one_cycle_is_enough_lem}
use Rattle.song_model.proofs.Rests.{place_at, play_of, pattern_plays, pattern_places, pattern_transpose, pattern_repeat}
use Rattle.song_model.proofs.Rests.{at_end, endless_cycle}

-- from this place these plays are left, with these places after them, and the walk ends with this transpose and this
-- repeat
record Stands (entries : List ℕ) (at : OrderPlace) (xs : List Step) (ys : List OrderPlace) (t : ℤ)
    (r : ℕ) : Type 0 where
  inside : at.place ≤ length entries
  plays : plays_from entries at ≡ xs
  places : places_from entries at ≡ ys
  transpose : end_transpose (drop at.place entries) at.transpose ≡ t
  repeat : end_repeat (drop at.place entries) at.repeat ≡ r

-- after each of these plays the walk stands at the place beside it
record EachStands (entries : List ℕ) (xs : List Step) (ys : List OrderPlace) (t : ℤ) (r : ℕ) : Type 0 where
  each : (i : ℕ) → i < length xs → Stands entries (get_or ys i first_place) (drop (suc i) xs) (drop (suc i) ys) t r

no_plays : (entries : List ℕ) (t : ℤ) (r : ℕ) → EachStands entries [] [] t r
no_plays entries t r = record { each = λ i h. absurd (omega arith) }

one_more : (entries : List ℕ) (x : Step) (y : OrderPlace) (xs : List Step) (ys : List OrderPlace) (t : ℤ) (r : ℕ) →
    Stands entries y xs ys t r → EachStands entries xs ys t r → (i : ℕ) → i < length (x ∷ xs) →
    Stands entries (get_or (y ∷ ys) i first_place) (drop (suc i) (x ∷ xs)) (drop (suc i) (y ∷ ys)) t r
one_more entries x y xs ys t r first others zero h = first
one_more entries x y xs ys t r first others (suc i) h = others.each i (omega arith)

-- a byte of an orderlist, and what is left after it
record IsByteAt (entries : List ℕ) (p byte : ℕ) (bytes : List ℕ) : Type 0 where
  here : drop p entries ≡ byte ∷ bytes
  left : drop (p + 1) entries ≡ bytes
  inside : p < length entries

-- the plays of a pattern, the last of which is the first here
pattern_stands : (entries bytes : List ℕ) (byte p : ℕ) (t : ℤ) (r : ℕ) → IsByteAt entries p byte bytes → byte < 0xD0 →
    EachStands entries (walk_plays bytes t 0) (walk_places bytes (p + 1) t 0) (end_transpose bytes t)
    (end_repeat bytes 0) →
    EachStands entries (replicate (suc r) (play_of byte t) ++ walk_plays bytes t 0)
    (places_of_pattern p t r ++ walk_places bytes (p + 1) t 0) (end_transpose bytes t) (end_repeat bytes 0)
pattern_stands entries bytes byte p t zero at low others = record {
  each =
      one_more entries (play_of byte t) (place_at (p + 1) t 0) (walk_plays bytes t 0) (walk_places bytes (p + 1) t 0)
      (end_transpose bytes t) (end_repeat bytes 0)
      (record {
        inside = omega (arith, at.inside);
        plays = rw at.left refl;
        places = rw at.left refl;
        transpose = rw at.left refl;
        repeat = rw at.left refl;
      }) others;
}
pattern_stands entries bytes byte p t (suc q) at low others = record {
  each =
      one_more entries (play_of byte t) (place_at p t q) (replicate (suc q) (play_of byte t) ++ walk_plays bytes t 0)
      (places_of_pattern p t q ++ walk_places bytes (p + 1) t 0) (end_transpose bytes t) (end_repeat bytes 0)
      (record {
        inside = omega (arith, at.inside);
        plays = rw at.here (pattern_plays bytes byte t q low);
        places = rw at.here (pattern_places bytes byte p t q low);
        transpose = rw at.here (pattern_transpose bytes byte t low);
        repeat = rw at.here (pattern_repeat bytes byte q low);
      })
      (pattern_stands entries bytes byte p t q at low others);
}

-- the bytes from a place on
byte_at : (entries bytes : List ℕ) (byte p : ℕ) → drop p entries ≡ byte ∷ bytes → IsByteAt entries p byte bytes
byte_at [] bytes byte zero e = (cc)
byte_at [] bytes byte (suc p) e = (cc)
byte_at (x ∷ entries) bytes byte zero e = record { here = e; left = (cc); inside = omega arith }
byte_at (x ∷ entries) bytes byte (suc p) e =
    let inner = byte_at entries bytes byte p e in record {
      here = e;
      left = rw add-one (rw add-one at inner.left);
      inside = omega (arith, inner.inside);
    }

byte_stands : (entries bytes : List ℕ) (byte p : ℕ) (t : ℤ) (r : ℕ) (z : Bool) → ltb byte 0xD0 ≡ z →
    IsByteAt entries p byte bytes →
    ((t : ℤ) (r : ℕ) → EachStands entries (walk_plays bytes t r) (walk_places bytes (p + 1) t r)
    (end_transpose bytes t) (end_repeat bytes r)) →
    EachStands entries (walk_plays (byte ∷ bytes) t r) (walk_places (byte ∷ bytes) p t r)
    (end_transpose (byte ∷ bytes) t) (end_repeat (byte ∷ bytes) r)
byte_stands entries bytes byte p t r true e at others =
    let low : byte < 0xD0 = grind (arith, nat_tests) in
    rw (
      pattern_plays bytes byte t r low,
      pattern_places bytes byte p t r low,
      pattern_transpose bytes byte t low,
      pattern_repeat bytes byte r low,
    )
    (pattern_stands entries bytes byte p t r at low (others t 0))
byte_stands entries bytes byte p t r false e at others =
    rw e (rw e at (others (transpose_after byte t) (repeat_after byte r)))

walk_stands : (entries bytes : List ℕ) (p : ℕ) (t : ℤ) (r : ℕ) → drop p entries ≡ bytes →
    EachStands entries (walk_plays bytes t r) (walk_places bytes p t r) (end_transpose bytes t) (end_repeat bytes r)
walk_stands entries [] p t r e = no_plays entries t r
walk_stands entries (byte ∷ bytes) p t r e =
    let here = byte_at entries bytes byte p e in
    byte_stands entries bytes byte p t r (ltb byte 0xD0) refl here
    (λ t r. walk_stands entries bytes (p + 1) t r here.left)

-- there are as many places as plays
pattern_count : (p : ℕ) (t : ℤ) (r : ℕ) → length (places_of_pattern p t r) ≡ r + 1
pattern_count p t zero = refl
pattern_count p t (suc r) = let inner = pattern_count p t r in omega arith

byte_count : (byte p : ℕ) (t : ℤ) (r : ℕ) (z : Bool) → ltb byte 0xD0 ≡ z →
    length (places_of byte p t r) ≡ length (plays_of byte t r)
byte_count byte p t r true e = rw e (pattern_count p t r ∙ sym (length-replicate (r + 1) (play_of byte t)))
byte_count byte p t r false e = rw e refl

counts_add : (xs us : List OrderPlace) (ys vs : List Step) → length xs ≡ length ys → length us ≡ length vs →
    length (xs ++ us) ≡ length (ys ++ vs)
counts_add xs us ys vs e f = omega (arith, length-append xs us, length-append ys vs)

walk_count : (bytes : List ℕ) (p : ℕ) (t : ℤ) (r : ℕ) → length (walk_places bytes p t r) ≡ length (walk_plays bytes t r)
walk_count [] p t r = refl
walk_count (byte ∷ bytes) p t r =
    counts_add (places_of byte p t r) (walk_places bytes (p + 1) (transpose_after byte t) (repeat_after byte r))
    (plays_of byte t r) (walk_plays bytes (transpose_after byte t) (repeat_after byte r))
    (byte_count byte p t r (ltb byte 0xD0) refl)
    (walk_count bytes (p + 1) (transpose_after byte t) (repeat_after byte r))

prefix_count : (order : Order) → length (prefix_places order) ≡ length (prefix_of order)
unfolding prefix_of prefix_places
prefix_count order = walk_count order.entries 0 (pos 0) 0

cycle_count : (order : Order) → length (cycle_places order) ≡ length (cycle_of order)
unfolding cycle_of cycle_places
cycle_count order =
    walk_count (drop order.restart order.entries) order.restart (end_transpose order.entries (pos 0))
    (end_repeat order.entries 0)

-- the walk of an orderlist, begun at its start and at its restart position
abbrev StandsIn : Order → OrderPlace → List Step → List OrderPlace → Type 0
StandsIn order at xs ys =
    Stands order.entries at xs ys (end_transpose order.entries (pos 0)) (end_repeat order.entries 0)

abbrev EachStandsIn : Order → List Step → List OrderPlace → Type 0
EachStandsIn order xs ys =
    EachStands order.entries xs ys (end_transpose order.entries (pos 0)) (end_repeat order.entries 0)

prefix_stands : (order : Order) → EachStandsIn order (prefix_of order) (prefix_places order)
unfolding prefix_of prefix_places
prefix_stands order = walk_stands order.entries order.entries 0 (pos 0) 0 refl

cycle_stands : (order : Order) → EachStandsIn order (cycle_of order) (cycle_places order)
unfolding cycle_of cycle_places
cycle_stands order =
    let same = one_cycle_is_enough_lem order in
    let P : ℤ → ℕ → Type 0 =
    λ t r. EachStands order.entries
    (walk_plays (drop order.restart order.entries) (end_transpose order.entries (pos 0))
    (end_repeat order.entries 0)) (walk_places (drop order.restart order.entries) order.restart
    (end_transpose order.entries (pos 0)) (end_repeat order.entries 0)) t r in
    let go =
    walk_stands order.entries (drop order.restart order.entries) order.restart (end_transpose order.entries (pos 0))
    (end_repeat order.entries 0) refl in
    subst (λ (r : ℕ). P (end_transpose order.entries (pos 0)) r) same.repeat
    (subst (λ (t : ℤ). P t
    (end_repeat (drop order.restart order.entries) (end_repeat order.entries 0))) same.transpose go)

-- at this place this play comes next, with this place after it
pub record ComesNext (order : Order) (at : OrderPlace) (step : Step) (after : OrderPlace) : Type 0 where
  pub on_walk : IsOnWalk order at
  pub play : get_or (coming_plays order at) 0 no_step ≡ step
  pub place : get_or (coming_places order at) 0 first_place ≡ after

comes_also : (order : Order) (here at : OrderPlace) (step play : Step) (after place : OrderPlace) →
    ComesNext order here step after →
    at ≡ here → play ≡ step → place ≡ after → ComesNext order at play place
comes_also order here at step play after place next e f g = rw (e, f, g) next

start_comes : (order : Order) →
    ComesNext order first_place (get_or (prefix_of order ++ cycle_of order) 0 no_step)
    (get_or (prefix_places order ++ cycle_places order) 0 first_place)
unfolding prefix_of prefix_places
start_comes order = record {
  on_walk = record { inside = omega arith; transpose = refl; repeat = refl };
  play = refl;
  place = refl;
}

twice_first : {X : Type 0} (xs : List X) (d : X) → get_or (xs ++ xs) 0 d ≡ get_or xs 0 d
twice_first [] d = refl
twice_first (x ∷ xs) d = refl

-- at the end the cycle comes
end_transpose_is : (entries : List ℕ) (at : OrderPlace) (xs : List Step) (ys : List OrderPlace) (t : ℤ) (r : ℕ) →
    Stands entries at xs ys t r → length entries ≤ at.place → at.transpose ≡ t
end_transpose_is entries at xs ys t r stands h =
    let ends : end_transpose (drop at.place entries) at.transpose ≡ at.transpose =
    rw (at_end entries at.place h) refl in
    sym ends ∙ stands.transpose

end_repeat_is : (entries : List ℕ) (at : OrderPlace) (xs : List Step) (ys : List OrderPlace) (t : ℤ) (r : ℕ) →
    Stands entries at xs ys t r → length entries ≤ at.place → at.repeat ≡ r
end_repeat_is entries at xs ys t r stands h =
    let ends : end_repeat (drop at.place entries) at.repeat ≡ at.repeat = rw (at_end entries at.place h) refl in
    sym ends ∙ stands.repeat

seam_comes : (order : Order) → IsEndless order →
    ComesNext order (place_at order.restart (end_transpose order.entries (pos 0)) (end_repeat order.entries 0))
    (get_or (cycle_of order) 0 no_step) (get_or (cycle_places order) 0 first_place)
unfolding cycle_of cycle_places
seam_comes order endless =
    let same = one_cycle_is_enough_lem order in record {
      on_walk = record { inside = omega (arith, endless.restart); transpose = same.transpose; repeat = same.repeat };
      play =
          twice_first
          (walk_plays (drop order.restart order.entries) (end_transpose order.entries (pos 0))
          (end_repeat order.entries 0)) no_step;
      place =
          twice_first
          (walk_places (drop order.restart order.entries) order.restart (end_transpose order.entries (pos 0))
          (end_repeat order.entries 0)) first_place;
    }

restarted_by : (order : Order) (at : OrderPlace) (xs : List Step) (ys : List OrderPlace) (z : Bool) →
    eqb at.place (length order.entries) ≡ z →
    IsEndless order → StandsIn order at xs ys →
    ComesNext order (cond z (record at { place = order.restart }) at) (get_or (xs ++ cycle_of order) 0 no_step)
    (get_or (ys ++ cycle_places order) 0 first_place)
restarted_by order at xs ys true e endless stands =
    let ended : length order.entries ≤ at.place = grind (arith, nat_tests) in
    let t =
    end_transpose_is order.entries at xs ys (end_transpose order.entries (pos 0))
    (end_repeat order.entries 0) stands ended in
    let r =
    end_repeat_is order.entries at xs ys (end_transpose order.entries (pos 0))
    (end_repeat order.entries 0) stands ended in
    let no_plays : [] ≡ xs = sym (rw (at_end order.entries at.place ended) refl) ∙ stands.plays in
    let no_places : [] ≡ ys = sym (rw (at_end order.entries at.place ended) refl) ∙ stands.places in
    comes_also order (place_at order.restart (end_transpose order.entries (pos 0)) (end_repeat order.entries 0))
    (place_at order.restart at.transpose at.repeat)
    (get_or (cycle_of order) 0 no_step) (get_or (xs ++ cycle_of order) 0 no_step)
    (get_or (cycle_places order) 0 first_place) (get_or (ys ++ cycle_places order) 0 first_place)
    (seam_comes order endless)
    (λ i. place_at order.restart (t i) (r i))
    (sym (ap (λ plays. get_or (plays ++ cycle_of order) 0 no_step) no_plays))
    (sym (ap (λ places. get_or (places ++ cycle_places order) 0 first_place) no_places))
restarted_by order at xs ys false e endless stands = record {
  on_walk = record { inside = stands.inside; transpose = stands.transpose; repeat = stands.repeat };
  play = ap (λ plays. get_or (plays ++ cycle_of order) 0 no_step) stands.plays;
  place = ap (λ places. get_or (places ++ cycle_places order) 0 first_place) stands.places;
}

restarted_comes : (order : Order) (at : OrderPlace) (xs : List Step) (ys : List OrderPlace) → IsEndless order →
    StandsIn order at xs ys →
    ComesNext order (restarted order at) (get_or (xs ++ cycle_of order) 0 no_step)
    (get_or (ys ++ cycle_places order) 0 first_place)
restarted_comes order at xs ys endless stands =
    restarted_by order at xs ys (eqb at.place (length order.entries)) refl endless stands

-- items of a prefix and a cycle that is repeated
in_prefix : {X : Type 0} (xs ys : List X) (d : X) (k : ℕ) → k < length xs → unrolled xs ys d k ≡ get_or xs k d
in_prefix xs ys d k h =
    let test : ltb k (length xs) ≡ true = grind (arith, nat_tests) in
    rw test refl

in_cycle : {X : Type 0} (xs ys : List X) (d : X) (k m : ℕ) → length xs ≤ k → (k - length xs) % length ys ≡ m →
    unrolled xs ys d k ≡ get_or ys m d
in_cycle xs ys d k m h e =
    let test : ltb k (length xs) ≡ false = grind (arith, nat_tests) in
    rw (test, e) refl

first_of_cycle : (k n m : ℕ) → k ≡ n → 0 < m → (k - n) % m ≡ 0
first_of_cycle k n m e h = let none : k - n ≡ 0 = omega arith in rw none (omega arith)

next_of_prefix : {X : Type 0} (xs ys : List X) (d : X) (k : ℕ) → k ≤ length xs → 0 < length ys →
    unrolled xs ys d k ≡ get_or (drop k xs ++ ys) 0 d
next_of_prefix xs ys d k h some =
    elim (cases_lt k (length xs)) [
      | inl lt ↦ in_prefix xs ys d k lt ∙ sym (first_of_rest xs ys k d lt)
      | inr ge ↦
          let seam : k ≡ length xs = omega arith in
          in_cycle xs ys d k 0 ge (first_of_cycle k (length xs) (length ys) seam some) ∙ sym
          (first_after_all xs ys k d ge)
    ]

next_of_cycle : {X : Type 0} (xs ys : List X) (d : X) (k m : ℕ) → length xs ≤ k → 0 < length ys →
    (k - length xs) % length ys ≡ m →
    unrolled xs ys d (suc k) ≡ get_or (drop (suc m) ys ++ ys) 0 d
next_of_cycle xs ys d k m h some e =
    let above : length xs ≤ suc k = omega arith in
    let later : suc k - length xs ≡ suc (k - length xs) = omega arith in
    elim (cases_lt (suc m) (length ys)) [
      | inl lt ↦
          in_cycle xs ys d (suc k) (suc m) above (rw later (mod_goes_on (k - length xs) (length ys) m some e lt))
          ∙ sym (first_of_rest ys ys (suc m) d lt)
      | inr ge ↦
          in_cycle xs ys d (suc k) 0 above (rw later (mod_goes_round (k - length xs) (length ys) m some e ge))
          ∙ sym (first_after_all ys ys (suc m) d ge)
    ]

abbrev bare_place : Order → ℕ → OrderPlace
bare_place order i = unrolled (prefix_places order) (cycle_places order) first_place i

abbrev bare_play : Order → ℕ → Step
bare_play order i = unrolled (prefix_of order) (cycle_of order) no_step i

some_places : (order : Order) → IsEndless order → 0 < length (cycle_places order)
some_places order endless = omega (arith, cycle_count order, endless_cycle order endless)

-- after a play of the prefix
comes_in_prefix : (order : Order) → IsEndless order → (j : ℕ) → j < length (prefix_of order) →
    ComesNext order (restarted order (bare_place order j)) (bare_play order (suc j)) (bare_place order (suc j))
comes_in_prefix order endless j h =
    let count = prefix_count order in
    let inside : j < length (prefix_places order) = omega arith in
    comes_also order (restarted order (get_or (prefix_places order) j first_place))
    (restarted order (bare_place order j))
    (get_or (drop (suc j) (prefix_of order) ++ cycle_of order) 0 no_step) (bare_play order (suc j))
    (get_or (drop (suc j) (prefix_places order) ++ cycle_places order) 0 first_place) (bare_place order (suc j))
    (restarted_comes order (get_or (prefix_places order) j first_place) (drop (suc j) (prefix_of order))
    (drop (suc j) (prefix_places order)) endless ((prefix_stands order).each j h))
    (ap (restarted order) (in_prefix (prefix_places order) (cycle_places order) first_place j inside))
    (next_of_prefix (prefix_of order) (cycle_of order) no_step (suc j) (omega arith) (endless_cycle order endless))
    (next_of_prefix (prefix_places order) (cycle_places order) first_place (suc j) (omega arith)
    (some_places order endless))

-- after a play of the cycle
comes_in_cycle : (order : Order) → IsEndless order → (j m : ℕ) → length (prefix_of order) ≤ j →
    (j - length (prefix_of order)) % length (cycle_of order) ≡ m →
    ComesNext order (restarted order (bare_place order j)) (bare_play order (suc j)) (bare_place order (suc j))
comes_in_cycle order endless j m h e =
    let count = prefix_count order in
    let some = endless_cycle order endless in
    let inside : m < length (cycle_of order) =
    omega (arith, mod_below (j - length (prefix_of order)) (length (cycle_of order)) some) in
    let above : length (prefix_places order) ≤ j = omega arith in
    let same : (j - length (prefix_places order)) % length (cycle_places order) ≡ m =
    rw (prefix_count order, cycle_count order) e in
    comes_also order (restarted order (get_or (cycle_places order) m first_place))
    (restarted order (bare_place order j))
    (get_or (drop (suc m) (cycle_of order) ++ cycle_of order) 0 no_step) (bare_play order (suc j))
    (get_or (drop (suc m) (cycle_places order) ++ cycle_places order) 0 first_place) (bare_place order (suc j))
    (restarted_comes order (get_or (cycle_places order) m first_place) (drop (suc m) (cycle_of order))
    (drop (suc m) (cycle_places order)) endless ((cycle_stands order).each m inside))
    (ap (restarted order) (in_cycle (prefix_places order) (cycle_places order) first_place j m above same))
    (next_of_cycle (prefix_of order) (cycle_of order) no_step j m h some e)
    (next_of_cycle (prefix_places order) (cycle_places order) first_place j m above (some_places order endless) same)

comes_after : (order : Order) → IsEndless order → (j : ℕ) →
    ComesNext order (restarted order (bare_place order j)) (bare_play order (suc j)) (bare_place order (suc j))
comes_after order endless j =
    elim (cases_lt j (length (prefix_of order))) [
      | inl lt ↦ comes_in_prefix order endless j lt
      | inr ge ↦ comes_in_cycle order endless j ((j - length (prefix_of order)) % length (cycle_of order)) ge refl
    ]

-- at the place of each play that play comes next
pub comes_at : (order : Order) → IsEndless order → (i : ℕ) →
    ComesNext order (place_of order i) (played order i) (bare_place order i)
unfolding place_of place_after played
comes_at order endless zero =
    comes_also order first_place first_place
    (get_or (prefix_of order ++ cycle_of order) 0 no_step) (bare_play order 0)
    (get_or (prefix_places order ++ cycle_places order) 0 first_place) (bare_place order 0)
    (start_comes order) refl
    (next_of_prefix (prefix_of order) (cycle_of order) no_step 0 (omega arith) (endless_cycle order endless))
    (next_of_prefix (prefix_places order) (cycle_places order) first_place 0 (omega arith) (some_places order endless))
comes_at order endless (suc j) = comes_after order endless j

-- the place of the next play
pub place_of_next : (order : Order) (i : ℕ) → place_of order (i + 1) ≡ restarted order (bare_place order i)
unfolding place_of place_after
place_of_next order i = rw add-one refl
