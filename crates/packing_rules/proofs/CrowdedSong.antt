-- The song whose new numbers were worked out by hand can be played.
use Rattle.std.proofs.Common.{◌≡◌, ℕ, zero, suc, ◌-◌, ◌<◌, Bool, true, false, not, ◌||◌, ◌==◌}
use Rattle.std.proofs.Common.{nat_lt, nat_le, List, [], ◌∷◌, length, Some, refl, sym, ◌∙◌, ap, subst, inl}
use Rattle.std.proofs.Common.{inr, arith}
use Rattle.std.specs.Prelude.{slice_get}
use Rattle.std.specs.List.{list_all}
use Rattle.std.proofs.lemmas.Bool.{and_parts, ltb-true, leb-true}
use Rattle.song_model.specs.declared.orders.Order.{Order}
use Rattle.song_model.specs.declared.orders.Subtune.{Subtune}
use Rattle.song_model.specs.declared.tables.TableName.{TableName}
use Rattle.song_model.specs.declared.tables.TableName.TheVariants.{Wave, Pulse, Filter, Speed}
use Rattle.song_model.specs.Endless.{IsEndless}
use Rattle.song_model.specs.LookUp.{table_of, table_row, order_of, is_playable_subtune}
use Rattle.play_model.specs.declared.unplayable.Unplayable.TheVariants.{NoSubtune, MissingPattern, BadRestart}
use Rattle.play_model.specs.declared.unplayable.Unplayable.TheVariants.{TableOverflow, PointerToJump}
use Rattle.play_model.specs.Reached.{is_jump}
use Rattle.play_model.specs.Playable.{HasOrder, MissesPattern, StopsAtRestart, HasPrograms, RunsOff, IsJumpTarget}
use Rattle.play_model.specs.Playable.{PointsAtJump, IsPlayable}
use Rattle.play_model.specs.WorkedSongs.{order}
use Rattle.packing_rules.specs.Segments.{numbers}
use Rattle.packing_rules.specs.WorkedNumbers.{crowded_song, crowded_rows, crowded_pointers}
use Rattle.packing_rules.proofs.CrowdedSets.{in_list, crowded_subtune, reached_is, pointer_is}

-- ---- orderlists

some_is : (x y : Subtune) → Some x ≡ Some y → x ≡ y
some_is x y e = cc

-- only the second subtune can be played
second_plays : (k : ℕ) (subtune : Subtune) → slice_get crowded_song.subtunes k ≡ Some subtune →
    is_playable_subtune subtune ≡ true → subtune ≡ crowded_subtune
second_plays zero subtune e plays =
    absurd (let no = subst (λ (s : Subtune). is_playable_subtune s ≡ true) (sym (some_is _ subtune e)) plays in cc)
second_plays (suc zero) subtune e plays = sym (some_is crowded_subtune subtune e)
second_plays (suc (suc k)) subtune e plays = absurd cc

by_channel : (Q : Order → Type 0) → Q (order (0 ∷ 4 ∷ [])) → Q (order (2 ∷ [])) → Q (order (3 ∷ [])) → (channel : ℕ)
    (a b : Bool) → (channel == 1) ≡ a → (channel == 2) ≡ b → Q (order_of channel crowded_subtune)
by_channel Q one two three channel true b e f = rw e one
by_channel Q one two three channel false true e f = rw (e, f) two
by_channel Q one two three channel false false e f = rw (e, f) three

each_order : (Q : Order → Type 0) → Q (order (0 ∷ 4 ∷ [])) → Q (order (2 ∷ [])) → Q (order (3 ∷ [])) → (s c : ℕ)
    (o : Order) → HasOrder crowded_song s c o → Q o
each_order Q one two three s c o has =
    let same = second_plays (s - 1) has.subtune has.subtune_is has.playable in
    subst Q (sym (has.order_is ∙ ap (order_of c) same)) (by_channel Q one two three c (c == 1) (c == 2) refl refl)

small_at : (xs : List ℕ) (place n : ℕ) → list_all (λ k. nat_lt k 5) xs ≡ true → slice_get xs place ≡ Some n → n < 5
small_at [] place n small e = absurd cc
small_at (x ∷ xs) zero n small e =
    let here : x ≡ n = cc in
    let low = ltb-true x 5 (and_parts (nat_lt x 5) (list_all (λ k. nat_lt k 5) xs) small).0 in
    omega arith
small_at (x ∷ xs) (suc place) n small e =
    small_at xs place n (and_parts (nat_lt x 5) (list_all (λ k. nat_lt k 5) xs) small).1 e

abbrev HasSmall : Order → Type 0
HasSmall o = list_all (λ k. nat_lt k 5) o.entries ≡ true

none_missing : (s c place pattern : ℕ) → ¬ MissesPattern crowded_song s c place pattern
none_missing s c place pattern misses =
    let small = each_order HasSmall refl refl refl s c misses.order misses.has in
    let low = small_at misses.order.entries place pattern small misses.names in
    let missing = misses.missing in
    omega arith

none_stops : (s c : ℕ) → ¬ StopsAtRestart crowded_song s c
none_stops s c stops =
    stops.stops (each_order IsEndless
    (record { restart = omega arith; pattern = (0, 0, omega arith, refl, omega arith) })
    (record { restart = omega arith; pattern = (0, 2, omega arith, refl, omega arith) })
    (record { restart = omega arith; pattern = (0, 3, omega arith, refl, omega arith) }) s c stops.order stops.has)

-- ---- rows

is_there : TableName → ℕ → Bool
is_there name p = nat_le p (length (table_of crowded_song name))

rows_are_there : (name : TableName) (p : ℕ) → HasPrograms name → crowded_rows name p ≡ true → is_there name p ≡ true
unfolding is_there
rows_are_there Wave p programs e = in_list (is_there Wave) (numbers 8) p refl e
rows_are_there Pulse p programs e = in_list (is_there Pulse) (1 ∷ 2 ∷ 4 ∷ 5 ∷ 6 ∷ 7 ∷ []) p refl e
rows_are_there Filter p programs e = in_list (is_there Filter) (2 ∷ 3 ∷ 4 ∷ []) p refl e
rows_are_there Speed p programs e = absurd (programs refl)

none_runs_off : (name : TableName) (p : ℕ) → ¬ RunsOff crowded_song name p
unfolding is_there
none_runs_off name p runs =
    let there = rows_are_there name p runs.programs (reached_is name p runs.reached) in
    let most = leb-true p (length (table_of crowded_song name)) there in
    let above = runs.above in
    omega arith

stays_at : TableName → ℕ → Bool
stays_at name p = not (is_jump name (table_row crowded_song name p))

pointers_stay : (name : TableName) (p : ℕ) → crowded_pointers name p ≡ true → stays_at name p ≡ true
unfolding stays_at table_row
pointers_stay Wave p e = in_list (stays_at Wave) (1 ∷ 4 ∷ 7 ∷ []) p refl e
pointers_stay Pulse p e = in_list (stays_at Pulse) (1 ∷ 4 ∷ 6 ∷ []) p refl e
pointers_stay Filter p e = in_list (stays_at Filter) (2 ∷ []) p refl e
pointers_stay Speed p e = in_list (stays_at Speed) (2 ∷ 3 ∷ 9 ∷ []) p refl e

-- a row is no jump, or its right side names none
targets_stay : TableName → ℕ → Bool
targets_stay name p =
    not (is_jump name (table_row crowded_song name p)) || stays_at name (table_row crowded_song name p).right

rows_target : (name : TableName) (p : ℕ) → crowded_rows name p ≡ true → targets_stay name p ≡ true
unfolding targets_stay stays_at table_row
rows_target Wave p e = in_list (targets_stay Wave) (numbers 8) p refl e
rows_target Pulse p e = in_list (targets_stay Pulse) (1 ∷ 2 ∷ 4 ∷ 5 ∷ 6 ∷ 7 ∷ []) p refl e
rows_target Filter p e = in_list (targets_stay Filter) (2 ∷ 3 ∷ 4 ∷ []) p refl e
rows_target Speed p e = in_list (targets_stay Speed) (2 ∷ 3 ∷ 9 ∷ []) p refl e

second_of : (a b : Bool) → a ≡ true → (not a || b) ≡ true → b ≡ true
second_of true b e h = h
second_of false b e h = absurd cc

no_jump : (a : Bool) → a ≡ true → not a ≡ true → ⊥
no_jump true e h = absurd cc
no_jump false e h = absurd cc

stays : (name : TableName) (p : ℕ) → stays_at name p ≡ true → ¬ (is_jump name (table_row crowded_song name p) ≡ true)
unfolding stays_at
stays name p e jump = no_jump (is_jump name (table_row crowded_song name p)) jump e

target_stays : (name : TableName) (q : ℕ) → IsJumpTarget crowded_song name q → stays_at name q ≡ true
unfolding targets_stay
target_stays name q is =
    subst (λ (k : ℕ). stays_at name k ≡ true) is.target
    (second_of (is_jump name (table_row crowded_song name is.p)) (stays_at name (table_row crowded_song name is.p).right)
    is.jump (rows_target name is.p (reached_is name is.p is.reached)))

none_points : (name : TableName) (p : ℕ) → ¬ PointsAtJump crowded_song name p
none_points name p points = elim points.named [
  | inl pointer ↦ stays name p (pointers_stay name p (pointer_is name p pointer)) points.jump
  | inr target ↦ stays name p (target_stays name p target) points.jump
]

pub crowded_song_can_be_played : IsPlayable crowded_song
crowded_song_can_be_played NoSubtune fails = absurd cc
crowded_song_can_be_played (MissingPattern s c place pattern) fails = none_missing s c place pattern fails
crowded_song_can_be_played (BadRestart s c) fails = none_stops s c fails
crowded_song_can_be_played (TableOverflow name p) fails = none_runs_off name p fails
crowded_song_can_be_played (PointerToJump name p) fails = none_points name p fails
