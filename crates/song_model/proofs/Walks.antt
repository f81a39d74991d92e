-- What an orderlist plays are its entries, and one cycle is like the next.
use Rattle.std.proofs.Common.{◌≡◌, ℕ, ℤ, suc, pos, subst, ◌+◌, ◌-◌, ◌-ℤ◌, ◌%◌, ◌<◌}
use Rattle.std.proofs.Common.{◌⊎◌, Bool, true, false, cond, ltb, List, [], ◌∷◌, ◌++◌, length, get_or}
use Rattle.std.proofs.Common.{take, drop, replicate, All, Contains, inl, inr, refl, ap, ◌∙◌, arith}
use Rattle.std.proofs.lemmas.Bool.{cond_both}
use Rattle.std.proofs.lemmas.Bool.Decides.{nat_tests}
use Rattle.std.proofs.lemmas.List.{length-replicate, take-append-drop}
use Rattle.std.proofs.Math.Seq.{drop-cons}
use Rattle.std.proofs.lemmas.List.Elements.{All-nil, All-head, All-tail, All-append, All-replicate, All-drop}
use Rattle.std.proofs.lemmas.List.Elements.{All-get_or, All-contains_itself}
use Rattle.base.proofs.Laws.{some_append_left, All-get_or_any}
use Rattle.song_model.specs.declared.orders.Order.{Order}
use Rattle.song_model.specs.declared.orders.Step.{Step}
use Rattle.song_model.specs.Walk.{transpose_after, repeat_after, plays_of, walk_plays, end_transpose, end_repeat}
use Rattle.song_model.specs.Walk.{prefix_of, cycle_of, played, no_step}
use Rattle.song_model.specs.WalkLaws.{PlaysAreEntries, OneCycleIsEnough}

-- a play that names an entry of this list
abbrev NamesEntry : List ℕ → Step → Type 0
NamesEntry entries step = Contains entries step.pattern

byte_plays : (entries : List ℕ) (byte : ℕ) (t : ℤ) (r : ℕ) → Contains entries byte →
    All (NamesEntry entries) (plays_of byte t r)
byte_plays entries byte t r h =
    cond_both (ltb byte 0xD0) (replicate (r + 1) (record { pattern = byte; transpose = t })) []
    (λ plays. All (NamesEntry entries) plays)
    (λ low. All-replicate (NamesEntry entries) (r + 1) (record { pattern = byte; transpose = t }) h)
    (λ high. All-nil (NamesEntry entries))

-- a walk along entries plays entries
walk_names : (entries bytes : List ℕ) (t : ℤ) (r : ℕ) → All (Contains entries) bytes →
    All (NamesEntry entries) (walk_plays bytes t r)
walk_names entries [] t r h = All-nil (NamesEntry entries)
walk_names entries (byte ∷ bytes) t r h =
    All-append (NamesEntry entries) _ _
    (byte_plays entries byte t r (All-head (Contains entries) byte bytes h))
    (walk_names entries bytes (transpose_after byte t) (repeat_after byte r) (All-tail (Contains entries) byte bytes h))

prefix_names : (order : Order) → All (NamesEntry order.entries) (prefix_of order)
unfolding prefix_of
prefix_names order = walk_names order.entries order.entries (pos 0) 0 (All-contains_itself order.entries)

cycle_names : (order : Order) → All (NamesEntry order.entries) (cycle_of order)
unfolding cycle_of
cycle_names order =
    walk_names order.entries (drop order.restart order.entries) (end_transpose order.entries (pos 0))
    (end_repeat order.entries 0)
    (All-drop (Contains order.entries) order.restart order.entries (All-contains_itself order.entries))

below : (n i : ℕ) → ltb i n ≡ true → i < n
below n i h = grind (arith, nat_tests)

-- what holds of each play of the prefix and of the cycle holds of each play, where the cycle has one
pub each_play : (P : Step → Type 0) (order : Order) (i : ℕ) → 0 < length (cycle_of order) → All P (prefix_of order) →
    All P (cycle_of order) → P (played order i)
unfolding played
each_play P order i h first again =
    let later : (i - length (prefix_of order)) % length (cycle_of order) < length (cycle_of order) = omega arith in
    cond_both (ltb i (length (prefix_of order))) (get_or (prefix_of order) i no_step)
    (get_or (cycle_of order) ((i - length (prefix_of order)) % length (cycle_of order)) no_step) P
    (λ e. All-get_or P (prefix_of order) i no_step (below (length (prefix_of order)) i e) first)
    (λ e. All-get_or P (cycle_of order) ((i - length (prefix_of order)) % length (cycle_of order)) no_step later again)

-- and where it holds of no play at all, of each one
pub any_play : (P : Step → Type 0) (order : Order) (i : ℕ) → P no_step → All P (prefix_of order) →
    All P (cycle_of order) → P (played order i)
unfolding played
any_play P order i none first again =
    cond_both (ltb i (length (prefix_of order))) (get_or (prefix_of order) i no_step)
    (get_or (cycle_of order) ((i - length (prefix_of order)) % length (cycle_of order)) no_step) P
    (λ e. All-get_or_any P (prefix_of order) i no_step none first)
    (λ e. All-get_or_any P (cycle_of order)
    ((i - length (prefix_of order)) % length (cycle_of order)) no_step none again)

pub plays_are_entries_lem : PlaysAreEntries
plays_are_entries_lem order i h =
    each_play (NamesEntry order.entries) order i h (prefix_names order) (cycle_names order)

-- a walk that begins at a pattern plays something
byte_some : (byte : ℕ) (t : ℤ) (r : ℕ) → byte < 0xD0 → 0 < length (plays_of byte t r)
byte_some byte t r h =
    let test : ltb byte 0xD0 ≡ true = grind (arith, nat_tests) in
    let step : Step = record { pattern = byte; transpose = t } in
    rw test (omega (arith, length-replicate {A = Step} (r + 1) step))

pub walk_some : (byte : ℕ) (bytes : List ℕ) (t : ℤ) (r : ℕ) → byte < 0xD0 → 0 < length (walk_plays (byte ∷ bytes) t r)
walk_some byte bytes t r h =
    some_append_left (plays_of byte t r) (walk_plays bytes (transpose_after byte t) (repeat_after byte r))
    (byte_some byte t r h)

walk_some_at : (bytes rest : List ℕ) (byte : ℕ) (t : ℤ) (r : ℕ) → bytes ≡ byte ∷ rest → byte < 0xD0 →
    0 < length (walk_plays bytes t r)
walk_some_at bytes rest byte t r e h = rw e (walk_some byte rest t r h)

-- where a pattern stands at the restart position, the cycle isn't empty
pub cycle_some : (order : Order) → order.restart < length order.entries → get_or order.entries order.restart 0 < 0xD0 →
    0 < length (cycle_of order)
unfolding cycle_of
cycle_some order h plain =
    walk_some_at (drop order.restart order.entries) (drop (suc order.restart) order.entries)
    (get_or order.entries order.restart 0)
    (end_transpose order.entries (pos 0)) (end_repeat order.entries 0)
    (drop-cons order.entries order.restart 0 h) plain

-- What bytes do to a value: they keep it, or set it to one that doesn't depend on it.
abbrev KeepsOrSets : {X : Type 0} → (X → X) → Type 0
KeepsOrSets {X} f = ((x : X) → f x ≡ x) ⊎ ((x y : X) → f x ≡ f y)

-- doing it twice is doing it once
twice : {X : Type 0} (f : X → X) → KeepsOrSets f → (x y : X) → f (f x) ≡ f x
twice f (inl keeps) x y = keeps (f x)
twice f (inr sets) x y = sets (f x) x

composed : {X : Type 0} (f g : X → X) → KeepsOrSets f → KeepsOrSets g → KeepsOrSets (λ x. g (f x))
composed f g k (inr sets) = inr (λ x y. sets (f x) (f y))
composed f g (inl keeps) (inl stays) = inl (λ x. stays (f x) ∙ keeps x)
composed f g (inr sets) (inl stays) = inr (λ x y. ap g (sets x y))

transpose_byte : (byte : ℕ) → KeepsOrSets (transpose_after byte)
transpose_byte byte =
    elim (ltb byte 0xE0) as
    (λ z. KeepsOrSets (λ t. cond z t (pos byte -ℤ pos 0xF0))) [ true ↦ inl (λ t. refl) | false ↦ inr (λ t s. refl) ]

transpose_walk : (bytes : List ℕ) → KeepsOrSets (end_transpose bytes)
transpose_walk [] = inl (λ t. refl)
transpose_walk (byte ∷ bytes) =
    composed (transpose_after byte) (end_transpose bytes) (transpose_byte byte) (transpose_walk bytes)

repeat_kind : (byte : ℕ) (y z : Bool) → KeepsOrSets (λ r. cond y 0 (cond z (byte - 0xD0) r))
repeat_kind byte true z = inr (λ r s. refl)
repeat_kind byte false true = inr (λ r s. refl)
repeat_kind byte false false = inl (λ r. refl)

repeat_byte : (byte : ℕ) → KeepsOrSets (repeat_after byte)
repeat_byte byte = repeat_kind byte (ltb byte 0xD0) (ltb byte 0xE0)

repeat_walk : (bytes : List ℕ) → KeepsOrSets (end_repeat bytes)
repeat_walk [] = inl (λ r. refl)
repeat_walk (byte ∷ bytes) = composed (repeat_after byte) (end_repeat bytes) (repeat_byte byte) (repeat_walk bytes)

transpose-append : (xs ys : List ℕ) (t : ℤ) → end_transpose (xs ++ ys) t ≡ end_transpose ys (end_transpose xs t)
transpose-append [] ys t = refl
transpose-append (x ∷ xs) ys t = transpose-append xs ys (transpose_after x t)

repeat-append : (xs ys : List ℕ) (r : ℕ) → end_repeat (xs ++ ys) r ≡ end_repeat ys (end_repeat xs r)
repeat-append [] ys r = refl
repeat-append (x ∷ xs) ys r = repeat-append xs ys (repeat_after x r)

-- the part from a place on, walked again from where the whole has ended, ends there again
transpose_again : (xs ys : List ℕ) (t : ℤ) → end_transpose ys (end_transpose (xs ++ ys) t) ≡ end_transpose (xs ++ ys) t
transpose_again xs ys t =
    rw (transpose-append xs ys t) (twice (end_transpose ys) (transpose_walk ys) (end_transpose xs t) t)

repeat_again : (xs ys : List ℕ) (r : ℕ) → end_repeat ys (end_repeat (xs ++ ys) r) ≡ end_repeat (xs ++ ys) r
repeat_again xs ys r = rw (repeat-append xs ys r) (twice (end_repeat ys) (repeat_walk ys) (end_repeat xs r) r)

whole_transpose : (entries : List ℕ) (n : ℕ) →
    end_transpose (drop n entries) (end_transpose entries (pos 0)) ≡ end_transpose entries (pos 0)
whole_transpose entries n =
    let P : List ℕ → Type 0 =
    λ whole. end_transpose (drop n entries) (end_transpose whole (pos 0)) ≡ end_transpose whole (pos 0) in
    subst P (take-append-drop n entries) (transpose_again (take n entries) (drop n entries) (pos 0))

whole_repeat : (entries : List ℕ) (n : ℕ) → end_repeat (drop n entries) (end_repeat entries 0) ≡ end_repeat entries 0
whole_repeat entries n =
    let P : List ℕ → Type 0 = λ whole. end_repeat (drop n entries) (end_repeat whole 0) ≡ end_repeat whole 0 in
    subst P (take-append-drop n entries) (repeat_again (take n entries) (drop n entries) 0)

pub one_cycle_is_enough_lem : OneCycleIsEnough
one_cycle_is_enough_lem order = record {
  transpose = whole_transpose order.entries order.restart;
  repeat = whole_repeat order.entries order.restart;
}
