-- Marks of bytes are added one by one, and list by list.
use Rattle.std.proofs.Common.{◌≡◌, ℕ, ◌+◌, ◌<◌, ◌≤◌, ◌||◌, ◌&&◌, Bool, true, false, List, [], ◌∷◌, ◌++◌}
use Rattle.std.proofs.Common.{length, take, get_or, nat_eq, nat_lt, replicate, refl, sym, ◌∙◌, ap, inl, inr}
use Rattle.std.proofs.Math.ListN.{set}
use Rattle.std.proofs.Math.Bool.{or_assoc, or-true, or-false}
use Rattle.std.specs.List.{list_any, flat_map, filter}
use Rattle.std.proofs.lemmas.Bool.{cases_eq, cases_Bool, eq-eqb, ne_eqb}
use Rattle.std.proofs.lemmas.List.{append-nil, get_or-set_same, get_or-set_other, get_or-replicate, take_all}
use Rattle.std.proofs.lemmas.List.Folds.{list_any-append, list_any_more}
use Rattle.std.proofs.lemmas.Grind.{flat_map-append}
use Rattle.song_model.specs.declared.orders.Order.{Order}
use Rattle.song_model.specs.declared.orders.Subtune.{Subtune}
use Rattle.song_model.specs.LookUp.{is_playable_subtune}
use Rattle.song_model.specs.Walk.{repeat_after}
use Rattle.song_model.specs.declared.songs.Song.{Song}
use Rattle.pattern_cut.specs.Pieces.{orders_of, played_orders, is_named, is_repeated, repeated_in, repeated_of}
use Rattle.song_cut.proofs.Lists.{flat_map_next}
use Rattle.song_cut.specs.Marks.{is_marked, Adds, AreOf, bytes_in, orders_if_played}

-- one mark more
pub one_marked : (marks : List Bool) (k n : ℕ) → k < length marks →
    is_marked (set marks k true) n ≡ (is_marked marks n || nat_eq n k)
one_marked marks k n inside = elim (cases_eq n k) [
  | inl same ↦
      rw (eq-eqb n k same) (
      ap (is_marked (set marks k true)) same ∙ get_or-set_same marks k true false inside
      ∙ sym (or-true (is_marked marks n)))
  | inr other ↦ rw (ne_eqb n k other) (get_or-set_other marks k n true false other ∙ sym (or-false (is_marked marks n)))
]

-- ---- the bytes of a list

pub adds_none : (marks : List Bool) → Adds (λ n. false) marks marks
adds_none marks = record { each = λ n small. sym (or-false (is_marked marks n)) }

pub adds_byte : (bytes : List ℕ) (i byte : ℕ) (old marks : List Bool) → i < length bytes → byte ≡ get_or bytes i 0 →
    byte < length marks → Adds (λ n. list_any (nat_eq n) (take i bytes)) old marks →
    Adds (λ n. list_any (nat_eq n) (take (i + 1) bytes)) old (set marks byte true)
adds_byte bytes i byte old marks inside is room so_far = record {
  each = λ n small.
      one_marked marks byte n room
      ∙ ap (λ (b : Bool). b || nat_eq n byte) (so_far.each n small)
      ∙ or_assoc (is_marked old n) (list_any (nat_eq n) (take i bytes)) (nat_eq n byte)
      ∙ ap (λ (k : ℕ). is_marked old n || (list_any (nat_eq n) (take i bytes) || nat_eq n k)) is
      ∙ ap (λ (b : Bool). is_marked old n || b) (sym (list_any_more (nat_eq n) bytes i 0 inside));
}

-- ---- patterns behind a repeat

-- what is left to be marked is what was left before a byte
pub record IsLeft (old marks : List Bool) (bytes left : List ℕ) (from repeat : ℕ) : Type 0 where
  pub each : (n : ℕ) → n < 256 →
      (is_marked marks n || list_any (nat_eq n) (repeated_in left repeat))
      ≡ (is_marked old n || list_any (nat_eq n) (repeated_in bytes from))

pub left_marked : (old marks : List Bool) (bytes others : List ℕ) (from repeat byte : ℕ) → byte < length marks →
    (nat_lt byte 0xD0 && nat_lt 0 repeat) ≡ true → IsLeft old marks bytes (byte ∷ others) from repeat →
    IsLeft old (set marks byte true) bytes others from (repeat_after byte repeat)
left_marked old marks bytes others from repeat byte room is left = record {
  each = λ n small.
      let here : (is_marked marks n || (nat_eq n byte || list_any (nat_eq n) (repeated_in others (repeat_after byte
      repeat))))
      ≡ (is_marked old n || list_any (nat_eq n) (repeated_in bytes from)) = rw is at (left.each n small) in
      ap (λ (b : Bool). b || list_any (nat_eq n) (repeated_in others (repeat_after byte repeat))) (one_marked marks
      byte n room)
      ∙ or_assoc (is_marked marks n) (nat_eq n byte) (list_any (nat_eq n) (repeated_in others (repeat_after byte
      repeat)))
      ∙ here;
}

pub left_as_is : (old marks : List Bool) (bytes others : List ℕ) (from repeat byte : ℕ) →
    (nat_lt byte 0xD0 && nat_lt 0 repeat) ≡ false → IsLeft old marks bytes (byte ∷ others) from repeat →
    IsLeft old marks bytes others from (repeat_after byte repeat)
left_as_is old marks bytes others from repeat byte fails left = record {
  each = λ n small. rw fails at (left.each n small);
}

pub none_left : (old marks : List Bool) (bytes : List ℕ) (from repeat : ℕ) → IsLeft old marks bytes [] from repeat →
    Adds (λ n. list_any (nat_eq n) (repeated_in bytes from)) old marks
none_left old marks bytes from repeat left = record {
  each = λ n small. sym (or-false (is_marked marks n)) ∙ left.each n small;
}

-- ---- two lists, and the lists of orderlists

pub adds_both : (xs ys : List ℕ) (old middle new : List Bool) → Adds (λ n. list_any (nat_eq n) xs) old middle →
    Adds (λ n. list_any (nat_eq n) ys) middle new → Adds (λ n. list_any (nat_eq n) (xs ++ ys)) old new
adds_both xs ys old middle new first second = record {
  each = λ n small.
      second.each n small
      ∙ ap (λ (b : Bool). b || list_any (nat_eq n) ys) (first.each n small)
      ∙ or_assoc (is_marked old n) (list_any (nat_eq n) xs) (list_any (nat_eq n) ys)
      ∙ ap (λ (b : Bool). is_marked old n || b) (sym (list_any-append (nat_eq n) xs ys));
}

pub of_none : (bytes_of : Order → List ℕ) → AreOf (bytes_in bytes_of []) (replicate 256 false)
of_none bytes_of = record { each = λ n small. get_or-replicate 256 n false false small }

pub adds_orders : (bytes_of : Order → List ℕ) (orders more : List Order) (old middle new : List Bool) →
    Adds (bytes_in bytes_of orders) old middle → Adds (bytes_in bytes_of more) middle new →
    Adds (bytes_in bytes_of (orders ++ more)) old new
adds_orders bytes_of orders more old middle new first second = record {
  each = λ n small.
      (adds_both (flat_map bytes_of orders) (flat_map bytes_of more) old middle new
      (record { each = first.each }) (record { each = second.each })).each n small
      ∙ ap (λ (bytes : List ℕ). is_marked old n || list_any (nat_eq n) bytes) (sym (flat_map-append bytes_of orders
      more));
}

pub adds_order : (bytes_of : Order → List ℕ) (order : Order) (old new : List Bool) →
    Adds (λ n. list_any (nat_eq n) (bytes_of order)) old new → Adds (bytes_in bytes_of (order ∷ [])) old new
adds_order bytes_of order old new adds = record {
  each = λ n small.
      adds.each n small
      ∙ ap (λ (bytes : List ℕ). is_marked old n || list_any (nat_eq n) bytes) (sym (append-nil (bytes_of order)));
}

pub adds_three : (bytes_of : Order → List ℕ) (subtune : Subtune) (old first second new : List Bool) →
    is_playable_subtune subtune ≡ true →
    Adds (λ n. list_any (nat_eq n) (bytes_of subtune.one)) old first →
    Adds (λ n. list_any (nat_eq n) (bytes_of subtune.two)) first second →
    Adds (λ n. list_any (nat_eq n) (bytes_of subtune.three)) second new →
    Adds (bytes_in bytes_of (orders_if_played subtune)) old new
adds_three bytes_of subtune old first second new plays one two three =
    rw plays
    (adds_orders bytes_of (subtune.one ∷ []) (subtune.two ∷ subtune.three ∷ []) old first new
    (adds_order bytes_of subtune.one old first one)
    (adds_orders bytes_of (subtune.two ∷ []) (subtune.three ∷ []) first second new
    (adds_order bytes_of subtune.two first second two) (adds_order bytes_of subtune.three second new three)))

pub adds_no_order : (bytes_of : Order → List ℕ) (subtune : Subtune) (marks : List Bool) →
    is_playable_subtune subtune ≡ false → Adds (bytes_in bytes_of (orders_if_played subtune)) marks marks
adds_no_order bytes_of subtune marks fails = rw fails (record { each = λ n small. sym (or-false (is_marked marks n)) })

-- ---- the subtunes of a song

pub of_subtune : (bytes_of : Order → List ℕ) (subtunes : List Subtune) (i : ℕ) (subtune : Subtune) (old new : List
    Bool) →
    i < length subtunes → subtune ≡ get_or subtunes i subtune →
    AreOf (bytes_in bytes_of (flat_map orders_if_played (take i subtunes))) old →
    Adds (bytes_in bytes_of (orders_if_played subtune)) old new →
    AreOf (bytes_in bytes_of (flat_map orders_if_played (take (i + 1) subtunes))) new
of_subtune bytes_of subtunes i subtune old new inside is so_far adds = record {
  each = λ n small.
      adds.each n small
      ∙ ap (λ (b : Bool). b || bytes_in bytes_of (orders_if_played subtune) n) (so_far.each n small)
      ∙ sym (list_any-append (nat_eq n) (flat_map bytes_of orders) (flat_map bytes_of (orders_if_played subtune)))
      ∙ ap (list_any (nat_eq n))
      (sym (flat_map-append bytes_of orders (orders_if_played subtune)) ∙ ap (flat_map bytes_of) (sym next));
}
  where
    orders : List Order
    orders = flat_map orders_if_played (take i subtunes)

    next : flat_map orders_if_played (take (i + 1) subtunes) ≡ orders ++ orders_if_played subtune
    next = flat_map_next orders_if_played subtunes i subtune inside
        ∙ ap (λ (s : Subtune). orders ++ orders_if_played s) (sym is)

-- those that can be played are left
pub played_are : (subtunes : List Subtune) →
    flat_map orders_if_played subtunes ≡ flat_map orders_of (filter is_playable_subtune subtunes)
played_are [] = refl
played_are (subtune ∷ subtunes) = elim (cases_Bool (is_playable_subtune subtune)) [
  | inl plays ↦ rw plays (ap (λ (orders : List Order). orders_of subtune ++ orders) (played_are subtunes))
  | inr fails ↦ rw fails (played_are subtunes)
]

pub played_to : (song : Song) (stored : List Subtune) (i : ℕ) → stored ≡ song.subtunes → length stored ≤ i →
    flat_map orders_if_played (take i stored) ≡ played_orders song
played_to song stored i are past =
    ap (flat_map orders_if_played) (take_all i stored past) ∙ played_are stored
    ∙ ap (λ (subtunes : List Subtune). flat_map orders_of (filter is_playable_subtune subtunes)) are

pub named_are : (song : Song) (stored : List Subtune) (i : ℕ) (marks : List Bool) → stored ≡ song.subtunes →
    length stored ≤ i → AreOf (bytes_in (λ order. order.entries) (flat_map orders_if_played (take i stored))) marks →
    AreOf (is_named song) marks
unfolding is_named
named_are song stored i marks are past so_far = record {
  each = λ n small.
      so_far.each n small
      ∙ ap (λ (orders : List Order). bytes_in (λ order. order.entries) orders n) (played_to song stored i are past);
}

pub repeated_are : (song : Song) (stored : List Subtune) (i : ℕ) (marks : List Bool) → stored ≡ song.subtunes →
    length stored ≤ i → AreOf (bytes_in repeated_of (flat_map orders_if_played (take i stored))) marks →
    AreOf (is_repeated song) marks
unfolding is_repeated
repeated_are song stored i marks are past so_far = record {
  each = λ n small.
      so_far.each n small
      ∙ ap (λ (orders : List Order). bytes_in repeated_of orders n) (played_to song stored i are past);
}
