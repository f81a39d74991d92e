-- There are several subtunes that can be played exactly where one of them stands behind another.
use Rattle.std.proofs.Common.{◌≡◌, ℕ, zero, suc, ◌+◌, ◌-◌, ◌<◌, ◌↔◌, Bool, true, false, List, [], ◌∷◌, length}
use Rattle.std.proofs.Common.{get_or, Some, slice_get, filter, refl, sym, ◌∙◌, ap, inl, inr, arith}
use Rattle.std.specs.Prelude.{IsTrue}
use Rattle.std.proofs.lemmas.Bool.{cases_Bool, cases_lt, and_parts, true≢false}
use Rattle.std.proofs.lemmas.Option.{slice_get_within, slice_get-get_or}
use Rattle.base.proofs.Laws.{same_some}
use Rattle.song_model.specs.declared.orders.Order.{Order}
use Rattle.song_model.specs.declared.orders.Subtune.{Subtune}
use Rattle.song_model.specs.declared.songs.Song.{Song}
use Rattle.song_model.specs.LookUp.{has_entries, is_playable_subtune}
use Rattle.song_facts.specs.declared.facts.Fact.TheVariants.{Subtunes}
use Rattle.song_facts.specs.Facts.{HasSubtunes}
use Rattle.song_places.specs.declared.places.Place.{Place}
use Rattle.song_places.specs.declared.places.Place.TheVariants.{InOrder, InPattern, InInstrument, InWaveTable}
use Rattle.song_places.specs.Needs.{IsBehindPlayable}
use Rattle.song_places.specs.Places.{NeedsFactAt}
use Rattle.song_places.specs.PlaceLaws.{IsFactNeeded}

-- ---- what of a list passes

-- one item passes
record OneOf {X : Type 0} (p : X → Bool) (xs : List X) : Type 0 where
  i : ℕ
  x : X
  there : slice_get xs i ≡ Some x
  passes : p x ≡ true

one_later : {X : Type 0} (p : X → Bool) (x : X) (xs : List X) → OneOf p xs → OneOf p (x ∷ xs)
one_later p x xs one = record { i = suc one.i; x = one.x; there = one.there; passes = one.passes }

one_of : {X : Type 0} (p : X → Bool) (xs : List X) → 0 < length (filter p xs) → OneOf p xs
one_of p [] some = absurd (omega (arith, some))
one_of p (x ∷ xs) some = elim (cases_Bool (p x)) [
  | inl on ↦ record { i = 0; x = x; there = refl; passes = on }
  | inr off ↦ one_later p x xs (one_of p xs (rw off at some))
]

count_one : {X : Type 0} (p : X → Bool) (xs : List X) (i : ℕ) (x : X) → slice_get xs i ≡ Some x → p x ≡ true →
    0 < length (filter p xs)
count_one p [] i x there passes = absurd (cc)
count_one p (y ∷ ys) zero x there passes =
    let on : p y ≡ true = ap p (same_some y x there) ∙ passes in rw on (omega arith)
count_one p (y ∷ ys) (suc i) x there passes =
    let later = count_one p ys i x there passes in elim (cases_Bool (p y)) [
      | inl on ↦ rw on (omega (arith, later))
      | inr off ↦ rw off later
    ]

-- two items pass
record TwoOf {X : Type 0} (p : X → Bool) (xs : List X) : Type 0 where
  i : ℕ
  x : X
  there : slice_get xs i ≡ Some x
  passes : p x ≡ true
  j : ℕ
  y : X
  behind : i < j
  also_there : slice_get xs j ≡ Some y
  also_passes : p y ≡ true

two_of : {X : Type 0} (p : X → Bool) (xs : List X) → 1 < length (filter p xs) → TwoOf p xs
two_of p [] several = absurd (omega (arith, several))
two_of p (x ∷ xs) several = elim (cases_Bool (p x)) [
  | inl on ↦
      (let more : 1 < suc (length (filter p xs)) = rw on at several in
      let one = one_of p xs (omega (arith, more)) in
      record {
        i = 0;
        x = x;
        there = refl;
        passes = on;
        j = suc one.i;
        y = one.x;
        behind = omega arith;
        also_there = one.there;
        also_passes = one.passes;
      })
  | inr off ↦
      (let two = two_of p xs (rw off at several) in
      let behind = two.behind in
      record {
        i = suc two.i;
        x = two.x;
        there = two.there;
        passes = two.passes;
        j = suc two.j;
        y = two.y;
        behind = omega (arith, behind);
        also_there = two.also_there;
        also_passes = two.also_passes;
      })
]

count_two : {X : Type 0} (p : X → Bool) (xs : List X) (i j : ℕ) (x y : X) → i < j →
    slice_get xs i ≡ Some x → p x ≡ true → slice_get xs j ≡ Some y → p y ≡ true → 1 < length (filter p xs)
count_two p [] i j x y behind there passes also_there also_passes = absurd (cc)
count_two p (z ∷ zs) i zero x y behind there passes also_there also_passes = absurd (omega (arith, behind))
count_two p (z ∷ zs) zero (suc j) x y behind there passes also_there also_passes =
    let on : p z ≡ true = ap p (same_some z x there) ∙ passes in
    let one = count_one p zs j y also_there also_passes in
    rw on (omega (arith, one))
count_two p (z ∷ zs) (suc i) (suc j) x y behind there passes also_there also_passes =
    let two = count_two p zs i j x y (omega (arith, behind)) there passes also_there also_passes in
    elim (cases_Bool (p z)) [
      | inl on ↦ rw on (omega (arith, two))
      | inr off ↦ rw off two
    ]

-- ---- the first byte of the one behind

first_byte : (order : Order) → has_entries order ≡ true → slice_get order.entries 0 ≡ Some (get_or order.entries 0 0)
first_byte order has = slice_get-get_or order.entries 0 0 (some order.entries has)
  where
    some : (entries : List ℕ) → has_entries (record { entries = entries; restart = 0 }) ≡ true → 0 < length entries
    some [] has = absurd (true≢false (sym has))
    some (entry ∷ entries) has = omega arith

pub several_place : (song : Song) → HasSubtunes song → IsFactNeeded song Subtunes
several_place song several =
    let two = two_of is_playable_subtune song.subtunes several in
    let behind = two.behind in
    let inside : two.j < length song.subtunes = slice_get_within song.subtunes two.j two.y two.also_there in
    let own : two.j + 1 - 1 ≡ two.j = omega arith in
    record {
      place = InOrder (two.j + 1) 1 0;
      needs = record {
        order = two.y.one;
        has = record {
          subtune = two.y;
          stored = record { first = omega arith; last = omega (arith, inside) };
          subtune_is = rw own two.also_there;
          playable = two.also_passes;
          is_channel = record { first = omega arith; last = omega arith };
          order_is = refl;
        };
        byte = get_or two.y.one.entries 0 0;
        there = first_byte two.y.one (and_parts _ _ (and_parts _ _ two.also_passes).0).0;
        is_meant = record {
          before = two.i;
          is_before = omega (arith, behind);
          subtune = two.x;
          there = two.there;
          playable = two.passes;
        };
      };
    }

pub several_from : (song : Song) (place : Place) → NeedsFactAt song Subtunes place → HasSubtunes song
several_from song (InOrder s c i) at =
    let first = at.is_meant in
    let is_before = first.is_before in
    count_two is_playable_subtune song.subtunes first.before (s - 1) first.subtune at.has.subtune
    (omega (arith, is_before)) first.there first.playable at.has.subtune_is at.has.playable
several_from song (InPattern p i) at = absurd at.is_meant
several_from song (InInstrument n) at = absurd at.is_meant
several_from song (InWaveTable p) at = absurd at.is_meant

-- ---- subtune after subtune

-- the first stands behind none
pub none_behind : (song : Song) → IsTrue false ↔ IsBehindPlayable song 1
none_behind song = (
  λ on. absurd (true≢false (sym on)),
  λ h. absurd (let is_before = h.is_before in omega (arith, is_before)),
)

-- the next one stands behind this one, where it can be played
pub next_behind : (song : Song) (i : ℕ) (subtune : Subtune) → slice_get song.subtunes i ≡ Some subtune →
    is_playable_subtune subtune ≡ true → IsTrue true ↔ IsBehindPlayable song (i + 1 + 1)
next_behind song i subtune there playable = (
  λ on. record { before = i; is_before = omega arith; subtune = subtune; there = there; playable = playable },
  λ h. refl,
)

-- and else behind those that this one stands behind
pub still_behind : (song : Song) (i : ℕ) (subtune : Subtune) (behind : Bool) →
    slice_get song.subtunes i ≡ Some subtune → is_playable_subtune subtune ≡ false →
    (IsTrue behind ↔ IsBehindPlayable song (i + 1)) → IsTrue behind ↔ IsBehindPlayable song (i + 1 + 1)
still_behind song i subtune behind there not_playable so_far = (λ on. later (so_far.0 on), λ h. so_far.1 (earlier h))
  where
    later : IsBehindPlayable song (i + 1) → IsBehindPlayable song (i + 1 + 1)
    later h = record {
      before = h.before;
      is_before = (let is_before = h.is_before in omega (arith, is_before));
      subtune = h.subtune;
      there = h.there;
      playable = h.playable;
    }

    not_this : (before : ℕ) (other : Subtune) → slice_get song.subtunes before ≡ Some other →
        is_playable_subtune other ≡ true → before ≡ i → ⊥
    not_this before other there_too playable same =
        let one : other ≡ subtune =
        same_some other subtune (sym there_too ∙ ap (slice_get song.subtunes) same ∙ there) in
        true≢false (sym playable ∙ ap is_playable_subtune one ∙ not_playable)

    earlier : IsBehindPlayable song (i + 1 + 1) → IsBehindPlayable song (i + 1)
    earlier h = (let is_before = h.is_before in record {
      before = h.before;
      is_before = elim (cases_lt h.before i) [
        | inl low ↦ omega (arith, low)
        | inr high ↦ absurd (not_this h.before h.subtune h.there h.playable (omega (arith, is_before, high)))
      ];
      subtune = h.subtune;
      there = h.there;
      playable = h.playable;
    })
