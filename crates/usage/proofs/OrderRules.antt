-- The rules on orderlists: the first place that breaks one, orderlist after orderlist and subtune after subtune.
use Rattle.std.proofs.Common.{◌≡◌, ℕ, ◌+◌, ◌<◌, ◌≤◌, List, [], ◌∷◌, length, get_or, All}
use Rattle.std.proofs.Common.{Some, slice_get, refl, sym, ◌∙◌, ap, subst, inl, inr, arith}
use Rattle.std.proofs.lemmas.Bool.{cases_lt}
use Rattle.std.proofs.lemmas.Option.{slice_get_within, slice_get-get_or, get_or_from_slice_get}
use Rattle.std.proofs.lemmas.List.{get_or_default}
use Rattle.base.specs.FirstBad.{IsFirstBad}
use Rattle.song_model.specs.declared.rows.Row.{Row}
use Rattle.song_model.specs.declared.orders.Order.{Order}
use Rattle.song_model.specs.declared.songs.Song.{Song}
use Rattle.play_model.specs.declared.unplayable.Unplayable.{Unplayable}
use Rattle.play_model.specs.declared.unplayable.Unplayable.TheVariants.{NoSubtune, MissingPattern, BadRestart}
use Rattle.play_model.specs.declared.unplayable.Unplayable.TheVariants.{TableOverflow, PointerToJump}
use Rattle.play_model.specs.Playable.{rank_of, HasOrder, IsNotAfter, IsFirst}
use Rattle.play_model.proofs.Laws.{one_order}
use Rattle.usage.specs.declared.orders.OrderRule.{OrderRule}
use Rattle.usage.specs.declared.orders.OrderRule.TheVariants.{NamesStored, NeverEnds}
use Rattle.usage.specs.Search.{IsNowhere, IsStoredByte, FailsAt, FailsIn, FailsUpTo, FailsBy}
use Rattle.usage.proofs.Ranks.{lower, same, at_most, nothing_left, ordered, first_of}

-- ---- names of stored patterns

missing_of : (patterns byte : ℕ) → ¬ IsStoredByte patterns byte → (byte < 0xD0) × (patterns ≤ byte)
missing_of patterns byte bad = elim (cases_lt byte 0xD0) [
  | inl named ↦ elim (cases_lt byte patterns) [ inl stored ↦ absurd (bad (λ p. stored)) | inr above ↦ (named, above) ]
  | inr other ↦ absurd (bad (λ p. absurd (omega arith)))
]

not_before : (patterns : ℕ) (entries : List ℕ) (place later pattern : ℕ) →
    IsFirstBad (IsStoredByte patterns) entries place →
    slice_get entries later ≡ Some pattern → pattern < 0xD0 → patterns ≤ pattern → place ≤ later
not_before patterns entries place later pattern first names is_pattern missing = elim (cases_lt later place) [
  | inl before ↦ (
      let stored = first.before later 0 before in
      let is : get_or entries later 0 ≡ pattern = get_or_from_slice_get entries later pattern 0 names in
      absurd (let small : pattern < patterns = subst (λ (b : ℕ). b < patterns) is (stored (rw is is_pattern)) in
      omega arith))
  | inr after ↦ after
]

names_first : (song : Song) (s c place pattern : ℕ) (order : Order) → HasOrder song s c order →
    IsFirstBad (IsStoredByte (length song.patterns)) order.entries place →
    (other : Unplayable) → FailsAt NamesStored song s c other → IsNotAfter (MissingPattern s c place pattern) other
names_first song s c place pattern order has first NoSubtune h = absurd h
names_first song s c place pattern order has first (MissingPattern t d later missed) (ts, dc, m) =
    let names = subst (λ (o : Order). slice_get o.entries later ≡ Some missed)
    (one_order song s c order m.order has m.has) m.names in
    let later_place = not_before (length song.patterns) order.entries place later missed first names m.is_pattern
    m.missing in
    (same {x = 2} refl (same ts (same dc (at_most later_place nothing_left)))).is
names_first song s c place pattern order has first (BadRestart t d) h = absurd h
names_first song s c place pattern order has first (TableOverflow t r) h = absurd h
names_first song s c place pattern order has first (PointerToJump t r) h = absurd h

pub missing_is_first : (song : Song) (s c place pattern : ℕ) (order : Order) → HasOrder song s c order →
    IsFirstBad (IsStoredByte (length song.patterns)) order.entries place →
    pattern ≡ get_or order.entries place pattern →
    IsFirst (FailsAt NamesStored song s c) (MissingPattern s c place pattern)
missing_is_first song s c place pattern order has first read =
    let names : slice_get order.entries place ≡ Some pattern =
    slice_get-get_or order.entries place pattern first.inside ∙ ap (λ (b : ℕ). Some b) (sym read) in
    let bad : (pattern < 0xD0) × (length song.patterns ≤ pattern) =
    missing_of (length song.patterns) pattern (subst (λ (b : ℕ). ¬ IsStoredByte (length song.patterns) b) (sym read)
    (first.bad pattern)) in
    record {
      is_such = (refl, refl, record { order = order; has = has; names = names; is_pattern = bad.0; missing = bad.1 });
      first = names_first song s c place pattern order has first;
    }

pub none_missing : (song : Song) (s c : ℕ) (order : Order) → HasOrder song s c order →
    All (IsStoredByte (length song.patterns)) order.entries →
    IsNowhere (FailsAt NamesStored song s c)
none_missing song s c order has all NoSubtune h = h
none_missing song s c order has all (MissingPattern t d place pattern) (ts, dc, m) =
    let names = subst (λ (o : Order). slice_get o.entries place ≡ Some pattern)
    (one_order song s c order m.order has m.has) m.names in
    let is : get_or order.entries place 0 ≡ pattern = get_or_from_slice_get order.entries place pattern 0 names in
    let small : pattern < length song.patterns =
    subst (λ (b : ℕ). b < length song.patterns) is
    (all place 0 (slice_get_within order.entries place pattern names) (rw is m.is_pattern)) in
    let large = m.missing in
    omega arith
none_missing song s c order has all (BadRestart t d) h = h
none_missing song s c order has all (TableOverflow t r) h = h
none_missing song s c order has all (PointerToJump t r) h = h

-- the same for the lists as they were read
pub missing_found : (song : Song) (s c place : ℕ) (order : Order) (entries : List ℕ) (patterns : List (List Row)) →
    HasOrder song s c order →
    entries ≡ order.entries → patterns ≡ song.patterns → IsFirstBad (IsStoredByte (length patterns)) entries place →
    IsFirst (FailsAt NamesStored song s c) (MissingPattern s c place (get_or entries place 0))
missing_found song s c place order entries patterns has e p first =
    let bad : IsFirstBad (IsStoredByte (length song.patterns)) order.entries place = rw (e, p) at first in
    let read : get_or order.entries place 0 ≡ get_or order.entries place (get_or order.entries place 0) =
    (let i = bad.inside in get_or_default order.entries place 0 (get_or order.entries place 0) i) in
    rw e (missing_is_first song s c place (get_or order.entries place 0) order has bad read)

pub none_found : (song : Song) (s c : ℕ) (order : Order) (entries : List ℕ) (patterns : List (List Row)) →
    HasOrder song s c order →
    entries ≡ order.entries → patterns ≡ song.patterns → All (IsStoredByte (length patterns)) entries →
    IsNowhere (FailsAt NamesStored song s c)
none_found song s c order entries patterns has e p all = none_missing song s c order has (rw (e, p) at all)

-- ---- orderlist after orderlist

-- the number that a rule has in the order of refusals
rule_number : OrderRule → ℕ
rule_number NamesStored = 2
rule_number NeverEnds = 3

-- a refusal in a channel of a subtune has its numbers, and there is an orderlist
record IsAt (rule : OrderRule) (song : Song) (s c : ℕ) (refusal : Unplayable) : Type 0 where
  rest : List ℕ
  rank_is : rank_of refusal ≡ rule_number rule ∷ s ∷ c ∷ rest
  order : Order
  has : HasOrder song s c order

at : (rule : OrderRule) (song : Song) (s c : ℕ) (refusal : Unplayable) → FailsAt rule song s c refusal →
    IsAt rule song s c refusal
unfolding rule_number
at NamesStored song s c (MissingPattern t d place pattern) (ts, dc, m) =
    record { rest = place ∷ []; rank_is = rw (ts, dc) refl; order = m.order; has = m.has }
at NamesStored song s c NoSubtune h = absurd h
at NamesStored song s c (BadRestart t d) h = absurd h
at NamesStored song s c (TableOverflow t r) h = absurd h
at NamesStored song s c (PointerToJump t r) h = absurd h
at NeverEnds song s c (BadRestart t d) (ts, dc, m) =
    record { rest = []; rank_is = rw (ts, dc) refl; order = m.order; has = m.has }
at NeverEnds song s c NoSubtune h = absurd h
at NeverEnds song s c (MissingPattern t d place pattern) h = absurd h
at NeverEnds song s c (TableOverflow t r) h = absurd h
at NeverEnds song s c (PointerToJump t r) h = absurd h

later_subtune : (rule : OrderRule) (song : Song) (s t c d : ℕ) (refusal other : Unplayable) → s < t →
    FailsAt rule song s c refusal → FailsAt rule song t d other → IsNotAfter refusal other
later_subtune rule song s t c d refusal other lt a b =
    let x = at rule song s c refusal a in
    let y = at rule song t d other b in
    ordered refusal other _ _ x.rank_is y.rank_is (same refl (lower lt))

-- ---- subtune after subtune

-- the first in a subtune, where there is none in the subtunes before it, is the first of the song
pub first_in_song : (rule : OrderRule) (song : Song) (i : ℕ) (refusal : Unplayable) →
    IsNowhere (FailsUpTo rule song i) →
    IsFirst (FailsIn rule song (i + 1)) refusal → IsFirst (FailsBy rule song) refusal
first_in_song rule song i refusal none first =
    first_of (FailsBy rule song) refusal first (record { subtune = i + 1; fails = first.is_such }) (λ other f.
    elim (cases_lt i f.subtune) [
      | inr before ↦ absurd (none other (record { subtune = f.subtune; up_to = before; fails = f.fails }))
      | inl on ↦ elim (cases_lt (i + 1) f.subtune) [
        | inl later ↦ inr (later_subtune rule song (i + 1) f.subtune first.is_such.channel f.fails.channel refusal other
            later first.is_such.fails f.fails.fails)
        | inr here ↦ inl (let e : f.subtune ≡ i + 1 = omega arith in
            subst (λ (t : ℕ). FailsIn rule song t other) e f.fails)
      ]
    ])

pub none_up_to_more : (rule : OrderRule) (song : Song) (i : ℕ) → IsNowhere (FailsUpTo rule song i) →
    IsNowhere (FailsIn rule song (i + 1)) →
    IsNowhere (FailsUpTo rule song (i + 1))
none_up_to_more rule song i none here refusal f = elim (cases_lt i f.subtune) [
  | inr before ↦ none refusal (record { subtune = f.subtune; up_to = before; fails = f.fails })
  | inl on ↦ (
      let high = f.up_to in
      let e : f.subtune ≡ i + 1 = omega arith in
      here refusal (subst (λ (t : ℕ). FailsIn rule song t refusal) e f.fails))
]

pub none_in_song : (rule : OrderRule) (song : Song) (i : ℕ) → length song.subtunes ≤ i →
    IsNowhere (FailsUpTo rule song i) → IsNowhere (FailsBy rule song)
none_in_song rule song i end none refusal f =
    let x = at rule song f.subtune f.fails.channel refusal f.fails.fails in
    let most = x.has.stored.last in
    none refusal (record { subtune = f.subtune; up_to = omega arith; fails = f.fails })
