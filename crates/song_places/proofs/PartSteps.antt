-- The first place of the features or facts so far that keep a part, one more at a time.
use Rattle.std.proofs.Common.{◌≡◌, ℕ, ◌+◌, ◌<◌, ◌⊎◌, Bool, true, false, Option, Some, None, sym, ◌∙◌}
use Rattle.std.proofs.Common.{subst, inl, inr, arith}
use Rattle.std.specs.Option.{IfSome, IfNone}
use Rattle.std.proofs.lemmas.Bool.{cases_lt, true≢false}
use Rattle.song_model.specs.declared.features.Feature.{Feature}
use Rattle.song_model.specs.declared.songs.Song.{Song}
use Rattle.song_model.specs.Feature.{bit_of}
use Rattle.song_facts.specs.declared.facts.Fact.{Fact}
use Rattle.song_facts.specs.Facts.{number_of}
use Rattle.player_memory.specs.FactLines.{fact_condition}
use Rattle.song_places.specs.declared.places.Place.{Place}
use Rattle.song_places.specs.Places.{NeedsAt, NeedsFactAt, IsFirst}
use Rattle.song_places.specs.PartPlaces.{keeps_part, NeedsFeatureFor, NeedsFactFor}
use Rattle.song_places.specs.Search.{IsOneOf}
use Rattle.song_places.proofs.PlaceOrder.{first_such, first_of_both, none_of_both}
use Rattle.song_places.proofs.PartFeatures.{at_bit, same_bit}
use Rattle.song_places.proofs.PartFacts.{at_number, same_number}

-- features, or facts: the number of each, whether it keeps a part, and where a song needs it
pub record Keepers : Type 1 where
  pub Item : Type 0
  pub number : Item → ℕ
  pub keeps : Item → Bool
  pub Needs : Item → Place → Type 0
  pub same : (one other : Item) → number one ≡ number other → one ≡ other

-- the place needs one with a number below n that keeps the part
pub record NeedsBelow (all : Keepers) (n : ℕ) (place : Place) : Type 0 where
  pub item : all.Item
  pub is_kept : all.keeps item ≡ true
  pub needs : all.Needs item place
  pub low : all.number item < n

-- what is known of the place that is found so far
pub record IsFoundBelow (all : Keepers) (n : ℕ) (found : Option Place) : Type 0 where
  pub first : IfSome found (IsFirst (NeedsBelow all n))
  pub none : IfNone found ((place : Place) → ¬ NeedsBelow all n place)

pub none_yet : (all : Keepers) → IsFoundBelow all 0 None
none_yet all = record { first = tt; none = λ place h. (let low = h.low in omega (arith, low)) }

-- ---- the one with this number

-- either one below, or this one
below_or : (all : Keepers) (n : ℕ) (item : all.Item) → all.number item ≡ n → (place : Place) →
    NeedsBelow all (n + 1) place → NeedsBelow all n place ⊎ ((all.keeps item ≡ true) × all.Needs item place)
below_or all n item is place h = elim (cases_lt (all.number h.item) n) [
  | inl low ↦ inl (record { item = h.item; is_kept = h.is_kept; needs = h.needs; low = low })
  | inr high ↦
      (let low = h.low in
      let same : h.item ≡ item = all.same h.item item (omega (arith, is, low, high)) in
      inr (
        subst (λ (it : all.Item). all.keeps it ≡ true) same h.is_kept,
        subst (λ (it : all.Item). all.Needs it place) same h.needs,
      ))
]

more_below : (all : Keepers) (n : ℕ) (place : Place) → NeedsBelow all n place → NeedsBelow all (n + 1) place
more_below all n place h = record {
  item = h.item;
  is_kept = h.is_kept;
  needs = h.needs;
  low = (let low = h.low in omega (arith, low));
}

-- ---- one more

-- one that doesn't keep the part
pub passed : (all : Keepers) (n : ℕ) (item : all.Item) (found : Option Place) → all.number item ≡ n →
    all.keeps item ≡ false → IsFoundBelow all n found → IsFoundBelow all (n + 1) found
passed all n item found is not_kept so_far = by_case found so_far
  where
    back : (place : Place) → NeedsBelow all (n + 1) place → NeedsBelow all n place
    back place h = elim (below_or all n item is place h) [
      | inl below ↦ below
      | inr this ↦ absurd (true≢false (sym this.0 ∙ not_kept))
    ]

    by_case : (found : Option Place) → IsFoundBelow all n found → IsFoundBelow all (n + 1) found
    by_case (Some x) so_far =
        record { first = first_such x (more_below all n) back so_far.first; none = tt }
    by_case None so_far = record { first = tt; none = λ place h. so_far.none place (back place h) }

-- with one more
abbrev IsEither : (all : Keepers) → ℕ → all.Item → Place → Type 0
IsEither all n item place = NeedsBelow all n place ⊎ all.Needs item place

-- one that does, with its first place
pub added : (all : Keepers) (n : ℕ) (item : all.Item) (found own next : Option Place) → all.number item ≡ n →
    all.keeps item ≡ true → IsFoundBelow all n found → IfSome own (IsFirst (all.Needs item)) →
    IfNone own ((place : Place) → ¬ all.Needs item place) →
    IfSome next (IsFirst (IsOneOf found own)) → IfNone next ((found ≡ None) × (own ≡ None)) →
    IsFoundBelow all (n + 1) next
added all n item found own next is kept so_far own_first own_none first none = by_case next first none
  where
    to : (place : Place) → IsEither all n item place → NeedsBelow all (n + 1) place
    to place (inl below) = more_below all n place below
    to place (inr needs) = record { item = item; is_kept = kept; needs = needs; low = omega (arith, is) }

    from : (place : Place) → NeedsBelow all (n + 1) place → IsEither all n item place
    from place h = elim (below_or all n item is place h) [
      | inl below ↦ inl below
      | inr this ↦ inr this.1
    ]

    by_case : (next : Option Place) → IfSome next (IsFirst (IsOneOf found own)) →
        IfNone next ((found ≡ None) × (own ≡ None)) → IsFoundBelow all (n + 1) next
    by_case (Some x) first none = record {
      first = first_such x to from (first_of_both found own so_far.first so_far.none own_first own_none x first);
      none = tt;
    }
    by_case None first none = record {
      first = tt;
      none = λ place h.
          none_of_both (NeedsBelow all n) (all.Needs item) found own so_far.none own_none none place (from place h);
    }

-- ---- all

-- where all have been looked at, the place is that of those that are such
pub all_first : (all : Keepers) (n : ℕ) (IsSuch : Place → Type 0) (found : Option Place) →
    ((place : Place) → NeedsBelow all n place → IsSuch place) →
    ((place : Place) → IsSuch place → NeedsBelow all n place) → IsFoundBelow all n found →
    IfSome found (IsFirst IsSuch)
all_first all n IsSuch (Some x) to from h = first_such x to from h.first
all_first all n IsSuch None to from h = tt

pub all_none : (all : Keepers) (n : ℕ) (IsSuch : Place → Type 0) (found : Option Place) →
    ((place : Place) → IsSuch place → NeedsBelow all n place) → IsFoundBelow all n found →
    IfNone found ((place : Place) → ¬ IsSuch place)
all_none all n IsSuch (Some x) from h = tt
all_none all n IsSuch None from h = λ place such. h.none place (from place such)

-- ---- features, and facts

abbrev pub features_for : Song → ℕ → Keepers
features_for song part = record {
  Item = Feature;
  number = bit_of;
  keeps = λ feature. keeps_part (bit_of feature) part;
  Needs = NeedsAt song;
  same = same_bit;
}

pub to_feature : (song : Song) (part : ℕ) (place : Place) → NeedsBelow (features_for song part) 24 place →
    NeedsFeatureFor song part place
to_feature song part place h = record { feature = h.item; is_kept = h.is_kept; needs = h.needs }

pub of_feature : (song : Song) (part : ℕ) (place : Place) → NeedsFeatureFor song part place →
    NeedsBelow (features_for song part) 24 place
of_feature song part place h =
    record { item = h.feature; is_kept = h.is_kept; needs = h.needs; low = (at_bit h.feature).small }

abbrev pub facts_for : Song → ℕ → Keepers
facts_for song part = record {
  Item = Fact;
  number = number_of;
  keeps = λ fact. keeps_part (fact_condition fact) part;
  Needs = NeedsFactAt song;
  same = same_number;
}

pub to_fact : (song : Song) (part : ℕ) (place : Place) → NeedsBelow (facts_for song part) 22 place →
    NeedsFactFor song part place
to_fact song part place h = record { fact = h.item; is_kept = h.is_kept; needs = h.needs }

pub of_fact : (song : Song) (part : ℕ) (place : Place) → NeedsFactFor song part place →
    NeedsBelow (facts_for song part) 22 place
of_fact song part place h =
    record { item = h.fact; is_kept = h.is_kept; needs = h.needs; low = (at_number h.fact).small }
