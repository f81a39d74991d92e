-- At most one place is the first; and what the search answers.
use Rattle.std.proofs.Common.{◌≡◌, ◌↔◌, [], Option, Some, None, refl, sym, ◌∙◌, ap, subst}
use Rattle.std.specs.Option.{IfSome, IfNone, IsSome}
use Rattle.song_model.specs.declared.songs.Song.{Song}
use Rattle.song_places.specs.declared.places.Place.{Place}
use Rattle.song_places.specs.declared.places.Place.TheVariants.{InOrder, InPattern, InInstrument, InWaveTable}
use Rattle.song_places.specs.Needs.{Need}
use Rattle.song_places.specs.Places.{rank_of, IsNeededAt, NeedsAt, IsFirst}
use Rattle.song_places.specs.PlaceLaws.{FirstPlacesAreOne}
use Rattle.song_places.specs.Search.{IsUnder, IsFirstUnder, IsNowhereUnder}
use Rattle.song_places.proofs.Ranks.{same_ranks}
use Rattle.song_places.proofs.Search.{nothing_more}
use Rattle.song_places.proofs.Leaves.{order_place, pattern_place, instrument_place, wave_place}

-- a place has its own numbers
under_own : (one other : Place) → rank_of other ≡ rank_of one → IsUnder (rank_of one) other
under_own one other e = record { rest = []; is = e ∙ sym (nothing_more (rank_of one)) }

pub one_rank : (one other : Place) → rank_of other ≡ rank_of one → other ≡ one
one_rank (InOrder s c i) other e = order_place s c i other (under_own (InOrder s c i) other e)
one_rank (InPattern p r) other e = pattern_place p r other (under_own (InPattern p r) other e)
one_rank (InInstrument n) other e = instrument_place n other (under_own (InInstrument n) other e)
one_rank (InWaveTable p) other e = wave_place p other (under_own (InWaveTable p) other e)

pub one_first : (IsSuch : Place → Type 0) (one other : Place) → IsFirst IsSuch one → IsFirst IsSuch other → one ≡ other
one_first IsSuch one other a b =
    one_rank other one (same_ranks (rank_of one) (rank_of other) (a.first other b.is_such) (b.first one a.is_such))

pub first_places_are_one : FirstPlacesAreOne
first_places_are_one song feature = one_first (NeedsAt song feature)

-- ---- what the search answers

-- what is wanted is what is such
abbrev pub IsMeantFor : Song → (Place → Type 0) → Need → Type 0
IsMeantFor song IsSuch need = (place : Place) → IsNeededAt song need place ↔ IsSuch place

pub first_as : (song : Song) (IsSuch : Place → Type 0) (need : Need) (place : Place) → IsMeantFor song IsSuch need →
    IsFirstUnder song need [] place → IsFirst IsSuch place
first_as song IsSuch need place same first = record {
  is_such = (same place).0 first.is_such.needed;
  first = λ other such. first.first other (record {
    needed = (same other).1 such;
    under = record { rest = rank_of other; is = refl };
  });
}

nowhere_as : (song : Song) (IsSuch : Place → Type 0) (need : Need) → IsMeantFor song IsSuch need →
    IsNowhereUnder song need [] → (place : Place) → ¬ IsSuch place
nowhere_as song IsSuch need same none place such = none place (record {
  needed = (same place).1 such;
  under = record { rest = rank_of place; is = refl };
})

same_place : (a b : Place) → Some a ≡ Some b → a ≡ b
same_place a b e = cc

pub found_exactly : (song : Song) (IsSuch : Place → Type 0) (need : Need) → IsMeantFor song IsSuch need →
    (found : Option Place) → IfSome found (IsFirstUnder song need []) → IfNone found (IsNowhereUnder song need []) →
    (place : Place) → (found ≡ Some place) ↔ IsFirst IsSuch place
found_exactly song IsSuch need same (Some x) first none place = (
  λ e. subst (IsFirst IsSuch) (same_place x place e) (first_as song IsSuch need x same first),
  λ other. ap (λ (p : Place). Some p)
      (one_first IsSuch x place (first_as song IsSuch need x same first) other),
)
found_exactly song IsSuch need same None first none place = (
  λ e. absurd (cc),
  λ other. absurd (nowhere_as song IsSuch need same none place other.is_such),
)

pub found_if_had : (song : Song) (IsSuch : Place → Type 0) (need : Need) {Has : Type 0} →
    IsMeantFor song IsSuch need → (found : Option Place) → Has → (place : Place) → IsSuch place →
    IfNone found (IsNowhereUnder song need []) → IsSome found ↔ Has
found_if_had song IsSuch need same (Some x) has place such none = (λ h. has, λ h. refl)
found_if_had song IsSuch need same None has place such none = absurd (nowhere_as song IsSuch need same none place such)

pub none_exactly : (IsSuch : Place → Type 0) → ((place : Place) → ¬ IsSuch place) →
    (place : Place) → (None ≡ Some place) ↔ IsFirst IsSuch place
none_exactly IsSuch none place = (λ e. absurd (cc), λ first. absurd (none place first.is_such))

-- what such an answer says: the first place where there is one, and none otherwise
pub own_first : (IsSuch : Place → Type 0) (own : Option Place) →
    ((place : Place) → (own ≡ Some place) ↔ IsFirst IsSuch place) → IfSome own (IsFirst IsSuch)
own_first IsSuch (Some x) exact = (exact x).0 refl
own_first IsSuch None exact = tt

pub own_none : (IsSuch : Place → Type 0) (own : Option Place) {Has : Type 0} → (IsSome own ↔ Has) →
    ((place : Place) → IsSuch place → Has) → IfNone own ((place : Place) → ¬ IsSuch place)
own_none IsSuch (Some x) had has = tt
own_none IsSuch None had has = λ place such. absurd (let some = had.1 (has place such) in cc)
