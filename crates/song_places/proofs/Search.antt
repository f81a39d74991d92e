-- The first place under a front of numbers is the first under the next number that has one.
use Rattle.std.proofs.Common.{◌≡◌, ℕ, ◌+◌, ◌<◌, Option, Some, None, List, [], ◌∷◌, ◌++◌, refl}
use Rattle.std.proofs.Common.{sym, ◌∙◌, ap, subst, append_assoc, inl, inr, arith}
use Rattle.std.specs.Option.{IfNone}
use Rattle.std.proofs.lemmas.Bool.{cases_order}
use Rattle.song_model.specs.declared.songs.Song.{Song}
use Rattle.song_places.specs.declared.places.Place.{Place}
use Rattle.song_places.specs.Needs.{Need}
use Rattle.song_places.specs.Places.{rank_of, IsNeededAt}
use Rattle.song_places.specs.Search.{IsUnder, IsFirstUnder, IsNowhereUnder}
use Rattle.song_places.proofs.Ranks.{lower, begun}

-- no place has these numbers and no more
pub record IsInner (front : List ℕ) : Type 0 where
  pub is : (place : Place) → ¬ (rank_of place ≡ front)

-- so a place whose numbers begin so has a next one
record Next (front : List ℕ) (place : Place) : Type 0 where
  next : ℕ
  under : IsUnder (front ++ next ∷ []) place
  more : List ℕ
  is : rank_of place ≡ front ++ next ∷ more

pub nothing_more : (front : List ℕ) → front ++ [] ≡ front
nothing_more [] = refl
nothing_more (x ∷ front) = ap (λ (rest : List ℕ). x ∷ rest) (nothing_more front)

next_from : (front rest : List ℕ) (place : Place) → IsInner front → rank_of place ≡ front ++ rest → Next front place
next_from front [] place inner is = absurd (inner.is place (is ∙ nothing_more front))
next_from front (n ∷ more) place inner is = record {
  next = n;
  under = record { rest = more; is = is ∙ sym (append_assoc front (n ∷ []) more) };
  more = more;
  is = is;
}

next_of : (front : List ℕ) (place : Place) → IsInner front → IsUnder front place → Next front place
next_of front place inner under = next_from front under.rest place inner under.is

-- a place under a number is under the front
up : (front : List ℕ) (n : ℕ) (place : Place) → IsUnder (front ++ n ∷ []) place → IsUnder front place
up front n place under = record {
  rest = n ∷ under.rest;
  is = under.is ∙ append_assoc front (n ∷ []) under.rest;
}

pub first_on : (song : Song) (need : Need) (front : List ℕ) (n : ℕ) (place : Place) → IsInner front →
    ((k : ℕ) → k < n → IsNowhereUnder song need (front ++ k ∷ [])) →
    IsFirstUnder song need (front ++ n ∷ []) place → IsFirstUnder song need front place
first_on song need front n place inner none first = record {
  is_such = record { needed = first.is_such.needed; under = up front n place first.is_such.under };
  first = λ other such. (
      let there = next_of front other inner such.under in
      elim (cases_order there.next n) [
        | inl same ↦ first.first other (record {
          needed = such.needed;
          under = subst (λ (k : ℕ). IsUnder (front ++ k ∷ []) other) same there.under;
        })
        | inr differ ↦ elim differ [
          | inl before ↦ absurd (none there.next before other (record { needed = such.needed; under = there.under }))
          | inr later ↦ (
              let here = first.is_such.under in
              let at : rank_of place ≡ front ++ n ∷ here.rest = here.is ∙ append_assoc front (n ∷ []) here.rest in
              rw (at, there.is) (lower front n there.next here.rest there.more later).is)
        ]
      ]);
}

pub none_on : (song : Song) (need : Need) (front : List ℕ) → IsInner front →
    ((k : ℕ) → IsNowhereUnder song need (front ++ k ∷ [])) → IsNowhereUnder song need front
none_on song need front inner none place such =
    let there = next_of front place inner such.under in
    none there.next place (record { needed = such.needed; under = there.under })

-- a place is the first under all its numbers
pub alone : (song : Song) (need : Need) (place : Place) → IsNeededAt song need place →
    IsFirstUnder song need (rank_of place) place
alone song need place needed = record {
  is_such = record { needed = needed; under = record { rest = []; is = sym (nothing_more (rank_of place)) } };
  first = λ other such. rw such.under.is (begun (rank_of place) such.under.rest).is;
}

-- one number more
pub none_more : (song : Song) (need : Need) (front : List ℕ) (n : ℕ) →
    ((k : ℕ) → k < n → IsNowhereUnder song need (front ++ k ∷ [])) →
    IsNowhereUnder song need (front ++ n ∷ []) →
    (k : ℕ) → k < n + 1 → IsNowhereUnder song need (front ++ k ∷ [])
none_more song need front n none here k few = elim (cases_order k n) [
  | inl same ↦ subst (λ (m : ℕ). IsNowhereUnder song need (front ++ m ∷ [])) (sym same) here
  | inr differ ↦ elim differ [ inl before ↦ none k before | inr later ↦ absurd (omega arith) ]
]

-- what follows from what a clause says where nothing is found
pub none_then : {X : Type 0} (o : Option X) {P Q : Type 0} → IfNone o P → (P → Q) → IfNone o Q
none_then (Some x) h f = h
none_then None h f = f h
