-- The order of places as values is that of their numbers; the first of two places, and of two sets of places.
use Rattle.std.proofs.Common.{◌≡◌, ◌⊎◌, true, false, if◌then◌else◌, Option, Some, None, refl, sym}
use Rattle.std.proofs.Common.{◌∙◌, ap, subst, inl, inr}
use Rattle.std.specs.Option.{IfSome, IfNone}
use Rattle.std.specs.Ordering.{nat_cmp, is_le, is_lt, is_gt, ord_min, ordering_then, ordering_reverse}
use Rattle.std.specs.declared.cmp.Ordering.{Ordering}
use Rattle.std.specs.declared.cmp.Ordering.TheVariants.{Less, Equal, Greater}
use Rattle.std.specs.Cmp.Lexicographic.{slice_cmp, nat_list_cmp_total}
use Rattle.std.proofs.lemmas.Bool.{true≢false}
use Rattle.std.proofs.lemmas.Cmp.{tied_itself, upto}
use Rattle.song_places.specs.declared.places.Place.{Place}
use Rattle.song_places.specs.declared.places.Place.TheVariants.{InOrder, InPattern, InInstrument, InWaveTable}
use Rattle.song_places.specs.Places.{rank_of, IsNotAfter, IsFirst}
use Rattle.song_places.specs.Search.{IsOneOf}
use Rattle.song_places.specs.contracts.places.PlaceOrd.TheImpl.{cmp-value}

abbrev compared : Place → Place → Ordering
compared = cmp-value.it

last : (o : Ordering) → o ≡ ordering_then o Equal
last Less = refl
last Equal = refl
last Greater = refl

by_ranks : (a b : Place) → compared a b ≡ slice_cmp nat_cmp (rank_of a) (rank_of b)
by_ranks (InOrder s c i) (InOrder t d j) =
    ap (λ o. ordering_then (nat_cmp s t) (ordering_then (nat_cmp c d) o)) (last (nat_cmp i j))
by_ranks (InOrder s c i) (InPattern q r) = refl
by_ranks (InOrder s c i) (InInstrument n) = refl
by_ranks (InOrder s c i) (InWaveTable n) = refl
by_ranks (InPattern p i) (InOrder t d j) = refl
by_ranks (InPattern p i) (InPattern q j) = ap (λ o. ordering_then (nat_cmp p q) o) (last (nat_cmp i j))
by_ranks (InPattern p i) (InInstrument n) = refl
by_ranks (InPattern p i) (InWaveTable n) = refl
by_ranks (InInstrument n) (InOrder t d j) = refl
by_ranks (InInstrument n) (InPattern q j) = refl
by_ranks (InInstrument n) (InInstrument m) = last (nat_cmp n m)
by_ranks (InInstrument n) (InWaveTable m) = refl
by_ranks (InWaveTable n) (InOrder t d j) = refl
by_ranks (InWaveTable n) (InPattern q j) = refl
by_ranks (InWaveTable n) (InInstrument m) = refl
by_ranks (InWaveTable n) (InWaveTable m) = last (nat_cmp n m)

-- ---- the first of two

same_place : (a b : Place) → Some a ≡ Some b → a ≡ b
same_place a b e = cc

not_after_itself : (a : Place) → IsNotAfter a a
not_after_itself a = ap is_le (tied_itself nat_list_cmp_total (rank_of a))

-- where neither of two comes before one of them, it is the first of both
of_two : (a b first : Place) → IsOneOf (Some a) (Some b) first → IsNotAfter first a → IsNotAfter first b →
    IsFirst (IsOneOf (Some a) (Some b)) first
of_two a b first such before_a before_b = record { is_such = such; first = λ other one. not_after other one }
  where
    not_after : (other : Place) → IsOneOf (Some a) (Some b) other → IsNotAfter first other
    not_after other (inl is) = subst (IsNotAfter first) (same_place a other is) before_a
    not_after other (inr is) = subst (IsNotAfter first) (same_place b other is) before_b

by_order : (a b : Place) (o : Ordering) → slice_cmp nat_cmp (rank_of b) (rank_of a) ≡ o →
    IsFirst (IsOneOf (Some a) (Some b)) (if is_lt o then b else a)
by_order a b Less is = of_two a b b (inr refl) (ap is_le is) (not_after_itself b)
by_order a b Equal is =
    of_two a b a (inl refl) (not_after_itself a)
    (ap is_le (nat_list_cmp_total.antisymm (rank_of a) (rank_of b) ∙ ap ordering_reverse is))
by_order a b Greater is =
    of_two a b a (inl refl) (not_after_itself a)
    (ap is_le (nat_list_cmp_total.antisymm (rank_of a) (rank_of b) ∙ ap ordering_reverse is))

pub first_of_two : (a b : Place) → IsFirst (IsOneOf (Some a) (Some b)) (ord_min compared a b)
first_of_two a b = by_order a b (compared b a) (sym (by_ranks b a))

-- ---- the first of one set of places, and of another

not_greater : (o : Ordering) → is_le o ≡ true → is_gt o ≡ false
not_greater Less e = refl
not_greater Equal e = refl
not_greater Greater e = absurd (true≢false (sym e))

no_more : (o : Ordering) → is_gt o ≡ false → is_le o ≡ true
no_more Less e = refl
no_more Equal e = refl
no_more Greater e = absurd (true≢false e)

not_after : (a b c : Place) → IsNotAfter a b → IsNotAfter b c → IsNotAfter a c
not_after a b c first second =
    no_more (slice_cmp nat_cmp (rank_of a) (rank_of c))
    (upto nat_list_cmp_total (rank_of a) (rank_of b) (rank_of c)
    (not_greater (slice_cmp nat_cmp (rank_of a) (rank_of b)) first)
    (not_greater (slice_cmp nat_cmp (rank_of b) (rank_of c)) second))

pub first_such : {P Q : Place → Type 0} (first : Place) → ((place : Place) → P place → Q place) →
    ((place : Place) → Q place → P place) → IsFirst P first → IsFirst Q first
first_such first to from h =
    record { is_such = to first h.is_such; first = λ other such. h.first other (from other such) }

-- none is of either set
pub none_of_both : (P Q : Place → Type 0) (one other : Option Place) → IfNone one ((place : Place) → ¬ P place) →
    IfNone other ((place : Place) → ¬ Q place) → (one ≡ None) × (other ≡ None) →
    (place : Place) → ¬ (P place ⊎ Q place)
none_of_both P Q None None p q both place (inl h) = p place h
none_of_both P Q None None p q both place (inr h) = q place h
none_of_both P Q (Some a) other p q both place h = absurd (let e = both.0 in cc)
none_of_both P Q None (Some b) p q both place h = absurd (let e = both.1 in cc)

-- the first of the two that are there
pub first_of_both : {P Q : Place → Type 0} (one other : Option Place) → IfSome one (IsFirst P) →
    IfNone one ((place : Place) → ¬ P place) → IfSome other (IsFirst Q) →
    IfNone other ((place : Place) → ¬ Q place) → (first : Place) → IsFirst (IsOneOf one other) first →
    IsFirst (λ place. P place ⊎ Q place) first
first_of_both {P} {Q} (Some a) (Some b) p no_p q no_q first h =
    record { is_such = such h.is_such; first = λ other is. before other is }
  where
    such : IsOneOf (Some a) (Some b) first → P first ⊎ Q first
    such (inl e) = inl (subst P (same_place a first e) p.is_such)
    such (inr e) = inr (subst Q (same_place b first e) q.is_such)

    before : (other : Place) → P other ⊎ Q other → IsNotAfter first other
    before other (inl is) = not_after first a other (h.first a (inl refl)) (p.first other is)
    before other (inr is) = not_after first b other (h.first b (inr refl)) (q.first other is)
first_of_both {P} {Q} (Some a) None p no_p q no_q first h =
    record { is_such = such h.is_such; first = λ other is. before other is }
  where
    such : IsOneOf (Some a) None first → P first ⊎ Q first
    such (inl e) = inl (subst P (same_place a first e) p.is_such)
    such (inr e) = absurd (cc)

    before : (other : Place) → P other ⊎ Q other → IsNotAfter first other
    before other (inl is) = not_after first a other (h.first a (inl refl)) (p.first other is)
    before other (inr is) = absurd (no_q other is)
first_of_both {P} {Q} None (Some b) p no_p q no_q first h =
    record { is_such = such h.is_such; first = λ other is. before other is }
  where
    such : IsOneOf None (Some b) first → P first ⊎ Q first
    such (inl e) = absurd (cc)
    such (inr e) = inr (subst Q (same_place b first e) q.is_such)

    before : (other : Place) → P other ⊎ Q other → IsNotAfter first other
    before other (inl is) = absurd (no_p other is)
    before other (inr is) = not_after first b other (h.first b (inr refl)) (q.first other is)
first_of_both None None p no_p q no_q first h = absurd (neither h.is_such)
  where
    neither : IsOneOf None None first → ⊥
    neither (inl e) = absurd (cc)
    neither (inr e) = absurd (cc)

-- and so where there is one at all
pub first_if_some : (P Q : Place → Type 0) (one other found : Option Place) → IfSome one (IsFirst P) →
    IfNone one ((place : Place) → ¬ P place) → IfSome other (IsFirst Q) →
    IfNone other ((place : Place) → ¬ Q place) → IfSome found (IsFirst (IsOneOf one other)) →
    IfSome found (IsFirst (λ place. P place ⊎ Q place))
first_if_some P Q one other (Some x) p no_p q no_q first = first_of_both one other p no_p q no_q x first
first_if_some P Q one other None p no_p q no_q first = tt

pub none_if_none : (P Q : Place → Type 0) (one other found : Option Place) →
    IfNone one ((place : Place) → ¬ P place) → IfNone other ((place : Place) → ¬ Q place) →
    IfNone found ((one ≡ None) × (other ≡ None)) → IfNone found ((place : Place) → ¬ (P place ⊎ Q place))
none_if_none P Q one other (Some x) p q none = tt
none_if_none P Q one other None p q none = none_of_both P Q one other p q none
