-- First places of instruments that hold less before a note than instrument 1, worked out by hand.
use Rattle.std.proofs.Common.{◌≡◌, ℕ, zero, suc, ◌≤◌, ◌⊎◌, [], ◌∷◌, lit<, lit≤, refl, sym, ◌∙◌, subst, inl, inr, arith}
use Rattle.std.proofs.Common.{Contains}
use Rattle.song_model.specs.declared.rows.Row.{Row}
use Rattle.song_model.specs.declared.songs.Song.{Song}
use Rattle.song_model.specs.LookUp.{pattern_at, instrument_at}
use Rattle.play_model.specs.Used.{IsUsedPattern, IsUsedInstrument}
use Rattle.play_model.specs.WorkedSongs.{row}
use Rattle.song_facts.specs.declared.facts.Fact.TheVariants.{FirstHolds}
use Rattle.song_places.specs.declared.places.Place.{Place}
use Rattle.song_places.specs.declared.places.Place.TheVariants.{InOrder, InPattern, InInstrument, InWaveTable}
use Rattle.song_places.specs.Places.{NeedsFactAt, IsNotAfter}
use Rattle.song_places.specs.WorkedPlaces.{holding, HoldsAreWorked}
use Rattle.song_places.proofs.Ranks.{lower}

-- ---- what is used

used_zero : (one two three : ℕ) → IsUsedPattern (holding one two three) 0
used_zero one two three = record {
  byte = record {
    order = _;
    played = record {
      subtune = _;
      playable = (0, lit< tt, refl);
      channel = 1;
      is_channel = record { first = lit≤ tt; last = lit≤ tt };
      order_is = refl;
    };
    entry = (0, lit< tt, refl);
  };
  is_pattern = lit< tt;
}

used_two : (one two three : ℕ) → IsUsedInstrument (holding one two three) 2
unfolding pattern_at
used_two one two three = inr (record {
  row = row 0x90 2 0 0;
  used = record { pattern = 0; used = used_zero one two three; has = (0, lit< tt, refl) };
  names = refl;
  some = λ e. absurd (omega (arith, e));
})

used_three : (one two three : ℕ) → IsUsedInstrument (holding one two three) 3
unfolding pattern_at
used_three one two three = inr (record {
  row = row 0x90 3 0 0;
  used = record { pattern = 0; used = used_zero one two three; has = (1, lit< tt, refl) };
  names = refl;
  some = λ e. absurd (omega (arith, e));
})

-- no row names another one
IsOneOfTwo : Row → Type 0
IsOneOfTwo r = (r.instrument ≡ 2) ⊎ (r.instrument ≡ 3)

named : (one two three k : ℕ) (r : Row) → Contains (pattern_at (holding one two three) k) r → IsOneOfTwo r
unfolding pattern_at IsOneOfTwo
named one two three zero r (zero, inside, is) = subst IsOneOfTwo is (inl refl)
named one two three zero r (suc zero, inside, is) = subst IsOneOfTwo is (inr refl)
named one two three zero r (suc (suc n), inside, is) = absurd (omega (arith, inside))
named one two three (suc k) r (n, inside, is) = absurd (omega (arith, inside))

among : (one two three n : ℕ) → IsUsedInstrument (holding one two three) n → (n ≡ 1) ⊎ (n ≡ 2) ⊎ (n ≡ 3)
unfolding IsOneOfTwo
among one two three n (inl first) = inl first
among one two three n (inr h) =
    elim (named one two three h.used.pattern h.row h.used.has) [
      | inl second ↦ inr (inl (sym h.names ∙ second))
      | inr third ↦ inr (inr (sym h.names ∙ third))
    ]

-- ---- where nothing holds less

no_zero : (one two three : ℕ) → ¬ IsUsedInstrument (holding one two three) 0
no_zero one two three used = elim (among one two three 0 used) [
  | inl e ↦ omega (arith, e)
  | inr (inl e) ↦ omega (arith, e)
  | inr (inr e) ↦ omega (arith, e)
]

no_fourth : (one two three n : ℕ) → 4 ≤ n → ¬ IsUsedInstrument (holding one two three) n
no_fourth one two three n high used = elim (among one two three n used) [
  | inl e ↦ omega (arith, high, e)
  | inr (inl e) ↦ omega (arith, high, e)
  | inr (inr e) ↦ omega (arith, high, e)
]

-- none holds less than itself
not_first : (song : Song) → ¬ NeedsFactAt song FirstHolds (InInstrument 1)
not_first song at = (let more = at.is_meant in omega (arith, more))

-- ---- the first

second_first : (one two three : ℕ) (other : Place) → NeedsFactAt (holding one two three) FirstHolds other →
    IsNotAfter (InInstrument 2) other
second_first one two three (InOrder s c i) at = absurd at.is_meant
second_first one two three (InPattern p i) at = absurd at.is_meant
second_first one two three (InInstrument zero) at = absurd (no_zero one two three at.used)
second_first one two three (InInstrument (suc zero)) at = absurd (not_first (holding one two three) at)
second_first one two three (InInstrument (suc (suc zero))) at = refl
second_first one two three (InInstrument (suc (suc (suc n)))) at =
    (lower (3 ∷ []) 2 (suc (suc (suc n))) [] [] (omega arith)).is
second_first one two three (InWaveTable p) at = refl

third_first : (one two three : ℕ) → ¬ NeedsFactAt (holding one two three) FirstHolds (InInstrument 2) →
    (other : Place) → NeedsFactAt (holding one two three) FirstHolds other → IsNotAfter (InInstrument 3) other
third_first one two three none (InOrder s c i) at = absurd at.is_meant
third_first one two three none (InPattern p i) at = absurd at.is_meant
third_first one two three none (InInstrument zero) at = absurd (no_zero one two three at.used)
third_first one two three none (InInstrument (suc zero)) at = absurd (not_first (holding one two three) at)
third_first one two three none (InInstrument (suc (suc zero))) at = absurd (none at)
third_first one two three none (InInstrument (suc (suc (suc zero)))) at = refl
third_first one two three none (InInstrument (suc (suc (suc (suc n))))) at =
    (lower (3 ∷ []) 3 (suc (suc (suc (suc n)))) [] [] (omega arith)).is
third_first one two three none (InWaveTable p) at = refl

-- ---- these songs

gate_held : NeedsFactAt (holding 0x42 0x82 0x02) FirstHolds (InInstrument 2)
unfolding instrument_at
gate_held = record { used = used_two 0x42 0x82 0x02; is_meant = omega arith }

envelope_held : NeedsFactAt (holding 0x82 0x02 0x82) FirstHolds (InInstrument 2)
unfolding instrument_at
envelope_held = record { used = used_two 0x82 0x02 0x82; is_meant = omega arith }

held_behind : NeedsFactAt (holding 0x42 0xC3 0x82) FirstHolds (InInstrument 3)
unfolding instrument_at
held_behind = record { used = used_three 0x42 0xC3 0x82; is_meant = omega arith }

as_much : ¬ NeedsFactAt (holding 0x42 0xC3 0x82) FirstHolds (InInstrument 2)
unfolding instrument_at
as_much at = (let more = at.is_meant in omega (arith, more))

none_less : (place : Place) → ¬ NeedsFactAt (holding 0x82 0x42 0x83) FirstHolds place
unfolding instrument_at
none_less (InOrder s c i) at = at.is_meant
none_less (InPattern p i) at = at.is_meant
none_less (InInstrument zero) at = no_zero 0x82 0x42 0x83 at.used
none_less (InInstrument (suc zero)) at = not_first (holding 0x82 0x42 0x83) at
none_less (InInstrument (suc (suc zero))) at = (let more = at.is_meant in omega (arith, more))
none_less (InInstrument (suc (suc (suc zero)))) at = (let more = at.is_meant in omega (arith, more))
none_less (InInstrument (suc (suc (suc (suc n))))) at =
    no_fourth 0x82 0x42 0x83 (suc (suc (suc (suc n)))) (omega arith) at.used
none_less (InWaveTable p) at = at.is_meant

pub holds_are_worked : HoldsAreWorked
unfolding instrument_at
holds_are_worked = record {
  gate = record { is_such = gate_held; first = second_first 0x42 0x82 0x02 };
  envelope = record { is_such = envelope_held; first = second_first 0x82 0x02 0x82 };
  next = record { used = used_three 0x42 0x82 0x02; is_meant = omega arith };
  not_next = λ first. (let e = first.first (InInstrument 2) gate_held in cc);
  behind = record { is_such = held_behind; first = third_first 0x42 0xC3 0x82 as_much };
  as_much = as_much;
  other_timer = record { used = used_two 0x42 0xC3 0x82; is_meant = λ e. omega (arith, e) };
  more = λ at. (let more = at.is_meant in omega (arith, more));
  nowhere = none_less;
  unused = λ at. no_fourth 0x42 0x82 0x02 4 (lit≤ tt) at.used;
  no_first = not_first;
  no_row = λ at. at.is_meant;
}
