-- First places of facts, worked out by hand.
use Rattle.std.proofs.Common.{◌≡◌, ℕ, zero, suc, ◌<◌, ◌≤◌, ◌≢◌, [], ◌∷◌, true, Some, slice_get, lit≤}
use Rattle.std.proofs.Common.{refl, sym, subst, inl, inr, arith}
use Rattle.base.proofs.Laws.{same_some}
use Rattle.song_model.specs.declared.rows.Row.{Row}
use Rattle.song_model.specs.declared.orders.Order.{Order}
use Rattle.song_model.specs.declared.orders.Subtune.{Subtune}
use Rattle.song_model.specs.LookUp.{pattern_at, instrument_at, is_playable_subtune, order_of}
use Rattle.song_model.specs.Silence.{rest_row}
use Rattle.play_model.specs.Used.{IsUsedPattern, IsUsedInstrument}
use Rattle.play_model.specs.Playable.{HasOrder}
use Rattle.play_model.specs.WorkedSongs.{row, subtune}
use Rattle.song_facts.specs.declared.facts.Fact.{Fact}
use Rattle.song_facts.specs.declared.facts.Fact.TheVariants.{RowSlide, FirstMask, GateNote, NoteFilter}
use Rattle.song_facts.specs.declared.facts.Fact.TheVariants.{OwnTimer, OwnWave, Subtunes}
use Rattle.song_facts.specs.Facts.{IsGateNote, IsOfRow}
use Rattle.player_memory.specs.declared.conditions.TheConstants.{ROW_SLIDE}
use Rattle.song_places.specs.declared.places.Place.{Place}
use Rattle.song_places.specs.declared.places.Place.TheVariants.{InOrder, InPattern, InInstrument, InWaveTable}
use Rattle.song_places.specs.Places.{NeedsFactAt, IsNotAfter, IsFirstFactPlace}
use Rattle.song_places.specs.WorkedPlaces.{crossing, several, GateNotesAreWorked, FactsAreWorked, PairsAreWorked}
use Rattle.song_places.specs.WorkedPlaces.{SubtunesAreWorked}
use Rattle.song_places.specs.Needs.{IsBehindPlayable, GivesFact, OrdersGiveFact}
use Rattle.song_places.proofs.Ranks.{lower}
use Rattle.song_places.proofs.KeptParts.{fact_places_are_first}
use Rattle.song_places.proofs.WorkedPlaces.{used_pattern, played_one, played_two, used_three, not_two, other_used}
use Rattle.song_places.proofs.SeveralSubtunes.{several_from}
use Rattle.song_places.proofs.CommonPlaces.{crossing_first}

-- ---- keyoff and keyon

-- a row that isn't one stands there
no_gate : (a b : Row) → ¬ IsGateNote a → Some a ≡ Some b → ¬ IsGateNote b
no_gate a b none same gate = none (subst IsGateNote (sym (same_some a b same)) gate)

no_rest : ¬ IsGateNote rest_row
no_rest (inl off) = omega (arith, off)
no_rest (inr on) = omega (arith, on)

no_slide : ¬ IsGateNote (row 0xBD 0 1 0)
no_slide (inl off) = omega (arith, off)
no_slide (inr on) = omega (arith, on)

no_note : ¬ IsGateNote (row 0x90 3 1 0)
no_note (inl off) = omega (arith, off)
no_note (inr on) = omega (arith, on)

unused : ¬ IsUsedPattern crossing 0
unused used = elim (used_pattern 0 used) [ inl e ↦ omega (arith, e) | inr e ↦ omega (arith, e) ]

none_in_one : (i : ℕ) → ¬ NeedsFactAt crossing GateNote (InPattern 1 i)
unfolding pattern_at
none_in_one zero at = no_gate rest_row at.row no_rest at.there at.is_meant
none_in_one (suc zero) at = no_gate (row 0xBD 0 1 0) at.row no_slide at.there at.is_meant
none_in_one (suc (suc zero)) at = no_gate (row 0xBD 0 1 0) at.row no_slide at.there at.is_meant
none_in_one (suc (suc (suc i))) at = absurd (let e = at.there in cc)

none_at_note : ¬ NeedsFactAt crossing GateNote (InPattern 2 0)
unfolding pattern_at
none_at_note at = no_gate (row 0x90 3 1 0) at.row no_note at.there at.is_meant

gate_first : (other : Place) → NeedsFactAt crossing GateNote other → IsNotAfter (InPattern 2 1) other
gate_first (InOrder s c i) at = absurd at.is_meant
gate_first (InPattern zero i) at = absurd (unused at.used)
gate_first (InPattern (suc zero) i) at = absurd (none_in_one i at)
gate_first (InPattern (suc (suc zero)) zero) at = absurd (none_at_note at)
gate_first (InPattern (suc (suc zero)) (suc zero)) at = refl
gate_first (InPattern (suc (suc zero)) (suc (suc i))) at =
    (lower (2 ∷ 2 ∷ []) 1 (suc (suc i)) [] [] (omega arith)).is
gate_first (InPattern (suc (suc (suc q))) i) at =
    (lower (2 ∷ []) 2 (suc (suc (suc q))) (1 ∷ []) (i ∷ []) (omega arith)).is
gate_first (InInstrument n) at = refl
gate_first (InWaveTable p) at = refl

key_off : NeedsFactAt crossing GateNote (InPattern 2 1)
unfolding pattern_at
key_off = record { used = played_two; row = row 0xBE 0 0 0; there = refl; is_meant = inl refl }

pub gate_notes_are_worked : GateNotesAreWorked
unfolding pattern_at
gate_notes_are_worked = record {
  first = record { is_such = key_off; first = gate_first };
  unused = λ at. unused at.used;
  note = none_at_note;
  later = record { used = played_two; row = row 0xBF 0 0 0; there = refl; is_meant = inr refl };
  not_first = λ first. (let e = first.first (InPattern 2 1) key_off in cc);
}

-- ---- slides and masks

slid : NeedsFactAt crossing RowSlide (InPattern 1 1)
unfolding pattern_at
slid = record { used = played_one; row = row 0xBD 0 1 0; there = refl; is_meant = (omega arith, omega arith) }

slide_first : IsFirstFactPlace crossing RowSlide (InPattern 1 1)
slide_first =
    (fact_places_are_first crossing RowSlide (InPattern 1 1)).0
    (crossing_first ROW_SLIDE refl refl refl (inr (record { fact = RowSlide; is_kept = refl; needs = slid })))

masked : NeedsFactAt crossing FirstMask (InInstrument 1)
unfolding instrument_at
masked = record { used = inl refl; is_meant = inl refl }

no_zero : ¬ IsUsedInstrument crossing 0
no_zero (inl e) = omega (arith, e)
no_zero (inr named) = named.some refl

mask_first : (other : Place) → NeedsFactAt crossing FirstMask other → IsNotAfter (InInstrument 1) other
mask_first (InOrder s c i) at = absurd at.is_meant
mask_first (InPattern p i) at = absurd at.is_meant
mask_first (InInstrument zero) at = absurd (no_zero at.used)
mask_first (InInstrument (suc zero)) at = refl
mask_first (InInstrument (suc (suc n))) at = (lower (3 ∷ []) 1 (suc (suc n)) [] [] (omega arith)).is
mask_first (InWaveTable p) at = refl

-- where no orderlist, no pattern and not instrument 1 gives the fact, nothing comes before instrument 3
third_first : (fact : Fact) → ((s c b : ℕ) → ¬ OrdersGiveFact crossing fact s c b) → ((r : Row) → ¬ IsOfRow fact r) →
    ¬ GivesFact crossing fact (instrument_at crossing 1) → (other : Place) → NeedsFactAt crossing fact other →
    IsNotAfter (InInstrument 3) other
third_first fact bytes rows first (InOrder s c i) at = absurd (bytes s c at.byte at.is_meant)
third_first fact bytes rows first (InPattern p i) at = absurd (rows at.row at.is_meant)
third_first fact bytes rows first (InInstrument zero) at = absurd (no_zero at.used)
third_first fact bytes rows first (InInstrument (suc zero)) at = absurd (first at.is_meant)
third_first fact bytes rows first (InInstrument (suc (suc zero))) at = absurd (not_two at.used)
third_first fact bytes rows first (InInstrument (suc (suc (suc zero)))) at = refl
third_first fact bytes rows first (InInstrument (suc (suc (suc (suc n))))) at =
    (lower (3 ∷ []) 3 (suc (suc (suc (suc n)))) [] [] (omega arith)).is
third_first fact bytes rows first (InWaveTable p) at = refl

filtered : NeedsFactAt crossing NoteFilter (InInstrument 3)
unfolding instrument_at
filtered = record { used = used_three; is_meant = λ e. omega (arith, e) }

pub facts_are_worked : FactsAreWorked
unfolding instrument_at
facts_are_worked = record {
  slide = slide_first;
  next_row = λ first. (let e = first.first (InPattern 1 1) slid in cc);
  in_wave_table = λ at. at.is_meant;
  mask = record { is_such = masked; first = mask_first };
  unused = λ at. not_two at.used;
  later = record { used = used_three; is_meant = inr (omega arith) };
  not_first = λ first. (let e = first.first (InInstrument 1) masked in cc);
  filter = record { is_such = filtered; first = third_first NoteFilter (λ s c b h. h) (λ r h. h) (λ h. h refl) };
  unused_filter = λ at. not_two at.used;
  no_pulse = λ at. at.is_meant refl;
}

-- ---- two instruments

own_timer : NeedsFactAt crossing OwnTimer (InInstrument 3)
unfolding instrument_at
own_timer = record { used = used_three; is_meant = λ e. omega (arith, e) }

own_wave : NeedsFactAt crossing OwnWave (InInstrument 3)
unfolding instrument_at
own_wave = record { used = used_three; is_meant = λ e. omega (arith, e) }

pub pairs_are_worked : PairsAreWorked
unfolding instrument_at
pairs_are_worked = record {
  timer = record { is_such = own_timer; first = third_first OwnTimer (λ s c b h. h) (λ r h. h) (λ h. h refl) };
  unused_timer = λ at. not_two at.used;
  no_first_timer = λ song at. at.is_meant refl;
  wave = record { is_such = own_wave; first = third_first OwnWave (λ s c b h. h) (λ r h. h) (λ h. h refl) };
  unused_wave = λ at. not_two at.used;
  no_first_wave = λ song at. at.is_meant refl;
  other_wave = record { used = other_used; is_meant = λ e. omega (arith, e) };
  same_timer = λ at. at.is_meant refl;
}

-- ---- several subtunes

fourth : Subtune
fourth = subtune (1 ∷ 1 ∷ []) (1 ∷ []) (1 ∷ [])

behind_second : IsBehindPlayable several 4
behind_second = record {
  before = 1;
  is_before = omega arith;
  subtune = subtune (1 ∷ []) (1 ∷ []) (1 ∷ []);
  there = refl;
  playable = refl;
}

order_fourth : (c : ℕ) → 1 ≤ c → c ≤ 3 → HasOrder several 4 c (order_of c fourth)
unfolding fourth
order_fourth c low high = record {
  subtune = fourth;
  stored = record { first = lit≤ tt; last = lit≤ tt };
  subtune_is = refl;
  playable = refl;
  is_channel = record { first = low; last = high };
  order_is = refl;
}

given_at : (c i : ℕ) → 1 ≤ c → c ≤ 3 → slice_get (order_of c fourth).entries i ≡ Some 1 →
    NeedsFactAt several Subtunes (InOrder 4 c i)
given_at c i low high there = record {
  order = order_of c fourth;
  has = order_fourth c low high;
  byte = 1;
  there = there;
  is_meant = behind_second;
}

given_first : NeedsFactAt several Subtunes (InOrder 4 1 0)
unfolding fourth
given_first = given_at 1 0 (lit≤ tt) (lit≤ tt) refl

-- the first subtune and the third can't be played
none_in_third : (c : ℕ) (order : Order) → ¬ HasOrder several 3 c order
none_in_third c order has =
    let same = same_some _ has.subtune has.subtune_is in
    let playable = has.playable in
    absurd (let no = rw (sym same) at playable in cc)

none_before_second : ¬ IsBehindPlayable several 2
none_before_second h =
    let is_before = h.is_before in
    none h.before h.subtune (omega (arith, is_before)) h.there h.playable
  where
    none : (before : ℕ) (one : Subtune) → before < 1 → slice_get several.subtunes before ≡ Some one →
        is_playable_subtune one ≢ true
    none zero one few there playable =
        let same = same_some _ one there in absurd (let no = rw (sym same) at playable in cc)
    none (suc before) one few there playable = omega (arith, few)

subtunes_first : (other : Place) → NeedsFactAt several Subtunes other → IsNotAfter (InOrder 4 1 0) other
subtunes_first (InOrder zero c i) at = absurd (let low = at.has.stored.first in omega (arith, low))
subtunes_first (InOrder (suc zero) c i) at = absurd (let low = at.is_meant.is_before in omega (arith, low))
subtunes_first (InOrder (suc (suc zero)) c i) at = absurd (none_before_second at.is_meant)
subtunes_first (InOrder (suc (suc (suc zero))) c i) at = absurd (none_in_third c at.order at.has)
subtunes_first (InOrder (suc (suc (suc (suc zero)))) zero i) at =
    absurd (let low = at.has.is_channel.first in omega (arith, low))
subtunes_first (InOrder (suc (suc (suc (suc zero)))) (suc zero) zero) at = refl
subtunes_first (InOrder (suc (suc (suc (suc zero)))) (suc zero) (suc i)) at =
    (lower (1 ∷ 4 ∷ 1 ∷ []) 0 (suc i) [] [] (omega arith)).is
subtunes_first (InOrder (suc (suc (suc (suc zero)))) (suc (suc c)) i) at =
    (lower (1 ∷ 4 ∷ []) 1 (suc (suc c)) (0 ∷ []) (i ∷ []) (omega arith)).is
subtunes_first (InOrder (suc (suc (suc (suc (suc s))))) c i) at =
    absurd (let high = at.has.stored.last in omega (arith, high))
subtunes_first (InPattern p i) at = refl
subtunes_first (InInstrument n) at = refl
subtunes_first (InWaveTable p) at = refl

pub subtunes_are_worked : SubtunesAreWorked
unfolding fourth
subtunes_are_worked = record {
  first = record { is_such = given_first; first = subtunes_first };
  next_byte = given_at 1 1 (lit≤ tt) (lit≤ tt) refl;
  not_next_byte = λ first. (let e = first.first (InOrder 4 1 0) given_first in cc);
  next_order = given_at 2 0 (lit≤ tt) (lit≤ tt) refl;
  not_next_order = λ first. (let e = first.first (InOrder 4 1 0) given_first in cc);
  first_subtune = λ at. none_before_second at.is_meant;
  unplayable = λ at. none_in_third 1 at.order at.has;
  one_alone = λ place at. (let more = several_from crossing place at in omega (arith, more));
}
