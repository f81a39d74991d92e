-- Facts that are worked by hand.
use Rattle.std.proofs.Common.{◌≡◌, ℕ, zero, suc, ◌⊎◌, ◌↔◌, true, List, [], ◌∷◌, Contains}
use Rattle.std.proofs.Common.{inl, inr, refl, sym, ◌∙◌, ap, subst, arith}
use Rattle.std.specs.Prelude.{slice_index_or}
use Rattle.std.proofs.lemmas.List.Elements.{All-nil, All-cons, All-contains}
use Rattle.song_model.specs.declared.rows.Row.{Row}
use Rattle.song_model.specs.declared.orders.Order.{Order}
use Rattle.song_model.specs.declared.orders.Subtune.{Subtune}
use Rattle.song_model.specs.declared.instruments.Instrument.{Instrument}
use Rattle.song_model.specs.declared.tables.TableName.TheVariants.{Wave}
use Rattle.song_model.specs.declared.songs.Song.{Song}
use Rattle.song_model.specs.LookUp.{playable_subtunes, order_of, instrument_at, table_row, pattern_at}
use Rattle.song_model.specs.Silence.{empty_song}
use Rattle.play_model.specs.Used.{IsPlayedOrder, IsUsedRow, IsUsedInstrument}
use Rattle.play_model.specs.Reached.{IsReached, IsPlayedPointer, of_instrument, of_row, played, pointed, led}
use Rattle.play_model.specs.WorkedSongs.{row, plucked, one_note, with_rows}
use Rattle.song_facts.specs.declared.facts.Fact.{Fact}
use Rattle.song_facts.specs.declared.facts.Fact.TheVariants.{RowTone, RowSlide, RowOnce, FirstMask, Legato, NoHardRestart}
use Rattle.song_facts.specs.declared.facts.Fact.TheVariants.{WaveDelay, GateNote, NoteVibrato, VibratoDelay, NotePulse, NoteFilter}
use Rattle.song_facts.specs.declared.facts.Fact.TheVariants.{VoiceTempo, CommonTempo, FunkTurns, FunkChoice}
use Rattle.song_facts.specs.declared.facts.Fact.TheVariants.{OwnTimer, OwnWave, Subtunes, VoiceTwo, VoiceThree, FirstHolds}
use Rattle.song_facts.specs.Facts.{IsMask, IsHeard, is_among, no_facts, HasSuchRow, HasChannelRow, HasSuchInstrument}
use Rattle.song_facts.specs.Facts.{HasSuchPair, HasFact}
use Rattle.song_facts.specs.WorkedFacts.{RowsAreTold, InstrumentsAreTold, HoldsAreTold, SongsAreTold, SetsAreTold}
use Rattle.song_facts.specs.WorkedFacts.{wave_of, two_of, holding}
use Rattle.song_facts.specs.Hold.{HoldsMore}

pub rows_are_told : RowsAreTold
rows_are_told = record {
  tone = refl;
  no_tone = λ e. omega (arith, e);
  slide = (omega arith, omega arith);
  last_slide = (omega arith, omega arith);
  no_command = λ e. (let low = e.0 in omega arith);
  no_slide = λ e. (let high = e.1 in omega arith);
  once = omega arith;
  not_once = λ e. omega (arith, e);
  key_off = inl refl;
  key_on = inr refl;
  rest = λ e. elim e [ inl off ↦ omega (arith, off) | inr on ↦ omega (arith, on) ];
  first_note = inl (omega arith, omega arith);
  last_note = inl (omega arith, omega arith);
  command = inr (λ e. omega (arith, e));
  heard_no_rest = λ e. elim e [ inl note ↦ (let high = note.1 in omega (arith, high)) | inr command ↦ command refl ];
  heard_no_key = λ e. elim e [ inl note ↦ (let high = note.1 in omega (arith, high)) | inr command ↦ command refl ];
  voice_tempo = (refl, omega arith);
  no_voice_tempo = λ e. (let high = e.1 in omega arith);
  other_voice_tempo = λ e. (let is = e.0 in omega arith);
  common_tempo = (refl, (omega arith, omega arith));
  last_common_tempo = (refl, (omega arith, omega arith));
  no_common_tempo = λ e. (let high = e.1.0 in omega arith);
  beyond_common_tempo = λ e. (let low = e.1.1 in omega arith);
  other_common_tempo = λ e. (let is = e.0 in omega arith);
  turns = (refl, omega arith);
  no_turns = λ e. (let low = e.1 in omega arith);
  other_turns = λ e. (let is = e.0 in omega arith);
  choice = refl;
  no_choice = λ e. omega (arith, e);
  delay = omega arith;
  no_delay = λ e. omega (arith, e);
}

pub instruments_are_told : InstrumentsAreTold
instruments_are_told = record {
  nothing = inl refl;
  mask = inr (omega arith);
  waveform = λ e. elim e [ inl none ↦ omega (arith, none) | inr high ↦ omega (arith, high) ];
  legato = λ e. omega (arith, e);
  both = λ e. omega (arith, e);
  no_legato = λ e. e refl;
  soft = (refl, λ e. omega (arith, e));
  not_soft = λ e. (let off = e.0 in omega arith);
  hard = λ e. e.1 refl;
  vibrato = λ e. omega (arith, e);
  no_vibrato = λ e. e refl;
  delayed = λ e. omega (arith, e);
  not_delayed = λ e. e refl;
  pulse = λ e. omega (arith, e);
  no_pulse = λ e. e refl;
  filter = λ e. omega (arith, e);
  no_filter = λ e. e refl;
  timers = λ e. omega (arith, e);
  same_timer = λ e. e refl;
  waves = λ e. omega (arith, e);
  same_wave = λ e. e refl;
}

pub holds_are_told : HoldsAreTold
holds_are_told = record {
  nothing = refl;
  envelope = refl;
  gate = refl;
  both = refl;
  gate_most = omega arith;
  envelope_more = omega arith;
  no_less = λ more. omega (arith, more);
  as_much = λ more. omega (arith, more);
}

-- ---- songs that have a fact

-- the first row of pattern 0 is used in the song of one note with these rows, and with these instruments
first_used_by : (instruments : List Instrument) (r : Row) →
    IsUsedRow (record (with_rows (r ∷ []) one_note) { instruments = instruments }) r
unfolding pattern_at
first_used_by instruments r = record {
  pattern = 0;
  used = record {
    byte = record {
      order = _;
      played = record {
        subtune = _;
        playable = (0, omega arith, refl);
        channel = 1;
        is_channel = record { first = omega arith; last = omega arith };
        order_is = refl;
      };
      entry = (0, omega arith, refl);
    };
    is_pattern = omega arith;
  };
  has = (0, omega arith, refl);
}

first_used : (r : Row) → IsUsedRow (with_rows (r ∷ []) one_note) r
first_used r = first_used_by (plucked ∷ []) r

-- instruments 1 and 2 are used where the only row names the second
second_used : (one other : Instrument) → IsUsedInstrument (two_of one other) 2
second_used one other =
    inr (record {
      row = row 0x90 2 0 0;
      used = first_used_by (one ∷ other ∷ []) (row 0x90 2 0 0);
      names = refl;
      some = λ e. omega (arith, e);
    })

key_off_used : IsUsedRow one_note (row 0xBE 0 0 0)
unfolding pattern_at
key_off_used = record {
  pattern = 0;
  used = record {
    byte = record {
      order = _;
      played = record {
        subtune = _;
        playable = (0, omega arith, refl);
        channel = 1;
        is_channel = record { first = omega arith; last = omega arith };
        order_is = refl;
      };
      entry = (0, omega arith, refl);
    };
    is_pattern = omega arith;
  };
  has = (1, omega arith, refl);
}

wave_reached : (left : ℕ) → IsReached (wave_of left) Wave 1
unfolding instrument_at
wave_reached left = played (of_instrument 1 (inl refl) refl (λ e. omega (arith, e)))

-- ---- songs that haven't it

none_played : (song : Song) → playable_subtunes song ≡ [] → (order : Order) → ¬ IsPlayedOrder song order
none_played song none order is =
    nowhere is.subtune (subst (λ (all : List Subtune). Contains all is.subtune) none is.playable)
  where
    nowhere : (subtune : Subtune) → ¬ Contains [] subtune
    nowhere subtune (k, inside, at) = omega (arith, inside)

no_row : (song : Song) → playable_subtunes song ≡ [] → (r : Row) → ¬ IsUsedRow song r
no_row song none r used = none_played song none used.used.byte.order used.used.byte.played

no_such_row : (song : Song) → playable_subtunes song ≡ [] → (IsSuch : Row → Type 0) → ¬ HasSuchRow song IsSuch
no_such_row song none IsSuch has = no_row song none has.row has.used

first_alone : (song : Song) → playable_subtunes song ≡ [] → (i : ℕ) → IsUsedInstrument song i → i ≡ 1
first_alone song none i (inl first) = first
first_alone song none i (inr named) = absurd (no_row song none named.row named.used)

such_first : (song : Song) → playable_subtunes song ≡ [] → (IsSuch : Instrument → Type 0) →
    HasSuchInstrument song IsSuch → IsSuch (instrument_at song 1)
such_first song none IsSuch has =
    subst (λ (i : ℕ). IsSuch (instrument_at song i)) (first_alone song none has.instrument has.used) has.is_such

-- no two instruments are used
no_pair : (song : Song) → playable_subtunes song ≡ [] → (Differ : Instrument → Instrument → Type 0) →
    ¬ Differ (instrument_at song 1) (instrument_at song 1) → ¬ HasSuchPair song Differ
no_pair song none Differ same has =
    same (subst (λ (i : ℕ). Differ (instrument_at song i) (instrument_at song 1))
    (first_alone song none has.one has.one_used)
    (subst (λ (i : ℕ). Differ (instrument_at song has.one) (instrument_at song i))
    (first_alone song none has.other has.other_used) has.differ))

no_pointer : (song : Song) → playable_subtunes song ≡ [] → (instrument_at song 1).wave ≡ 0 → (p : ℕ) →
    ¬ IsPlayedPointer song Wave p
no_pointer song none zero_is p (of_instrument i used is some) =
    some (sym is ∙ ap (λ (n : ℕ). (instrument_at song n).wave) (first_alone song none i used) ∙ zero_is)
no_pointer song none zero_is p (of_row r used command is some) = no_row song none r used

none_reached : (song : Song) → playable_subtunes song ≡ [] → (instrument_at song 1).wave ≡ 0 → (p : ℕ) →
    ¬ IsReached song Wave p
none_reached song none zero_is p (played pointer) = no_pointer song none zero_is p pointer
none_reached song none zero_is p (pointed r reached pointer) = none_reached song none zero_is r reached
none_reached song none zero_is p (led q reached goes) = none_reached song none zero_is q reached

no_channel_row : (song : Song) (channel : ℕ) → playable_subtunes song ≡ [] → ¬ HasChannelRow song channel IsHeard
no_channel_row song channel none has =
    nowhere has.subtune (subst (λ (all : List Subtune). Contains all has.subtune) none has.playable)
  where
    nowhere : (subtune : Subtune) → ¬ Contains [] subtune
    nowhere subtune (k, inside, at) = omega (arith, inside)

-- one that is among a single item is that item
only : {X : Type 0} (P : X → Type 0) (one item : X) → P one → Contains (one ∷ []) item → P item
only P one item holds has = All-contains P (one ∷ []) item (All-cons P one [] holds (All-nil P)) has

-- where the only row names instrument 2, no other but the first is used
IsSecondOrNone : Row → Type 0
IsSecondOrNone r = (r.instrument ≡ 0) ⊎ (r.instrument ≡ 2)

second_named : (one two : Instrument) (k : ℕ) (r : Row) → Contains (pattern_at (two_of one two) k) r → IsSecondOrNone r
unfolding pattern_at IsSecondOrNone
second_named one two zero r has = only IsSecondOrNone (row 0x90 2 0 0) r (inr refl) has
second_named one two (suc zero) r has = only IsSecondOrNone (row 0xBD 0 0 0) r (inl refl) has
second_named one two (suc (suc k)) r (n, inside, at) = absurd (omega (arith, inside))

second_or_first : (one two : Instrument) (i : ℕ) → IsUsedInstrument (two_of one two) i → (i ≡ 1) ⊎ (i ≡ 2)
unfolding IsSecondOrNone
second_or_first one two i (inl first) = inl first
second_or_first one two i (inr named) =
    elim (second_named one two named.used.pattern named.row named.used.has) [
      | inl none ↦ absurd (named.some (sym named.names ∙ none))
      | inr second ↦ inr (sym named.names ∙ second)
    ]

-- the first holds its envelope, and the second its gate
holds_no_more : (i : ℕ) → (i ≡ 1) ⊎ (i ≡ 2) →
    ¬ HoldsMore (record plucked { gate_timer = 0x82 }) (instrument_at (holding 0x82 0x42) i)
unfolding instrument_at
holds_no_more i (inl one) more = omega (arith, subst is_less one more)
  where
    is_less : ℕ → Type 0
    is_less n = HoldsMore (record plucked { gate_timer = 0x82 }) (instrument_at (holding 0x82 0x42) n)
holds_no_more i (inr two) more = omega (arith, subst is_less two more)
  where
    is_less : ℕ → Type 0
    is_less n = HoldsMore (record plucked { gate_timer = 0x82 }) (instrument_at (holding 0x82 0x42) n)

-- where a channel plays the rest alone of the song of one note, it has nothing to play
rest_not_heard : (song : Song) (channel : ℕ) (subtune : Subtune) → song.patterns ≡ one_note.patterns →
    playable_subtunes song ≡ subtune ∷ [] → (order_of channel subtune).entries ≡ 1 ∷ [] →
    ¬ HasChannelRow song channel IsHeard
unfolding pattern_at
rest_not_heard song channel subtune same alone rest has =
    only (λ r. ¬ IsHeard r) (row 0xBD 0 0 0) has.row still
    (subst (λ (rows : List Row). Contains rows has.row)
    (ap (λ (patterns : List (List Row)). slice_index_or patterns has.pattern []) same
    ∙ ap (λ (n : ℕ). slice_index_or one_note.patterns n []) first) has.has) has.is_such
  where
    here : has.subtune ≡ subtune
    here =
        only (λ s. s ≡ subtune) subtune has.subtune refl
        (subst (λ (all : List Subtune). Contains all has.subtune) alone has.playable)

    first : has.pattern ≡ 1
    first =
        only (λ n. n ≡ 1) 1 has.pattern refl
        (subst (λ (entries : List ℕ). Contains entries has.pattern)
        (ap (λ (s : Subtune). (order_of channel s).entries) here ∙ rest) has.entry)

    still : ¬ IsHeard (row 0xBD 0 0 0)
    still (inl note) = (let high = note.1 in omega (arith, high))
    still (inr command) = command refl

pub songs_are_told : SongsAreTold
unfolding instrument_at table_row pattern_at
songs_are_told = record {
  tone = record { row = row 0x90 1 3 0; used = first_used (row 0x90 1 3 0); is_such = refl };
  slide = record { row = row 0x90 1 4 0; used = first_used (row 0x90 1 4 0); is_such = (omega arith, omega arith) };
  once = record { row = row 0x90 1 0xF 0; used = first_used (row 0x90 1 0xF 0); is_such = omega arith };
  gate = record { row = row 0xBE 0 0 0; used = key_off_used; is_such = inl refl };
  mask = record { instrument = 1; used = inl refl; is_such = inr (omega arith) };
  legato = record { instrument = 1; used = inl refl; is_such = λ e. omega (arith, e) };
  soft = record { instrument = 1; used = inl refl; is_such = (refl, λ e. omega (arith, e)) };
  delay = record {
    p = 1;
    reached = wave_reached 0x0F;
    is_such = omega arith;
  };
  vibrato = record { instrument = 1; used = inl refl; is_such = λ e. omega (arith, e) };
  late = record { instrument = 1; used = inl refl; is_such = λ e. omega (arith, e) };
  pulse = record { instrument = 1; used = inl refl; is_such = λ e. omega (arith, e) };
  filter = record { instrument = 1; used = inl refl; is_such = λ e. omega (arith, e) };
  voice_tempo = record {
    row = row 0x90 1 0xF 0x86;
    used = first_used (row 0x90 1 0xF 0x86);
    is_such = (refl, omega arith);
  };
  common_tempo = record {
    row = row 0x90 1 0xF 6;
    used = first_used (row 0x90 1 0xF 6);
    is_such = (refl, (omega arith, omega arith));
  };
  turns = record { row = row 0x90 1 0xF 0; used = first_used (row 0x90 1 0xF 0); is_such = (refl, omega arith) };
  choice = record { row = row 0x90 1 0xE 0; used = first_used (row 0x90 1 0xE 0); is_such = refl };
  timers = record {
    one = 1;
    other = 2;
    one_used = inl refl;
    other_used = second_used plucked _;
    differ = λ e. omega (arith, e);
  };
  waves = record {
    one = 1;
    other = 2;
    one_used = inl refl;
    other_used = second_used plucked _;
    differ = λ e. omega (arith, e);
  };
  subtunes = omega arith;
  two = record {
    subtune = _;
    playable = (0, omega arith, refl);
    pattern = 0;
    entry = (1, omega arith, refl);
    is_pattern = omega arith;
    row = row 0x90 1 0 0;
    has = (0, omega arith, refl);
    is_such = inl (omega arith, omega arith);
  };
  three = record {
    subtune = _;
    playable = (0, omega arith, refl);
    pattern = 0;
    entry = (0, omega arith, refl);
    is_pattern = omega arith;
    row = row 0x90 1 0 0;
    has = (0, omega arith, refl);
    is_such = inl (omega arith, omega arith);
  };
  first_holds = record { instrument = 2; used = second_used _ _; is_such = omega arith };
  not_played = λ has. no_such_row _ refl _ has;
  not_named = λ has. plain (such_first _ refl IsMask has);
  not_reached = λ has. none_reached _ refl refl has.p has.reached;
  timer_not_named = λ has. no_pair _ refl _ (λ differ. differ refl) has;
  wave_not_named = λ has. no_pair _ refl _ (λ differ. differ refl) has;
  one_subtune = λ more. omega (arith, more);
  one_playable = λ more. omega (arith, more);
  not_two = λ has. rest_not_heard _ 2 _ refl refl refl has;
  not_three = λ has. rest_not_heard _ 3 _ refl refl refl has;
  holds_less = λ has. holds_no_more has.instrument (second_or_first _ _ has.instrument has.used) has.is_such;
  holds_not_named = λ has. omega (arith, such_first _ refl _ has);
  two_not_playable = λ has. rest_not_heard _ 2 _ refl refl refl has;
}
  where
    plain : ¬ IsMask plucked
    plain (inl none) = omega (arith, none)
    plain (inr high) = omega (arith, high)

-- ---- sets

fact_of_empty : (fact : Fact) → HasFact empty_song fact → fact ≡ FirstMask
unfolding instrument_at
fact_of_empty RowTone has = absurd (no_such_row empty_song refl _ has)
fact_of_empty RowSlide has = absurd (no_such_row empty_song refl _ has)
fact_of_empty RowOnce has = absurd (no_such_row empty_song refl _ has)
fact_of_empty FirstMask has = refl
fact_of_empty Legato has = absurd (such_first empty_song refl _ has refl)
fact_of_empty NoHardRestart has = absurd ((such_first empty_song refl _ has).1 refl)
fact_of_empty WaveDelay has = absurd (none_reached empty_song refl refl has.p has.reached)
fact_of_empty GateNote has = absurd (no_such_row empty_song refl _ has)
fact_of_empty NoteVibrato has = absurd (such_first empty_song refl _ has refl)
fact_of_empty VibratoDelay has = absurd (such_first empty_song refl _ has refl)
fact_of_empty NotePulse has = absurd (such_first empty_song refl _ has refl)
fact_of_empty NoteFilter has = absurd (such_first empty_song refl _ has refl)
fact_of_empty VoiceTempo has = absurd (no_such_row empty_song refl _ has)
fact_of_empty CommonTempo has = absurd (no_such_row empty_song refl _ has)
fact_of_empty FunkTurns has = absurd (no_such_row empty_song refl _ has)
fact_of_empty FunkChoice has = absurd (no_such_row empty_song refl _ has)
fact_of_empty OwnTimer has = absurd (no_pair empty_song refl _ (λ differ. differ refl) has)
fact_of_empty OwnWave has = absurd (no_pair empty_song refl _ (λ differ. differ refl) has)
fact_of_empty Subtunes has = absurd (omega (arith, has))
fact_of_empty VoiceTwo has = absurd (no_channel_row empty_song 2 refl has)
fact_of_empty VoiceThree has = absurd (no_channel_row empty_song 3 refl has)
fact_of_empty FirstHolds has = absurd (omega (arith, such_first empty_song refl _ has))

other : (fact : Fact) → ¬ (fact ≡ FirstMask) → ¬ HasFact empty_song fact
other fact not has = not (fact_of_empty fact has)

first_mask : HasFact empty_song FirstMask
unfolding instrument_at
first_mask = record { instrument = 1; used = inl refl; is_such = inl refl }

empty_has : (fact : Fact) → (is_among (record no_facts { first_mask = true }) fact ≡ true) ↔ HasFact empty_song fact
empty_has RowTone = (λ on. absurd cc, λ has. absurd (other RowTone (λ e. cc) has))
empty_has RowSlide = (λ on. absurd cc, λ has. absurd (other RowSlide (λ e. cc) has))
empty_has RowOnce = (λ on. absurd cc, λ has. absurd (other RowOnce (λ e. cc) has))
empty_has FirstMask = (λ on. first_mask, λ has. refl)
empty_has Legato = (λ on. absurd cc, λ has. absurd (other Legato (λ e. cc) has))
empty_has NoHardRestart = (λ on. absurd cc, λ has. absurd (other NoHardRestart (λ e. cc) has))
empty_has WaveDelay = (λ on. absurd cc, λ has. absurd (other WaveDelay (λ e. cc) has))
empty_has GateNote = (λ on. absurd cc, λ has. absurd (other GateNote (λ e. cc) has))
empty_has NoteVibrato = (λ on. absurd cc, λ has. absurd (other NoteVibrato (λ e. cc) has))
empty_has VibratoDelay = (λ on. absurd cc, λ has. absurd (other VibratoDelay (λ e. cc) has))
empty_has NotePulse = (λ on. absurd cc, λ has. absurd (other NotePulse (λ e. cc) has))
empty_has NoteFilter = (λ on. absurd cc, λ has. absurd (other NoteFilter (λ e. cc) has))
empty_has VoiceTempo = (λ on. absurd cc, λ has. absurd (other VoiceTempo (λ e. cc) has))
empty_has CommonTempo = (λ on. absurd cc, λ has. absurd (other CommonTempo (λ e. cc) has))
empty_has FunkTurns = (λ on. absurd cc, λ has. absurd (other FunkTurns (λ e. cc) has))
empty_has FunkChoice = (λ on. absurd cc, λ has. absurd (other FunkChoice (λ e. cc) has))
empty_has OwnTimer = (λ on. absurd cc, λ has. absurd (other OwnTimer (λ e. cc) has))
empty_has OwnWave = (λ on. absurd cc, λ has. absurd (other OwnWave (λ e. cc) has))
empty_has Subtunes = (λ on. absurd cc, λ has. absurd (other Subtunes (λ e. cc) has))
empty_has VoiceTwo = (λ on. absurd cc, λ has. absurd (other VoiceTwo (λ e. cc) has))
empty_has VoiceThree = (λ on. absurd cc, λ has. absurd (other VoiceThree (λ e. cc) has))
empty_has FirstHolds = (λ on. absurd cc, λ has. absurd (other FirstHolds (λ e. cc) has))

pub sets_are_told : SetsAreTold
sets_are_told = record {
  empty = record { each = empty_has };
  none = λ are. (let on = (are.each FirstMask).1 first_mask in absurd cc);
  another = λ are. (let on = (are.each FirstMask).1 first_mask in absurd cc);
  more = λ are. no_such_row empty_song refl _ ((are.each GateNote).0 refl);
  itself = λ fact has. has;
  adds = λ adds.
      no_such_row empty_song refl _
      (adds GateNote (record { row = row 0xBE 0 0 0; used = key_off_used; is_such = inl refl }));
}
