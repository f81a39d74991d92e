-- First places of small songs, worked out by hand, and the order of places.
use Rattle.std.proofs.Common.{◌≡◌, ℕ, zero, suc, ◌<◌, ◌≤◌, ◌⊎◌, false, [], ◌∷◌, length, Contains, Some}
use Rattle.std.proofs.Common.{None, slice_get, lit<, lit≤, refl, sym, ◌∙◌, ap, subst, inl, inr, arith}
use Rattle.std.proofs.lemmas.Bool.{cases_lt, true≢false}
use Rattle.std.proofs.lemmas.Option.{slice_get-get_or}
use Rattle.base.proofs.Laws.{same_some}
use Rattle.song_model.specs.declared.rows.Row.{Row}
use Rattle.song_model.specs.declared.orders.Order.{Order}
use Rattle.song_model.specs.declared.orders.Subtune.{Subtune}
use Rattle.song_model.specs.declared.songs.Song.{Song}
use Rattle.song_model.specs.declared.features.Feature.TheVariants.{Transpose, PortaUp, InstrumentVibrato, FilterTable}
use Rattle.song_model.specs.declared.features.Feature.TheVariants.{WaveTable, WaveCommand}
use Rattle.song_model.specs.declared.tables.TableName.TheVariants.{Wave, Filter}
use Rattle.song_model.specs.LookUp.{is_playable_subtune, order_of, pattern_at, instrument_at, table_row}
use Rattle.song_model.specs.Silence.{rest_row}
use Rattle.play_model.specs.Used.{IsChannel, IsPlayedByte, IsUsedPattern, IsUsedInstrument}
use Rattle.play_model.specs.Reached.{IsReached, played, led, of_instrument}
use Rattle.play_model.specs.Playable.{HasOrder}
use Rattle.play_model.specs.WorkedSongs.{subtune, row, other_vibrato}
use Rattle.song_places.specs.declared.places.Place.TheVariants.{InOrder, InPattern, InInstrument, InWaveTable}
use Rattle.song_places.specs.Needs.{Need, need_of}
use Rattle.song_places.specs.Places.{HasByteAt, IsNeededAt, NeedsAt}
use Rattle.song_places.specs.Search.{IsNowhereUnder}
use Rattle.song_places.specs.WorkedPlaces.{crossing, TransposesAreWorked, PortamentosAreWorked, TablesAreWorked}
use Rattle.song_places.specs.WorkedPlaces.{VibratosAreWorked, PlacesInOrder}
use Rattle.song_places.proofs.Search.{first_on, none_on, alone}
use Rattle.song_places.proofs.Leaves.{inner_kind, inner_subtune, inner_order, inner_pattern, order_place}
use Rattle.song_places.proofs.OrderPlaces.{byte_at, no_channel, no_subtune}
use Rattle.song_places.proofs.PatternPlaces.{row_at, no_pattern}
use Rattle.song_places.proofs.MarkedPlaces.{instrument_of, wave_row_of}
use Rattle.song_places.proofs.SongPlaces.{first_in_orders, first_in_patterns, first_in_instruments, first_in_waves}
use Rattle.song_places.proofs.OnePlace.{first_as}

-- ---- what is used

second : Subtune
second = subtune (1 ∷ []) (1 ∷ 0xF0 ∷ 1 ∷ []) (0xE2 ∷ 2 ∷ [])

only : {X : Type 0} (y x : X) → Contains (y ∷ []) x → y ≡ x
only y x (zero, inside, is) = is
only y x (suc k, inside, is) = absurd (omega arith)

-- the bytes of its orderlists
data Byte (b : ℕ) : Type 0 where
  one : 1 ≡ b → Byte b
  two : 2 ≡ b → Byte b
  other : 0xD0 ≤ b → Byte b

byte_in : (c b : ℕ) → (c ≡ 1) ⊎ (c ≡ 2) ⊎ (c ≡ 3) → Contains (order_of c second).entries b → Byte b
unfolding second
byte_in c b (inl e) has = (let h : Contains (1 ∷ []) b = rw e at has in one (only 1 b h))
byte_in c b (inr (inl e)) has = (let h : Contains (1 ∷ 0xF0 ∷ 1 ∷ []) b = rw e at has in in_two h)
  where
    in_two : Contains (1 ∷ 0xF0 ∷ 1 ∷ []) b → Byte b
    in_two (zero, inside, is) = one is
    in_two (suc zero, inside, is) = other (omega arith)
    in_two (suc (suc zero), inside, is) = one is
    in_two (suc (suc (suc k)), inside, is) = absurd (omega arith)
byte_in c b (inr (inr e)) has = (let h : Contains (0xE2 ∷ 2 ∷ []) b = rw e at has in in_three h)
  where
    in_three : Contains (0xE2 ∷ 2 ∷ []) b → Byte b
    in_three (zero, inside, is) = other (omega arith)
    in_three (suc zero, inside, is) = two is
    in_three (suc (suc k), inside, is) = absurd (omega arith)

channels : (c : ℕ) → IsChannel c → (c ≡ 1) ⊎ (c ≡ 2) ⊎ (c ≡ 3)
channels c is = elim (cases_lt c 2) [
  | inl low ↦ inl (let a = is.first in omega arith)
  | inr high ↦ elim (cases_lt c 3) [
    | inl below ↦ inr (inl (omega arith))
    | inr above ↦ inr (inr (let b = is.last in omega arith))
  ]
]

used_byte : (b : ℕ) → IsPlayedByte crossing b → Byte b
unfolding second
used_byte b h =
    let same : second ≡ h.played.subtune = only second h.played.subtune h.played.playable in
    let order : h.order ≡ order_of h.played.channel second =
    subst (λ (t : Subtune). h.order ≡ order_of h.played.channel t) (sym same) h.played.order_is in
    byte_in h.played.channel b (channels h.played.channel h.played.is_channel)
    (subst (λ (o : Order). Contains o.entries b) order h.entry)

pub used_pattern : (p : ℕ) → IsUsedPattern crossing p → (1 ≡ p) ⊎ (2 ≡ p)
used_pattern p used = (let w = used_byte p used.byte in let small = used.is_pattern in elim w [
  | one e ↦ inl e
  | two e ↦ inr e
  | other high ↦ absurd (omega arith)
])

-- the rows of its used patterns
pub data Fields (r : Row) : Type 0 where
  fields : (r.command ≡ 0) ⊎ (r.command ≡ 1) → (r.instrument ≡ 0) ⊎ (r.instrument ≡ 3) → Fields r

row_in_one : (i : ℕ) (r : Row) → slice_get (pattern_at crossing 1) i ≡ Some r → Fields r
unfolding pattern_at
row_in_one zero r e = (let same = same_some _ r e in subst Fields same (fields (inl refl) (inl refl)))
row_in_one (suc zero) r e = (let same = same_some _ r e in subst Fields same (fields (inr refl) (inl refl)))
row_in_one (suc (suc zero)) r e = (let same = same_some _ r e in subst Fields same (fields (inr refl) (inl refl)))
row_in_one (suc (suc (suc k))) r e = absurd (cc)

row_in_two : (i : ℕ) (r : Row) → slice_get (pattern_at crossing 2) i ≡ Some r → Fields r
unfolding pattern_at
row_in_two zero r e = (let same = same_some _ r e in subst Fields same (fields (inr refl) (inr refl)))
row_in_two (suc zero) r e = (let same = same_some _ r e in subst Fields same (fields (inl refl) (inl refl)))
row_in_two (suc (suc zero)) r e = (let same = same_some _ r e in subst Fields same (fields (inl refl) (inl refl)))
row_in_two (suc (suc (suc k))) r e = absurd (cc)

pub used_row : (p i : ℕ) (r : Row) → IsUsedPattern crossing p → slice_get (pattern_at crossing p) i ≡ Some r → Fields r
used_row p i r used there = (let w = used_pattern p used in elim w [
  | inl e ↦ row_in_one i r (subst (λ (q : ℕ). slice_get (pattern_at crossing q) i ≡ Some r) (sym e) there)
  | inr e ↦ row_in_two i r (subst (λ (q : ℕ). slice_get (pattern_at crossing q) i ≡ Some r) (sym e) there)
])

order_second : (c : ℕ) → IsChannel c → HasOrder crossing 2 c (order_of c second)
unfolding second
order_second c is = record {
  subtune = second;
  stored = record { first = lit≤ tt; last = lit≤ tt };
  subtune_is = refl;
  playable = refl;
  is_channel = is;
  order_is = refl;
}

channel : (c : ℕ) → 1 ≤ c → c ≤ 3 → IsChannel c
channel c low high = record { first = low; last = high }

-- of two subtunes the first can't be played
pub is_second : (song : Song) (first : Subtune) → slice_get song.subtunes 0 ≡ Some first →
    is_playable_subtune first ≡ false → length song.subtunes ≡ 2 → (s c : ℕ) (order : Order) →
    HasOrder song s c order → s ≡ 2
is_second song first is out few zero c order has = absurd (let low = has.stored.first in omega arith)
is_second song first is out few (suc zero) c order has =
    absurd (let same = same_some has.subtune first (sym has.subtune_is ∙ is) in
    true≢false (sym has.playable ∙ ap is_playable_subtune same ∙ out))
is_second song first is out few (suc (suc zero)) c order has = refl
is_second song first is out few (suc (suc (suc k))) c order has =
    absurd (let high = has.stored.last in omega arith)

in_second : (s c : ℕ) (order : Order) → HasOrder crossing s c order → s ≡ 2
in_second = is_second crossing (subtune (0xE1 ∷ 0 ∷ []) [] (0 ∷ [])) refl refl refl

pub played_two : IsUsedPattern crossing 2
unfolding second
played_two = record {
  byte = record {
    order = order_of 3 second;
    played = record {
      subtune = second;
      playable = (0, lit< tt, refl);
      channel = 3;
      is_channel = channel 3 (lit≤ tt) (lit≤ tt);
      order_is = refl;
    };
    entry = (1, lit< tt, refl);
  };
  is_pattern = lit< tt;
}

pub played_one : IsUsedPattern crossing 1
unfolding second
played_one = record {
  byte = record {
    order = order_of 1 second;
    played = record {
      subtune = second;
      playable = (0, lit< tt, refl);
      channel = 1;
      is_channel = channel 1 (lit≤ tt) (lit≤ tt);
      order_is = refl;
    };
    entry = (0, lit< tt, refl);
  };
  is_pattern = lit< tt;
}

pub used_three : IsUsedInstrument crossing 3
unfolding pattern_at
used_three = inr (record {
  row = row 0x90 3 1 0;
  used = record { pattern = 2; used = played_two; has = (0, lit< tt, refl) };
  names = refl;
  some = λ e. absurd (omega arith);
})

-- ---- where nothing is needed

pub no_bytes : (song : Song) (need : Need) → ((s c b : ℕ) → ¬ need.byte s c b) → IsNowhereUnder song need (1 ∷ [])
no_bytes song need none =
    none_on song need (1 ∷ []) (inner_kind 1) (λ s. none_on song need (1 ∷ s ∷ []) (inner_subtune s)
    (λ c. none_on song need (1 ∷ s ∷ c ∷ []) (inner_order s c) (λ i place such.
    (let at : HasByteAt song s c i (need.byte s c) =
    subst (IsNeededAt song need) (order_place s c i place such.under) such.needed in none s c at.byte at.is_meant))))

pub no_rows : (need : Need) → ((r : Row) → Fields r → ¬ need.row r) → IsNowhereUnder crossing need (2 ∷ [])
no_rows need none = none_on crossing need (2 ∷ []) (inner_kind 2) (λ p. no_pattern crossing need p (λ i at.
    none at.row (used_row p i at.row at.used at.there) at.is_meant))

no_instruments : (need : Need) → ((n : ℕ) → ¬ need.instrument (instrument_at crossing n)) →
    IsNowhereUnder crossing need (3 ∷ [])
no_instruments need none = none_on crossing need (3 ∷ []) (inner_kind 3) (λ n place such.
    none n (instrument_of crossing need n place such).is_meant)

-- ---- transposes

transposes : Need
transposes = need_of crossing Transpose

low_byte : (b n : ℕ) → Some b ≡ Some n → b < 0xE0 → 0xE0 ≤ n → ⊥
low_byte b n e low high = (let same : b ≡ n = same_some b n e in omega arith)

one_has_none : (k : ℕ) → IsNowhereUnder crossing transposes (1 ∷ 2 ∷ 1 ∷ k ∷ [])
unfolding second transposes
one_has_none zero place such =
    let at = byte_at crossing transposes 2 1 0 (order_of 1 second)
    (order_second 1 (channel 1 (lit≤ tt) (lit≤ tt))) place such in
    low_byte 1 at.0 at.1 (lit< tt) at.2.0
one_has_none (suc k) place such =
    let at = byte_at crossing transposes 2 1 (suc k) (order_of 1 second)
    (order_second 1 (channel 1 (lit≤ tt) (lit≤ tt))) place such in
    absurd (let e = at.1 in cc)

before_channel : (k : ℕ) → k < 2 → IsNowhereUnder crossing transposes (1 ∷ 2 ∷ k ∷ [])
before_channel zero few = no_channel crossing transposes 2 0 (λ is. (let low = is.first in omega arith))
before_channel (suc zero) few = none_on crossing transposes (1 ∷ 2 ∷ 1 ∷ []) (inner_order 2 1) one_has_none
before_channel (suc (suc k)) few = absurd (omega arith)

before_place : (k : ℕ) → k < 1 → IsNowhereUnder crossing transposes (1 ∷ 2 ∷ 2 ∷ k ∷ [])
unfolding second transposes
before_place zero few place such =
    let at = byte_at crossing transposes 2 2 0 (order_of 2 second)
    (order_second 2 (channel 2 (lit≤ tt) (lit≤ tt))) place such in
    low_byte 1 at.0 at.1 (lit< tt) at.2.0
before_place (suc k) few place such = absurd (omega arith)

transposed : NeedsAt crossing Transpose (InOrder 2 2 1)
unfolding second
transposed = record {
  order = order_of 2 second;
  has = order_second 2 (channel 2 (lit≤ tt) (lit≤ tt));
  byte = 0xF0;
  there = refl;
  is_meant = (lit≤ tt, lit≤ tt);
}

pub transposes_are_worked : TransposesAreWorked
unfolding second transposes
transposes_are_worked = record {
  first = first_as crossing (NeedsAt crossing Transpose) transposes (InOrder 2 2 1) (λ place. (λ h. h, λ h. h))
      (first_in_orders crossing transposes (InOrder 2 2 1)
      (first_on crossing transposes (1 ∷ []) 2 (InOrder 2 2 1) (inner_kind 1)
      (λ k few. no_subtune crossing transposes k (λ c order has. (let e = in_second k c order has in omega arith)))
      (first_on crossing transposes (1 ∷ 2 ∷ []) 2 (InOrder 2 2 1) (inner_subtune 2) before_channel
      (first_on crossing transposes (1 ∷ 2 ∷ 2 ∷ []) 1 (InOrder 2 2 1) (inner_order 2 2) before_place
      (alone crossing transposes (InOrder 2 2 1) transposed)))));
  unplayed = λ at. (let e = in_second 1 1 at.order at.has in omega arith);
  later = in_three;
  not_first = λ first. (let e = first.first (InOrder 2 2 1) transposed in cc);
}
  where
    in_three : NeedsAt crossing Transpose (InOrder 2 3 0)
    in_three = record {
      order = order_of 3 second;
      has = order_second 3 (channel 3 (lit≤ tt) (lit≤ tt));
      byte = 0xE2;
      there = refl;
      is_meant = (lit≤ tt, lit≤ tt);
    }

-- ---- portamentos

portamentos : Need
portamentos = need_of crossing PortaUp

before_pattern : (k : ℕ) → k < 1 → IsNowhereUnder crossing portamentos (2 ∷ k ∷ [])
before_pattern zero few = no_pattern crossing portamentos 0 (λ i at. (let w = used_pattern 0 at.used in elim w [
  | inl e ↦ omega arith
  | inr e ↦ omega arith
]))
before_pattern (suc k) few = absurd (omega arith)

not_both : (n : ℕ) → n ≡ 0 → n ≡ 1 → ⊥
not_both n zero_is one_is = omega arith

before_row : (k : ℕ) → k < 1 → IsNowhereUnder crossing portamentos (2 ∷ 1 ∷ k ∷ [])
unfolding portamentos pattern_at
before_row zero few place such =
    let at = row_at crossing portamentos 1 0 place such in
    let same : rest_row ≡ at.row = same_some rest_row at.row at.there in
    not_both at.row.command (ap (λ (r : Row). r.command) (sym same)) at.is_meant.0
before_row (suc k) few place such = absurd (omega arith)

pub risen : NeedsAt crossing PortaUp (InPattern 1 1)
unfolding pattern_at
risen = record { used = played_one; row = row 0xBD 0 1 0; there = refl; is_meant = (refl, tt) }

pub reached_two : IsReached crossing Wave 2
unfolding instrument_at
reached_two = led 1 (played (of_instrument 1 (inl refl) refl (λ e. absurd (omega arith)))) refl

pub portamentos_are_worked : PortamentosAreWorked
unfolding portamentos table_row
portamentos_are_worked = record {
  first = first_as crossing (NeedsAt crossing PortaUp) portamentos (InPattern 1 1) (λ place. (λ h. h, λ h. h))
      (first_in_patterns crossing portamentos (InPattern 1 1) (no_bytes crossing portamentos (λ s c b h. h))
      (first_on crossing portamentos (2 ∷ []) 1 (InPattern 1 1) (inner_kind 2) before_pattern
      (first_on crossing portamentos (2 ∷ 1 ∷ []) 1 (InPattern 1 1) (inner_pattern 1) before_row
      (alone crossing portamentos (InPattern 1 1) risen))));
  unused = λ at. (let w = used_pattern 0 at.used in elim w [ inl e ↦ omega arith | inr e ↦ omega arith ]);
  next_row = λ first. (let e = first.first (InPattern 1 1) risen in cc);
  next_pattern = λ first. (let e = first.first (InPattern 1 1) risen in cc);
  in_wave_table = record { reached = reached_two; is_meant = (refl, tt) };
  wave_table = λ first. (let e = first.first (InPattern 1 1) risen in cc);
}

-- ---- tables

filters : Need
filters = need_of crossing FilterTable

no_filter_row : (r : Row) → Fields r → ¬ filters.row r
unfolding filters
no_filter_row r (fields commands instruments) meant = (let table = meant.0 in elim commands [
  | inl e ↦ (let no : None ≡ Some Filter = rw e at table in cc)
  | inr e ↦ (let no = rw e at table in cc)
])

pub not_two : ¬ IsUsedInstrument crossing 2
not_two (inl e) = omega arith
not_two (inr h) =
    let there = h.used.has in
    not_named (used_row h.used.pattern there.0 h.row h.used.used
    (slice_get-get_or (pattern_at crossing h.used.pattern) there.0 h.row there.1 ∙ ap (λ (r : Row). Some r) there.2))
    h.names
  where
    not_named : {r : Row} → Fields r → r.instrument ≡ 2 → ⊥
    not_named (fields commands (inl e)) names = omega arith
    not_named (fields commands (inr e)) names = omega arith

before_instrument : (k : ℕ) → k < 3 → IsNowhereUnder crossing filters (3 ∷ k ∷ [])
unfolding filters instrument_at
before_instrument zero few place such = (instrument_of crossing filters 0 place such).is_meant.1 refl
before_instrument (suc zero) few place such = (instrument_of crossing filters 1 place such).is_meant.1 refl
before_instrument (suc (suc zero)) few place such = not_two (instrument_of crossing filters 2 place such).used
before_instrument (suc (suc (suc k))) few place such = absurd (omega arith)

filtered : NeedsAt crossing FilterTable (InInstrument 3)
unfolding instrument_at
filtered = record { used = used_three; is_meant = (refl, λ e. absurd (omega arith), tt) }

waves : Need
waves = need_of crossing WaveTable

no_wave_row : (r : Row) → Fields r → ¬ waves.row r
unfolding waves
no_wave_row r (fields commands instruments) meant = (let table = meant.0 in elim commands [
  | inl e ↦ (let no : None ≡ Some Wave = rw e at table in cc)
  | inr e ↦ (let no = rw e at table in cc)
])

before_first : (k : ℕ) → k < 1 → IsNowhereUnder crossing waves (3 ∷ k ∷ [])
unfolding waves instrument_at
before_first zero few place such = (instrument_of crossing waves 0 place such).is_meant.1 refl
before_first (suc k) few place such = absurd (omega arith)

waved : NeedsAt crossing WaveTable (InInstrument 1)
unfolding instrument_at
waved = record { used = inl refl; is_meant = (refl, λ e. absurd (omega arith), tt) }

commands : Need
commands = need_of crossing WaveCommand

before_wave_row : (k : ℕ) → k < 2 → IsNowhereUnder crossing commands (4 ∷ k ∷ [])
unfolding commands table_row
before_wave_row zero few place such =
    (let low = (wave_row_of crossing commands 0 place such).is_meant.0 in omega arith)
before_wave_row (suc zero) few place such =
    (let low = (wave_row_of crossing commands 1 place such).is_meant.0 in omega arith)
before_wave_row (suc (suc k)) few place such = absurd (omega arith)

commanded : NeedsAt crossing WaveCommand (InWaveTable 2)
unfolding table_row
commanded = record { reached = reached_two; is_meant = (lit≤ tt, lit≤ tt) }

pub tables_are_worked : TablesAreWorked
unfolding filters waves commands table_row
tables_are_worked = record {
  first = first_as crossing (NeedsAt crossing FilterTable) filters (InInstrument 3) (λ place. (λ h. h, λ h. h))
      (first_in_instruments crossing filters (InInstrument 3) (no_bytes crossing filters (λ s c b h. h))
      (no_rows filters no_filter_row)
      (first_on crossing filters (3 ∷ []) 3 (InInstrument 3) (inner_kind 3) before_instrument
      (alone crossing filters (InInstrument 3) filtered)));
  unused = λ at. not_two at.used;
  no_row = λ at. no_filter_row at.row (used_row 1 1 at.row at.used at.there) at.is_meant;
  wave = first_as crossing (NeedsAt crossing WaveTable) waves (InInstrument 1) (λ place. (λ h. h, λ h. h))
      (first_in_instruments crossing waves (InInstrument 1) (no_bytes crossing waves (λ s c b h. h))
      (no_rows waves no_wave_row)
      (first_on crossing waves (3 ∷ []) 1 (InInstrument 1) (inner_kind 3) before_first
      (alone crossing waves (InInstrument 1) waved)));
  command = first_as crossing (NeedsAt crossing WaveCommand) commands (InWaveTable 2) (λ place. (λ h. h, λ h. h))
      (first_in_waves crossing commands (InWaveTable 2) (no_bytes crossing commands (λ s c b h. h))
      (no_rows commands (λ r f h. h)) (no_instruments commands (λ n h. h))
      (first_on crossing commands (4 ∷ []) 2 (InWaveTable 2) (inner_kind 4) before_wave_row
      (alone crossing commands (InWaveTable 2) commanded)));
  jump = λ at. (let high = at.is_meant.1 in omega arith);
}

-- ---- vibratos

trembling : Song
trembling = other_vibrato 5

vibratos : Need
vibratos = need_of trembling InstrumentVibrato

abbrev only_subtune : Subtune
only_subtune = subtune (0 ∷ []) (1 ∷ []) (1 ∷ [])

trembling_two : IsUsedInstrument trembling 2
unfolding trembling pattern_at
trembling_two = inr (record {
  row = row 0xBD 2 0 0;
  used = record {
    pattern = 0;
    used = record {
      byte = record {
        order = order_of 1 only_subtune;
        played = record {
          subtune = only_subtune;
          playable = (0, lit< tt, refl);
          channel = 1;
          is_channel = channel 1 (lit≤ tt) (lit≤ tt);
          order_is = refl;
        };
        entry = (0, lit< tt, refl);
      };
      is_pattern = lit< tt;
    };
    has = (1, lit< tt, refl);
  };
  names = refl;
  some = λ e. absurd (omega arith);
})

pub other_used : IsUsedInstrument (other_vibrato 5) 2
unfolding trembling
other_used = trembling_two

before_vibrato : (k : ℕ) → k < 2 → IsNowhereUnder trembling vibratos (3 ∷ k ∷ [])
unfolding trembling vibratos instrument_at
before_vibrato zero few place such = (instrument_of trembling vibratos 0 place such).is_meant.0 refl
before_vibrato (suc zero) few place such = (instrument_of trembling vibratos 1 place such).is_meant.0 refl
before_vibrato (suc (suc k)) few place such = absurd (omega arith)

trembled : NeedsAt trembling InstrumentVibrato (InInstrument 2)
unfolding trembling instrument_at
trembled = record {
  used = trembling_two;
  is_meant = (
    λ e. absurd (omega arith),
    record { instrument = 1; used = inl refl; some = λ e. absurd (omega arith) },
  );
}

pub vibratos_are_worked : VibratosAreWorked
unfolding trembling vibratos instrument_at
vibratos_are_worked = record {
  first = first_as trembling (NeedsAt trembling InstrumentVibrato) vibratos (InInstrument 2) (λ place. (λ h. h, λ h. h))
      (first_in_instruments trembling vibratos (InInstrument 2) (no_bytes trembling vibratos (λ s c b h. h))
      (none_on trembling vibratos (2 ∷ []) (inner_kind 2) (λ p. no_pattern trembling vibratos p (λ i at. at.is_meant)))
      (first_on trembling vibratos (3 ∷ []) 2 (InInstrument 2) (inner_kind 3) before_vibrato
      (alone trembling vibratos (InInstrument 2) trembled)));
  delay = λ at. at.is_meant.0 refl;
}

-- ---- the order

pub places_in_order : PlacesInOrder
places_in_order = record {
  orderlists = (refl, λ e. absurd (cc));
  before_instruments = (refl, λ e. absurd (cc));
  before_tables = (refl, λ e. absurd (cc));
  subtunes = (refl, λ e. absurd (cc));
  channels = (refl, λ e. absurd (cc));
  entries = (refl, λ e. absurd (cc));
  patterns = (refl, λ e. absurd (cc));
  rows = (refl, λ e. absurd (cc));
  instruments = (refl, λ e. absurd (cc));
  wave_rows = (refl, λ e. absurd (cc));
}
