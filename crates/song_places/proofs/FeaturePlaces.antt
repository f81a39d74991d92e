-- A song uses a feature exactly where some place needs it.
use Rattle.std.proofs.Common.{◌≡◌, ◌≢◌, ℕ, ◌+◌, ◌-◌, ◌%◌, ◌<◌, ◌≤◌, ◌⊎◌, List}
use Rattle.std.proofs.Common.{length, Some, slice_get, refl, sym, ◌∙◌, ap, subst, inl, inr, arith}
use Rattle.std.specs.List.{Contains}
use Rattle.std.proofs.lemmas.Option.{slice_get_within, slice_get-get_or, get_or_from_slice_get}
use Rattle.base.proofs.Laws.{filter_keeps, filter_of}
use Rattle.song_model.specs.declared.rows.Row.{Row}
use Rattle.song_model.specs.declared.orders.Order.{Order}
use Rattle.song_model.specs.declared.tables.TableName.{TableName}
use Rattle.song_model.specs.declared.tables.TableName.TheVariants.{Wave, Pulse, Filter, Speed}
use Rattle.song_model.specs.declared.features.Feature.{Feature}
use Rattle.song_model.specs.declared.features.Feature.TheVariants.{Transpose, Repeat, PortaUp, PortaDown, TonePorta}
use Rattle.song_model.specs.declared.features.Feature.TheVariants.{TieNote, Vibrato, InstrumentVibrato, NoteDependent}
use Rattle.song_model.specs.declared.features.Feature.TheVariants.{SetAd, SetSr, SetWave, SetWavePointer, PulseTable}
use Rattle.song_model.specs.declared.features.Feature.TheVariants.{SetPulsePointer, FilterTable, SetFilterPointer}
use Rattle.song_model.specs.declared.features.Feature.TheVariants.{FilterControl, Cutoff, Volume, FunkTempo, SetTempo}
use Rattle.song_model.specs.declared.features.Feature.TheVariants.{WaveTable, WaveCommand}
use Rattle.song_model.specs.declared.songs.Song.{Song}
use Rattle.song_model.specs.LookUp.{is_playable_subtune, playable_subtunes}
use Rattle.song_model.specs.LookUp.{pattern_at, instrument_at, table_row, speed_row}
use Rattle.song_model.specs.Pointers.{instrument_pointer}
use Rattle.play_model.specs.Used.{IsPlayedOrder, IsUsedRow}
use Rattle.play_model.specs.Reached.{IsPointer, of_instrument, of_row, of_played, of_wave_row}
use Rattle.play_model.specs.Features.{HasByte, HasRow, UsesCommand, IsAny, HasPointer, HasWaveCommand, HasFeature}
use Rattle.play_model.specs.Playable.{HasOrder}
use Rattle.song_places.specs.declared.places.Place.{Place}
use Rattle.song_places.specs.declared.places.Place.TheVariants.{InOrder, InPattern, InInstrument, InWaveTable}
use Rattle.song_places.specs.Needs.{Need, of_bytes, of_rows, of_command, of_pointers, of_vibrato, of_left_sides}
use Rattle.song_places.specs.Places.{HasRowAt, IsNeededAt, NeedsAt}
use Rattle.song_places.specs.PlaceLaws.{IsNeeded, FeaturesAreNeeded}

-- some place has what is needed
record IsSomewhere (song : Song) (need : Need) : Type 0 where
  place : Place
  needed : IsNeededAt song need place

pub item_at : {X : Type 0} (xs : List X) (x : X) → Contains xs x → (i : ℕ) × (i < length xs) × (slice_get xs i ≡ Some x)
item_at xs x (i, inside, is) = (i, inside, slice_get-get_or xs i x inside ∙ ap Some is)

pub item_of : {X : Type 0} (xs : List X) (i : ℕ) (x : X) → slice_get xs i ≡ Some x → Contains xs x
item_of xs i x there = (i, slice_get_within xs i x there, get_or_from_slice_get xs i x x there)

-- ---- bytes of orderlists

pub order_at : (song : Song) (order : Order) (played : IsPlayedOrder song order) →
    (s : ℕ) × HasOrder song s played.channel order
order_at song order played =
    let kept = filter_of is_playable_subtune song.subtunes played.subtune played.playable in
    let at = item_at song.subtunes played.subtune kept.0 in (
      at.0 + 1,
      record {
        subtune = played.subtune;
        stored = record { first = omega arith; last = (let inside = at.1 in omega arith) };
        subtune_is = (let e : at.0 + 1 - 1 ≡ at.0 = omega arith in rw e at.2);
        playable = kept.1;
        is_channel = played.is_channel;
        order_is = played.order_is;
      },
    )

pub played_subtune : (song : Song) (s c : ℕ) (order : Order) (has : HasOrder song s c order) →
    Contains (playable_subtunes song) has.subtune
played_subtune song s c order has =
    filter_keeps is_playable_subtune song.subtunes has.subtune
    (item_of song.subtunes (s - 1) has.subtune has.subtune_is) has.playable

order_from : (song : Song) (s c : ℕ) (order : Order) → HasOrder song s c order → IsPlayedOrder song order
order_from song s c order has = record {
  subtune = has.subtune;
  playable = played_subtune song s c order has;
  channel = c;
  is_channel = has.is_channel;
  order_is = has.order_is;
}

byte_to : (song : Song) (from to : ℕ) → HasByte song from to → IsSomewhere song (of_bytes from to)
byte_to song from to h =
    let order = order_at song h.played.order h.played.played in
    let entry = item_at h.played.order.entries h.byte h.played.entry in
    record {
      place = InOrder order.0 h.played.played.channel entry.0;
      needed = record {
        order = h.played.order;
        has = order.1;
        byte = h.byte;
        there = entry.2;
        is_meant = (h.low, h.high);
      };
    }

byte_from : (song : Song) (from to : ℕ) (place : Place) → IsNeededAt song (of_bytes from to) place →
    HasByte song from to
byte_from song from to (InOrder s c i) at = record {
  byte = at.byte;
  played = record {
    order = at.order;
    played = order_from song s c at.order at.has;
    entry = item_of at.order.entries i at.byte at.there;
  };
  low = at.is_meant.0;
  high = at.is_meant.1;
}
byte_from song from to (InPattern p r) at = absurd at.is_meant
byte_from song from to (InInstrument n) at = absurd at.is_meant
byte_from song from to (InWaveTable p) at = absurd at.is_meant

-- ---- rows of patterns

pub row_to : (song : Song) (IsMeant : Row → Type 0) (row : Row) (used : IsUsedRow song row) → IsMeant row →
    (i : ℕ) × HasRowAt song used.pattern i IsMeant
row_to song IsMeant row used meant =
    let at = item_at (pattern_at song used.pattern) row used.has in
    (at.0, record { used = used.used; row = row; there = at.2; is_meant = meant })

pub row_from : (song : Song) (IsMeant : Row → Type 0) (p i : ℕ) (at : HasRowAt song p i IsMeant) → IsUsedRow song at.row
row_from song IsMeant p i at =
    record { pattern = p; used = at.used; has = item_of (pattern_at song p) i at.row at.there }

rows_to : (song : Song) (IsMeant : ℕ → ℕ → Type 0) (row : Row) → IsUsedRow song row →
    IsMeant row.command row.param → IsSomewhere song (of_rows IsMeant)
rows_to song IsMeant row used meant =
    let at = row_to song (λ r. IsMeant r.command r.param) row used meant in
    record { place = InPattern used.pattern at.0; needed = at.1 }

-- such a row
record IsRow (song : Song) (IsMeant : ℕ → ℕ → Type 0) : Type 0 where
  row : Row
  used : IsUsedRow song row
  is_meant : IsMeant row.command row.param

rows_from : (song : Song) (IsMeant : ℕ → ℕ → Type 0) (place : Place) → IsNeededAt song (of_rows IsMeant) place →
    IsRow song IsMeant
rows_from song IsMeant (InOrder s c i) at = absurd at.is_meant
rows_from song IsMeant (InPattern p i) at = record {
  row = at.row;
  used = row_from song (λ r. IsMeant r.command r.param) p i at;
  is_meant = at.is_meant;
}
rows_from song IsMeant (InInstrument n) at = absurd at.is_meant
rows_from song IsMeant (InWaveTable p) at = absurd at.is_meant

command_to : (song : Song) (c : ℕ) (IsMeant : ℕ → Type 0) → UsesCommand song c IsMeant →
    IsSomewhere song (of_command c IsMeant)
command_to song c IsMeant (inl h) =
    let at = row_to song (λ r. (r.command ≡ c) × IsMeant r.param) h.row h.used (h.command_is, h.is_meant) in
    record { place = InPattern h.used.pattern at.0; needed = at.1 }
command_to song c IsMeant (inr h) = record {
  place = InWaveTable h.p;
  needed = record { reached = h.reached; is_meant = (h.command_is, h.is_meant) };
}

command_from : (song : Song) (c : ℕ) (IsMeant : ℕ → Type 0) (place : Place) →
    IsNeededAt song (of_command c IsMeant) place → UsesCommand song c IsMeant
command_from song c IsMeant (InOrder s d i) at = absurd at.is_meant
command_from song c IsMeant (InPattern p i) at = inl (record {
  row = at.row;
  used = row_from song (λ r. (r.command ≡ c) × IsMeant r.param) p i at;
  command_is = at.is_meant.0;
  is_meant = at.is_meant.1;
})
command_from song c IsMeant (InInstrument n) at = absurd at.is_meant
command_from song c IsMeant (InWaveTable p) at = inr (record {
  p = p;
  reached = at.reached;
  command_is = at.is_meant.0;
  is_meant = at.is_meant.1;
})

funk_to : (song : Song) → HasRow song 0xE IsAny ⊎ HasRow song 0xF (λ d. d ≤ 1) →
    IsSomewhere song (of_rows (λ c d. (c ≡ 0xE) ⊎ ((c ≡ 0xF) × (d ≤ 1))))
funk_to song (inl h) = rows_to song (λ c d. (c ≡ 0xE) ⊎ ((c ≡ 0xF) × (d ≤ 1))) h.row h.used (inl h.command_is)
funk_to song (inr h) =
    rows_to song (λ c d. (c ≡ 0xE) ⊎ ((c ≡ 0xF) × (d ≤ 1))) h.row h.used (inr (h.command_is, h.is_meant))

funk_from : (song : Song) → IsRow song (λ c d. (c ≡ 0xE) ⊎ ((c ≡ 0xF) × (d ≤ 1))) →
    HasRow song 0xE IsAny ⊎ HasRow song 0xF (λ d. d ≤ 1)
funk_from song h = (let w = h.is_meant in elim w [
  | inl is ↦ inl (record { row = h.row; used = h.used; command_is = is; is_meant = tt })
  | inr is ↦ inr (record { row = h.row; used = h.used; command_is = is.0; is_meant = is.1 })
])

-- ---- pointers

pointer_to : (song : Song) (name : TableName) (IsMeant : ℕ → Type 0) (p : ℕ) → IsPointer song name p → IsMeant p →
    IsSomewhere song (of_pointers name IsMeant)
pointer_to song name IsMeant p (of_played (of_instrument i used is some)) meant = record {
  place = InInstrument i;
  needed = record {
    used = used;
    is_meant = (
      refl,
      subst (λ (q : ℕ). q ≢ 0) (sym is) some,
      subst IsMeant (sym is) meant,
    );
  };
}
pointer_to song name IsMeant p (of_played (of_row row used table is some)) meant =
    let at = row_to song (of_pointers name IsMeant).row row used
    (table, subst (λ (q : ℕ). q ≢ 0) (sym is) some, subst IsMeant (sym is) meant) in
    record { place = InPattern used.pattern at.0; needed = at.1 }
pointer_to song name IsMeant p (of_wave_row r reached h) meant = record {
  place = InWaveTable r;
  needed = record {
    reached = reached;
    is_meant = (
      h.table,
      subst (λ (q : ℕ). q ≢ 0) (sym h.right) h.some,
      subst IsMeant (sym h.right) meant,
    );
  };
}

-- such a pointer
record IsSuchPointer (song : Song) (name : TableName) (IsMeant : ℕ → Type 0) : Type 0 where
  p : ℕ
  pointer : IsPointer song name p
  is_meant : IsMeant p

pointer_from : (song : Song) (name : TableName) (IsMeant : ℕ → Type 0) (place : Place) →
    IsNeededAt song (of_pointers name IsMeant) place → IsSuchPointer song name IsMeant
pointer_from song name IsMeant (InOrder s c i) at = absurd at.is_meant
pointer_from song name IsMeant (InPattern n i) at = record {
  p = at.row.param;
  pointer = of_played (of_row at.row (row_from song (of_pointers name IsMeant).row n i at) at.is_meant.0 refl
      at.is_meant.1);
  is_meant = at.is_meant.2;
}
pointer_from song name IsMeant (InInstrument i) at = record {
  p = instrument_pointer name (instrument_at song i);
  pointer = of_played (of_instrument i at.used refl at.is_meant.1);
  is_meant = at.is_meant.2;
}
pointer_from song name IsMeant (InWaveTable r) at = record {
  p = (table_row song Wave r).right;
  pointer = of_wave_row r at.reached (record { table = at.is_meant.0; right = refl; some = at.is_meant.1 });
  is_meant = at.is_meant.2;
}

table_from : (song : Song) (name : TableName) (place : Place) → IsNeededAt song (of_pointers name IsAny) place →
    HasPointer song name
table_from song name place at = (let h = pointer_from song name IsAny place at in
    record { p = h.p; pointer = h.pointer })

-- ---- instruments and the wave table

vibrato_to : (song : Song) → HasFeature song InstrumentVibrato → IsSomewhere song (of_vibrato song)
vibrato_to song (vibrato, delay) = record {
  place = InInstrument vibrato.instrument;
  needed = record { used = vibrato.used; is_meant = (vibrato.some, delay) };
}

vibrato_from : (song : Song) (place : Place) → IsNeededAt song (of_vibrato song) place →
    HasFeature song InstrumentVibrato
vibrato_from song (InOrder s c i) at = absurd at.is_meant
vibrato_from song (InPattern p i) at = absurd at.is_meant
vibrato_from song (InInstrument n) at =
    (record { instrument = n; used = at.used; some = at.is_meant.0 }, at.is_meant.1)
vibrato_from song (InWaveTable p) at = absurd at.is_meant

left_to : (song : Song) → HasWaveCommand song → IsSomewhere song (of_left_sides 0xF0 0xFE)
left_to song h = record {
  place = InWaveTable h.p;
  needed = record { reached = h.reached; is_meant = (h.from, h.to) };
}

left_from : (song : Song) (place : Place) → IsNeededAt song (of_left_sides 0xF0 0xFE) place → HasWaveCommand song
left_from song (InOrder s c i) at = absurd at.is_meant
left_from song (InPattern p i) at = absurd at.is_meant
left_from song (InInstrument n) at = absurd at.is_meant
left_from song (InWaveTable p) at =
    record { p = p; reached = at.reached; from = at.is_meant.0; to = at.is_meant.1 }

-- ---- each feature

somewhere : (song : Song) (feature : Feature) (need : Need) → IsSomewhere song need →
    ((place : Place) → IsNeededAt song need place → NeedsAt song feature place) → IsNeeded song feature
somewhere song feature need h same = record { place = h.place; needs = same h.place h.needed }

pub has_place : (song : Song) (feature : Feature) → HasFeature song feature → IsNeeded song feature
has_place song Transpose h = somewhere song Transpose _ (byte_to song 0xE0 0xFE h) (λ place at. at)
has_place song Repeat h = somewhere song Repeat _ (byte_to song 0xD0 0xDF h) (λ place at. at)
has_place song PortaUp h = somewhere song PortaUp _ (command_to song 1 IsAny h) (λ place at. at)
has_place song PortaDown h = somewhere song PortaDown _ (command_to song 2 IsAny h) (λ place at. at)
has_place song TonePorta h = somewhere song TonePorta _ (command_to song 3 (λ d. d ≢ 0) h) (λ place at. at)
has_place song TieNote h = somewhere song TieNote _ (command_to song 3 (λ d. d ≡ 0) h) (λ place at. at)
has_place song Vibrato h = somewhere song Vibrato _ (command_to song 4 IsAny h) (λ place at. at)
has_place song InstrumentVibrato h = somewhere song InstrumentVibrato _ (vibrato_to song h) (λ place at. at)
has_place song NoteDependent h = somewhere song NoteDependent _
    (pointer_to song Speed (λ p. 0x80 ≤ (speed_row song p).left) h.p h.pointer h.from_note) (λ place at. at)
has_place song SetAd h = somewhere song SetAd _ (command_to song 5 IsAny h) (λ place at. at)
has_place song SetSr h = somewhere song SetSr _ (command_to song 6 IsAny h) (λ place at. at)
has_place song SetWave h = somewhere song SetWave _ (command_to song 7 IsAny h) (λ place at. at)
has_place song SetWavePointer h =
    somewhere song SetWavePointer _ (rows_to song (λ c d. c ≡ 8) h.row h.used h.command_is) (λ place at. at)
has_place song PulseTable h =
    somewhere song PulseTable _ (pointer_to song Pulse IsAny h.p h.pointer tt) (λ place at. at)
has_place song SetPulsePointer h = somewhere song SetPulsePointer _ (command_to song 9 IsAny h) (λ place at. at)
has_place song FilterTable h =
    somewhere song FilterTable _ (pointer_to song Filter IsAny h.p h.pointer tt) (λ place at. at)
has_place song SetFilterPointer h = somewhere song SetFilterPointer _ (command_to song 0xA IsAny h) (λ place at. at)
has_place song FilterControl h = somewhere song FilterControl _ (command_to song 0xB IsAny h) (λ place at. at)
has_place song Cutoff h = somewhere song Cutoff _ (command_to song 0xC IsAny h) (λ place at. at)
has_place song Volume h = somewhere song Volume _ (command_to song 0xD IsAny h) (λ place at. at)
has_place song FunkTempo h = somewhere song FunkTempo _ (funk_to song h) (λ place at. at)
has_place song SetTempo h = somewhere song SetTempo _
    (rows_to song (λ c d. (c ≡ 0xF) × (3 ≤ d % 128)) h.row h.used (h.command_is, h.is_meant)) (λ place at. at)
has_place song WaveTable h =
    somewhere song WaveTable _ (pointer_to song Wave IsAny h.p h.pointer tt) (λ place at. at)
has_place song WaveCommand h = somewhere song WaveCommand _ (left_to song h) (λ place at. at)

pub has_feature : (song : Song) (feature : Feature) (place : Place) → NeedsAt song feature place →
    HasFeature song feature
has_feature song Transpose place at = byte_from song 0xE0 0xFE place at
has_feature song Repeat place at = byte_from song 0xD0 0xDF place at
has_feature song PortaUp place at = command_from song 1 IsAny place at
has_feature song PortaDown place at = command_from song 2 IsAny place at
has_feature song TonePorta place at = command_from song 3 (λ d. d ≢ 0) place at
has_feature song TieNote place at = command_from song 3 (λ d. d ≡ 0) place at
has_feature song Vibrato place at = command_from song 4 IsAny place at
has_feature song InstrumentVibrato place at = vibrato_from song place at
has_feature song NoteDependent place at =
    let h = pointer_from song Speed (λ p. 0x80 ≤ (speed_row song p).left) place at in
    record { p = h.p; pointer = h.pointer; from_note = h.is_meant }
has_feature song SetAd place at = command_from song 5 IsAny place at
has_feature song SetSr place at = command_from song 6 IsAny place at
has_feature song SetWave place at = command_from song 7 IsAny place at
has_feature song SetWavePointer place at =
    let h = rows_from song (λ c d. c ≡ 8) place at in
    record { row = h.row; used = h.used; command_is = h.is_meant; is_meant = tt }
has_feature song PulseTable place at = table_from song Pulse place at
has_feature song SetPulsePointer place at = command_from song 9 IsAny place at
has_feature song FilterTable place at = table_from song Filter place at
has_feature song SetFilterPointer place at = command_from song 0xA IsAny place at
has_feature song FilterControl place at = command_from song 0xB IsAny place at
has_feature song Cutoff place at = command_from song 0xC IsAny place at
has_feature song Volume place at = command_from song 0xD IsAny place at
has_feature song FunkTempo place at =
    funk_from song (rows_from song (λ c d. (c ≡ 0xE) ⊎ ((c ≡ 0xF) × (d ≤ 1))) place at)
has_feature song SetTempo place at =
    let h = rows_from song (λ c d. (c ≡ 0xF) × (3 ≤ d % 128)) place at in
    record { row = h.row; used = h.used; command_is = h.is_meant.0; is_meant = h.is_meant.1 }
has_feature song WaveTable place at = table_from song Wave place at
has_feature song WaveCommand place at = left_from song place at

pub features_are_needed : FeaturesAreNeeded
features_are_needed song feature =
    (λ h. has_place song feature h, λ needed. has_feature song feature needed.place needed.needs)
