-- Small songs that add no row, and others that do.
use Rattle.std.proofs.Common.{◌≡◌, ◌≢◌, ℕ, zero, suc, ◌≤◌, ◌<◌, List, [], ◌∷◌, Contains, refl, sym, ap}
use Rattle.std.proofs.Common.{subst, lit<, lit≤, arith}
use Rattle.std.specs.Prelude.{slice_index_or}
use Rattle.std.specs.List.{AllByRecursion}
use Rattle.std.proofs.lemmas.List.Elements.{All-contains, All-from_recursion}
use Rattle.song_model.specs.declared.rows.Row.{Row}
use Rattle.song_model.specs.declared.orders.Order.{Order}
use Rattle.song_model.specs.declared.orders.Subtune.{Subtune}
use Rattle.song_model.specs.declared.instruments.Instrument.{Instrument}
use Rattle.song_model.specs.declared.tables.TableName.{TableName}
use Rattle.song_model.specs.declared.tables.TableName.TheVariants.{Wave, Pulse, Filter, Speed}
use Rattle.song_model.specs.declared.songs.Song.{Song}
use Rattle.song_model.specs.LookUp.{zero_instrument, with_table, pattern_at, order_of, playable_subtunes}
use Rattle.song_model.specs.Silence.{rest_row}
use Rattle.play_model.specs.Used.{IsChannel}
use Rattle.play_model.specs.WorkedSongs.{order, subtune, row, sides}
use Rattle.same_uses.specs.SameUses.{NamesRow, NamesNoMore, HasSubtuneFor, AddsNoRow}
use Rattle.same_uses.specs.WorkedUses.{voice_one, note, keyoff, whole_subtune, whole_song, in_pieces}
use Rattle.same_uses.specs.WorkedUses.{cut_entries, cut_song, RowsAreAdded, PartsAreOthers, UsesAreWorked}

-- ---- what an orderlist names

-- what holds of each item holds of one that the list has
each : {X : Type 0} (P : X → Type 0) (xs : List X) (x : X) → AllByRecursion P xs → Contains xs x → P x
each P xs x all has = All-contains P xs x (All-from_recursion P xs all) has

-- each row of a pattern that one of these bytes names is such
AreNamed : Song → List ℕ → (Row → Type 0) → Type 0
AreNamed song entries IsSuch = AllByRecursion (λ n. AllByRecursion IsSuch (pattern_at song n)) entries

each_row : (song : Song) (entries : List ℕ) (IsSuch : Row → Type 0) (r : Row) → AreNamed song entries IsSuch →
    NamesRow song (order entries) r → IsSuch r
unfolding AreNamed
each_row song entries IsSuch r all names =
    each IsSuch (pattern_at song names.pattern) r
    (each (λ n. AllByRecursion IsSuch (pattern_at song n)) entries names.pattern all names.entry) names.has

named : (song : Song) (entries : List ℕ) (pattern : ℕ) (r : Row) → Contains entries pattern → pattern < 0xD0 →
    Contains (pattern_at song pattern) r → NamesRow song (order entries) r
named song entries pattern r entry low has =
    record { pattern = pattern; entry = entry; is_pattern = low; has = has }

no_more : (song other : Song) (entries beyond : List ℕ) →
    AllByRecursion (λ byte. 0xD0 ≤ byte → Contains entries byte) beyond →
    AreNamed other beyond (NamesRow song (order entries)) → NamesNoMore song other (order entries) (order beyond)
no_more song other entries beyond bytes rows = record {
  byte = λ byte high has. each (λ n. 0xD0 ≤ n → Contains entries n) beyond byte bytes has high;
  row = λ r names. each_row other beyond (NamesRow song (order entries)) r rows names;
}

-- ---- the song that is cut

cut_adds_none : AddsNoRow whole_song cut_song
unfolding AreNamed pattern_at
cut_adds_none = record {
  instruments = refl;
  tables = λ name. refl;
  count = refl;
  subtunes = λ beyond has.
      each (HasSubtuneFor whole_song cut_song) (voice_one cut_entries ∷ []) beyond
      (record { subtune = whole_subtune; playable = (0, lit< tt, refl); order = channels }, tt) has;
}
  where
    whole : (r : Row) → Contains (note ∷ keyoff ∷ []) r → NamesRow whole_song whole_subtune.one r
    whole r has = named whole_song (0xF1 ∷ 0 ∷ []) 0 r (1, lit< tt, refl) (lit< tt) has

    rests : NamesNoMore whole_song cut_song (order (1 ∷ [])) (order (1 ∷ []))
    rests =
        no_more whole_song cut_song (1 ∷ []) (1 ∷ []) (λ high. absurd (omega (arith, high)), tt)
        ((named whole_song (1 ∷ []) 1 rest_row (0, lit< tt, refl) (lit< tt) (0, lit< tt, refl), tt), tt)

    channels : (channel : ℕ) → IsChannel channel →
        NamesNoMore whole_song cut_song (order_of channel whole_subtune) (order_of channel (voice_one cut_entries))
    channels zero is = absurd (let low = is.first in omega arith)
    channels (suc zero) is =
        no_more whole_song cut_song (0xF1 ∷ 0 ∷ []) cut_entries
        (λ high. (0, lit< tt, refl), (λ high. (1, lit< tt, refl), (λ high. absurd (omega (arith, high)), tt)))
        (tt, ((whole note (0, lit< tt, refl), tt), ((whole keyoff (1, lit< tt, refl), tt), tt)))
    channels (suc (suc zero)) is = rests
    channels (suc (suc (suc zero))) is = rests
    channels (suc (suc (suc (suc k)))) is = absurd (let high = is.last in omega arith)

-- ---- songs that add a row

-- what the whole song's orderlists name, where one of another song adds nothing to it
whole_names : (other : Song) (beyond : Subtune) (channel : ℕ) → IsChannel channel →
    Contains (playable_subtunes other) beyond → AddsNoRow whole_song other →
    NamesNoMore whole_song other (order_of channel whole_subtune) (order_of channel beyond)
whole_names other beyond channel is has adds =
    let from = adds.subtunes beyond has in
    subst (λ (s : Subtune). NamesNoMore whole_song other (order_of channel s) (order_of channel beyond))
    (each (λ s. s ≡ whole_subtune) (whole_subtune ∷ []) from.subtune (refl, tt) from.playable) (from.order channel is)

other_byte : (byte : ℕ) → 0xD0 ≤ byte → byte ≢ 0xF1 →
    ¬ AddsNoRow whole_song (in_pieces (byte ∷ 0 ∷ 2 ∷ []) keyoff)
other_byte byte high differs adds =
    each (λ n. n ≢ byte) (0xF1 ∷ 0 ∷ []) byte (λ e. differs (sym e), (λ e. omega (arith, e, high), tt))
    ((whole_names (in_pieces (byte ∷ 0 ∷ 2 ∷ []) keyoff) (voice_one (byte ∷ 0 ∷ 2 ∷ [])) 1
    (record { first = lit≤ tt; last = lit≤ tt }) (0, lit< tt, refl) adds).byte byte high (0, lit< tt, refl)) refl

-- a row with another note than those that the whole song has in this channel
other_row : (other : Song) (beyond : Subtune) (channel : ℕ) (r : Row) (entries : List ℕ) → IsChannel channel →
    Contains (playable_subtunes other) beyond → order_of channel whole_subtune ≡ order entries →
    AreNamed whole_song entries (λ x. x.note ≢ r.note) → NamesRow other (order_of channel beyond) r →
    ¬ AddsNoRow whole_song other
other_row other beyond channel r entries is has same differ names adds =
    each_row whole_song entries (λ x. x.note ≢ r.note) r differ
    (subst (λ (o : Order). NamesRow whole_song o r) same
    ((whole_names other beyond channel is has adds).row r names)) refl

rows_are_added : RowsAreAdded
unfolding AreNamed pattern_at
rows_are_added = record {
  row = other_row _ (voice_one cut_entries) 1 (row 0xBF 0 0 0) (0xF1 ∷ 0 ∷ [])
      (record { first = lit≤ tt; last = lit≤ tt }) (0, lit< tt, refl) refl
      (tt, ((λ e. omega (arith, e), (λ e. omega (arith, e), tt)), tt))
      (named _ cut_entries 2 _ (2, lit< tt, refl) (lit< tt) (0, lit< tt, refl));
  transpose = other_byte 0xF2 (lit≤ tt) (λ e. omega (arith, e));
  repeat = other_byte 0xD0 (lit≤ tt) (λ e. omega (arith, e));
  second = other_row _ (subtune (0 ∷ []) (0 ∷ []) (1 ∷ [])) 2 note (1 ∷ [])
      (record { first = lit≤ tt; last = lit≤ tt }) (0, lit< tt, refl) refl ((λ e. omega (arith, e), tt), tt)
      (named _ (0 ∷ []) 0 _ (0, lit< tt, refl) (lit< tt) (0, lit< tt, refl));
  third = other_row _ (subtune (0 ∷ []) (1 ∷ []) (0 ∷ [])) 3 note (1 ∷ [])
      (record { first = lit≤ tt; last = lit≤ tt }) (0, lit< tt, refl) refl ((λ e. omega (arith, e), tt), tt)
      (named _ (0 ∷ []) 0 _ (0, lit< tt, refl) (lit< tt) (0, lit< tt, refl));
}

-- ---- songs with other parts

parts_are_others : PartsAreOthers
parts_are_others = record {
  instruments = λ adds.
      let e : 0 ≡ 1 = ap (λ (all : List Instrument). (slice_index_or all 0 zero_instrument).pulse) adds.instruments in
      omega arith;
  tables = other_table;
  more = λ adds. let count = adds.count in omega (arith, count);
  fewer = λ adds. let count = adds.count in omega (arith, count);
}
  where
    other_table : (name : TableName) → ¬ AddsNoRow whole_song (with_table cut_song name (sides 1 0 ∷ []))
    other_table Wave adds = cc (adds.tables Wave)
    other_table Pulse adds = cc (adds.tables Pulse)
    other_table Filter adds = cc (adds.tables Filter)
    other_table Speed adds = cc (adds.tables Speed)

pub uses_are_worked : UsesAreWorked
uses_are_worked = record { cut = cut_adds_none; rows = rows_are_added; parts = parts_are_others }
