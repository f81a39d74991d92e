-- What a song under new numbers uses are the parts of the song that it was made of, under these numbers.
use Rattle.std.specs.Prelude.{◌==◌}
use Rattle.std.proofs.Common.{◌≡◌, ◌≢◌, ℕ, zero, suc, ◌<◌, false, List, [], ◌∷◌, map, length}
use Rattle.std.proofs.Common.{Contains, Some, refl, sym, ◌∙◌, ap, subst, inl, inr, arith}
use Rattle.std.proofs.lemmas.Bool.{cases_lt, cases_Bool, ne_eqb}
use Rattle.song_model.specs.declared.rows.Row.{Row}
use Rattle.song_model.specs.declared.orders.Order.{Order}
use Rattle.song_model.specs.declared.orders.Subtune.{Subtune}
use Rattle.song_model.specs.declared.instruments.Instrument.{Instrument}
use Rattle.song_model.specs.declared.tables.TableName.{TableName}
use Rattle.song_model.specs.declared.tables.TableName.TheVariants.{Wave, Pulse, Filter, Speed}
use Rattle.song_model.specs.declared.songs.Song.{Song}
use Rattle.song_model.specs.Endless.{IsPatternByte}
use Rattle.song_model.specs.LookUp.{IsNumbered, table_of, pattern_at, instrument_at, order_of, playable_subtunes}
use Rattle.song_model.specs.Pointers.{instrument_pointer, command_table}
use Rattle.play_model.specs.LookUps.{look_ups_of}
use Rattle.play_model.specs.Used.{IsChannel, IsPlayedOrder, IsUsedPattern, IsUsedRow, IsUsedInstrument}
use Rattle.play_model.specs.Reached.{IsPlayedPointer, of_instrument, of_row, IsReached, played, pointed, led, IsPointer}
use Rattle.play_model.specs.Reached.{of_played, of_wave_row}
use Rattle.play_model.specs.Playable.{IsPlayable}
use Rattle.same_frames.specs.Maps.{Maps, moved_pointer, named_after, IsRowFor, AreRowsFor, IsInstrumentFor}
use Rattle.same_frames.specs.Agreement.{Agrees}
use Rattle.same_frames.specs.OrderLaws.{moved_byte, moved_order, moved_subtune}
use Rattle.same_frames.proofs.Laws.{IsUnder, StandsForOne, IsImage, image_of, channel_moved, low_byte, high_byte}
use Rattle.same_frames.proofs.Laws.{old_some, wave_pointer_from, led_from}

-- ---- the other song

-- the other song has the parts of a playable one under new numbers
pub record IsMoved (maps : Maps) (song other : Song) : Type 0 where
  pub playable : IsPlayable song
  pub agrees : Agrees maps song (look_ups_of other)
  pub first : maps.instrument 1 ≡ 1
  pub subtunes : playable_subtunes other ≡ map (moved_subtune maps) (playable_subtunes song)
  pub number : (n : ℕ) → IsUsedPattern song n → IsPatternByte (maps.pattern n)
  pub pattern : (n : ℕ) → IsUsedPattern song n → maps.pattern n < length other.patterns
  pub instrument : (i : ℕ) → IsUsedInstrument song i → IsNumbered other.instruments (maps.instrument i)
  pub row : (name : TableName) (p : ℕ) → IsReached song name p → IsNumbered (table_of other name) (maps.row name p)

pub under : (maps : Maps) (song other : Song) → IsMoved maps song other → IsUnder maps song other
under maps song other m = record { playable = m.playable; agrees = m.agrees; row = m.row }

-- ---- orderlists

-- the orderlists of a playable subtune are played
pub channel_played : (song : Song) (subtune : Subtune) (channel : ℕ) → Contains (playable_subtunes song) subtune →
    IsChannel channel → IsPlayedOrder song (order_of channel subtune)
channel_played song subtune channel has is = record {
  subtune = subtune;
  playable = has;
  channel = channel;
  is_channel = is;
  order_is = refl;
}

-- a subtune of the other song that can be played was one of the song
pub subtune_from : (maps : Maps) (song other : Song) → IsMoved maps song other → (subtune : Subtune) →
    Contains (playable_subtunes other) subtune → IsImage (moved_subtune maps) (playable_subtunes song) subtune
subtune_from maps song other m subtune has =
    image_of (moved_subtune maps) (playable_subtunes song) subtune
    (subst (λ (all : List Subtune). Contains all subtune) m.subtunes has)

-- an orderlist that the other song plays was one of the song
pub record IsMovedOrder (maps : Maps) (song : Song) (order : Order) : Type 0 where
  pub from : Order
  pub played : IsPlayedOrder song from
  pub is : moved_order maps from ≡ order

pub order_from : (maps : Maps) (song other : Song) → IsMoved maps song other → (order : Order) →
    IsPlayedOrder other order → IsMovedOrder maps song order
order_from maps song other m order is =
    let image = subtune_from maps song other m is.subtune is.playable in
    record {
      from = order_of is.channel image.from;
      played = record {
        subtune = image.from;
        playable = image.has;
        channel = is.channel;
        is_channel = is.is_channel;
        order_is = refl;
      };
      is = sym (channel_moved maps image.from is.channel) ∙ ap (order_of is.channel) image.is ∙ sym is.order_is;
    }

-- ---- patterns

-- an orderlist names the pattern
abbrev pub NamesPattern : Order → ℕ → Type 0
NamesPattern order n = Contains order.entries n × IsPatternByte n

-- a pattern that an orderlist under new numbers names
named_from : (maps : Maps) (order : Order) (n : ℕ) → Contains (moved_order maps order).entries n →
    IsPatternByte n → StandsForOne maps.pattern (NamesPattern order) n
named_from maps order n entry small =
    let image = image_of (moved_byte maps) order.entries n entry in
    elim (cases_lt image.from 0xD0) [
      | inl low ↦ record {
        old = image.from;
        is_such = (image.has, low);
        new = sym (low_byte maps image.from low) ∙ image.is;
      }
      | inr high ↦ (
          let same : image.from ≡ n = sym (high_byte maps image.from high) ∙ image.is in
          absurd (omega arith))
    ]

-- what it names of a song's orderlist is used
pub named_used : (song : Song) (order : Order) (n : ℕ) → IsPlayedOrder song order → NamesPattern order n →
    IsUsedPattern song n
named_used song order n is_played named = record {
  byte = record { order = order; played = is_played; entry = named.0 };
  is_pattern = named.1;
}

-- what an orderlist under new numbers names stands for a used pattern
abbrev used_from : (maps : Maps) (song : Song) (order : Order) (n : ℕ) → IsPlayedOrder song order →
    StandsForOne maps.pattern (NamesPattern order) n → StandsForOne maps.pattern (IsUsedPattern song) n
used_from maps song order n is_played named = record {
  old = named.old;
  is_such = named_used song order named.old is_played named.is_such;
  new = named.new;
}

pub pattern_from : (maps : Maps) (song other : Song) → IsMoved maps song other → (n : ℕ) → IsUsedPattern other n →
    StandsForOne maps.pattern (IsUsedPattern song) n
pattern_from maps song other m n used =
    let order = order_from maps song other m used.byte.order used.byte.played in
    used_from maps song order.from n order.played
    (named_from maps order.from n
    (subst (λ (o : Order). Contains o.entries n) (sym order.is) used.byte.entry) used.is_pattern)

-- ---- rows

-- a row of a pattern was one of the song's, below rows that name this instrument last
pub record IsMovedRow (maps : Maps) (song : Song) (rows : List Row) (other : Row) : Type 0 where
  pub from : Row
  pub has : Contains rows from
  pub last : ℕ
  pub named : last ≢ 0 → IsUsedInstrument song last
  pub is_for : IsRowFor maps last from other

-- each of these rows is used
UsedRows : Song → List Row → Type 0
UsedRows song rows = (row : Row) → Contains rows row → IsUsedRow song row

still_named : (song : Song) (last : ℕ) (row : Row) → IsUsedRow song row → (last ≢ 0 → IsUsedInstrument song last) →
    named_after last row ≢ 0 → IsUsedInstrument song (named_after last row)
still_named song last row used named = elim (cases_Bool (row.instrument == 0)) [
  | inl none ↦ rw none named
  | inr some ↦ rw some (λ is. inr (record { row = row; used = used; names = refl; some = is }))
]

has_first : {X : Type 0} (x : X) (xs : List X) → Contains (x ∷ xs) x
has_first x xs = (0, omega arith, refl)

has_later : {X : Type 0} (y : X) (xs : List X) (x : X) → Contains xs x → Contains (y ∷ xs) x
has_later y xs x (k, inside, is) = (suc k, omega arith, is)

row_from : (maps : Maps) (song : Song) (last : ℕ) (rows others : List Row) → UsedRows song rows →
    (last ≢ 0 → IsUsedInstrument song last) → AreRowsFor maps last rows others → (other : Row) → Contains others other →
    IsMovedRow maps song rows other
unfolding UsedRows
row_from maps song last [] [] used named are other (k, inside, is) = absurd (omega arith)
row_from maps song last [] (x ∷ others) used named are other has = absurd are
row_from maps song last (row ∷ rows) [] used named are other has = absurd are
row_from maps song last (row ∷ rows) (x ∷ others) used named are other (zero, inside, is) = record {
  from = row;
  has = has_first row rows;
  last = last;
  named = named;
  is_for = subst (IsRowFor maps last row) is are.0;
}
row_from maps song last (row ∷ rows) (x ∷ others) used named are other (suc k, inside, is) =
    let rest = row_from maps song (named_after last row) rows others
    (λ r has. used r (has_later row rows r has))
    (still_named song last row (used row (has_first row rows)) named) are.1 other (k, omega arith, is) in
    record {
      from = rest.from;
      has = has_later row rows rest.from rest.has;
      last = rest.last;
      named = rest.named;
      is_for = rest.is_for;
    }

-- a used row of the other song
pub record IsMovedUsedRow (maps : Maps) (song : Song) (other : Row) : Type 0 where
  pub from : Row
  pub used : IsUsedRow song from
  pub last : ℕ
  pub named : last ≢ 0 → IsUsedInstrument song last
  pub is_for : IsRowFor maps last from other

rows_used : (song : Song) (n : ℕ) → IsUsedPattern song n → UsedRows song (pattern_at song n)
unfolding UsedRows
rows_used song n used row has = record { pattern = n; used = used; has = has }

-- a row of a pattern that stands for a used one
pattern_row_from : (maps : Maps) (song other : Song) → IsMoved maps song other → (n : ℕ) →
    (pattern : StandsForOne maps.pattern (IsUsedPattern song) n) → (row : Row) → Contains (pattern_at other n) row →
    IsMovedRow maps song (pattern_at song pattern.old) row
unfolding UsedRows
pattern_row_from maps song other m n pattern row has =
    row_from maps song 0 (pattern_at song pattern.old) (pattern_at other n)
    (rows_used song pattern.old pattern.is_such) (λ some. absurd (some refl))
    (subst (λ (k : ℕ). AreRowsFor maps 0 (pattern_at song pattern.old) (pattern_at other k)) pattern.new
    (m.agrees.patterns pattern.old pattern.is_such).each) row has

-- a row of a pattern that an orderlist under new numbers names
pub record IsMovedOrderRow (maps : Maps) (song : Song) (order : Order) (other : Row) : Type 0 where
  pub pattern : ℕ
  pub names : NamesPattern order pattern
  pub row : IsMovedRow maps song (pattern_at song pattern) other

pub order_row_from : (maps : Maps) (song other : Song) → IsMoved maps song other → (order : Order) →
    IsPlayedOrder song order → (n : ℕ) → Contains (moved_order maps order).entries n → IsPatternByte n →
    (row : Row) → Contains (pattern_at other n) row → IsMovedOrderRow maps song order row
order_row_from maps song other m order is_played n entry small row has =
    let named = named_from maps order n entry small in
    record {
      pattern = named.old;
      names = named.is_such;
      row = pattern_row_from maps song other m n (used_from maps song order n is_played named) row has;
    }

pub used_row_from : (maps : Maps) (song other : Song) → IsMoved maps song other → (row : Row) → IsUsedRow other row →
    IsMovedUsedRow maps song row
unfolding UsedRows
used_row_from maps song other m row used =
    let pattern = pattern_from maps song other m used.pattern used.used in
    let found = pattern_row_from maps song other m used.pattern pattern row used.has in
    record {
      from = found.from;
      used = rows_used song pattern.old pattern.is_such found.from found.has;
      last = found.last;
      named = found.named;
      is_for = found.is_for;
    }

-- ---- instruments

pub instrument_from : (maps : Maps) (song other : Song) → IsMoved maps song other → (i : ℕ) → IsUsedInstrument other i →
    StandsForOne maps.instrument (IsUsedInstrument song) i
instrument_from maps song other m i (inl first) = record {
  old = 1;
  is_such = inl refl;
  new = m.first ∙ sym first;
}
instrument_from maps song other m i (inr named) =
    let row = used_row_from maps song other m named.row named.used in
    let some : (named.row.instrument == 0) ≡ false =
    ne_eqb named.row.instrument 0 (λ z. named.some (sym named.names ∙ z)) in
    let is : i ≡ maps.instrument (named_after row.last row.from) =
    sym named.names ∙ rw some at row.is_for.instrument in
    record {
      old = named_after row.last row.from;
      is_such = still_named song row.last row.from row.used row.named
          (λ none. named.some (is ∙ ap maps.instrument none ∙ m.agrees.instruments.nothing));
      new = sym is;
    }

-- ---- pointers

pub pointer_moved : (maps : Maps) (name : TableName) (i other : Instrument) → IsInstrumentFor maps i other →
    instrument_pointer name other ≡ maps.row name (instrument_pointer name i)
pointer_moved maps Wave i other is = ap (λ (x : Instrument). x.wave) is.moved
pointer_moved maps Pulse i other is = ap (λ (x : Instrument). x.pulse) is.moved
pointer_moved maps Filter i other is = ap (λ (x : Instrument). x.filter) is.moved
pointer_moved maps Speed i other is = ap (λ (x : Instrument). x.vibrato) is.moved

named_command : (command : ℕ) (name : TableName) → command_table command ≡ Some name → command ≢ 0
named_command command name is none = let e : command_table 0 ≡ Some name = subst
    (λ (c : ℕ). command_table c ≡ Some name) none is in cc

played_from : (maps : Maps) (song other : Song) → IsMoved maps song other → (name : TableName) (p : ℕ) →
    IsPlayedPointer other name p → StandsForOne (maps.row name) (IsPlayedPointer song name) p
played_from maps song other m name p (of_instrument i used is some) =
    let from = instrument_from maps song other m i used in
    let new : maps.row name (instrument_pointer name (instrument_at song from.old)) ≡ p =
    sym (pointer_moved maps name (instrument_at song from.old) (instrument_at other (maps.instrument from.old))
    (m.agrees.instruments.stands_for from.old from.is_such))
    ∙ ap (λ (n : ℕ). instrument_pointer name (instrument_at other n)) from.new ∙ is in
    record {
      old = instrument_pointer name (instrument_at song from.old);
      is_such = of_instrument from.old from.is_such refl
          (old_some maps song other name (under maps song other m) (instrument_pointer name (instrument_at song from.old)) p new some);
      new = new;
    }
played_from maps song other m name p (of_row row used command is some) =
    let from = used_row_from maps song other m row used in
    let table : command_table from.from.command ≡ Some name =
    ap command_table (sym from.is_for.command) ∙ command in
    let new : maps.row name from.from.param ≡ p =
    sym (ap (λ t. moved_pointer maps t from.from.param) table)
    ∙ sym (from.is_for.param (named_command from.from.command name table)) ∙ is in
    record {
      old = from.from.param;
      is_such = of_row from.from from.used table refl (old_some maps song other name (under maps song other m) from.from.param p new some);
      new = new;
    }

-- ---- reached rows

pub reached_from : (maps : Maps) (song other : Song) → IsMoved maps song other → (name : TableName) (p : ℕ) →
    IsReached other name p → StandsForOne (maps.row name) (IsReached song name) p
reached_from maps song other m name p (played pointer) =
    let from = played_from maps song other m name p pointer in
    record { old = from.old; is_such = played from.is_such; new = from.new }
reached_from maps song other m name p (pointed r reached pointer) =
    let at = reached_from maps song other m Wave r reached in
    let from = wave_pointer_from maps song other (under maps song other m) name r p at pointer in
    record { old = from.old; is_such = pointed at.old at.is_such from.is_such; new = from.new }
reached_from maps song other m name p (led r reached goes) =
    led_from maps song other (under maps song other m) name r p (reached_from maps song other m name r reached) goes

pub pointer_from : (maps : Maps) (song other : Song) → IsMoved maps song other → (name : TableName) (p : ℕ) →
    IsPointer other name p → StandsForOne (maps.row name) (IsPointer song name) p
pointer_from maps song other m name p (of_played pointer) =
    let from = played_from maps song other m name p pointer in
    record { old = from.old; is_such = of_played from.is_such; new = from.new }
pointer_from maps song other m name p (of_wave_row r reached pointer) =
    let at = reached_from maps song other m Wave r reached in
    let from = wave_pointer_from maps song other (under maps song other m) name r p at pointer in
    record { old = from.old; is_such = of_wave_row at.old at.is_such from.is_such; new = from.new }
