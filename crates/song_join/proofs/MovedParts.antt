-- A song whose patterns and instruments another song has under new numbers, and what these name and point at.
use Rattle.std.proofs.Common.{◌≡◌, ◌≢◌, ℕ, ◌<◌, List, map, length, Contains, refl, sym, ◌∙◌, ap}
use Rattle.std.proofs.Common.{subst, inr}
use Rattle.std.specs.Prelude.{Some}
use Rattle.song_model.specs.declared.rows.Row.{Row}
use Rattle.song_model.specs.declared.instruments.Instrument.{Instrument}
use Rattle.song_model.specs.declared.tables.TableName.{TableName}
use Rattle.song_model.specs.declared.tables.TableName.TheVariants.{Wave, Pulse, Filter, Speed}
use Rattle.song_model.specs.declared.songs.Song.{Song}
use Rattle.song_model.specs.Endless.{IsPatternByte}
use Rattle.song_model.specs.LookUp.{pattern_at, instrument_at}
use Rattle.song_model.specs.Pointers.{instrument_pointer, command_table}
use Rattle.play_model.specs.Used.{IsUsedPattern, IsUsedRow, IsUsedInstrument}
use Rattle.play_model.specs.Reached.{IsPlayedPointer, of_instrument, of_row}
use Rattle.same_frames.specs.Maps.{Maps, moved_pointer, moved_instrument}
use Rattle.same_frames.proofs.Laws.{IsUnder, StandsForOne, image_of, old_some}
use Rattle.song_join.specs.Joined.{moved_pattern_row}

-- the other song has these parts of a playable song
pub record IsPart (maps : Maps) (song other : Song) : Type 0 where
  pub under : IsUnder maps song other
  pub number : (n : ℕ) → IsUsedPattern song n → IsPatternByte (maps.pattern n)
  pub pattern : (n : ℕ) → IsUsedPattern song n → maps.pattern n < length other.patterns
  pub rows : (n : ℕ) → IsUsedPattern song n →
      pattern_at other (maps.pattern n) ≡ map (moved_pattern_row maps) (pattern_at song n)
  pub instrument : (i : ℕ) → IsUsedInstrument song i →
      instrument_at other (maps.instrument i) ≡ moved_instrument maps (instrument_at song i)

-- ---- rows

-- a used row of the other song was one of the song's
pub record IsMovedRow (maps : Maps) (song : Song) (row : Row) : Type 0 where
  pub from : Row
  pub used : IsUsedRow song from
  pub is : moved_pattern_row maps from ≡ row

pub row_from : (maps : Maps) (song other : Song) → IsPart maps song other → (n : ℕ) →
    StandsForOne maps.pattern (IsUsedPattern song) n → (row : Row) → Contains (pattern_at other n) row →
    IsMovedRow maps song row
row_from maps song other m n from row has =
    let rows = ap (pattern_at other) (sym from.new) ∙ m.rows from.old from.is_such in
    let image =
    image_of (moved_pattern_row maps) (pattern_at song from.old) row
    (subst (λ (rs : List Row). Contains rs row) rows has) in
    record {
      from = image.from;
      used = record { pattern = from.old; used = from.is_such; has = image.has };
      is = image.is;
    }

-- ---- instruments

pub instrument_from : (maps : Maps) (song other : Song) → IsPart maps song other → (i : ℕ) (row : Row) →
    row.instrument ≡ i → i ≢ 0 → IsMovedRow maps song row → StandsForOne maps.instrument (IsUsedInstrument song) i
instrument_from maps song other m i row names some from =
    let is : maps.instrument from.from.instrument ≡ i =
    ap (λ (r : Row). r.instrument) from.is ∙ names in
    record {
      old = from.from.instrument;
      is_such = inr (record {
        row = from.from;
        used = from.used;
        names = refl;
        some = λ none. some (sym is ∙ ap maps.instrument none ∙ m.under.agrees.instruments.nothing);
      });
      new = is;
    }

-- ---- pointers

pointer_moved : (maps : Maps) (name : TableName) (i : Instrument) →
    instrument_pointer name (moved_instrument maps i) ≡ maps.row name (instrument_pointer name i)
pointer_moved maps Wave i = refl
pointer_moved maps Pulse i = refl
pointer_moved maps Filter i = refl
pointer_moved maps Speed i = refl

pub from_instrument : (maps : Maps) (song other : Song) → IsPart maps song other → (name : TableName) (i p : ℕ) →
    StandsForOne maps.instrument (IsUsedInstrument song) i → instrument_pointer name (instrument_at other i) ≡ p →
    p ≢ 0 → StandsForOne (maps.row name) (IsPlayedPointer song name) p
from_instrument maps song other m name i p from is some =
    let old = instrument_pointer name (instrument_at song from.old) in
    let new : maps.row name old ≡ p =
    sym (pointer_moved maps name (instrument_at song from.old))
    ∙ ap (instrument_pointer name) (sym (m.instrument from.old from.is_such))
    ∙ ap (λ (n : ℕ). instrument_pointer name (instrument_at other n)) from.new ∙ is in
    record {
      old = old;
      is_such = of_instrument from.old from.is_such refl (old_some maps song other name m.under old p new some);
      new = new;
    }

pub from_row : (maps : Maps) (song other : Song) → IsPart maps song other → (name : TableName) (p : ℕ) (row : Row) →
    IsMovedRow maps song row → command_table row.command ≡ Some name → row.param ≡ p → p ≢ 0 →
    StandsForOne (maps.row name) (IsPlayedPointer song name) p
from_row maps song other m name p row from command is some =
    let table : command_table from.from.command ≡ Some name =
    ap (λ (r : Row). command_table r.command) from.is ∙ command in
    let new : maps.row name from.from.param ≡ p =
    sym (ap (λ t. moved_pointer maps t from.from.param) table)
    ∙ ap (λ (r : Row). r.param) from.is ∙ is in
    record {
      old = from.from.param;
      is_such = of_row from.from from.used table refl (old_some maps song other name m.under from.from.param p new some);
      new = new;
    }
