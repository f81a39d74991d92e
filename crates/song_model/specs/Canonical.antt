-- The canonical spelling of a song in the format GTS5 of the GoatTracker 2 readme: no byte that a
-- reader ignores, and each end row is FF 00 00 00.
use Rattle.std.specs.Prelude.{ℕ, ◌+◌, List, [], ◌∷◌, ◌++◌, map, length, codes}
use Rattle.std.specs.List.{flat_map}
use Rattle.song_model.specs.declared.rows.Row.{Row}
use Rattle.song_model.specs.declared.orders.Order.{Order}
use Rattle.song_model.specs.declared.orders.Subtune.{Subtune}
use Rattle.song_model.specs.declared.instruments.Instrument.{Instrument}
use Rattle.song_model.specs.declared.tables.TableRow.{TableRow}
use Rattle.song_model.specs.declared.songs.Song.{Song}

-- the entries and the endmark are counted, the restart position isn't
abbrev pub order_text : Order → List ℕ
order_text order = (length order.entries + 1) ∷ (order.entries ++ 0xFF ∷ order.restart ∷ [])

abbrev pub subtune_text : Subtune → List ℕ
subtune_text subtune = order_text subtune.one ++ order_text subtune.two ++ order_text subtune.three

abbrev pub subtunes_text : List Subtune → List ℕ
subtunes_text subtunes = length subtunes ∷ flat_map subtune_text subtunes

abbrev pub instrument_text : Instrument → List ℕ
instrument_text i =
    i.ad ∷ i.sr ∷ i.wave ∷ i.pulse ∷ i.filter ∷ i.vibrato ∷ i.vibrato_delay ∷ i.gate_timer
    ∷ i.first_wave ∷ i.name

abbrev pub instruments_text : List Instrument → List ℕ
instruments_text instruments = length instruments ∷ flat_map instrument_text instruments

-- all left sides stand before all right sides
abbrev pub table_text : List TableRow → List ℕ
table_text rows = length rows ∷ (map (λ row. row.left) rows ++ map (λ row. row.right) rows)

abbrev pub row_text : Row → List ℕ
row_text row = row.note ∷ row.instrument ∷ row.command ∷ row.param ∷ []

abbrev pub end_row_text : List ℕ
end_row_text = 0xFF ∷ 0 ∷ 0 ∷ 0 ∷ []

-- the end row is counted
abbrev pub pattern_text : List Row → List ℕ
pattern_text rows = (length rows + 1) ∷ (flat_map row_text rows ++ end_row_text)

abbrev pub patterns_text : List (List Row) → List ℕ
patterns_text patterns = length patterns ∷ flat_map pattern_text patterns

abbrev pub texts_text : Song → List ℕ
texts_text song = song.name ++ song.author ++ song.copyright

abbrev pub tables_text : Song → List ℕ
tables_text song =
    table_text song.wave ++ table_text song.pulse ++ table_text song.filter ++ table_text song.speed

unfoldable pub canonical : Song → List ℕ
canonical song = codes "GTS5" ++ texts_text song ++ subtunes_text song.subtunes
    ++ instruments_text song.instruments ++ tables_text song ++ patterns_text song.patterns
