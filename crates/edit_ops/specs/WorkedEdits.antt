-- Edits that are done, at the edges of what there is, of each limit and of each range, worked out by hand.
use Rattle.std.specs.Prelude.{ℕ, List, [], ◌∷◌, ◌++◌, replicate}
use Rattle.song_model.specs.declared.instruments.Instrument.{Instrument}
use Rattle.song_model.specs.declared.orders.Subtune.{Subtune}
use Rattle.song_model.specs.declared.songs.Song.{Song}
use Rattle.song_model.specs.LookUp.{zero_instrument, void_subtune}
use Rattle.song_model.specs.Silence.{empty_song, rest_row}
use Rattle.edit_ops.specs.declared.edits.Edit.TheVariants.{SetRow, InsertRow, DeleteRow, SetLength, CopyPattern}
use Rattle.edit_ops.specs.declared.edits.Edit.TheVariants.{TransposePattern, SetOrder, InsertOrder, DeleteOrder}
use Rattle.edit_ops.specs.declared.edits.Edit.TheVariants.{SetRestart, SetInstrument, SetInstrumentName, SetTable}
use Rattle.edit_ops.specs.declared.edits.Edit.TheVariants.{InsertTable, DeleteTable, SetText, AddSubtune, RemoveSubtune}
use Rattle.edit_ops.specs.declared.edits.Edit.TheVariants.{SetPatternCount}
use Rattle.edit_ops.specs.WorkedSongs.{Make, sides, note_row, row_of, order_with, pattern_song, notes_song, order_song}
use Rattle.edit_ops.specs.WorkedSongs.{instruments_song, tables_song, small_song}

-- ---- patterns

-- the least and the greatest of each range; the end of the notes, rest, keyoff and keyon
abbrev pub SetsRows : Type 0
SetsRows = Make (notes_song (0x61 ∷ 0x62 ∷ [])) (
    (SetRow 0 0 (row_of 0x60 0 0 0), pattern_song (row_of 0x60 0 0 0 ∷ note_row 0x62 ∷ []))
    ∷ (SetRow 0 1 (row_of 0xBF 0x3F 0x0F 0xFF), pattern_song (note_row 0x61 ∷ row_of 0xBF 0x3F 0x0F 0xFF ∷ []))
    ∷ (SetRow 0 1 (note_row 0xBC), notes_song (0x61 ∷ 0xBC ∷ []))
    ∷ (SetRow 0 1 (note_row 0xBD), notes_song (0x61 ∷ 0xBD ∷ []))
    ∷ (SetRow 0 1 (note_row 0xBE), notes_song (0x61 ∷ 0xBE ∷ []))
    ∷ []
    )

-- before the first row, before the second, and behind the last
abbrev pub InsertsRows : Type 0
InsertsRows = Make (notes_song (0x61 ∷ 0x62 ∷ [])) (
    (InsertRow 0 0 (note_row 0x70), notes_song (0x70 ∷ 0x61 ∷ 0x62 ∷ []))
    ∷ (InsertRow 0 1 (note_row 0x70), notes_song (0x61 ∷ 0x70 ∷ 0x62 ∷ []))
    ∷ (InsertRow 0 2 (note_row 0x70), notes_song (0x61 ∷ 0x62 ∷ 0x70 ∷ []))
    ∷ (
      InsertRow 0 2 (row_of 0xBF 0x3F 0x0F 0xFF),
      pattern_song (note_row 0x61 ∷ note_row 0x62
          ∷ row_of 0xBF 0x3F 0x0F 0xFF ∷ []),
    )
    ∷ []
    )

-- the 128th row of a pattern
abbrev pub FillsPatterns : Type 0
FillsPatterns = Make (pattern_song (replicate 127 rest_row)) (
    (InsertRow 0 0 (note_row 0x70), pattern_song (note_row 0x70 ∷ replicate 127 rest_row))
    ∷ (InsertRow 0 127 (note_row 0x70), pattern_song (replicate 127 rest_row ++ note_row 0x70 ∷ []))
    ∷ []
    )

abbrev pub DeletesRows : Type 0
DeletesRows =
    Make (notes_song (0x61 ∷ 0x62 ∷ 0x63 ∷ [])) (
    (DeleteRow 0 0, notes_song (0x62 ∷ 0x63 ∷ []))
    ∷ (DeleteRow 0 1, notes_song (0x61 ∷ 0x63 ∷ []))
    ∷ (DeleteRow 0 2, notes_song (0x61 ∷ 0x62 ∷ []))
    ∷ []
    )
    × Make (notes_song (0x61 ∷ 0x62 ∷ [])) (
    (DeleteRow 0 0, notes_song (0x62 ∷ []))
    ∷ (DeleteRow 0 1, notes_song (0x61 ∷ []))
    ∷ []
    )

-- cut to one row, as it was, and with rests up to 128 rows
abbrev pub SetsLengths : Type 0
SetsLengths = Make (notes_song (0x61 ∷ 0x62 ∷ [])) (
    (SetLength 0 1, notes_song (0x61 ∷ []))
    ∷ (SetLength 0 2, notes_song (0x61 ∷ 0x62 ∷ []))
    ∷ (SetLength 0 3, pattern_song (note_row 0x61 ∷ note_row 0x62 ∷ rest_row ∷ []))
    ∷ (SetLength 0 128, pattern_song (note_row 0x61 ∷ note_row 0x62 ∷ replicate 126 rest_row))
    ∷ []
    )

-- the other pattern stays as it is
abbrev pub EditsOnePattern : Type 0
EditsOnePattern = Make small_song ((
  CopyPattern 0 1,
  record small_song {
    patterns = (note_row 0x60 ∷ rest_row ∷ []) ∷ (note_row 0x60 ∷ rest_row ∷ []) ∷ [];
  },
)
    ∷ (CopyPattern 1 0, record small_song { patterns = (note_row 0xBC ∷ []) ∷ (note_row 0xBC ∷ []) ∷ [] })
    ∷ (CopyPattern 1 1, small_song)
    ∷ (
      SetRow 1 0 (note_row 0x70),
      record small_song {
        patterns = (note_row 0x60 ∷ rest_row ∷ []) ∷ (note_row 0x70 ∷ []) ∷ [];
      },
    )
    ∷ (
      InsertRow 1 1 (note_row 0x70),
      record small_song {
        patterns = (note_row 0x60 ∷ rest_row ∷ []) ∷ (note_row 0xBC ∷ note_row 0x70 ∷ []) ∷ [];
      },
    )
    ∷ (DeleteRow 0 1, record small_song { patterns = (note_row 0x60 ∷ []) ∷ (note_row 0xBC ∷ []) ∷ [] })
    ∷ (
      SetLength 1 2,
      record small_song {
        patterns = (note_row 0x60 ∷ rest_row ∷ []) ∷ (note_row 0xBC ∷ rest_row ∷ []) ∷ [];
      },
    )
    ∷ []
    )

-- from $60 up by $5C to $BC, and by nothing; from $BC down by $5C, which is $A4, to $60
abbrev pub TransposesToTheEnds : Type 0
TransposesToTheEnds = Make small_song ((
  TransposePattern 0 0x5C,
  record small_song {
    patterns = (note_row 0xBC ∷ rest_row ∷ []) ∷ (note_row 0xBC ∷ []) ∷ [];
  },
)
    ∷ (TransposePattern 0 0, small_song)
    ∷ (
      TransposePattern 1 0xA4,
      record small_song {
        patterns = (note_row 0x60 ∷ rest_row ∷ []) ∷ (note_row 0x60 ∷ []) ∷ [];
      },
    )
    ∷ []
    )

-- $FE is two half tones down. Rests, keyoff and keyon stay, and without a note any number may be added.
abbrev pub TransposesNotesAlone : Type 0
TransposesNotesAlone =
    Make (notes_song (0x62 ∷ 0xBD ∷ 0xBE ∷ 0xBF ∷ 0xBC ∷ []))
    ((TransposePattern 0 0xFE, notes_song (0x60 ∷ 0xBD ∷ 0xBE ∷ 0xBF ∷ 0xBA ∷ [])) ∷ [])
    × Make (notes_song (0xBD ∷ 0xBE ∷ 0xBF ∷ [])) (
    (TransposePattern 0 0x7F, notes_song (0xBD ∷ 0xBE ∷ 0xBF ∷ []))
    ∷ (TransposePattern 0 0x80, notes_song (0xBD ∷ 0xBE ∷ 0xBF ∷ []))
    ∷ []
    )

-- ---- orderlists

-- each byte but the endmark; the restart position may be any
abbrev pub EditsOrders : Type 0
EditsOrders = Make (order_song (order_with (1 ∷ 2 ∷ []) 1)) (
    (SetOrder 2 2 0 0xFE, order_song (order_with (0xFE ∷ 2 ∷ []) 1))
    ∷ (SetOrder 2 2 1 0, order_song (order_with (1 ∷ 0 ∷ []) 1))
    ∷ (InsertOrder 2 2 0 0xFE, order_song (order_with (0xFE ∷ 1 ∷ 2 ∷ []) 1))
    ∷ (InsertOrder 2 2 1 7, order_song (order_with (1 ∷ 7 ∷ 2 ∷ []) 1))
    ∷ (InsertOrder 2 2 2 0, order_song (order_with (1 ∷ 2 ∷ 0 ∷ []) 1))
    ∷ (DeleteOrder 2 2 0, order_song (order_with (2 ∷ []) 1))
    ∷ (DeleteOrder 2 2 1, order_song (order_with (1 ∷ []) 1))
    ∷ (SetRestart 2 2 0, order_song (order_with (1 ∷ 2 ∷ []) 0))
    ∷ (SetRestart 2 2 255, order_song (order_with (1 ∷ 2 ∷ []) 255))
    ∷ []
    )

-- the last entry of an orderlist may go, and one may come into an empty one
abbrev pub EmptiesOrders : Type 0
EmptiesOrders =
    Make (order_song (order_with (7 ∷ []) 3)) ((DeleteOrder 2 2 0, order_song (order_with [] 3)) ∷ [])
    × Make (order_song (order_with [] 3)) ((InsertOrder 2 2 0 7, order_song (order_with (7 ∷ []) 3)) ∷ [])

-- the 254th entry of an orderlist
abbrev pub FillsOrders : Type 0
FillsOrders = Make (order_song (order_with (replicate 253 7) 1)) (
    (InsertOrder 2 2 0 5, order_song (order_with (5 ∷ replicate 253 7) 1))
    ∷ (InsertOrder 2 2 253 5, order_song (order_with (replicate 253 7 ++ 5 ∷ []) 1))
    ∷ []
    )

-- a song of one subtune, with these orderlists
abbrev pub three_orders : List ℕ → List ℕ → List ℕ → Song
three_orders one two three = record empty_song {
  subtunes = record { one = order_with one 0; two = order_with two 0; three = order_with three 0 } ∷ [];
}

-- channels 1, 2 and 3
abbrev pub EditsOneChannel : Type 0
EditsOneChannel = Make (three_orders (1 ∷ []) (2 ∷ []) (3 ∷ [])) (
    (SetOrder 1 1 0 7, three_orders (7 ∷ []) (2 ∷ []) (3 ∷ []))
    ∷ (SetOrder 1 2 0 7, three_orders (1 ∷ []) (7 ∷ []) (3 ∷ []))
    ∷ (SetOrder 1 3 0 7, three_orders (1 ∷ []) (2 ∷ []) (7 ∷ []))
    ∷ (InsertOrder 1 1 0 7, three_orders (7 ∷ 1 ∷ []) (2 ∷ []) (3 ∷ []))
    ∷ (InsertOrder 1 3 1 7, three_orders (1 ∷ []) (2 ∷ []) (3 ∷ 7 ∷ []))
    ∷ (DeleteOrder 1 1 0, three_orders [] (2 ∷ []) (3 ∷ []))
    ∷ (DeleteOrder 1 3 0, three_orders (1 ∷ []) (2 ∷ []) [])
    ∷ []
    )

-- a subtune with this entry on channel 1
abbrev pub tune : ℕ → Subtune
tune entry = record void_subtune { one = order_with (entry ∷ []) 0 }

abbrev pub tunes_song : List Subtune → Song
tunes_song subtunes = record empty_song { subtunes = subtunes }

-- one of three empty orderlists comes last, up to the 32nd
abbrev pub AddsSubtunes : Type 0
AddsSubtunes =
    Make empty_song ((AddSubtune, tunes_song (void_subtune ∷ [])) ∷ [])
    × Make (tunes_song (replicate 31 (tune 5))) ((AddSubtune, tunes_song (replicate 31 (tune 5) ++ void_subtune ∷ [])) ∷ [])

-- the first, one in the middle, the last; and the only one
abbrev pub RemovesSubtunes : Type 0
RemovesSubtunes =
    Make (tunes_song (tune 1 ∷ tune 2 ∷ tune 3 ∷ [])) (
    (RemoveSubtune 1, tunes_song (tune 2 ∷ tune 3 ∷ []))
    ∷ (RemoveSubtune 2, tunes_song (tune 1 ∷ tune 3 ∷ []))
    ∷ (RemoveSubtune 3, tunes_song (tune 1 ∷ tune 2 ∷ []))
    ∷ []
    )
    × Make (tunes_song (tune 1 ∷ [])) ((RemoveSubtune 1, empty_song) ∷ [])

-- ---- instruments

-- with another value in each field
abbrev pub full_instrument : Instrument
full_instrument = record {
  ad = 0x10;
  sr = 0x11;
  wave = 0x12;
  pulse = 0x13;
  filter = 0x14;
  vibrato = 0x15;
  vibrato_delay = 0x16;
  gate_timer = 0x17;
  first_wave = 0x18;
  name = replicate 16 0x41;
}

-- this one as the second of three
abbrev pub second : Instrument → Song
second instrument = instruments_song (full_instrument ∷ instrument ∷ full_instrument ∷ [])

-- the fields from 0 to 8, and the name
abbrev pub SetsFields : Type 0
SetsFields = Make (second full_instrument) (
    (SetInstrument 2 0 0xFF, second (record full_instrument { ad = 0xFF }))
    ∷ (SetInstrument 2 1 0xFF, second (record full_instrument { sr = 0xFF }))
    ∷ (SetInstrument 2 2 0xFF, second (record full_instrument { wave = 0xFF }))
    ∷ (SetInstrument 2 3 0xFF, second (record full_instrument { pulse = 0xFF }))
    ∷ (SetInstrument 2 4 0xFF, second (record full_instrument { filter = 0xFF }))
    ∷ (SetInstrument 2 5 0xFF, second (record full_instrument { vibrato = 0xFF }))
    ∷ (SetInstrument 2 6 0xFF, second (record full_instrument { vibrato_delay = 0xFF }))
    ∷ (SetInstrument 2 7 0xFF, second (record full_instrument { gate_timer = 0xFF }))
    ∷ (SetInstrument 2 8 0xFF, second (record full_instrument { first_wave = 0xFF }))
    ∷ (SetInstrumentName 2 (replicate 16 0xFF), second (record full_instrument { name = replicate 16 0xFF }))
    ∷ []
    )

-- the first and the last that are stored; the next, and the one behind that, with a zero one below it
abbrev pub StoresInstruments : Type 0
StoresInstruments = Make (instruments_song (full_instrument ∷ full_instrument ∷ [])) (
    (SetInstrument 1 0 0, instruments_song (record full_instrument { ad = 0 } ∷ full_instrument ∷ []))
    ∷ (SetInstrument 2 0 0, instruments_song (full_instrument ∷ record full_instrument { ad = 0 } ∷ []))
    ∷ (SetInstrument 3 0 9, instruments_song (full_instrument ∷ full_instrument ∷ record zero_instrument { ad = 9 } ∷ []))
    ∷ (
      SetInstrument 4 8 9,
      instruments_song
          (full_instrument ∷ full_instrument ∷ zero_instrument ∷ record zero_instrument { first_wave = 9 } ∷ []),
    )
    ∷ (
      SetInstrumentName 4 (replicate 16 0x42),
      instruments_song
          (full_instrument ∷ full_instrument ∷ zero_instrument
          ∷ record zero_instrument { name = replicate 16 0x42 } ∷ []),
    )
    ∷ []
    )

-- the 63rd of a song that has none
abbrev pub StoresTheLast : Type 0
StoresTheLast = Make empty_song (
    (SetInstrument 63 1 9, instruments_song (replicate 62 zero_instrument ++ record zero_instrument { sr = 9 } ∷ []))
    ∷ []
    )

-- ---- tables

-- both sides of a row, in each table
abbrev pub SetsTableRows : Type 0
SetsTableRows = Make small_song (
    (SetTable 0 1 (sides 0xFF 0xFE), record small_song { wave = sides 0xFF 0xFE ∷ sides 0xFF 1 ∷ [] })
    ∷ (SetTable 0 2 (sides 0 0), record small_song { wave = sides 0x21 0 ∷ sides 0 0 ∷ [] })
    ∷ (SetTable 1 1 (sides 0xFF 0xFF), record small_song { pulse = sides 0xFF 0xFF ∷ [] })
    ∷ (SetTable 3 1 (sides 1 2), record small_song { speed = sides 1 2 ∷ [] })
    ∷ []
    )

-- before the first row, before the second, and after the last; the last row of a table may go
abbrev pub InsertsTableRows : Type 0
InsertsTableRows = Make (tables_song (1 ∷ 2 ∷ []) (3 ∷ 4 ∷ []) (5 ∷ []) []) (
    (InsertTable 0 1 (sides 9 0), tables_song (9 ∷ 1 ∷ 2 ∷ []) (3 ∷ 4 ∷ []) (5 ∷ []) [])
    ∷ (InsertTable 0 2 (sides 9 0), tables_song (1 ∷ 9 ∷ 2 ∷ []) (3 ∷ 4 ∷ []) (5 ∷ []) [])
    ∷ (InsertTable 0 3 (sides 9 0), tables_song (1 ∷ 2 ∷ 9 ∷ []) (3 ∷ 4 ∷ []) (5 ∷ []) [])
    ∷ (InsertTable 1 3 (sides 9 0), tables_song (1 ∷ 2 ∷ []) (3 ∷ 4 ∷ 9 ∷ []) (5 ∷ []) [])
    ∷ (InsertTable 2 1 (sides 9 0), tables_song (1 ∷ 2 ∷ []) (3 ∷ 4 ∷ []) (9 ∷ 5 ∷ []) [])
    ∷ (InsertTable 3 1 (sides 9 0), tables_song (1 ∷ 2 ∷ []) (3 ∷ 4 ∷ []) (5 ∷ []) (9 ∷ []))
    ∷ (DeleteTable 0 1, tables_song (2 ∷ []) (3 ∷ 4 ∷ []) (5 ∷ []) [])
    ∷ (DeleteTable 0 2, tables_song (1 ∷ []) (3 ∷ 4 ∷ []) (5 ∷ []) [])
    ∷ (DeleteTable 1 2, tables_song (1 ∷ 2 ∷ []) (3 ∷ []) (5 ∷ []) [])
    ∷ (DeleteTable 2 1, tables_song (1 ∷ 2 ∷ []) (3 ∷ 4 ∷ []) [] [])
    ∷ []
    )

-- the 255th row of a table
abbrev pub FillsTables : Type 0
FillsTables =
    Make (tables_song (replicate 254 1) [] [] []) (
    (InsertTable 0 1 (sides 9 0), tables_song (9 ∷ replicate 254 1) [] [] [])
    ∷ (InsertTable 0 255 (sides 9 0), tables_song (replicate 254 1 ++ 9 ∷ []) [] [] [])
    ∷ []
    )
    × Make (tables_song [] [] [] (replicate 254 1))
    ((InsertTable 3 255 (sides 9 0), tables_song [] [] [] (replicate 254 1 ++ 9 ∷ [])) ∷ [])

-- ---- texts and patterns

abbrev pub SetsTexts : Type 0
SetsTexts = Make empty_song (
    (SetText 0 (replicate 32 0xFF), record empty_song { name = replicate 32 0xFF })
    ∷ (SetText 1 (replicate 32 0xFF), record empty_song { author = replicate 32 0xFF })
    ∷ (SetText 2 (replicate 32 0xFF), record empty_song { copyright = replicate 32 0xFF })
    ∷ []
    )

-- the last ones go, those of 64 rests come; orderlists that name patterns stay as they are
abbrev pub CountsPatterns : Type 0
CountsPatterns = Make small_song (
    (SetPatternCount 0, record small_song { patterns = [] })
    ∷ (SetPatternCount 1, record small_song { patterns = (note_row 0x60 ∷ rest_row ∷ []) ∷ [] })
    ∷ (SetPatternCount 2, small_song)
    ∷ (
      SetPatternCount 4,
      record small_song {
        patterns =
            (note_row 0x60 ∷ rest_row ∷ []) ∷ (note_row 0xBC ∷ []) ∷ replicate 64 rest_row
            ∷ replicate 64 rest_row ∷ [];
      },
    )
    ∷ []
    )

-- the 208th pattern
abbrev pub FillsSongs : Type 0
FillsSongs = Make (record empty_song { patterns = replicate 207 (rest_row ∷ []) }) (
    (SetPatternCount 208, record empty_song { patterns = replicate 207 (rest_row ∷ []) ++ replicate 64 rest_row ∷ [] })
    ∷ []
    )
