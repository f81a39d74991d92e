-- Edits that are refused, from the edges of what there is, of each limit and of each range, worked out by hand.
use Rattle.std.specs.Prelude.{List, [], ◌∷◌, ◌++◌, map, replicate}
use Rattle.song_model.specs.declared.rows.Row.{Row}
use Rattle.song_model.specs.LookUp.{void_subtune}
use Rattle.song_model.specs.Silence.{empty_song, rest_row}
use Rattle.edit_ops.specs.declared.edits.EditFault.TheVariants.{NoSuchPlace, OutOfLimit, BadValue}
use Rattle.edit_ops.specs.declared.edits.Edit.TheVariants.{SetRow, InsertRow, DeleteRow, SetLength, CopyPattern}
use Rattle.edit_ops.specs.declared.edits.Edit.TheVariants.{TransposePattern, SetOrder, InsertOrder, DeleteOrder}
use Rattle.edit_ops.specs.declared.edits.Edit.TheVariants.{SetRestart, SetInstrument, SetInstrumentName, SetTable}
use Rattle.edit_ops.specs.declared.edits.Edit.TheVariants.{InsertTable, DeleteTable, SetText, AddSubtune, RemoveSubtune}
use Rattle.edit_ops.specs.declared.edits.Edit.TheVariants.{SetPatternCount}
use Rattle.edit_ops.specs.WorkedSongs.{AreRefused, sides, rest_with, row_of, order_with, pattern_song, order_song}
use Rattle.edit_ops.specs.WorkedSongs.{tables_song, small_song}

-- ---- no such place

-- pattern 0 has rows 0 and 1, pattern 1 has row 0, and there is no pattern 2; a row may be inserted behind the last
abbrev pub LacksPatterns : Type 0
LacksPatterns = AreRefused NoSuchPlace small_song (
    SetRow 0 2 rest_row ∷ SetRow 1 1 rest_row ∷ SetRow 2 0 rest_row ∷ SetRow 255 0 rest_row ∷ InsertRow 0 3 rest_row
    ∷ InsertRow 1 2 rest_row ∷ InsertRow 2 0 rest_row ∷ DeleteRow 0 2 ∷ DeleteRow 1 1 ∷ DeleteRow 2 0 ∷ SetLength 2 1
    ∷ CopyPattern 2 0 ∷ CopyPattern 0 2 ∷ CopyPattern 2 2 ∷ TransposePattern 2 0 ∷ []
    )

-- subtunes 1 and 2, channels 1 to 3; in subtune 1 they have two entries, one and none
abbrev pub LacksOrders : Type 0
LacksOrders = AreRefused NoSuchPlace small_song (
    SetOrder 0 1 0 5 ∷ SetOrder 3 1 0 5 ∷ SetOrder 1 0 0 5 ∷ SetOrder 1 4 0 5 ∷ SetOrder 1 1 2 5 ∷ SetOrder 1 2 1 5
    ∷ SetOrder 1 3 0 5 ∷ SetOrder 2 1 0 5 ∷ InsertOrder 0 1 0 5 ∷ InsertOrder 3 1 0 5 ∷ InsertOrder 1 0 0 5
    ∷ InsertOrder 1 4 0 5 ∷ InsertOrder 1 1 3 5 ∷ InsertOrder 1 2 2 5 ∷ InsertOrder 1 3 1 5 ∷ DeleteOrder 0 1 0
    ∷ DeleteOrder 3 1 0 ∷ DeleteOrder 1 0 0 ∷ DeleteOrder 1 4 0 ∷ DeleteOrder 1 1 2 ∷ DeleteOrder 1 2 1
    ∷ DeleteOrder 1 3 0 ∷ SetRestart 0 1 0 ∷ SetRestart 3 1 0 ∷ SetRestart 1 0 0 ∷ SetRestart 1 4 0
    ∷ RemoveSubtune 0 ∷ RemoveSubtune 3 ∷ []
    )

-- tables 0 to 3, with two rows, one, none and one; a row may be inserted one after the last
abbrev pub LacksTableRows : Type 0
LacksTableRows = AreRefused NoSuchPlace small_song (
    SetTable 4 1 (sides 1 1) ∷ SetTable 0 0 (sides 1 1) ∷ SetTable 0 3 (sides 1 1) ∷ SetTable 1 2 (sides 1 1)
    ∷ SetTable 2 1 (sides 1 1) ∷ SetTable 3 2 (sides 1 1) ∷ InsertTable 4 1 (sides 1 1) ∷ InsertTable 0 0 (sides 1 1)
    ∷ InsertTable 0 4 (sides 1 1) ∷ InsertTable 1 3 (sides 1 1) ∷ InsertTable 2 2 (sides 1 1)
    ∷ InsertTable 3 3 (sides 1 1) ∷ DeleteTable 4 1 ∷ DeleteTable 0 0 ∷ DeleteTable 0 3 ∷ DeleteTable 1 2
    ∷ DeleteTable 2 1 ∷ DeleteTable 3 2 ∷ []
    )

-- instruments 1 to 63, stored or not, and texts 0 to 2
abbrev pub LacksInstruments : Type 0
LacksInstruments = AreRefused NoSuchPlace small_song (
    SetInstrument 0 0 0 ∷ SetInstrument 64 0 0 ∷ SetInstrument 255 0 0 ∷ SetInstrumentName 0 (replicate 16 1)
    ∷ SetInstrumentName 64 (replicate 16 1) ∷ SetText 3 (replicate 32 1) ∷ SetText 255 (replicate 32 1) ∷ []
    )

-- ---- over limit

-- a pattern has 1 to 128 rows
abbrev pub LimitsRows : Type 0
LimitsRows =
    AreRefused OutOfLimit (pattern_song (replicate 128 rest_row))
    (InsertRow 0 0 rest_row ∷ InsertRow 0 127 rest_row ∷ InsertRow 0 128 rest_row ∷ [])
    × AreRefused OutOfLimit (pattern_song (rest_row ∷ []))
    (DeleteRow 0 0 ∷ SetLength 0 0 ∷ SetLength 0 129 ∷ SetLength 0 255 ∷ [])

-- an orderlist has at most 254 entries, and a song at most 32 subtunes and 208 patterns
abbrev pub LimitsOrders : Type 0
LimitsOrders =
    AreRefused OutOfLimit (order_song (order_with (replicate 254 7) 0))
    (InsertOrder 2 2 0 5 ∷ InsertOrder 2 2 253 5 ∷ InsertOrder 2 2 254 5 ∷ [])
    × AreRefused OutOfLimit (record empty_song { subtunes = replicate 32 void_subtune }) (AddSubtune ∷ [])
    × AreRefused OutOfLimit empty_song (SetPatternCount 209 ∷ SetPatternCount 255 ∷ [])

-- each table has at most 255 rows
abbrev pub LimitsTables : Type 0
LimitsTables =
    AreRefused OutOfLimit (tables_song (replicate 255 1) [] [] [])
    (InsertTable 0 1 (sides 1 1) ∷ InsertTable 0 255 (sides 1 1) ∷ [])
    × AreRefused OutOfLimit (tables_song [] (replicate 255 1) [] []) (InsertTable 1 1 (sides 1 1) ∷ [])
    × AreRefused OutOfLimit (tables_song [] [] (replicate 255 1) []) (InsertTable 2 255 (sides 1 1) ∷ [])
    × AreRefused OutOfLimit (tables_song [] [] [] (replicate 255 1)) (InsertTable 3 1 (sides 1 1) ∷ [])

-- ---- bad value

-- a note is $60 to $BF, so neither below nor one of the bytes up to the end row's $FF; an instrument is at most $3F,
-- and a command at most $0F
abbrev pub bad_rows : List Row
bad_rows =
    row_of 0 0 0 0 ∷ row_of 0x5F 0 0 0 ∷ row_of 0xC0 0 0 0 ∷ row_of 0xFF 0 0 0 ∷ row_of 0x60 0x40 0 0
    ∷ row_of 0xBF 0xFF 0 0 ∷ row_of 0x60 0 0x10 0 ∷ row_of 0xBF 0 0xFF 0 ∷ []

abbrev pub RangesOfRows : Type 0
RangesOfRows =
    AreRefused BadValue small_song
    (map (λ row. SetRow 0 1 row) bad_rows ++ map (λ row. InsertRow 0 2 row) bad_rows)

-- the endmark is no entry, and an instrument has fields 0 to 8, also where it isn't stored
abbrev pub RangesOfValues : Type 0
RangesOfValues = AreRefused BadValue small_song (
    SetOrder 1 1 0 0xFF ∷ SetOrder 1 1 1 0xFF ∷ InsertOrder 1 1 2 0xFF ∷ InsertOrder 1 3 0 0xFF ∷ SetInstrument 1 9 0
    ∷ SetInstrument 1 255 0 ∷ SetInstrument 63 9 0 ∷ []
    )

-- from $60 up by $5D to a rest, by $7F, down by one and by 128; from $BC up by one to a rest, by $44 round to the other
-- end, by $7F, down by 93 below $60, and by 128
abbrev pub RangesOfNotes : Type 0
RangesOfNotes = AreRefused BadValue small_song (
    TransposePattern 0 0x5D ∷ TransposePattern 0 0x7F ∷ TransposePattern 0 0xFF ∷ TransposePattern 0 0x80
    ∷ TransposePattern 1 1 ∷ TransposePattern 1 0x44 ∷ TransposePattern 1 0x7F ∷ TransposePattern 1 0xA3
    ∷ TransposePattern 1 0x80 ∷ []
    )

-- ---- more than one reason: the place comes before the limit and the limit before the value

abbrev pub bad_row : Row
bad_row = rest_with 0x10 0

-- a full pattern: place and limit; place and value; all three; and limit and value
abbrev pub OrderOfRows : Type 0
OrderOfRows =
    AreRefused NoSuchPlace (pattern_song (replicate 128 rest_row))
    (InsertRow 0 129 rest_row ∷ InsertRow 1 0 bad_row ∷ SetRow 0 128 bad_row ∷ InsertRow 0 129 bad_row ∷ [])
    × AreRefused OutOfLimit (pattern_song (replicate 128 rest_row)) (InsertRow 0 0 bad_row ∷ InsertRow 0 128 bad_row ∷ [])

-- a pattern of one row: place and limit
abbrev pub OrderOfLengths : Type 0
OrderOfLengths =
    AreRefused NoSuchPlace (pattern_song (rest_row ∷ []))
    (DeleteRow 0 1 ∷ DeleteRow 1 0 ∷ SetLength 1 0 ∷ SetLength 1 129 ∷ [])

-- a full orderlist: place and limit; place and value; all three; and limit and value
abbrev pub OrderOfEntries : Type 0
OrderOfEntries =
    AreRefused NoSuchPlace (order_song (order_with (replicate 254 7) 0)) (
    InsertOrder 2 2 255 5 ∷ InsertOrder 3 2 0 0xFF ∷ InsertOrder 2 4 0 0xFF ∷ SetOrder 2 2 254 0xFF
    ∷ InsertOrder 2 2 255 0xFF ∷ []
    )
    × AreRefused OutOfLimit (order_song (order_with (replicate 254 7) 0)) (InsertOrder 2 2 0 0xFF
    ∷ InsertOrder 2 2 254 0xFF ∷ [])

-- full tables: place and limit; an instrument that no song has: place and value
abbrev pub OrderOfTables : Type 0
OrderOfTables =
    AreRefused NoSuchPlace (tables_song (replicate 255 1) [] [] (replicate 255 1))
    (InsertTable 0 0 (sides 1 1) ∷ InsertTable 3 0 (sides 1 1) ∷ InsertTable 4 1 (sides 1 1) ∷ [])
    × AreRefused NoSuchPlace empty_song (SetInstrument 0 9 0 ∷ SetInstrument 64 9 0 ∷ [])
