-- What is said of each part of a song. First there is as much of each as the song has, with nothing in it; then each is
-- filled once. What is zero or a rest stands already, and isn't said.
use Rattle.std.specs.Prelude.{ℕ, ◌==◌, ◌&&◌, Bool, if◌then◌else◌, List, [], ◌∷◌, ◌++◌, length}
use Rattle.std.specs.Prelude.{replicate, codes}
use Rattle.song_model.specs.declared.rows.Row.{Row}
use Rattle.song_model.specs.declared.orders.Order.{Order}
use Rattle.song_model.specs.declared.orders.Subtune.{Subtune}
use Rattle.song_model.specs.declared.instruments.Instrument.{Instrument}
use Rattle.song_model.specs.declared.tables.TableRow.{TableRow}
use Rattle.song_model.specs.declared.songs.Song.{Song}
use Rattle.song_model.specs.LookUp.{zero_table_row}
use Rattle.edit_ops.specs.declared.edits.Edit.TheVariants.{SetRow, SetLength, InsertOrder, SetRestart, SetInstrument}
use Rattle.edit_ops.specs.declared.edits.Edit.TheVariants.{SetInstrumentName, SetTable, InsertTable, SetText}
use Rattle.edit_ops.specs.declared.edits.Edit.TheVariants.{AddSubtune, SetPatternCount}
use Rattle.song_script.specs.Statements.{Statement, Comment, Do, each_from}
use Rattle.song_script.specs.Words.{two_digits, is_zero_text, readable_text, row_words}

-- ---- as much of each as there is

abbrev pub subtunes_made : ℕ → List Statement
subtunes_made count = replicate count (Do AddSubtune)

-- an edit of the last one stores zero instruments up to it
abbrev pub instruments_made : ℕ → List Statement
instruments_made count = if count == 0 then [] else Do (SetInstrument count 0 0) ∷ []

-- while all pointers are 0 none moves
abbrev pub table_made : ℕ → ℕ → List Statement
table_made table count = replicate count (Do (InsertTable table 1 zero_table_row))

-- of 64 rests each
abbrev pub patterns_made : ℕ → List Statement
patterns_made count = if count == 0 then [] else Do (SetPatternCount count) ∷ []

unfoldable pub parts_made : Song → List Statement
parts_made song = subtunes_made (length song.subtunes) ++ instruments_made (length song.instruments)
    ++ table_made 0 (length song.wave) ++ table_made 1 (length song.pulse) ++ table_made 2 (length song.filter)
    ++ table_made 3 (length song.speed) ++ patterns_made (length song.patterns)

-- ---- texts

abbrev pub text_said : ℕ → List ℕ → List ℕ → List Statement
text_said which title text =
    if is_zero_text text then []
    else Comment (title ++ codes ": " ++ readable_text text) ∷ Do (SetText which text) ∷ []

unfoldable pub texts_said : Song → List Statement
texts_said song = text_said 0 (codes "name") song.name ++ text_said 1 (codes "author") song.author
    ++ text_said 2 (codes "copyright") song.copyright

-- ---- subtunes

abbrev pub entry_said : ℕ → ℕ → ℕ → ℕ → List Statement
entry_said subtune channel place entry = Do (InsertOrder subtune channel place entry) ∷ []

abbrev pub restart_said : ℕ → ℕ → ℕ → List Statement
restart_said subtune channel restart =
    if restart == 0 then [] else Do (SetRestart subtune channel restart) ∷ []

abbrev pub channel_words : ℕ → ℕ → List ℕ
channel_words subtune channel = codes "subtune " ++ two_digits subtune ++ codes " channel " ++ two_digits channel

abbrev pub order_said : ℕ → ℕ → Order → List Statement
order_said subtune channel order =
    Comment (channel_words subtune channel)
    ∷ (each_from 0 (entry_said subtune channel) order.entries ++ restart_said subtune channel order.restart)

abbrev pub subtune_said : ℕ → Subtune → List Statement
subtune_said number subtune =
    order_said number 1 subtune.one ++ order_said number 2 subtune.two ++ order_said number 3 subtune.three

-- ---- instruments

-- the nine bytes before the name, in their order
abbrev pub fields_of : Instrument → List ℕ
fields_of i =
    i.ad ∷ i.sr ∷ i.wave ∷ i.pulse ∷ i.filter ∷ i.vibrato ∷ i.vibrato_delay ∷ i.gate_timer ∷ i.first_wave ∷ []

abbrev pub field_said : ℕ → ℕ → ℕ → List Statement
field_said number field value = if value == 0 then [] else Do (SetInstrument number field value) ∷ []

abbrev pub name_said : ℕ → List ℕ → List Statement
name_said number name = if is_zero_text name then [] else Do (SetInstrumentName number name) ∷ []

-- an instrument without a name has none in its comment
unfoldable pub name_words : List ℕ → List ℕ
name_words name = if is_zero_text name then [] else codes " " ++ readable_text name

abbrev pub instrument_words : ℕ → List ℕ → List ℕ
instrument_words number name = codes "instrument " ++ two_digits number ++ name_words name

abbrev pub instrument_said : ℕ → Instrument → List Statement
instrument_said number instrument =
    Comment (instrument_words number instrument.name)
    ∷ (each_from 0 (field_said number) (fields_of instrument) ++ name_said number instrument.name)

-- ---- tables

abbrev pub table_row_said : ℕ → ℕ → TableRow → List Statement
table_row_said table number row =
    if row.left == 0 && row.right == 0 then [] else Do (SetTable table number row) ∷ []

abbrev pub table_said : ℕ → List ℕ → List TableRow → List Statement
table_said table title rows = Comment (title ++ codes " table") ∷ each_from 1 (table_row_said table) rows

unfoldable pub tables_said : Song → List Statement
tables_said song = table_said 0 (codes "wave") song.wave ++ table_said 1 (codes "pulse") song.pulse
    ++ table_said 2 (codes "filter") song.filter ++ table_said 3 (codes "speed") song.speed

-- ---- patterns

abbrev pub is_rest : Row → Bool
is_rest row = row.note == 0xBD && row.instrument == 0 && row.command == 0 && row.param == 0

abbrev pub row_said : ℕ → ℕ → Row → List Statement
row_said pattern place row =
    if is_rest row then [] else Comment (row_words place row) ∷ Do (SetRow pattern place row) ∷ []

-- a pattern has 64 rows already
abbrev pub length_said : ℕ → ℕ → List Statement
length_said pattern rows = if rows == 64 then [] else Do (SetLength pattern rows) ∷ []

abbrev pub pattern_words : ℕ → List ℕ
pattern_words number = codes "pattern " ++ two_digits number

abbrev pub pattern_said : ℕ → List Row → List Statement
pattern_said number rows =
    Comment (pattern_words number)
    ∷ (length_said number (length rows) ++ each_from 0 (row_said number) rows)
