-- What is said of a song within its limits is read as it is.
use Rattle.std.proofs.Common.{◌≡◌, ℕ, ◌+◌, ◌<◌, ◌≤◌, Bool, true, false, eqb, ◌&&◌}
use Rattle.std.proofs.Common.{if◌then◌else◌, codes, List, [], ◌∷◌, ◌++◌, length, refl, arith}
use Rattle.base.specs.Limits.{KeepsLimit}
use Rattle.song_model.specs.declared.rows.Row.{Row}
use Rattle.song_model.specs.declared.orders.Order.{Order}
use Rattle.song_model.specs.declared.orders.Subtune.{Subtune}
use Rattle.song_model.specs.declared.instruments.Instrument.{Instrument}
use Rattle.song_model.specs.declared.tables.TableRow.{TableRow}
use Rattle.song_model.specs.declared.songs.Song.{Song}
use Rattle.song_model.specs.LookUp.{zero_table_row}
use Rattle.song_model.specs.PatternLimits.{IsRow, IsPattern}
use Rattle.song_model.specs.OrderLimits.{IsEntry}
use Rattle.song_model.specs.Limits.{IsText, IsOrder, IsSubtune, IsInstrument, IsTableRow, IsTable, KeepsLimits}
use Rattle.edit_ops.specs.declared.edits.Edit.{Edit}
use Rattle.edit_ops.specs.declared.edits.Edit.TheVariants.{SetRow, SetLength, SetRestart, SetInstrument}
use Rattle.edit_ops.specs.declared.edits.Edit.TheVariants.{SetInstrumentName, SetTable, InsertTable, SetText}
use Rattle.edit_ops.specs.declared.edits.Edit.TheVariants.{AddSubtune, SetPatternCount}
use Rattle.edit_script.specs.Forms.{edit_form}
use Rattle.song_script.specs.Statements.{Statement, Comment, Do, each_from}
use Rattle.song_script.specs.Words.{two_digits, is_zero_text, readable_text, row_words}
use Rattle.song_script.specs.Parts.{table_made, parts_made, text_said, texts_said, entry_said, order_said, subtune_said}
use Rattle.song_script.specs.Parts.{fields_of, field_said, name_words, instrument_said, table_row_said, table_said}
use Rattle.song_script.specs.Parts.{tables_said, is_rest, row_said, pattern_said}
use Rattle.song_script.specs.Shown.{statements_of}
use Rattle.song_script.proofs.ListLaws.{item_holds, front_short}
use Rattle.song_script.proofs.FreeLaws.{are_free, free_append, digits_free, text_free, row_free}
use Rattle.song_script.proofs.ReadLaws.{AreSmall, done, next, AreArguments, numbers_are, AreRead, none_read, one_read}
use Rattle.song_script.proofs.ReadLaws.{next_read, both_read, again_read, all_read}

-- what is left out reads as it is
unless_read : (test : Bool) (statements : List Statement) → AreRead statements →
    AreRead (if test then [] else statements)
unless_read true statements are = none_read
unless_read false statements are = are

-- a line of numbers
numbers_read : (edit : Edit) → AreArguments (edit_form edit).arguments → AreRead (Do edit ∷ [])
numbers_read edit are = one_read are

-- ---- parts

parts_read : (song : Song) → KeepsLimits song → AreRead (parts_made song)
unfolding parts_made
parts_read song keeps =
    let inserts : (table count : ℕ) → table < 256 → AreRead (table_made table count) =
    λ table count small. again_read count (Do (InsertTable table 1 zero_table_row))
    (numbers_are (table ∷ 1 ∷ 0 ∷ 0 ∷ []) (next small (next (omega arith) (next (omega arith) (next (omega arith)
    done))))) in
    both_read
    (both_read
    (both_read
    (both_read
    (both_read
    (both_read (again_read (length song.subtunes) (Do AddSubtune) tt)
    (unless_read (eqb (length song.instruments) 0) (Do (SetInstrument (length song.instruments) 0 0) ∷ [])
    (one_read
    (numbers_are (length song.instruments ∷ 0 ∷ 0 ∷ [])
    (next (omega (arith, keeps.instruments.count)) (next (omega arith) (next (omega arith) done)))))))
    (inserts 0 (length song.wave) (omega arith)))
    (inserts 1 (length song.pulse) (omega arith)))
    (inserts 2 (length song.filter) (omega arith)))
    (inserts 3 (length song.speed) (omega arith)))
    (unless_read (eqb (length song.patterns) 0) (Do (SetPatternCount (length song.patterns)) ∷ [])
    (one_read (numbers_are (length song.patterns ∷ []) (next (omega (arith, keeps.patterns.count)) done))))

-- ---- texts

text_read : (which : ℕ) (title text : List ℕ) → which < 256 → are_free title ≡ true → IsText 32 text →
    AreRead (text_said which title text)
text_read which title text small free good =
    unless_read (is_zero_text text)
    (Comment (title ++ codes ": " ++ readable_text text) ∷ Do (SetText which text) ∷ [])
    (next_read
    (free_append (title ++ codes ": ") (readable_text text) (free_append title (codes ": ") free refl) (text_free text))
    (one_read (
      (numbers_are (which ∷ []) (next small done)).0,
      (numbers_are (which ∷ []) (next small done)).1,
      (good.count, good.each, tt),
    )))

texts_read : (song : Song) → KeepsLimits song → AreRead (texts_said song)
unfolding texts_said
texts_read song keeps =
    both_read
    (both_read (text_read 0 (codes "name") song.name (omega arith) refl keeps.name)
    (text_read 1 (codes "author") song.author (omega arith) refl keeps.author))
    (text_read 2 (codes "copyright") song.copyright (omega arith) refl keeps.copyright)

-- ---- subtunes

order_read : (n channel : ℕ) (order : Order) → n < 256 → channel < 256 → IsOrder order →
    AreRead (order_said n channel order)
order_read n channel order small few good =
    next_read
    (free_append (codes "subtune " ++ two_digits n ++ codes " channel ") (two_digits channel)
    (free_append (codes "subtune " ++ two_digits n) (codes " channel ")
    (free_append (codes "subtune ") (two_digits n) refl (digits_free (n ∷ []))) refl)
    (digits_free (channel ∷ [])))
    (both_read
    (all_read order.entries (entry_said n channel) 0
    (λ front entry back place parts at.
    let entry_small : IsEntry entry = item_holds IsEntry order.entries front back entry parts good.entries.each in
    one_read
    (numbers_are (n ∷ channel ∷ place ∷ entry ∷ [])
    (next small (next few (next (omega (
      arith,
      at,
      front_short order.entries front back entry parts,
      good.entries.count,
    )) (next (omega (arith, entry_small)) done)))))))
    (unless_read (eqb order.restart 0) (Do (SetRestart n channel order.restart) ∷ [])
    (one_read (numbers_are (n ∷ channel ∷ order.restart ∷ []) (next small (next few (next good.restart done)))))))

subtune_read : (n : ℕ) (subtune : Subtune) → n < 256 → IsSubtune subtune → AreRead (subtune_said n subtune)
subtune_read n subtune small good =
    both_read
    (both_read (order_read n 1 subtune.one small (omega arith) good.one)
    (order_read n 2 subtune.two small (omega arith) good.two))
    (order_read n 3 subtune.three small (omega arith) good.three)

subtunes_read : (subtunes : List Subtune) → KeepsLimit 32 IsSubtune subtunes →
    AreRead (each_from 1 subtune_said subtunes)
subtunes_read subtunes keeps =
    all_read subtunes subtune_said 1
    (λ front x back n parts at.
    subtune_read n x (omega (arith, at, front_short subtunes front back x parts, keeps.count))
    (item_holds IsSubtune subtunes front back x parts keeps.each))

-- ---- instruments

name_words_free : (name : List ℕ) → are_free (name_words name) ≡ true
unfolding name_words
name_words_free name =
    free_unless (is_zero_text name) (codes " " ++ readable_text name)
    (free_append (codes " ") (readable_text name) refl (text_free name))
  where
    free_unless : (test : Bool) (words : List ℕ) → are_free words ≡ true →
        are_free (if test then [] else words) ≡ true
    free_unless true words free = refl
    free_unless false words free = free

fields_are : (x : Instrument) → IsInstrument x → AreSmall (fields_of x)
fields_are x good =
    next good.ad (next good.sr (next good.wave (next good.pulse (next good.filter (next good.vibrato (next
    good.vibrato_delay (next good.gate_timer (next good.first_wave done))))))))

fields_read : (n : ℕ) → n < 256 → (values : List ℕ) (field : ℕ) → field + length values ≤ 256 → AreSmall values →
    AreRead (each_from field (field_said n) values)
fields_read n small [] field few are = none_read
fields_read n small (value ∷ values) field few (next byte others) =
    both_read
    (unless_read (eqb value 0) (Do (SetInstrument n field value) ∷ [])
    (one_read (numbers_are (n ∷ field ∷ value ∷ []) (next small (next (omega (arith, few)) (next byte done))))))
    (fields_read n small values (field + 1) (omega (arith, few)) others)

instrument_read : (n : ℕ) (x : Instrument) → n < 256 → IsInstrument x → AreRead (instrument_said n x)
instrument_read n x small good =
    next_read
    (free_append (codes "instrument " ++ two_digits n) (name_words x.name)
    (free_append (codes "instrument ") (two_digits n) refl (digits_free (n ∷ []))) (name_words_free x.name))
    (both_read (fields_read n small (fields_of x) 0 (omega arith) (fields_are x good))
    (unless_read (is_zero_text x.name) (Do (SetInstrumentName n x.name) ∷ [])
    (one_read (
      (numbers_are (n ∷ []) (next small done)).0,
      (numbers_are (n ∷ []) (next small done)).1,
      (good.name.count, good.name.each, tt),
    ))))

instruments_read : (instruments : List Instrument) → KeepsLimit 63 IsInstrument instruments →
    AreRead (each_from 1 instrument_said instruments)
instruments_read instruments keeps =
    all_read instruments instrument_said 1
    (λ front x back n parts at.
    instrument_read n x (omega (arith, at, front_short instruments front back x parts, keeps.count))
    (item_holds IsInstrument instruments front back x parts keeps.each))

-- ---- tables

table_read : (table : ℕ) (title : List ℕ) (rows : List TableRow) → table < 256 → are_free title ≡ true →
    IsTable rows → AreRead (table_said table title rows)
table_read table title rows small free keeps =
    next_read (free_append title (codes " table") free refl)
    (all_read rows (table_row_said table) 1
    (λ front x back n parts at.
    let good : IsTableRow x = item_holds IsTableRow rows front back x parts keeps.each in
    unless_read (eqb x.left 0 && eqb x.right 0) (Do (SetTable table n x) ∷ [])
    (one_read
    (numbers_are (table ∷ n ∷ x.left ∷ x.right ∷ [])
    (next small (next (omega (arith, at, front_short rows front back x parts, keeps.count)) (next good.left (next
    good.right done))))))))

tables_read : (song : Song) → KeepsLimits song → AreRead (tables_said song)
unfolding tables_said
tables_read song keeps =
    both_read
    (both_read
    (both_read (table_read 0 (codes "wave") song.wave (omega arith) refl keeps.wave)
    (table_read 1 (codes "pulse") song.pulse (omega arith) refl keeps.pulse))
    (table_read 2 (codes "filter") song.filter (omega arith) refl keeps.filter))
    (table_read 3 (codes "speed") song.speed (omega arith) refl keeps.speed)

-- ---- patterns

row_read : (n place : ℕ) (x : Row) → n < 256 → place < 256 → IsRow x → AreRead (row_said n place x)
row_read n place x small few good =
    unless_read (is_rest x) (Comment (row_words place x) ∷ Do (SetRow n place x) ∷ [])
    (next_read (row_free place x)
    (one_read
    (numbers_are (n ∷ place ∷ x.note ∷ x.instrument ∷ x.command ∷ x.param ∷ [])
    (next small (next few (next (omega (arith, good.note_to)) (next (omega (arith, good.instrument)) (next (omega
    (arith, good.command)) (next good.param done)))))))))

pattern_read : (n : ℕ) (rows : List Row) → n < 256 → IsPattern rows → AreRead (pattern_said n rows)
pattern_read n rows small good =
    next_read (free_append (codes "pattern ") (two_digits n) refl (digits_free (n ∷ [])))
    (both_read
    (unless_read (eqb (length rows) 64) (Do (SetLength n (length rows)) ∷ [])
    (one_read (numbers_are (n ∷ length rows ∷ []) (next small (next (omega (arith, good.count.most)) done)))))
    (all_read rows (row_said n) 0
    (λ front x back place parts at.
    row_read n place x small (omega (arith, at, front_short rows front back x parts, good.count.most))
    (item_holds IsRow rows front back x parts good.each))))

patterns_read : (patterns : List (List Row)) → KeepsLimit 208 IsPattern patterns →
    AreRead (each_from 0 pattern_said patterns)
patterns_read patterns keeps =
    all_read patterns pattern_said 0
    (λ front x back n parts at.
    pattern_read n x (omega (arith, at, front_short patterns front back x parts, keeps.count))
    (item_holds IsPattern patterns front back x parts keeps.each))

-- ---- all of them

pub statements_read : (song : Song) → KeepsLimits song → AreRead (statements_of song)
unfolding statements_of
statements_read song keeps =
    both_read
    (both_read
    (both_read
    (both_read
    (both_read
    (both_read (one_read refl) (parts_read song keeps))
    (texts_read song keeps))
    (subtunes_read song.subtunes keeps.subtunes))
    (instruments_read song.instruments keeps.instruments))
    (tables_read song keeps))
    (patterns_read song.patterns keeps.patterns)
