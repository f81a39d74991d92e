-- What each kind of edit that a script has makes of a song that has the place.
use Rattle.std.proofs.Common.{◌≡◌, ℕ, ◌+◌, ◌<◌, ◌≤◌, true, false, eqb, ltb, leb, List, []}
use Rattle.std.proofs.Common.{◌∷◌, ◌++◌, length, set, insert, Ok, refl, ap, arith}
use Rattle.std.proofs.lemmas.Bool.{ne_eqb, le-leb, lt-leb, le-ltb}
use Rattle.song_model.specs.declared.rows.Row.{Row}
use Rattle.song_model.specs.declared.orders.Subtune.{Subtune}
use Rattle.song_model.specs.declared.tables.TableRow.{TableRow}
use Rattle.song_model.specs.declared.songs.Song.{Song}
use Rattle.song_model.specs.PatternLimits.{IsRow}
use Rattle.song_model.specs.LookUp.{pattern_at, instrument_at, void_subtune, numbered, order_of}
use Rattle.song_model.specs.Silence.{rest_row}
use Rattle.edit_ops.specs.declared.edits.Edit.TheVariants.{SetRow, SetLength, InsertOrder, SetRestart, SetInstrument}
use Rattle.edit_ops.specs.declared.edits.Edit.TheVariants.{SetInstrumentName, SetTable, InsertTable, SetText}
use Rattle.edit_ops.specs.declared.edits.Edit.TheVariants.{AddSubtune, SetPatternCount}
use Rattle.edit_ops.specs.Lists.{resized}
use Rattle.edit_ops.specs.Patterns.{is_row}
use Rattle.edit_ops.specs.Orders.{with_channel}
use Rattle.edit_ops.specs.Instruments.{with_field, with_instrument}
use Rattle.edit_ops.specs.Tables.{table_named, rows_of, with_table_row, with_row_inserted}
use Rattle.edit_ops.specs.Others.{with_text, rest_pattern}
use Rattle.edit_ops.specs.Edits.{edited, lacks_place, is_over, is_bad, changed}
use Rattle.song_script.proofs.ListLaws.{seam, numbered_seam, set_numbered, seam_long, get_seam}

-- ---- texts

pub text_set : (song : Song) (which : ℕ) (text : List ℕ) → ltb 2 which ≡ false →
    edited song (SetText which text) ≡ Ok (with_text song which text)
unfolding edited lacks_place is_over is_bad changed
text_set song which text known = rw known refl

-- ---- tables

pub table_set : (song : Song) (table n : ℕ) (row : TableRow) → ltb 3 table ≡ false → 1 ≤ n → n ≤ rows_of song table →
    edited song (SetTable table n row) ≡ Ok (with_table_row song (table_named table) n row)
unfolding edited lacks_place is_over is_bad changed
table_set song table n row known least most =
    let some : eqb n 0 ≡ false = ne_eqb n 0 (λ none. absurd (omega (arith, none, least))) in
    let inside : ltb (rows_of song table) n ≡ false = le-ltb _ _ most in
    rw (known, some, inside) refl

pub table_inserted : (song : Song) (table : ℕ) (row : TableRow) → ltb 3 table ≡ false → rows_of song table < 255 →
    edited song (InsertTable table 1 row) ≡ Ok (with_row_inserted song (table_named table) 1 row)
unfolding edited lacks_place is_over is_bad changed
table_inserted song table row known few =
    let gap : ltb (rows_of song table + 1) 1 ≡ false = le-ltb _ _ (omega arith) in
    let full : eqb (rows_of song table) 255 ≡ false = ne_eqb _ _ (λ is. absurd (omega (arith, is, few))) in
    rw (known, gap, full) refl

-- ---- how many subtunes and patterns there are

pub subtune_added : (song : Song) → length song.subtunes < 32 →
    edited song AddSubtune ≡ Ok (record song { subtunes = song.subtunes ++ void_subtune ∷ [] })
unfolding edited lacks_place is_over is_bad changed
subtune_added song few =
    let full : eqb (length song.subtunes) 32 ≡ false = ne_eqb _ _ (λ is. absurd (omega (arith, is, few))) in
    rw full refl

pub patterns_counted : (song : Song) (count : ℕ) → count ≤ 208 →
    edited song (SetPatternCount count) ≡ Ok (record song { patterns = resized count rest_pattern song.patterns })
unfolding edited lacks_place is_over is_bad changed
patterns_counted song count few = let known : ltb 208 count ≡ false = le-ltb _ _ few in rw known refl

-- ---- instruments

pub field_set : (song : Song) (n field value : ℕ) → 1 ≤ n → n ≤ 63 → field ≤ 8 →
    edited song (SetInstrument n field value)
    ≡ Ok (with_instrument song n (with_field field value (instrument_at song n)))
unfolding edited lacks_place is_over is_bad changed
field_set song n field value least most known =
    let some : eqb n 0 ≡ false = ne_eqb n 0 (λ none. absurd (omega (arith, none, least))) in
    let few : ltb 63 n ≡ false = le-ltb _ _ most in
    let is : ltb 8 field ≡ false = le-ltb _ _ known in
    rw (some, few, is) refl

pub name_set : (song : Song) (n : ℕ) (name : List ℕ) → 1 ≤ n → n ≤ 63 →
    edited song (SetInstrumentName n name)
    ≡ Ok (with_instrument song n (record (instrument_at song n) { name = name }))
unfolding edited lacks_place is_over is_bad changed
name_set song n name least most =
    let some : eqb n 0 ≡ false = ne_eqb n 0 (λ none. absurd (omega (arith, none, least))) in
    let few : ltb 63 n ≡ false = le-ltb _ _ most in
    rw (some, few) refl

-- ---- orderlists

-- a song with a subtune between others
abbrev pub among_subtunes : Song → List Subtune → List Subtune → Subtune → Song
among_subtunes song front rest subtune = record song { subtunes = front ++ subtune ∷ rest }

pub entry_inserted : (song : Song) (front rest : List Subtune) (y : Subtune) (n channel place entry : ℕ) →
    n ≡ 1 + length front → 1 ≤ channel → channel ≤ 3 → place ≡ length (order_of channel y).entries → place < 254 →
    entry < 255 →
    edited (among_subtunes song front rest y) (InsertOrder n channel place entry)
    ≡ Ok (among_subtunes song front rest (with_channel y channel
    (record (order_of channel y) { entries = insert (order_of channel y).entries place entry })))
unfolding edited lacks_place is_over is_bad changed
entry_inserted song front rest y n channel place entry is least most here few small =
    let some : eqb n 0 ≡ false = ne_eqb n 0 (λ none. absurd (omega (arith, none, is))) in
    let stored : ltb (length (front ++ y ∷ rest)) n ≡ false =
    le-ltb _ _ (omega (arith, is, seam_long front rest y)) in
    let one : eqb channel 0 ≡ false = ne_eqb channel 0 (λ none. absurd (omega (arith, none, least))) in
    let three : ltb 3 channel ≡ false = le-ltb _ _ most in
    let at : numbered (front ++ y ∷ rest) n void_subtune ≡ y = numbered_seam front rest y void_subtune n is in
    let gap : ltb (length (order_of channel y).entries) place ≡ false = le-ltb _ _ (omega (arith, here)) in
    let full : eqb (length (order_of channel y).entries) 254 ≡ false =
    ne_eqb _ _ (λ e. absurd (omega (arith, e, here, few))) in
    let mark : eqb entry 255 ≡ false = ne_eqb _ _ (λ e. absurd (omega (arith, e, small))) in
    rw (at, some, stored, one, three, gap, full, mark)
    (ap (λ (subtunes : List Subtune). Ok (record song { subtunes = subtunes }))
    (set_numbered front rest y (with_channel y channel
    (record (order_of channel y) { entries = insert (order_of channel y).entries place entry })) n is))

pub restart_set : (song : Song) (front rest : List Subtune) (y : Subtune) (n channel restart : ℕ) →
    n ≡ 1 + length front → 1 ≤ channel → channel ≤ 3 →
    edited (among_subtunes song front rest y) (SetRestart n channel restart)
    ≡ Ok (among_subtunes song front rest
    (with_channel y channel (record (order_of channel y) { restart = restart })))
unfolding edited lacks_place is_over is_bad changed
restart_set song front rest y n channel restart is least most =
    let some : eqb n 0 ≡ false = ne_eqb n 0 (λ none. absurd (omega (arith, none, is))) in
    let stored : ltb (length (front ++ y ∷ rest)) n ≡ false =
    le-ltb _ _ (omega (arith, is, seam_long front rest y)) in
    let one : eqb channel 0 ≡ false = ne_eqb channel 0 (λ none. absurd (omega (arith, none, least))) in
    let three : ltb 3 channel ≡ false = le-ltb _ _ most in
    let at : numbered (front ++ y ∷ rest) n void_subtune ≡ y = numbered_seam front rest y void_subtune n is in
    rw (at, some, stored, one, three)
    (ap (λ (subtunes : List Subtune). Ok (record song { subtunes = subtunes }))
    (set_numbered front rest y (with_channel y channel (record (order_of channel y) { restart = restart })) n is))

-- ---- patterns

-- a song with a pattern between others
abbrev pub among_patterns : Song → List (List Row) → List (List Row) → List Row → Song
among_patterns song front rest rows = record song { patterns = front ++ rows ∷ rest }

row_is : (row : Row) → IsRow row → is_row row ≡ true
row_is row is =
    let a : leb 0x60 row.note ≡ true = le-leb _ _ is.note_from in
    let b : leb row.note 0xBF ≡ true = le-leb _ _ is.note_to in
    let c : leb row.instrument 0x3F ≡ true = le-leb _ _ is.instrument in
    let d : leb row.command 0x0F ≡ true = le-leb _ _ is.command in
    rw (a, b, c, d) refl

pub row_set : (song : Song) (front rest : List (List Row)) (rows : List Row) (n place : ℕ) (row : Row) →
    n ≡ length front → place < length rows → IsRow row →
    edited (among_patterns song front rest rows) (SetRow n place row)
    ≡ Ok (among_patterns song front rest (set rows place row))
unfolding edited lacks_place is_over is_bad changed pattern_at
row_set song front rest rows n place row is inside good =
    let stored : leb (length (front ++ rows ∷ rest)) n ≡ false =
    lt-leb _ _ (omega (arith, is, seam_long front rest rows)) in
    let at = get_seam front rest rows [] n is in
    let lies : leb (length rows) place ≡ false = lt-leb _ _ inside in
    let right : is_row row ≡ true = row_is row good in
    rw (at, stored, lies, right)
    (ap (λ (patterns : List (List Row)). Ok (record song { patterns = patterns }))
    (seam front rest rows (set rows place row) n is))

pub length_set : (song : Song) (front rest : List (List Row)) (rows : List Row) (n count : ℕ) →
    n ≡ length front → 1 ≤ count → count ≤ 128 →
    edited (among_patterns song front rest rows) (SetLength n count)
    ≡ Ok (among_patterns song front rest (resized count rest_row rows))
unfolding edited lacks_place is_over is_bad changed pattern_at
length_set song front rest rows n count is least most =
    let stored : leb (length (front ++ rows ∷ rest)) n ≡ false =
    lt-leb _ _ (omega (arith, is, seam_long front rest rows)) in
    let at = get_seam front rest rows [] n is in
    let some : eqb count 0 ≡ false = ne_eqb _ _ (λ none. absurd (omega (arith, none, least))) in
    let few : ltb 128 count ≡ false = le-ltb _ _ most in
    rw (at, stored, some, few)
    (ap (λ (patterns : List (List Row)). Ok (record song { patterns = patterns }))
    (seam front rest rows (resized count rest_row rows) n is))
