-- Texts, instruments and tables are filled.
use Rattle.std.proofs.Common.{◌≡◌, ℕ, ◌+◌, ◌-◌, ◌≤◌, true, false, eqb, ltb, ◌&&◌, codes, set}
use Rattle.std.proofs.Common.{List, [], ◌∷◌, ◌++◌, length, replicate, Ok, refl, sym, ap, ◌∙◌, subst}
use Rattle.std.proofs.Common.{arith}
use Rattle.std.proofs.lemmas.Bool.{eqb-true, and_parts}
use Rattle.std.proofs.lemmas.List.{append_assoc, append-nil}
use Rattle.base.specs.Limits.{KeepsLimit}
use Rattle.song_model.specs.declared.instruments.Instrument.{Instrument}
use Rattle.song_model.specs.declared.tables.TableRow.{TableRow}
use Rattle.song_model.specs.declared.tables.TableName.{TableName}
use Rattle.song_model.specs.declared.tables.TableName.TheVariants.{Wave}
use Rattle.song_model.specs.declared.songs.Song.{Song}
use Rattle.song_model.specs.LookUp.{instrument_at, zero_instrument, zero_table_row, table_of, with_table}
use Rattle.song_model.specs.Limits.{IsInstrument, IsText}
use Rattle.edit_ops.specs.declared.edits.Edit.TheVariants.{SetInstrument, SetInstrumentName, SetTable, SetText}
use Rattle.edit_ops.specs.Instruments.{with_field, with_instrument, stored_up_to}
use Rattle.edit_ops.specs.Tables.{table_named, rows_of}
use Rattle.edit_ops.specs.Others.{with_text}
use Rattle.song_script.specs.Statements.{each_from}
use Rattle.song_script.specs.Words.{is_zero_text, readable_text}
use Rattle.song_script.specs.Parts.{text_said, field_said, name_said, fields_of, instrument_said, instrument_words}
use Rattle.song_script.specs.Parts.{table_row_said, table_said}
use Rattle.song_script.proofs.AfterLaws.{Makes, none_makes, both_make, comment_makes, unless_makes, unless_said_makes, all_make}
use Rattle.song_script.proofs.ListLaws.{numbered_seam, set_numbered, seam_long, item_holds, front_short, all_zero}
use Rattle.song_script.proofs.KindLaws.{text_set, field_set, name_set, table_set}

-- ---- texts

pub text_makes : (song : Song) (which : ℕ) (title text : List ℕ) → ltb 2 which ≡ false → IsText 32 text →
    with_text song which (replicate 32 0) ≡ song → Makes (text_said which title text) song (with_text song which text)
text_makes song which title text known good zeros =
    unless_said_makes (is_zero_text text) (title ++ codes ": " ++ readable_text text) (SetText which text) song
    (with_text song which text)
    (λ none. sym zeros ∙ ap (with_text song which) (sym (all_zero text 32 good.count none)))
    (λ some. text_set song which text known)

-- ---- instruments

-- a song with an instrument between others
abbrev among_instruments : Song → List Instrument → List Instrument → Instrument → Song
among_instruments song front rest i = record song { instruments = front ++ i ∷ rest }

all_stored : (front rest : List Instrument) (y : Instrument) (n : ℕ) → n ≡ 1 + length front →
    stored_up_to n (front ++ y ∷ rest) ≡ front ++ y ∷ rest
all_stored front rest y n is =
    let none : n - length (front ++ y ∷ rest) ≡ 0 = omega (arith, is, seam_long front rest y) in
    ap (λ k. (front ++ y ∷ rest) ++ replicate k zero_instrument) none ∙ append-nil (front ++ y ∷ rest)

put_among : (song : Song) (front rest : List Instrument) (y x : Instrument) (n : ℕ) → n ≡ 1 + length front →
    with_instrument (among_instruments song front rest y) n x ≡ among_instruments song front rest x
put_among song front rest y x n is =
    ap (λ (all : List Instrument). record song { instruments = all })
    (ap (λ (all : List Instrument). set all (n - 1) x) (all_stored front rest y n is)
    ∙ set_numbered front rest y x n is)

is_among : (song : Song) (front rest : List Instrument) (y : Instrument) (n : ℕ) → n ≡ 1 + length front →
    instrument_at (among_instruments song front rest y) n ≡ y
unfolding instrument_at
is_among song front rest y n is = numbered_seam front rest y zero_instrument n is

field_makes : (song : Song) (front rest : List Instrument) (y : Instrument) (n field value : ℕ) →
    n ≡ 1 + length front → n ≤ 63 → field ≤ 8 → with_field field 0 y ≡ y →
    Makes (field_said n field value) (among_instruments song front rest y)
    (among_instruments song front rest (with_field field value y))
field_makes song front rest y n field value is few known zero_there =
    let s = among_instruments song front rest y in
    unless_makes (eqb value 0) (SetInstrument n field value) (among_instruments song front rest y)
    (among_instruments song front rest (with_field field value y))
    (λ none. ap (among_instruments song front rest)
    (sym zero_there ∙ ap (λ v. with_field field v y) (sym (eqb-true value 0 none))))
    (λ some. field_set s n field value (omega (arith, is)) few known
    ∙ ap (λ (i : Instrument). Ok (with_instrument s n (with_field field value i))) (is_among song front rest y n is)
    ∙ ap Ok (put_among song front rest y (with_field field value y) n is))

-- fields that are set from one on
abbrev with_fields : ℕ → List ℕ → Instrument → Instrument
with_fields field [] y = y
with_fields field (value ∷ values) y = with_fields (field + 1) values (with_field field value y)

-- each of them is zero before
data AreZero : ℕ → List ℕ → Instrument → Type 0 where
  done : {field : ℕ} {y : Instrument} → AreZero field [] y
  next : {field value : ℕ} {values : List ℕ} {y : Instrument} → field ≤ 8 → with_field field 0 y ≡ y →
      AreZero (field + 1) values (with_field field value y) → AreZero field (value ∷ values) y

fields_make : (song : Song) (front rest : List Instrument) (n : ℕ) → n ≡ 1 + length front → n ≤ 63 →
    (values : List ℕ) (field : ℕ) (y : Instrument) → AreZero field values y →
    Makes (each_from field (field_said n) values) (among_instruments song front rest y)
    (among_instruments song front rest (with_fields field values y))
fields_make song front rest n is few [] field y done = none_makes (among_instruments song front rest y)
fields_make song front rest n is few (value ∷ values) field y (next known zero_there others) =
    both_make (field_makes song front rest y n field value is few known zero_there)
    (fields_make song front rest n is few values (field + 1) (with_field field value y) others)

name_makes : (song : Song) (front rest : List Instrument) (y : Instrument) (n : ℕ) (name : List ℕ) →
    n ≡ 1 + length front → n ≤ 63 → IsText 16 name → y.name ≡ replicate 16 0 →
    Makes (name_said n name) (among_instruments song front rest y)
    (among_instruments song front rest (record y { name = name }))
name_makes song front rest y n name is few good zeros =
    let s = among_instruments song front rest y in
    unless_makes (is_zero_text name) (SetInstrumentName n name) (among_instruments song front rest y)
    (among_instruments song front rest (record y { name = name }))
    (λ none. ap (λ (bytes : List ℕ). among_instruments song front rest (record y { name = bytes }))
    (zeros ∙ sym (all_zero name 16 good.count none)))
    (λ some. name_set s n name (omega (arith, is)) few
    ∙ ap (λ (i : Instrument). Ok (with_instrument s n (record i { name = name }))) (is_among song front rest y n is)
    ∙ ap Ok (put_among song front rest y (record y { name = name }) n is))

instrument_makes : (song : Song) (front rest : List Instrument) (x : Instrument) (n : ℕ) → n ≡ 1 + length front →
    n ≤ 63 → IsInstrument x →
    Makes (instrument_said n x) (among_instruments song front rest zero_instrument)
    (among_instruments song front rest x)
instrument_makes song front rest x n is few good =
    let y : Instrument = record x { name = replicate 16 0 } in
    comment_makes (instrument_words n x.name)
    (both_make
    (fields_make song front rest n is few (fields_of x) 0 zero_instrument
    (next (omega arith) refl (next (omega arith) refl (next (omega arith) refl (next (omega arith) refl (next (omega
    arith) refl (next (omega arith) refl (next (omega arith) refl (next (omega arith) refl (next (omega arith) refl
    done))))))))))
    (name_makes song front rest y n x.name is few good.name refl))

pub instruments_fill : (song : Song) (instruments : List Instrument) → KeepsLimit 63 IsInstrument instruments →
    Makes (each_from 1 instrument_said instruments)
    (record song { instruments = replicate (length instruments) zero_instrument })
    (record song { instruments = instruments })
instruments_fill song instruments keeps =
    subst (λ (all : List Instrument). Makes (each_from 1 instrument_said instruments)
    (record song { instruments = replicate (length instruments) zero_instrument })
    (record song { instruments = all }))
    (append-nil instruments)
    (all_make instruments
    (λ front back. record song { instruments = front ++ replicate (length back) zero_instrument }) instrument_said 1
    (λ front x back n parts at.
    subst (λ (all : List Instrument). Makes (instrument_said n x)
    (record song { instruments = front ++ replicate (length (x ∷ back)) zero_instrument })
    (record song { instruments = all }))
    (sym (append_assoc front (x ∷ []) (replicate (length back) zero_instrument)))
    (instrument_makes song front (replicate (length back) zero_instrument) x n at
    (omega (arith, at, front_short instruments front back x parts, keeps.count))
    (item_holds IsInstrument instruments front back x parts keeps.each))))

-- ---- tables

table_is : (song : Song) (name : TableName) (rows : List TableRow) → table_of (with_table song name rows) name ≡ rows
table_is song Wave rows = refl
table_is song name rows = refl

table_again : (song : Song) (name : TableName) (rows others : List TableRow) →
    with_table (with_table song name rows) name others ≡ with_table song name others
table_again song Wave rows others = refl
table_again song name rows others = refl

zero_row : (x : TableRow) → (eqb x.left 0 && eqb x.right 0) ≡ true → zero_table_row ≡ x
zero_row x e =
    let parts = and_parts (eqb x.left 0) (eqb x.right 0) e in
    let left : x.left ≡ 0 = eqb-true x.left 0 parts.0 in
    let right : x.right ≡ 0 = eqb-true x.right 0 parts.1 in
    ap (λ (l : ℕ). record { left = l; right = 0 }) (sym left)
    ∙ ap (λ (r : ℕ). record { left = x.left; right = r }) (sym right)

-- a song with a row between others in a table
abbrev among_rows : Song → ℕ → List TableRow → List TableRow → TableRow → Song
among_rows song table front rest row = with_table song (table_named table) (front ++ row ∷ rest)

table_row_makes : (song : Song) (table : ℕ) (front rest : List TableRow) (x : TableRow) (n : ℕ) →
    ltb 3 table ≡ false → n ≡ 1 + length front →
    Makes (table_row_said table n x) (among_rows song table front rest zero_table_row)
    (among_rows song table front rest x)
table_row_makes song table front rest x n known is =
    let name = table_named table in
    let s = among_rows song table front rest zero_table_row in
    let rows : table_of s name ≡ front ++ zero_table_row ∷ rest =
    table_is song name (front ++ zero_table_row ∷ rest) in
    let inside : n ≤ rows_of s table =
    omega (arith, is, ap length rows, seam_long front rest zero_table_row) in
    unless_makes (eqb x.left 0 && eqb x.right 0) (SetTable table n x)
    (among_rows song table front rest zero_table_row) (among_rows song table front rest x)
    (λ none. ap (among_rows song table front rest) (zero_row x none))
    (λ some. table_set s table n x known (omega (arith, is)) inside
    ∙ ap (λ (all : List TableRow). Ok (with_table s name (set all (n - 1) x))) rows
    ∙ ap (λ (all : List TableRow). Ok (with_table s name all)) (set_numbered front rest zero_table_row x n is)
    ∙ ap Ok (table_again song name (front ++ zero_table_row ∷ rest) (front ++ x ∷ rest)))

pub table_fills : (song : Song) (table : ℕ) (title : List ℕ) (rows : List TableRow) → ltb 3 table ≡ false →
    Makes (table_said table title rows)
    (with_table song (table_named table) (replicate (length rows) zero_table_row))
    (with_table song (table_named table) rows)
table_fills song table title rows known =
    let name = table_named table in
    comment_makes (title ++ codes " table")
    (subst (λ (all : List TableRow). Makes (each_from 1 (table_row_said table) rows)
    (with_table song name (replicate (length rows) zero_table_row)) (with_table song name all))
    (append-nil rows)
    (all_make rows (λ front back. with_table song name (front ++ replicate (length back) zero_table_row))
    (table_row_said table) 1
    (λ front x back n parts at.
    subst (λ (all : List TableRow). Makes (table_row_said table n x)
    (with_table song name (front ++ replicate (length (x ∷ back)) zero_table_row)) (with_table song name all))
    (sym (append_assoc front (x ∷ []) (replicate (length back) zero_table_row)))
    (table_row_makes song table front (replicate (length back) zero_table_row) x n known at))))
