-- Patterns are filled, row by row.
use Rattle.std.proofs.Common.{◌≡◌, ℕ, ◌≤◌, true, eqb, ◌&&◌, List, [], ◌∷◌, ◌++◌, length}
use Rattle.std.proofs.Common.{replicate, Ok, sym, ap, ◌∙◌, subst, arith}
use Rattle.std.proofs.lemmas.Bool.{eqb-true, and_parts}
use Rattle.std.proofs.lemmas.List.{append_assoc, append-nil}
use Rattle.base.specs.Limits.{KeepsLimit}
use Rattle.song_model.specs.declared.rows.Row.{Row}
use Rattle.song_model.specs.declared.songs.Song.{Song}
use Rattle.song_model.specs.PatternLimits.{IsRow, IsPattern}
use Rattle.song_model.specs.Silence.{rest_row}
use Rattle.edit_ops.specs.declared.edits.Edit.TheVariants.{SetRow, SetLength}
use Rattle.edit_ops.specs.Others.{rest_pattern}
use Rattle.song_script.specs.Statements.{each_from}
use Rattle.song_script.specs.Words.{row_words}
use Rattle.song_script.specs.Parts.{is_rest, row_said, length_said, pattern_words, pattern_said}
use Rattle.song_script.proofs.AfterLaws.{Makes, both_make, comment_makes, unless_makes, unless_said_makes, all_make}
use Rattle.song_script.proofs.ListLaws.{seam, seam_long, item_holds, resized_same}
use Rattle.song_script.proofs.KindLaws.{among_patterns, row_set, length_set}

-- ---- rows

rest_is : (x : Row) → is_rest x ≡ true → rest_row ≡ x
rest_is x e =
    let one = and_parts (eqb x.note 0xBD && eqb x.instrument 0 && eqb x.command 0) (eqb x.param 0) e in
    let two = and_parts (eqb x.note 0xBD && eqb x.instrument 0) (eqb x.command 0) one.0 in
    let three = and_parts (eqb x.note 0xBD) (eqb x.instrument 0) two.0 in
    let a : x.note ≡ 0xBD = eqb-true x.note 0xBD three.0 in
    let b : x.instrument ≡ 0 = eqb-true x.instrument 0 three.1 in
    let c : x.command ≡ 0 = eqb-true x.command 0 two.1 in
    let d : x.param ≡ 0 = eqb-true x.param 0 one.1 in
    ap (λ (n : ℕ). record { note = n; instrument = 0; command = 0; param = 0 }) (sym a)
    ∙ ap (λ (n : ℕ). record { note = x.note; instrument = n; command = 0; param = 0 }) (sym b)
    ∙ ap (λ (n : ℕ). record { note = x.note; instrument = x.instrument; command = n; param = 0 }) (sym c)
    ∙ ap (λ (n : ℕ). record { note = x.note; instrument = x.instrument; command = x.command; param = n }) (sym d)

-- a row between others of a pattern
row_makes : (song : Song) (front rest : List (List Row)) (n : ℕ) → n ≡ length front → (before after : List Row)
    (x : Row) (place : ℕ) → place ≡ length before → IsRow x →
    Makes (row_said n place x) (among_patterns song front rest (before ++ rest_row ∷ after))
    (among_patterns song front rest (before ++ x ∷ after))
row_makes song front rest n is before after x place here good =
    unless_said_makes (is_rest x) (row_words place x) (SetRow n place x)
    (among_patterns song front rest (before ++ rest_row ∷ after))
    (among_patterns song front rest (before ++ x ∷ after))
    (λ none. ap (λ (row : Row). among_patterns song front rest (before ++ row ∷ after)) (rest_is x none))
    (λ some. row_set song front rest (before ++ rest_row ∷ after) n place x is
    (omega (arith, here, seam_long before after rest_row)) good
    ∙ ap (λ (rows : List Row). Ok (among_patterns song front rest rows)) (seam before after rest_row x place here))

rows_make : (song : Song) (front rest : List (List Row)) (n : ℕ) → n ≡ length front → (rows : List Row) →
    IsPattern rows →
    Makes (each_from 0 (row_said n) rows) (among_patterns song front rest (replicate (length rows) rest_row))
    (among_patterns song front rest rows)
rows_make song front rest n is rows good =
    subst (λ (all : List Row). Makes (each_from 0 (row_said n) rows)
    (among_patterns song front rest (replicate (length rows) rest_row)) (among_patterns song front rest all))
    (append-nil rows)
    (all_make rows
    (λ before after. among_patterns song front rest (before ++ replicate (length after) rest_row)) (row_said n) 0
    (λ before x after place parts at.
    subst (λ (all : List Row). Makes (row_said n place x)
    (among_patterns song front rest (before ++ replicate (length (x ∷ after)) rest_row))
    (among_patterns song front rest all))
    (sym (append_assoc before (x ∷ []) (replicate (length after) rest_row)))
    (row_makes song front rest n is before (replicate (length after) rest_row) x place (omega (arith, at))
    (item_holds IsRow rows before after x parts good.each))))

-- ---- patterns

length_makes : (song : Song) (front rest : List (List Row)) (n count : ℕ) → n ≡ length front → 1 ≤ count →
    count ≤ 128 →
    Makes (length_said n count) (among_patterns song front rest rest_pattern)
    (among_patterns song front rest (replicate count rest_row))
length_makes song front rest n count is least most =
    unless_makes (eqb count 64) (SetLength n count) (among_patterns song front rest rest_pattern)
    (among_patterns song front rest (replicate count rest_row))
    (λ same. ap (λ (k : ℕ). among_patterns song front rest (replicate k rest_row)) (sym (eqb-true count 64 same)))
    (λ other. length_set song front rest rest_pattern n count is least most
    ∙ ap (λ (rows : List Row). Ok (among_patterns song front rest rows)) (resized_same 64 count rest_row))

pattern_makes : (song : Song) (front rest : List (List Row)) (rows : List Row) (n : ℕ) → n ≡ length front →
    IsPattern rows →
    Makes (pattern_said n rows) (among_patterns song front rest rest_pattern) (among_patterns song front rest rows)
pattern_makes song front rest rows n is good =
    comment_makes (pattern_words n)
    (both_make (length_makes song front rest n (length rows) is good.count.least good.count.most)
    (rows_make song front rest n is rows good))

pub patterns_fill : (song : Song) (patterns : List (List Row)) → KeepsLimit 208 IsPattern patterns →
    Makes (each_from 0 pattern_said patterns)
    (record song { patterns = replicate (length patterns) rest_pattern }) (record song { patterns = patterns })
patterns_fill song patterns keeps =
    subst (λ (all : List (List Row)). Makes (each_from 0 pattern_said patterns)
    (record song { patterns = replicate (length patterns) rest_pattern }) (record song { patterns = all }))
    (append-nil patterns)
    (all_make patterns (λ front back. record song { patterns = front ++ replicate (length back) rest_pattern })
    pattern_said 0
    (λ front x back n parts at.
    subst (λ (all : List (List Row)). Makes (pattern_said n x)
    (record song { patterns = front ++ replicate (length (x ∷ back)) rest_pattern })
    (record song { patterns = all }))
    (sym (append_assoc front (x ∷ []) (replicate (length back) rest_pattern)))
    (pattern_makes song front (replicate (length back) rest_pattern) x n (omega (arith, at))
    (item_holds IsPattern patterns front back x parts keeps.each))))
