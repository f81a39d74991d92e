-- Rows are the same where their bytes are.
use Rattle.std.proofs.Common.{◌≡◌, ℕ, true, List, [], ◌∷◌, ◌++◌, refl}
use Rattle.std.specs.List.{flat_map}
use Rattle.std.proofs.lemmas.Slice.Eq.{bytes_eq-Decides}
use Rattle.song_model.specs.declared.rows.Row.{Row}
use Rattle.song_model.specs.Canonical.{row_text}
use Rattle.pattern_cut.specs.CutSongs.{same_rows}

first_row : (x y : Row) (u v : List ℕ) → row_text x ++ u ≡ row_text y ++ v → x ≡ y
first_row x y u v e =
    let note : x.note ≡ y.note = cc in
    let instrument : x.instrument ≡ y.instrument = cc in
    let command : x.command ≡ y.command = cc in
    let param : x.param ≡ y.param = cc in
    rw note (rw instrument (rw command (rw param refl)))

rest_rows : (x y : Row) (u v : List ℕ) → row_text x ++ u ≡ row_text y ++ v → u ≡ v
rest_rows x y u v e = cc

texts_tell : (xs ys : List Row) → flat_map row_text xs ≡ flat_map row_text ys → xs ≡ ys
texts_tell [] [] e = refl
texts_tell [] (y ∷ ys) e = absurd cc
texts_tell (x ∷ xs) [] e = absurd cc
texts_tell (x ∷ xs) (y ∷ ys) e =
    let first = first_row x y (flat_map row_text xs) (flat_map row_text ys) e in
    let rest = texts_tell xs ys (rest_rows x y (flat_map row_text xs) (flat_map row_text ys) e) in
    cc

pub rows_same : (xs ys : List Row) → same_rows xs ys ≡ true → xs ≡ ys
rows_same xs ys is = texts_tell xs ys ((bytes_eq-Decides (flat_map row_text xs) (flat_map row_text ys)).0 is)

pub rows_themselves : (xs : List Row) → same_rows xs xs ≡ true
rows_themselves xs = (bytes_eq-Decides (flat_map row_text xs) (flat_map row_text xs)).1 refl
