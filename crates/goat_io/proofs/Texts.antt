-- A map of texts to bytes, and the files that it stands for.
use Rattle.std.proofs.Common.{◌≡◌, ℕ, Bool, true, false, cond, List, [], ◌∷◌, map, String, Option, Some}
use Rattle.std.proofs.Common.{option_map, refl, sym, ap, ◌∙◌}
use Rattle.std.specs.Global.{Global, Vec}
use Rattle.std.specs.Ordering.{nat_cmp, is_eq, eq_by_cmp}
use Rattle.std.specs.Cmp.{eq_by_cmp_equiv}
use Rattle.std.specs.Cmp.Lexicographic.{slice_cmp, nat_list_cmp_total}
use Rattle.std.specs.Map.{lookup}
use Rattle.std.specs.Str.{bytes_eq}
use Rattle.std.specs.String.{string_bytes, string_cmp}
use Rattle.std.specs.BTreeMap.{BTreeMap, is_at, get_by_text, UpdatesBy}
use Rattle.std.specs.FinMap.{find, get-from_entries, get-insert, same_map, slice_cmp-IsAntisymmetric, nat_cmp-IsAntisymmetric}
use Rattle.std.proofs.lemmas.Map.Text.{btree_map_updates_text, is_eq-slice_cmp}
use Rattle.goat_io.specs.Files.{file_of, with_file}
use Rattle.goat_io.specs.FileMap.{file_entry, files_of}

abbrev pub Entries : Type 0
Entries = List (String Global × Vec ℕ)

-- the bytes of a value that may be there
abbrev pub bytes_in : Option (Vec ℕ) → Option (List ℕ)
bytes_in o = option_map (λ (v : Vec ℕ). v.items) o

bytes_in-cond : (b : Bool) (x y : Option (Vec ℕ)) → cond b (bytes_in x) (bytes_in y) ≡ bytes_in (cond b x y)
bytes_in-cond true x y = refl
bytes_in-cond false x y = refl

find-file_entry : (es : Entries) (q : List ℕ) →
    find (slice_cmp nat_cmp) q (map file_entry es)
    ≡ bytes_in (lookup (is_at (λ k. slice_cmp nat_cmp q (string_bytes k))) es)
find-file_entry [] q = refl
find-file_entry (e ∷ es) q =
    ap (cond (is_eq (slice_cmp nat_cmp q (string_bytes e.0))) (Some e.1.items)) (find-file_entry es q)
    ∙ bytes_in-cond (is_eq (slice_cmp nat_cmp q (string_bytes e.0))) (Some e.1) _

-- the file under a name is what a look-up by its text finds
pub file_of-files_of : (m : BTreeMap (String Global) (Vec ℕ)) (q : List ℕ) →
    file_of (files_of m) q ≡ bytes_in (get_by_text m q)
file_of-files_of m q = get-from_entries nat_list_cmp_total (map file_entry m.entries) q ∙ find-file_entry m.entries q

same_text : (xs ys : List ℕ) → bytes_eq xs ys ≡ eq_by_cmp (slice_cmp nat_cmp) ys xs
same_text xs ys = sym (is_eq-slice_cmp xs ys) ∙ (eq_by_cmp_equiv nat_list_cmp_total).symm xs ys

-- setting a text's value puts the file
pub files_of-updated : (m n : BTreeMap (String Global) (Vec ℕ)) (name : List ℕ) (v : Vec ℕ) →
    UpdatesBy string_cmp (λ k. slice_cmp nat_cmp name (string_bytes k)) m n (Some v) →
    files_of n ≡ with_file (files_of m) name v.items
files_of-updated m n name v updates =
    same_map nat_list_cmp_total (slice_cmp-IsAntisymmetric nat_cmp-IsAntisymmetric) _ _ (λ q.
    file_of-files_of n q
    ∙ ap bytes_in (btree_map_updates_text name m n (Some v) updates q)
    ∙ sym (bytes_in-cond (bytes_eq name q) (Some v) (get_by_text m q))
    ∙ ap (λ b. cond b (Some v.items) (bytes_in (get_by_text m q))) (same_text name q)
    ∙ ap (cond (eq_by_cmp (slice_cmp nat_cmp) q name) (Some v.items)) (sym (file_of-files_of m q))
    ∙ sym (get-insert nat_list_cmp_total (files_of m) name v.items q))
