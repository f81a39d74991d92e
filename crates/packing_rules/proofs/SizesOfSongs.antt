-- The sizes of a song.
use Rattle.std.proofs.Common.{◌≡◌, ℕ, ◌≤◌, Bool, true, false, not, cond, List, [], ◌∷◌, length}
use Rattle.std.proofs.Common.{refl, sym, ◌∙◌, ap, arith}
use Rattle.std.specs.List.{filter, sum_by, count_by}
use Rattle.std.specs.Str.{bytes_eq}
use Rattle.std.proofs.lemmas.Bool.{and_parts}
use Rattle.std.proofs.lemmas.List.Sums.{sum_by-cons}
use Rattle.std.proofs.lemmas.List.Filters.{sum_by-filter_both}
use mathlib.Core.Path.{fun_ext}
use Rattle.song_model.specs.declared.tables.TableName.{TableName}
use Rattle.song_model.specs.declared.songs.Song.{Song}
use Rattle.packed_form.specs.Sizes.{list_size}
use Rattle.packing_rules.specs.Segments.{ProgramTable, numbers, keeps}
use Rattle.packing_rules.specs.UsedSets.{UsedSets, IsTestOf, AreUsedSets}
use Rattle.packing_rules.specs.Renumbering.{first_seen, wave_programs, pulse_programs, filter_programs, pattern_texts}
use Rattle.packing_rules.specs.SongSizes.{rows_size, data_size, packed_size}
use Rattle.packing_rules.specs.SizeLaws.{SizesAreTheSongs, PackedSizeIsWithin}

-- ---- one size

same_bit : (a b : Bool) → (a ≡ true → b ≡ true) → (b ≡ true → a ≡ true) → a ≡ b
same_bit true b to from = sym (to refl)
same_bit false true to from = from refl
same_bit false false to from = refl

same_test : (P : ℕ → Type 0) (f g : ℕ → Bool) → IsTestOf P f → IsTestOf P g → f ≡ g
same_test P f g one other = fun_ext (λ (n : ℕ). same_bit (f n) (g n)
    (λ (h : f n ≡ true). (other n).1 ((one n).0 h)) (λ (h : g n ≡ true). (one n).1 ((other n).0 h)))

pub same_sets : (song : Song) (one other : UsedSets) → AreUsedSets song one → AreUsedSets song other → one ≡ other
same_sets song one other is is_too =
    let with_patterns : (ℕ → Bool) → UsedSets = λ f. record one { patterns = f } in
    let with_instruments : (ℕ → Bool) → UsedSets = λ f. record one { patterns = other.patterns; instruments = f } in
    let with_reached : (TableName → ℕ → Bool) → UsedSets = λ f.
    record other { reached = f; pointers = one.pointers } in
    let with_pointers : (TableName → ℕ → Bool) → UsedSets = λ f. record other { pointers = f } in
    ap with_patterns (same_test _ one.patterns other.patterns is.patterns is_too.patterns)
    ∙ ap with_instruments (same_test _ one.instruments other.instruments is.instruments is_too.instruments)
    ∙ ap with_reached (fun_ext (λ (name : TableName).
    same_test _ (one.reached name) (other.reached name) (is.reached name) (is_too.reached name)))
    ∙ ap with_pointers (fun_ext (λ (name : TableName).
    same_test _ (one.pointers name) (other.pointers name) (is.pointers name) (is_too.pointers name)))

pub sizes_are_the_songs : SizesAreTheSongs
sizes_are_the_songs song one other is is_too =
    let e = same_sets song one other is is_too in
    (ap (data_size song) e, ap (packed_size song) e)

-- ---- nothing is longer

filter_within : {X : Type 0} (f : X → ℕ) (test : X → Bool) (xs : List X) → sum_by f (filter test xs) ≤ sum_by f xs
filter_within f test xs = omega (arith, sum_by-filter_both test (λ x. not (test x)) (λ _. refl) f xs)

first_within : {X : Type 0} (f : X → ℕ) (same : X → X → Bool) (xs : List X) → sum_by f (first_seen same xs) ≤ sum_by f xs
first_within f same [] = omega arith
first_within f same (x ∷ xs) =
    let rest = first_within f same xs in
    let kept = filter_within f (λ y. not (same y x)) (first_seen same xs) in
    let one = sum_by-cons f x (filter (λ y. not (same y x)) (first_seen same xs)) in
    let other = sum_by-cons f x xs in
    omega arith

bit_within : (a b : Bool) → (a ≡ true → b ≡ true) → cond a 1 0 ≤ cond b 1 0
bit_within true b h = let e = h refl in rw e (omega arith)
bit_within false true h = omega arith
bit_within false false h = omega arith

count_within : (p q : ℕ → Bool) (ns : List ℕ) → ((n : ℕ) → p n ≡ true → q n ≡ true) → count_by p ns ≤ count_by q ns
count_within p q [] each = omega arith
count_within p q (n ∷ ns) each =
    let rest = count_within p q ns each in
    let here = bit_within (p n) (q n) (each n) in
    let one = sum_by-cons (λ (k : ℕ). cond (p k) 1 0) n ns in
    let other = sum_by-cons (λ (k : ℕ). cond (q k) 1 0) n ns in
    omega arith

rows_within : (table : ProgramTable) → rows_size keeps table ≤ rows_size (λ t. t.reached) table
unfolding keeps
rows_within table =
    let few = count_within (keeps table) table.reached (numbers (length table.rows))
    (λ n is. (and_parts (table.reached n) _ is).0) in
    omega arith

pub packed_size_is_within : PackedSizeIsWithin
unfolding data_size packed_size
packed_size_is_within song used =
    let texts = first_within list_size bytes_eq (pattern_texts song used) in
    let wave = rows_within (wave_programs song used) in
    let pulse = rows_within (pulse_programs song used) in
    let filter_rows = rows_within (filter_programs song used) in
    omega arith
