-- The rows of a renumbering are those that are kept, in order.
use Rattle.std.proofs.Common.{◌≡◌, ℕ, zero, suc, ◌+◌, ◌<◌, ◌≤◌, ◌⊎◌, Bool, true, false}
use Rattle.std.proofs.Common.{if◌then◌else◌, List, [], ◌∷◌, ◌++◌, length, map, refl, sym, ◌∙◌, ap}
use Rattle.std.proofs.Common.{subst, inl, inr, arith, length-append, append-nil}
use mathlib.Core.Path.{fun_ext}
use Rattle.std.specs.List.{range_with_len, filter}
use Rattle.std.proofs.lemmas.Bool.{cases_Bool}
use Rattle.std.proofs.lemmas.List.{map-append, ext_get_or}
use Rattle.std.proofs.lemmas.Simd.{map-map}
use Rattle.std.proofs.lemmas.List.Elements.{filter-append}
use Rattle.song_model.specs.declared.tables.TableRow.{TableRow}
use Rattle.song_model.specs.LookUp.{IsNumbered, zero_table_row}
use Rattle.packing_rules.specs.Segments.{ProgramTable, IsWhole, keeps, stand_in}
use Rattle.packing_rules.specs.ProgramMaps.{retargeted, row_at, KeepsPrograms}
use Rattle.packing_rules.specs.Renumbering.{rank, program_number, program_rows, wave_programs, pulse_programs}
use Rattle.packing_rules.specs.Renumbering.{filter_programs, table_number}
use Rattle.packing_rules.proofs.Laws.{range_more, stand_in_stays, stands_for_none, programs_read_the_same, new_pointers_are_read}
use Rattle.table_pack.specs.TableMaps.{IsRenumbering}
use Rattle.table_pack.specs.TableLaws.{RenumberedRowsAreKept, StoredOnceIsPacked, PackedTablesKeepPrograms, PackedProgramsAreRead}
use Rattle.table_pack.proofs.Ranks.{last_or_before, rank_kept, rank_left, rank_rises, rank_positive}
use Rattle.table_pack.proofs.Renumbered.{row_in_front, row_behind, row_by_place}
use Rattle.table_pack.proofs.KeptPrograms.{new_nothing, kept_stored, stored_once}

-- ---- the kept rows up to row i

kept_to : (ℕ → Bool) → List TableRow → ℕ → List TableRow
kept_to keep old i = map (row_at old) (filter keep (range_with_len 1 i))

one_kept : (keep : ℕ → Bool) (p : ℕ) → keep p ≡ true → filter keep (p ∷ []) ≡ p ∷ []
one_kept keep p is = rw is refl

none_kept : (keep : ℕ → Bool) (p : ℕ) → keep p ≡ false → filter keep (p ∷ []) ≡ []
none_kept keep p fails = rw fails refl

-- one number more
kept_next : (keep : ℕ → Bool) (old : List TableRow) (i : ℕ) →
    kept_to keep old (suc i) ≡ kept_to keep old i ++ map (row_at old) (filter keep (suc i ∷ []))
unfolding kept_to
kept_next keep old i =
    let on : 1 + i ≡ suc i = omega arith in
    let numbers : range_with_len 1 (suc i) ≡ range_with_len 1 i ++ suc i ∷ [] =
    range_more 1 i ∙ ap (λ (k : ℕ). range_with_len 1 i ++ k ∷ []) on in
    ap (λ (ns : List ℕ). map (row_at old) (filter keep ns)) numbers
    ∙ ap (map (row_at old)) (filter-append keep (range_with_len 1 i) (suc i ∷ []))
    ∙ map-append (row_at old) (filter keep (range_with_len 1 i)) (filter keep (suc i ∷ []))

kept_more : (keep : ℕ → Bool) (old : List TableRow) (i : ℕ) → keep (suc i) ≡ true →
    kept_to keep old (suc i) ≡ kept_to keep old i ++ row_at old (suc i) ∷ []
kept_more keep old i is =
    kept_next keep old i
    ∙ ap (λ (ns : List ℕ). kept_to keep old i ++ map (row_at old) ns) (one_kept keep (suc i) is)

kept_same : (keep : ℕ → Bool) (old : List TableRow) (i : ℕ) → keep (suc i) ≡ false →
    kept_to keep old (suc i) ≡ kept_to keep old i
kept_same keep old i fails =
    kept_next keep old i
    ∙ ap (λ (ns : List ℕ). kept_to keep old i ++ map (row_at old) ns) (none_kept keep (suc i) fails)
    ∙ append-nil (kept_to keep old i)

kept_count : (keep : ℕ → Bool) (old : List TableRow) (i : ℕ) → length (kept_to keep old i) ≡ rank keep i
unfolding kept_to
kept_count keep old zero = refl
kept_count keep old (suc i) = elim (cases_Bool (keep (suc i))) [
  | inl is ↦ ap (λ (rows : List TableRow). length rows) (kept_more keep old i is)
      ∙ length-append (kept_to keep old i) (row_at old (suc i) ∷ [])
      ∙ ap (λ (k : ℕ). k + 1) (kept_count keep old i) ∙ sym (rank_kept keep i is)
  | inr fails ↦ ap (λ (rows : List TableRow). length rows) (kept_same keep old i fails)
      ∙ kept_count keep old i ∙ sym (rank_left keep i fails)
]

-- the kept row with this rank
kept_row : (keep : ℕ → Bool) (old : List TableRow) (i p : ℕ) → 1 ≤ p → p ≤ i → keep p ≡ true →
    row_at (kept_to keep old i) (rank keep p) ≡ row_at old p
kept_row keep old zero p some most is = absurd (omega arith)
kept_row keep old (suc i) p some most is = elim (last_or_before p i most) [
  | inl last ↦
      (let here : keep (suc i) ≡ true = ap keep (sym last) ∙ is in
      let count = kept_count keep old i in
      let more = rank_kept keep i here in
      let place : rank keep (suc i) ≡ length (kept_to keep old i) + 1 = omega arith in
      ap (λ (k : ℕ). row_at (kept_to keep old (suc i)) (rank keep k)) last
      ∙ ap (λ (rows : List TableRow). row_at rows (rank keep (suc i))) (kept_more keep old i here)
      ∙ row_behind (kept_to keep old i) (row_at old (suc i)) (rank keep (suc i)) place
      ∙ ap (row_at old) (sym last))
  | inr before ↦ elim (cases_Bool (keep (suc i))) [
    | inl here ↦
        (let count = kept_count keep old i in
        let rises = rank_rises keep p i before in
        ap (λ (rows : List TableRow). row_at rows (rank keep p)) (kept_more keep old i here)
        ∙ row_in_front (kept_to keep old i) (row_at old (suc i)) (rank keep p) (rank_positive keep p some is)
        (omega arith)
        ∙ kept_row keep old i p some before is)
    | inr fails ↦
        ap (λ (rows : List TableRow). row_at rows (rank keep p)) (kept_same keep old i fails)
        ∙ kept_row keep old i p some before is
  ]
]

-- each number up to the count is the rank of a kept one
record HasRank (keep : ℕ → Bool) (i n : ℕ) : Type 0 where
  at : ℕ
  some : 1 ≤ at
  most : at ≤ i
  kept : keep at ≡ true
  rank_is : rank keep at ≡ n

rank_found : (keep : ℕ → Bool) (i n : ℕ) → 1 ≤ n → n ≤ rank keep i → HasRank keep i n
rank_found keep zero n some most = absurd (let none : rank keep 0 ≡ 0 = refl in omega arith)
rank_found keep (suc i) n some most = elim (cases_Bool (keep (suc i))) [
  | inl is ↦
      (let more = rank_kept keep i is in
      elim (order n (rank keep i) (omega arith)) [
        | inl before ↦ further (rank_found keep i n some before)
        | inr last ↦ record {
          at = suc i;
          some = omega arith;
          most = omega arith;
          kept = is;
          rank_is = omega arith;
        }
      ])
  | inr fails ↦ (let same = rank_left keep i fails in further (rank_found keep i n some (omega arith)))
]
  where
    order : (n k : ℕ) → n ≤ k + 1 → (n ≤ k) ⊎ (n ≡ k + 1)
    order n k most = grind arith

    further : HasRank keep i n → HasRank keep (suc i) n
    further found =
        let most = found.most in
        record {
          at = found.at;
          some = found.some;
          most = omega arith;
          kept = found.kept;
          rank_is = found.rank_is;
        }

pub rows_are_kept : RenumberedRowsAreKept
unfolding kept_to
rows_are_kept keep old new to is stored =
    let count = is.count ∙ sym (kept_count keep old (length old)) in
    ext_get_or zero_table_row new (kept_to keep old (length old)) count (λ i small.
    let total = is.count in
    let found = rank_found keep (length old) (i + 1) (omega arith) (omega arith) in
    let small_too : i < length (kept_to keep old (length old)) = omega arith in
    row_by_place new i zero_table_row small
    ∙ ap (row_at new) (sym (is.number found.at found.kept ∙ found.rank_is))
    ∙ is.row found.at found.kept
    ∙ sym (kept_row keep old (length old) found.at found.some found.most found.kept)
    ∙ ap (row_at (kept_to keep old (length old))) found.rank_is
    ∙ sym (row_by_place (kept_to keep old (length old)) i zero_table_row small_too))

-- ---- packed tables

number_is : (table : ProgramTable) (to : ℕ → ℕ) (new : List TableRow) → IsWhole table →
    IsRenumbering (keeps table) table.rows new to → (p : ℕ) → to (stand_in table p) ≡ program_number table p
number_is table to new whole is p = elim (cases_Bool (table.reached p)) [
  | inl reached ↦ is.number (stand_in table p) (stand_in_stays table p whole reached)
  | inr fails ↦
      (let nothing = stands_for_none table p fails in
      ap to nothing ∙ new_nothing (keeps table) table.rows new to is (kept_stored table whole)
      ∙ ap (rank (keeps table)) (sym nothing))
]

rows_are_packed : (table : ProgramTable) (to : ℕ → ℕ) (new : List TableRow) → IsWhole table →
    IsRenumbering (keeps table) table.rows new to →
    map (retargeted (λ p. to (stand_in table p))) new ≡ program_rows table
unfolding program_rows
rows_are_packed table to new whole is =
    ap (λ (f : ℕ → ℕ). map (retargeted f) new) (fun_ext (number_is table to new whole is))
    ∙ ap (map (retargeted (program_number table)))
    (rows_are_kept (keeps table) table.rows new to is (kept_stored table whole))
    ∙ map-map (retargeted (program_number table)) (row_at table.rows)
    (filter (keeps table) (range_with_len 1 (length table.rows)))

pub stored_once_is_packed : StoredOnceIsPacked
stored_once_is_packed table keep stand to new whole keep_is stand_is is =
    let here : IsRenumbering (keeps table) table.rows new to =
    subst (λ (k : ℕ → Bool). IsRenumbering k table.rows new to) (fun_ext keep_is) is in (
      ap (λ (f : ℕ → ℕ). map (retargeted (λ p. to (f p))) new) (fun_ext stand_is)
          ∙ rows_are_packed table to new whole here,
      λ p. ap to (stand_is p) ∙ number_is table to new whole here p,
    )

-- the rows that are kept, under their ranks, are a renumbering
ranks : (ℕ → Bool) → ℕ → ℕ
ranks keep p = if keep p then rank keep p else 0

rank_of_kept : (keep : ℕ → Bool) (p : ℕ) → keep p ≡ true → ranks keep p ≡ rank keep p
unfolding ranks
rank_of_kept keep p is = rw is refl

rank_of_none : (keep : ℕ → Bool) (p : ℕ) → keep p ≡ false → ranks keep p ≡ 0
unfolding ranks
rank_of_none keep p fails = rw fails refl

ranks_renumber : (keep : ℕ → Bool) (old : List TableRow) → ((p : ℕ) → keep p ≡ true → IsNumbered old p) →
    IsRenumbering keep old (kept_to keep old (length old)) (ranks keep)
ranks_renumber keep old stored = record {
  row = λ p is.
      ap (row_at (kept_to keep old (length old))) (rank_of_kept keep p is)
      ∙ kept_row keep old (length old) p (stored p is).first (stored p is).last is;
  number = rank_of_kept keep;
  none = rank_of_none keep;
  count = kept_count keep old (length old);
}

pub packed_tables_keep : PackedTablesKeepPrograms
packed_tables_keep table whole =
    let to = ranks (keeps table) in
    let new = kept_to (keeps table) table.rows (length table.rows) in
    let is = ranks_renumber (keeps table) table.rows (kept_stored table whole) in
    let keep = stored_once table (keeps table) (stand_in table) to new whole (λ p. refl) (λ p. refl) is in
    subst (λ (f : ℕ → ℕ). KeepsPrograms table.pulse table.reached table.rows (program_rows table) f)
    (fun_ext (number_is table to new whole is))
    (subst (λ (rows : List TableRow). KeepsPrograms table.pulse table.reached table.rows rows (λ p. to (stand_in table p)))
    (rows_are_packed table to new whole is) keep)

pub packed_programs_are_read : PackedProgramsAreRead
unfolding table_number
packed_programs_are_read song used n p = (
  λ whole is.
      let table = wave_programs song used in
      programs_read_the_same false table.reached table.rows (program_rows table) (program_number table) n p
      (packed_tables_keep table whole) (inr is)
      ∙ ap (map (retargeted (program_number table))) (new_pointers_are_read song used n p),
  λ whole is.
      let table = pulse_programs song used in
      programs_read_the_same true table.reached table.rows (program_rows table) (program_number table) n p
      (packed_tables_keep table whole) (inr is),
  λ whole is.
      let table = filter_programs song used in
      programs_read_the_same false table.reached table.rows (program_rows table) (program_number table) n p
      (packed_tables_keep table whole) (inr is),
)
