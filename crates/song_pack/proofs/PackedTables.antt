-- A table of programs is packed: the rows that stay are renumbered, and jumps follow.
use Rattle.std.proofs.Common.{◌≡◌, ℕ, ◌<◌, Bool, true, false, List, map, length, slice_index, refl, sym}
use Rattle.std.proofs.Common.{◌∙◌, ap, subst, inl, inr, arith}
use Rattle.std.proofs.lemmas.Bool.{cases_lt}
use Rattle.std.proofs.lemmas.List.{get_or_past}
use mathlib.Core.Path.{fun_ext}
use Rattle.song_model.specs.declared.tables.TableRow.{TableRow}
use Rattle.packing_rules.specs.Segments.{ProgramTable, IsWhole, keeps, stand_in}
use Rattle.packing_rules.specs.ProgramMaps.{retargeted}
use Rattle.packing_rules.specs.Renumbering.{program_number}
use Rattle.table_pack.specs.Marks.{is_marked}
use Rattle.table_pack.specs.TableMaps.{IsRenumbering}
use Rattle.table_pack.proofs.Laws.{stored_once_is_packed}
use Rattle.song_pack.specs.Programs.{IsPackedTable}

-- a mark is one of the list
pub marked_within : (marks : List Bool) (p : ℕ) → is_marked marks p ≡ true → p < length marks
marked_within marks p is = elim (cases_lt p (length marks)) [
  | inl inside ↦ inside
  | inr past ↦ absurd (let e : false ≡ true = sym (get_or_past marks p false past) ∙ is in cc)
]

unmarked_past : (b : Bool) → (b ≡ true → ⊥) → b ≡ false
unmarked_past true never = absurd (never refl)
unmarked_past false never = refl

-- a row that isn't reached is stood for by 0
no_stand_in : (table : ProgramTable) (p : ℕ) → table.reached p ≡ false → stand_in table p ≡ 0
unfolding stand_in
no_stand_in table p none = rw none refl

pub packed_table : (table : ProgramTable) (kept rows : List TableRow) (keep : List Bool) (stand further both : List ℕ) →
    IsWhole table → ((p : ℕ) → table.reached p ≡ true → p < 256) → ((p : ℕ) → is_marked keep p ≡ keeps table p) →
    ((p : ℕ) → slice_index stand p ≡ stand_in table p) →
    IsRenumbering (is_marked keep) table.rows kept (slice_index further) →
    ((p : ℕ) → p < 256 → slice_index both p ≡ slice_index further (slice_index stand p)) → length both ≡ 256 →
    rows ≡ map (retargeted (slice_index both)) kept → IsPackedTable table rows both
packed_table table kept rows keep stand further both whole small keep_is stand_is is both_is long rows_are =
    let renumbered = subst (λ (k : ℕ → Bool). IsRenumbering k table.rows kept (slice_index further)) (fun_ext keep_is)
    is in
    let packed = stored_once_is_packed table (keeps table) (stand_in table) (slice_index further) kept whole (λ p. refl)
    (λ p. refl) renumbered in
    let number : (p : ℕ) → slice_index both p ≡ program_number table p = λ p. elim (cases_lt p 256) [
      | inl inside ↦ both_is p inside ∙ ap (slice_index further) (stand_is p) ∙ packed.1 p
      | inr past ↦ (
          let none = unmarked_past (table.reached p) (λ is. let low = small p is in omega arith) in
          let e = no_stand_in table p none in
          get_or_past both p 0 (omega arith) ∙ rw e refl)
    ] in
    record {
      rows_are = rows_are
          ∙ ap (λ (f : ℕ → ℕ). map (retargeted f) kept) (fun_ext (λ (p : ℕ). number p ∙ sym (packed.1 p))) ∙ packed.0;
      numbers = number;
    }
