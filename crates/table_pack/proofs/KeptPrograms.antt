-- New numbers keep programs.
use Rattle.std.proofs.Common.{◌≡◌, ℕ, zero, suc, ◌+◌, Bool, true, false, List, length, map, refl, sym}
use Rattle.std.proofs.Common.{◌∙◌, ap, subst, arith}
use mathlib.Core.Path.{fun_ext}
use Rattle.song_model.specs.declared.tables.TableRow.{TableRow}
use Rattle.song_model.specs.LookUp.{IsNumbered}
use Rattle.packing_rules.specs.Segments.{ProgramTable, IsWhole, row_of, is_end, keeps, stand_in}
use Rattle.packing_rules.specs.ProgramMaps.{retargeted, row_at, KeepsPrograms}
use Rattle.packing_rules.specs.Renumbering.{rank}
use Rattle.packing_rules.proofs.Laws.{retargeted_twice, end_stays, kept_parts, stand_in_stays, next_stays, numbered_map}
use Rattle.packing_rules.proofs.Laws.{numbered_length, stand_ins_keep}
use Rattle.table_pack.specs.TableMaps.{IsRenumbering}
use Rattle.table_pack.specs.TableLaws.{RenumberingsKeepPrograms, RenumberingsKeepOrder, StoredOnceKeepsPrograms}
use Rattle.table_pack.proofs.Ranks.{rank_kept, rank_rises, rank_positive}

not_kept_0 : (keep : ℕ → Bool) (old : List TableRow) → ((p : ℕ) → keep p ≡ true → IsNumbered old p) → (b : Bool) →
    keep 0 ≡ b → b ≡ false
not_kept_0 keep old stored true e = absurd (let first = (stored 0 e).first in omega arith)
not_kept_0 keep old stored false e = refl

pub new_nothing : (keep : ℕ → Bool) (old new : List TableRow) (to : ℕ → ℕ) → IsRenumbering keep old new to →
    ((p : ℕ) → keep p ≡ true → IsNumbered old p) → to 0 ≡ 0
new_nothing keep old new to is stored = is.none 0 (not_kept_0 keep old stored (keep 0) refl)

new_stored : (keep : ℕ → Bool) (old new : List TableRow) (to : ℕ → ℕ) → IsRenumbering keep old new to →
    ((p : ℕ) → keep p ≡ true → IsNumbered old p) → (p : ℕ) → keep p ≡ true → IsNumbered new (to p)
new_stored keep old new to is stored p kept =
    let here = stored p kept in
    let e = is.number p kept in
    let low = rank_positive keep p here.first kept in
    let high = rank_rises keep p (length old) here.last in
    let count = is.count in
    record { first = omega arith; last = omega arith }

next_number : (keep : ℕ → Bool) (old new : List TableRow) (to : ℕ → ℕ) (p : ℕ) → IsRenumbering keep old new to →
    keep p ≡ true → keep (p + 1) ≡ true → to (p + 1) ≡ to p + 1
next_number keep old new to p is kept next =
    let more : p + 1 ≡ suc p = omega arith in
    is.number (p + 1) next ∙ ap (rank keep) more ∙ rank_kept keep p (ap keep (sym more) ∙ next)
    ∙ ap (λ (k : ℕ). k + 1) (sym (is.number p kept))

pub renumberings_keep : RenumberingsKeepPrograms
renumberings_keep pulse keep old new to is stored next target = record {
  nothing = new_nothing keep old new to is stored;
  stored = λ p kept. numbered_length (retargeted to) new (to p) (new_stored keep old new to is stored p kept);
  row = λ p kept.
      numbered_map (retargeted to) new (to p) (new_stored keep old new to is stored p kept)
      ∙ ap (retargeted to) (is.row p kept);
  goes_on = next;
  next = λ p kept goes. next_number keep old new to p is kept (next p kept goes);
  target = target;
}

pub keeps_order : RenumberingsKeepOrder
keeps_order keep old new to zero q is stored one other before =
    absurd (let first = (stored 0 one).first in omega arith)
keeps_order keep old new to (suc p) zero is stored one other before = absurd (omega arith)
keeps_order keep old new to (suc p) (suc q) is stored one other before =
    let e = is.number (suc p) one in
    let f = is.number (suc q) other in
    let more = rank_kept keep q other in
    let rises = rank_rises keep (suc p) q (omega arith) in
    omega arith

-- the rows that stand for each other become one row
same_row_becomes : (table : ProgramTable) (to : ℕ → ℕ) (p : ℕ) → IsWhole table → table.reached p ≡ true →
    IsNumbered table.rows (stand_in table p) →
    retargeted (λ k. to (stand_in table k)) (row_at table.rows (stand_in table p))
    ≡ retargeted (λ k. to (stand_in table k)) (row_at table.rows p)
same_row_becomes table to p whole reached there =
    let same : retargeted (stand_in table) (row_at table.rows (stand_in table p))
    ≡ retargeted (stand_in table) (row_at table.rows p) =
    sym (numbered_map (retargeted (stand_in table)) table.rows (stand_in table p) there)
    ∙ (stand_ins_keep table whole).row p reached in
    sym (retargeted_twice (stand_in table) to (row_at table.rows (stand_in table p)))
    ∙ ap (retargeted to) same ∙ retargeted_twice (stand_in table) to (row_at table.rows p)

same_end : (table : ProgramTable) (p : ℕ) → IsWhole table → table.reached p ≡ true →
    IsNumbered table.rows (stand_in table p) → is_end table.pulse (row_of table p) ≡ false →
    is_end table.pulse (row_of table (stand_in table p)) ≡ false
same_end table p whole reached there goes =
    let same : retargeted (stand_in table) (row_at table.rows (stand_in table p))
    ≡ retargeted (stand_in table) (row_at table.rows p) =
    sym (numbered_map (retargeted (stand_in table)) table.rows (stand_in table p) there)
    ∙ (stand_ins_keep table whole).row p reached in
    sym (end_stays table.pulse (stand_in table) (row_at table.rows (stand_in table p)))
    ∙ ap (is_end table.pulse) same ∙ end_stays table.pulse (stand_in table) (row_at table.rows p) ∙ goes

pub kept_stored : (table : ProgramTable) → IsWhole table → (p : ℕ) → keeps table p ≡ true → IsNumbered table.rows p
kept_stored table whole p kept = whole.stored p (kept_parts table p kept).reached

once : (table : ProgramTable) (to : ℕ → ℕ) (new : List TableRow) → IsWhole table →
    IsRenumbering (keeps table) table.rows new to →
    KeepsPrograms table.pulse table.reached table.rows (map (retargeted (λ p. to (stand_in table p))) new)
    (λ p. to (stand_in table p))
once table to new whole is =
    let stays = λ (p : ℕ) (reached : table.reached p ≡ true). stand_in_stays table p whole reached in
    let there = λ (p : ℕ) (reached : table.reached p ≡ true).
    kept_stored table whole (stand_in table p) (stays p reached) in
    let stored = λ (p : ℕ) (reached : table.reached p ≡ true).
    new_stored (keeps table) table.rows new to is (kept_stored table whole) (stand_in table p) (stays p reached) in
    record {
      nothing = ap to (stand_ins_keep table whole).nothing
          ∙ new_nothing (keeps table) table.rows new to is (kept_stored table whole);
      stored = λ p reached.
          numbered_length (retargeted (λ k. to (stand_in table k))) new (to (stand_in table p)) (stored p reached);
      row = λ p reached.
          numbered_map (retargeted (λ k. to (stand_in table k))) new (to (stand_in table p)) (stored p reached)
          ∙ ap (retargeted (λ k. to (stand_in table k))) (is.row (stand_in table p) (stays p reached))
          ∙ same_row_becomes table to p whole reached (there p reached);
      goes_on = whole.next;
      target = whole.target;
      next = λ p reached goes.
          ap to ((stand_ins_keep table whole).next p reached goes)
          ∙ next_number (keeps table) table.rows new to (stand_in table p) is (stays p reached)
          (next_stays table (stand_in table p) whole (stays p reached)
          (same_end table p whole reached (there p reached) goes));
    }

pub stored_once : StoredOnceKeepsPrograms
stored_once table keep stand to new whole keep_is stand_is is =
    subst (λ (f : ℕ → ℕ). KeepsPrograms table.pulse table.reached table.rows (map (retargeted (λ p. to (f p))) new)
    (λ p. to (f p))) (sym (fun_ext stand_is))
    (once table to new whole
    (subst (λ (k : ℕ → Bool). IsRenumbering k table.rows new to) (fun_ext keep_is) is))
