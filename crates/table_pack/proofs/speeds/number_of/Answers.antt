use Rattle.std.proofs.Common.{◌∙◌, ◌+◌, ℕ, refl, ap}
use Rattle.packing_rules.specs.Renumbering.{same_row}
use Rattle.packing_rules.proofs.Laws.{place_of_map}
use Rattle.table_pack.specs.Speeds.{sides_of}
use Rattle.table_pack.proofs.SpeedRows.{new_row, old_row}
use Rattle.table_pack.proofs.speeds.number_of.Goals as goal
use Rattle.table_pack.proofs.speeds.number_of.Goals.{then-is_new+in_ok-push, else-is_new}

pub returns-clause-number : goal.returns-clause-number
returns-clause-number c =
    ap (λ (k : ℕ). k + 1)
    (c.in_ok-index.ensures.index
    ∙ rw c.requires.together (place_of_map sides_of _ (same_row c.args.row) c.args.rows.now.items (λ x. refl)))

pub returns-clause-rows : goal.returns-clause-rows
returns-clause-rows c = elim c.if-is_new.branch [
  | then-is_new+in_ok-push w ↦
      rw (w.rows-is, w.in_ok-push.ensures.items)
      (new_row _ c.args.row c.args.rows.now.items c.args.seen.now.keys c.in_ok-index.is_new c.requires.together
      c.in_ok-index.ensures.added (λ x. refl) w.if-is_new.true)
  | else-is_new w ↦
      rw w.rows-is
      (old_row _ c.args.row c.args.rows.now.items c.args.seen.now.keys c.in_ok-index.is_new c.requires.together
      c.in_ok-index.ensures.added (λ x. refl) w.if-is_new.false)
]
