use Rattle.std.proofs.Common.{map, refl, sym, ap, ◌∙◌}
use Rattle.edit_ops.specs.declared.numbered.NumberedPattern.{NumberedPattern}
use Rattle.edit_ops.specs.Pointers.{shifted, moved_row}
use Rattle.edit_ops.proofs.NumberedLaws.{changed_stays, changed_next}
use Rattle.edit_ops.proofs.PointerLaws.{stays_pattern}
use Rattle.edit_ops.proofs.pointers.moved_patterns.Goals.{then-has_moved+in_ok-moved_pattern+in_ok-push, else-has_moved}
use Rattle.edit_ops.proofs.pointers.moved_patterns.Goals as goal

pub loop-number-preserved : goal.loop-number-preserved
loop-number-preserved c =
    let move = shifted c.args.shift in
    let f = map (moved_row c.args.name move) in
    let k = c.loop-number.number in
    let stored = c.as_slice-stored.result.now in
    elim c.if-has_moved.branch [
      | then-has_moved+in_ok-moved_pattern+in_ok-push w ↦
          let read = w.index-stored-number-then-has_moved in
          let part : NumberedPattern = record { number = k; rows = w.in_ok-moved_pattern.field-0 } in
          rw w.parts-is (changed_next f k stored c.loop-number.parts.items w.push.new.self.items part read.result
          c.loop-number-test.true c.loop-number.invariant w.in_ok-push.ensures.items refl
          (w.in_ok-moved_pattern.ensures ∙ ap f read.is))
      | else-has_moved w ↦
          let read = c.index-stored-number in
          rw w.parts-is (changed_stays f k stored c.loop-number.parts.items read.result c.loop-number-test.true
          c.loop-number.invariant
          (ap f (sym read.is)
          ∙ stays_pattern c.args.name move read.result (sym c.has_moved.ensures ∙ w.if-has_moved.false)
          ∙ read.is))
    ]
