use Rattle.std.proofs.Common.{◌≡◌, ◌+◌, ◌-◌, ap, sym, ◌∙◌, max, arith}
use Rattle.song_model.specs.declared.orders.Order.{Order}
use Rattle.packed_form.specs.WalkCount.{looks_from}
use Rattle.packed_form.proofs.OrderWalks.{looks_short, looks_pattern, looks_left, most_from, most_from_end}
use Rattle.packed_form.proofs.OrderWalks.{most_from_start, most_left}
use Rattle.packed_form.proofs.walk_counts.most_looks.Goals as goal
use Rattle.packed_form.proofs.walk_counts.most_looks.Goals.{then-entries-place-lt-FIRST_REPEAT}
use Rattle.packed_form.proofs.walk_counts.most_looks.Goals.{else-entries-place-lt-FIRST_REPEAT}

pub loop-place-init : goal.loop-place-init
loop-place-init c =
    let order : Order = record { entries = c.args.entries.now; restart = c.args.restart } in
    record { looks = c.end_looks-looks.ensures; most = c.end_looks-looks.ensures ∙ sym (most_from_end order) }

pub overflow_add-looks : goal.overflow_add-looks
overflow_add-looks c =
    let order : Order = record { entries = c.args.entries.now; restart = c.args.restart } in
    omega (arith, c.loop-place.invariant.looks, looks_short order c.loop-place.place)

pub loop-place-preserved : goal.loop-place-preserved
loop-place-preserved c =
    let order : Order = record { entries = c.args.entries.now; restart = c.args.restart } in
    let left : c.if-entries-place-lt-FIRST_REPEAT.looks ≡ looks_from order (c.loop-place.place - 1) =
    elim c.if-entries-place-lt-FIRST_REPEAT.branch [
      | then-entries-place-lt-FIRST_REPEAT w ↦
          w.looks-is ∙ sym (looks_pattern order (c.loop-place.place - 1) (omega arith)
          w.if-entries-place-lt-FIRST_REPEAT.true)
      | else-entries-place-lt-FIRST_REPEAT w ↦
          w.looks-is ∙ ap (λ looks. looks + 1) c.loop-place.invariant.looks
          ∙ sym (looks_left order c.loop-place.place c.loop-place-test.true c.loop-place.auto.place
          w.if-entries-place-lt-FIRST_REPEAT.false)
    ] in
    record {
      looks = left;
      most =
          c.greater-most.ensures ∙ ap (λ most. max most c.if-entries-place-lt-FIRST_REPEAT.looks)
          c.loop-place.invariant.most ∙ most_left order c.loop-place.place c.if-entries-place-lt-FIRST_REPEAT.looks
          c.loop-place-test.true c.loop-place.auto.place left;
    }

pub returns : goal.returns
returns c =
    let order : Order = record { entries = c.args.entries.now; restart = c.args.restart } in
    let start : c.loop-place.place ≡ 0 = omega arith in
    c.loop-place.invariant.most ∙ ap (most_from order) start ∙ most_from_start order
