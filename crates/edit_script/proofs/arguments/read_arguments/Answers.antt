use Rattle.std.proofs.Common.{◌≤◌, sum, length, refl, sym, ◌∙◌, arith}
use Rattle.std.proofs.lemmas.Bool.{eqb-true, eqb-false}
use Rattle.edit_script.proofs.ArgumentLaws.{none_read, part_read, part_room, part_fails, all_are_read, some_is_left}
use Rattle.edit_script.proofs.arguments.read_arguments.Goals as goal

pub loop-size-init : goal.loop-size-init
loop-size-init c = record { room = refl; read = none_read c.args.sizes.now c.args.text.now _ }

pub loop-size-preserved : goal.loop-size-preserved
loop-size-preserved c =
    let room = c.loop-size.invariant.room in
    let fits : sum c.args.sizes.now ≤ length c.loop-size.bytes = omega (arith, room, c.requires) in
    record {
      room =
          part_room c.args.sizes.now c.args.text.now c.loop-size.size-index c.loop-size.at c.loop-size.bytes
          c.loop-size.left.now c.read_argument.new.bytes c.loop-size-test.true fits c.read_argument.auto.bytes
          c.loop-size.invariant.read
          ∙ room;
      read =
          part_read c.args.sizes.now c.args.text.now c.loop-size.size-index c.loop-size.at c.loop-size.bytes
          c.loop-size.left.now c.read_argument.new.bytes c.in_ok-left.left.now c.loop-size-test.true fits
          c.in_ok-left.ensures c.read_argument.auto.bytes c.loop-size.invariant.read;
    }

pub returns-in_err-left-clause-read : goal.returns-in_err-left-clause-read
returns-in_err-left-clause-read c =
    let room = c.loop-size.invariant.room in
    let fits : sum c.args.sizes.now ≤ length c.loop-size.bytes = omega (arith, room, c.requires) in
    rw c.from_residual.ensures
    (part_fails c.args.sizes.now c.args.text.now c.loop-size.size-index c.loop-size.at c.loop-size.bytes
    c.loop-size.left.now c.loop-size-test.true fits c.in_err-left.ensures c.loop-size.invariant.read)

pub returns-then-is_empty-clause-read : goal.returns-then-is_empty-clause-read
returns-then-is_empty-clause-read c =
    all_are_read c.args.sizes.now c.args.text.now c.loop-size.size-index c.loop-size.at c.loop-size.bytes
    c.loop-size.left.now c.loop-size-test.false (eqb-true _ 0 (sym c.if-is_empty.ensures)) c.loop-size.invariant.read

pub returns-else-is_empty-clause-read : goal.returns-else-is_empty-clause-read
returns-else-is_empty-clause-read c =
    let never = eqb-false (length c.loop-size.left.now) 0 (sym c.if-is_empty.ensures) in
    some_is_left c.args.sizes.now c.args.text.now c.loop-size.size-index c.loop-size.at c.loop-size.bytes
    c.loop-size.left.now c.loop-size-test.false (omega (arith, never)) c.loop-size.invariant.read
