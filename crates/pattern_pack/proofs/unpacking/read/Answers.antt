use Rattle.std.proofs.Common.{get_or, subst, sym, ◌∙◌, arith}
use Rattle.std.proofs.lemmas.List.{drop_more}
use Rattle.pattern_pack.specs.declared.rows.Rows.{Rows}
use Rattle.packed_form.specs.Entries.{no_command, rows_from}
use Rattle.pattern_pack.specs.Answers.{RowsAre, GoesOn}
use Rattle.pattern_pack.proofs.InRange.{no_command_is, rows_are}
use Rattle.pattern_pack.proofs.Walks.{walk_step, walk_stops}
use Rattle.pattern_pack.proofs.unpacking.read.Goals as goal

pub loop-offset-preserved : goal.loop-offset-preserved
loop-offset-preserved c =
    walk_step c.args.bytes.now c.loop-offset.rows c.go_on.new.self c.loop-offset.place c.in-Some-2.next
    c.loop-offset.offset (get_or c.args.bytes.now c.loop-offset.offset 0) c.in-Some.taken c.loop-offset.invariant
    (drop_more c.args.bytes.now c.loop-offset.offset 0 c.loop-offset-test.true)
    (omega (arith, c.type_inv.bytes c.loop-offset.offset))
    (sym c.take.ensures ∙ c.in-Some.is)
    (subst (GoesOn c.loop-offset.rows c.in-Some.taken c.go_on.new.self) c.in-Some-2.is c.in_ok-next.ensures.ok)

pub into_pattern-requires : goal.into_pattern-requires
into_pattern-requires c =
    let walk = c.loop-offset.invariant in
    let stops = walk_stops c.loop-offset.rows c.go_on.new.self c.in-Some.taken
    (subst (GoesOn c.loop-offset.rows c.in-Some.taken c.go_on.new.self) c.in_default-2.is c.in_ok-next.ensures.ok) in (
      rows_from no_command walk.done,
      subst (λ (r : Rows). RowsAre r (rows_from no_command walk.done)) (sym stops.1) walk.of.are,
      rows_are no_command walk.done no_command_is walk.each,
    )
