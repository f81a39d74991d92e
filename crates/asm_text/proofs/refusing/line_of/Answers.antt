use Rattle.std.proofs.Common.{◌||◌, sym, ap, ◌∙◌, take, get_or, arith}
use Rattle.asm_text.specs.declared.statements.Statement.TheVariants.{Label}
use Rattle.asm_text.specs.Faults.{names}
use Rattle.asm_text.proofs.Looking.{looked_small, looked_at, found_at, found_nowhere}
use Rattle.asm_text.proofs.refusing.line_of.Goals as goal

pub finds-requires : goal.finds-requires
finds-requires c =
    looked_small c.args.sought c.args.origin c.args.script.now c.loop-written.written-index c.loop-written.seen
    c.ranges.origin.fits c.requires c.loop-written.invariant

pub and-seen-requires : goal.and-seen-requires
and-seen-requires c =
    let small =
    looked_small c.args.sought c.args.origin c.args.script.now c.loop-written.written-index c.loop-written.seen
    c.ranges.origin.fits c.requires c.loop-written.invariant in
    omega (arith, small)

pub loop-written-preserved : goal.loop-written-preserved
loop-written-preserved c =
    let looked = c.loop-written.invariant in
    looked_at c.args.sought c.args.origin c.args.script.now c.loop-written.written-index c.loop-written.seen
    c.and-seen.result (record { line = 0; statement = Label 0 }) c.loop-written-test.true looked
    (sym (c.if-finds.ensures (take c.loop-written.written-index c.args.script.now) looked.size_is looked.named_is))
    c.and-seen.ensures.size
    (c.and-seen.ensures.is_named
    ∙ ap
    (λ n. c.loop-written.seen.is_named
    || names n
    (get_or c.args.script.now c.loop-written.written-index (record { line = 0; statement = Label 0 })).statement)
    c.label-label.ensures)

pub returns-then-finds : goal.returns-then-finds
returns-then-finds c =
    let looked = c.loop-written.invariant in
    found_at c.args.sought c.args.origin c.args.script.now c.loop-written.written-index c.loop-written.seen
    (record { line = 0; statement = Label 0 }) c.loop-written-test.true looked
    (sym (c.if-finds.ensures (take c.loop-written.written-index c.args.script.now) looked.size_is looked.named_is))

pub returns : goal.returns
returns c =
    found_nowhere c.args.sought c.args.origin c.args.script.now c.loop-written.written-index c.loop-written.seen
    c.loop-written-test.false c.loop-written.invariant
