use Rattle.std.proofs.Common.{◌+◌, [], ◌∷◌, ◌++◌, ap, ◌∙◌, arith}
use Rattle.asm_text.specs.declared.statements.Statement.TheVariants.{Label}
use Rattle.asm_text.proofs.Laid.{laid_small, laid_at}
use Rattle.asm_text.proofs.laying.listing_at.Goals as goal

pub item_at-requires : goal.item_at-requires
item_at-requires c =
    laid_small c.args.origin c.args.script.now c.loop-written.written-index c.loop-written.listing c.loop-written.pc
    c.ranges.origin.fits c.requires c.loop-written.invariant

pub overflow_add-pc : goal.overflow_add-pc
overflow_add-pc c =
    let small =
    laid_small c.args.origin c.args.script.now c.loop-written.written-index c.loop-written.listing c.loop-written.pc
    c.ranges.origin.fits c.requires c.loop-written.invariant in
    omega (arith, small, c.from-pc-in-loop-written.ensures, c.size.type_inv)

pub loop-written-preserved : goal.loop-written-preserved
loop-written-preserved c =
    laid_at c.args.origin c.args.script.now c.loop-written.written-index (record { line = 0; statement = Label 0 })
    c.loop-written.listing c.push.new.self c.loop-written.pc (c.loop-written.pc + c.from-pc-in-loop-written.result)
    c.loop-written-test.true c.loop-written.invariant
    (c.in_ok-push.ensures.ok
    ∙ ap (λ item. c.loop-written.listing ++ record { part = 255; item = item } ∷ []) c.in_ok-item.ensures)
    (ap (λ n. c.loop-written.pc + n) (c.from-pc-in-loop-written.ensures ∙ c.size.ensures))
