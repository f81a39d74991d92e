use Rattle.std.proofs.Common.{◌<◌, take, ap, ◌∙◌, length, arith}
use Rattle.edit_ops.specs.declared.numbered.NumberedPattern.{NumberedPattern}
use Rattle.edit_ops.proofs.NumberedLaws.{length-with_all, stored_at, comes_next, read_is, step_made}
use Rattle.edit_ops.proofs.numbered.exchange_each.Goals as goal

pub exchange_with-requires : goal.exchange_with-requires
exchange_with-requires c =
    let parts = c.args.parts.now in
    let patterns = c.args.patterns.now in
    let i = c.loop-i.i in
    let inv = c.loop-i.invariant in
    let inside : i < length parts.items = omega (arith, c.loop-i-test.true, c.len-i-end.ensures, parts.ok.0) in
    let read = c.index.result.now in
    let same = c.index.ensures ∙ comes_next patterns parts.items c.loop-i.parts.items i read inside inv.1 in (
      omega arith,
      omega (
        arith,
        c.from-number.ensures,
        ap (λ (p : NumberedPattern). p.number) same,
        stored_at (length patterns) parts.items i read c.requires inside,
        ap length inv.0,
        length-with_all patterns (take i parts.items),
      ),
    )

pub loop-i-preserved : goal.loop-i-preserved
loop-i-preserved c =
    let parts = c.args.parts.now in
    let patterns = c.args.patterns.now in
    let i = c.loop-i.i in
    let inv = c.loop-i.invariant in
    let inside : i < length parts.items = omega (arith, c.loop-i-test.true, c.len-i-end.ensures, parts.ok.0) in
    let part = c.index_mut.result.now in
    let same = read_is patterns parts.items c.loop-i.parts.items i c.index.result.now part inside inv.1 c.index.ensures
    c.index_mut.ensures.value in
    step_made patterns c.loop-i.patterns c.exchange_with.new.self parts.items c.loop-i.parts.items i
    c.from-number.result
    part c.exchange_with.new.item c.requires inside inv.0 inv.1 c.index_mut.ensures.value
    (c.from-number.ensures ∙ ap (λ (p : NumberedPattern). p.number) same) c.exchange_with.ensures.after
    c.exchange_with.ensures.before
