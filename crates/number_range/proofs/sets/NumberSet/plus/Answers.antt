use Rattle.std.proofs.Common.{◌<◌, ◌^◌, rules, arith}
use Rattle.number_range.proofs.Bits.{within}
use Rattle.number_range.proofs.MadeSets.{IsMovedIf, below_first, below_more, sums_of}
use Rattle.number_range.proofs.sets.NumberSet.plus.Goals as goal

pub loop-by-init : goal.loop-by-init
loop-by-init c = below_first (IsMovedIf c.args.self c.args.other) c.none-sums.ensures

pub loop-by-preserved : goal.loop-by-preserved
loop-by-preserved c =
    below_more (IsMovedIf c.args.self c.args.other) c.loop-by.by c.loop-by.invariant c.moved_if.ensures
    c.union-sums.ensures

pub returns : goal.returns
returns c =
    let fits : c.args.other.bits < 2 ^ 128 = search rules in
    sums_of c.args.self c.args.other c.loop-by.by (omega arith) (λ k has. within c.args.other.bits k fits has)
    c.loop-by.invariant
