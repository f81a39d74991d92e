-- The lines that begin a subtune are a block.
use Rattle.std.proofs.Common.{rules, arith}
use Rattle.player_code.specs.CodeLines.{cleared_of}
use Rattle.player_code.proofs.Fits.{init_is_block}
use Rattle.player_code.proofs.room.around.Goals as goal

pub size_of-requires-3-clause-block : goal.size_of-requires-3-clause-block
size_of-requires-3-clause-block c =
    let few = c.ranges.variables.fits in
    init_is_block c.args.start (cleared_of c.args.variables) c.args.init.now c.requires.init (search rules)
    (search rules) (search rules) (search rules) (omega (arith, few))
