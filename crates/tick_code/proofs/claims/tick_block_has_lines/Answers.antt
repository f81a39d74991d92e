use Rattle.std.proofs.Common.{refl}
use Rattle.tick_code.proofs.claims.tick_block_has_lines.Goals as goal

-- src/claims.rt:14:1
pub returns : goal.returns
returns c = record { has = refl; all = refl; least = refl }
