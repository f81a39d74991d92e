-- A layout with a set keeps its lines.
use Rattle.kept_blocks.proofs.Layouts.{sets_keep_their_lines}
use Rattle.kept_blocks.proofs.claims.sets_keep_their_lines.Goals as goal

pub returns : goal.returns
returns c = sets_keep_their_lines
