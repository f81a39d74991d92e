-- Bytes and instructions of a block's lines.
use Rattle.scope_lines.proofs.Sizing.{lines_size, sizes_are_bounded}
use Rattle.scope_lines.proofs.Weighing.{costs_are_bounded}
use Rattle.scope_lines.proofs.claims.lines_are_measured.Goals as goal

pub returns-clause-size : goal.returns-clause-size
returns-clause-size c = lines_size

pub returns-clause-most : goal.returns-clause-most
returns-clause-most c = sizes_are_bounded

pub returns-clause-weight : goal.returns-clause-weight
returns-clause-weight c = costs_are_bounded
