-- They are those that a song's facts leave.
use Rattle.std.proofs.Common.{sym, ◌∙◌}
use Rattle.image_parts.proofs.ReadBytes.{read_is}
use Rattle.image_parts.proofs.lengths.read_size.Goals as goal

pub returns-clause-bytes : goal.returns-clause-bytes
returns-clause-bytes c = c.bytes_read.ensures.size ∙ sym (read_is c.args.packed.now)
