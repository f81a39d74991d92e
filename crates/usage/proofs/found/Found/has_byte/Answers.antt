use Rattle.std.proofs.Common.{arith}
use Rattle.usage.proofs.FeatureMarks.{byte_marks, iff_then}
use Rattle.usage.proofs.found.Found.has_byte.Goals as goal

pub returns : goal.returns
returns c = iff_then c.has_mark.ensures (byte_marks c.args.song.now c.args.self.now.bytes c.args.from c.args.to
    c.requires.found.bytes (let o = c.requires.order in omega arith))
