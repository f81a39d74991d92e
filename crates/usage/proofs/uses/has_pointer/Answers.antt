use Rattle.usage.proofs.FeatureMarks.{pointer_marks, iff_then}
use Rattle.usage.proofs.uses.has_pointer.Goals as goal

pub returns : goal.returns
returns c = iff_then c.has_mark.ensures (pointer_marks c.args.song.now c.args.name c.args.pointers.now c.requires
    c.told-pointers)
