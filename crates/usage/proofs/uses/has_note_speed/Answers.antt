use Rattle.std.proofs.Common.{refl, arith}
use Rattle.usage.proofs.AddedMarks.{marked_inside}
use Rattle.usage.proofs.uses.has_note_speed.Goals as goal

pub returns-then-speed-ge128 : goal.returns-then-speed-ge128
returns-then-speed-ge128 c = (
  λ t. record {
    p = c.loop-pointer.pointer;
    pointer = (c.requires.each c.loop-pointer.pointer).0 (rw c.from.ensures at c.if-pointers-from.true);
    from_note = rw c.speed.ensures at c.if-speed-ge128.true;
  },
  λ h. refl,
)

pub returns : goal.returns
returns c = (
  λ t. absurd (cc),
  λ h. absurd (
      let marked = (c.requires.each h.p).1 h.pointer in
      let below = c.loop-pointer.invariant h.p (omega
      (arith, marked_inside c.args.pointers.now 256 h.p (omega arith) marked)) marked in
      let above = h.from_note in
      omega arith),
)
