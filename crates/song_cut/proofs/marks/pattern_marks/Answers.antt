use Rattle.pattern_cut.specs.Pieces.{repeated_of}
use Rattle.song_cut.proofs.Marking.{of_none, named_are, repeated_are}
use Rattle.song_cut.proofs.marks.pattern_marks.Goals as goal

pub loop-subtune-init : goal.loop-subtune-init
loop-subtune-init c = record { named = of_none (λ order. order.entries); repeated = of_none repeated_of }

pub returns : goal.returns
returns c = record {
  named = named_are c.args.song.now c.as_slice-stored.result.now c.loop-subtune.subtune-index c.loop-subtune.marks.named
      c.as_slice-stored.ensures.items c.loop-subtune-test.false c.loop-subtune.invariant.named;
  repeated = repeated_are c.args.song.now c.as_slice-stored.result.now c.loop-subtune.subtune-index
      c.loop-subtune.marks.repeated c.as_slice-stored.ensures.items c.loop-subtune-test.false
      c.loop-subtune.invariant.repeated;
}
