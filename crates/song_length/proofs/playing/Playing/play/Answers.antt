use Rattle.std.proofs.Common.{ap, ◌∙◌}
use Rattle.song_length.specs.Counts.{noted}
use Rattle.song_length.proofs.OnePlay.{at_next}
use Rattle.song_length.proofs.playing.Playing.play.Goals as goal

pub returns-clause-on : goal.returns-clause-on
returns-clause-on c = λ first at.
    let e = c.in_ok-_registers.ensures in
    at_next first c.args.self.now (record { runner = c.play.new.self; counts = c.note.new.self }) at
    (record { called = e.returned; within = e.in_budget }) e.same_play e.is_running
    (c.note.ensures ∙ ap (noted c.args.self.now.counts) (c.cycles.ensures ∙ e.cycles))
