use Rattle.std.proofs.Common.{ℕ}
use Rattle.song_model.specs.declared.songs.Song.{Song}
use Rattle.play_model.specs.declared.options.Options.{Options}
use Rattle.playroutine.specs.Played.{StandsAfter}
use Rattle.jobs.specs.Stands.{sink_state}
use Rattle.jobs.proofs.Traced.{TracedSoFar}
use Rattle.jobs.proofs.trace.show_frames.Given as goal

abbrev pub invariant-loop-call : goal.invariant-loop-call
invariant-loop-call g l =
    (song : Song) (k : ℕ) (o : Options) → StandsAfter l.initial.player song k o 0 →
    TracedSoFar song k o l.call l.player
    (sink_state (g.K.Sink.written l.initial.out) (g.K.Sink.faults l.initial.out))
    (sink_state (g.K.Sink.written l.out) (g.K.Sink.faults l.out))
