-- So many subtunes have been told.
use Rattle.jobs.specs.Stands.{sink_state}
use Rattle.length_jobs.proofs.Telling.{ToldSoFar}
use Rattle.length_jobs.proofs.measure.tell_songs.Given as goal

abbrev pub invariant-loop-song : goal.invariant-loop-song
invariant-loop-song g l =
    ToldSoFar l.psid l.calls l.song (sink_state (g.K.Sink.written l.initial.out) (g.K.Sink.faults l.initial.out))
    (sink_state (g.K.Sink.written l.out) (g.K.Sink.faults l.out))
