use Rattle.std.proofs.Common.{refl}
use Rattle.song_length.specs.Told.{init_stops}
use Rattle.song_length.proofs.measuring.started.Goals as goal

pub returns-in-Err-clause-fault : goal.returns-in-Err-clause-fault
returns-in-Err-clause-fault c =
    let fails = rw c.in_ok-runner.ensures at c.in-Err.ensures.failed in
    init_stops c.init.new.self.machine refl (fails refl)
