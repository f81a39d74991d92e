use Rattle.std.proofs.lemmas.Result.{err_from_is_err_and}
use Rattle.jobs.specs.Endings as ends
use Rattle.jobs.proofs.second_file.read_song_and_script.Goals as goal

pub returns-in_err-song-clause-refused : goal.returns-in_err-song-clause-refused
returns-in_err-song-clause-refused g c =
    let p = err_from_is_err_and c.from_residual.result c.from_residual.ensures.1 in
    rw (p.1, p.2) (ends.first c.in_err-song.ensures.refused)

pub returns-in_err-text-clause-refused : goal.returns-in_err-text-clause-refused
returns-in_err-text-clause-refused g c =
    let p = err_from_is_err_and c.from_residual-in_err-text.result c.from_residual-in_err-text.ensures.1 in
    let fails = c.in_err-text.ensures.refused in
    rw (p.1, p.2) (ends.second _ c.in_ok-song.ensures.read.read fails.0 fails.1)

pub returns-clause-read : goal.returns-clause-read
returns-clause-read g c = c.in_ok-text.ensures.read _ _ c.in_ok-song.ensures.read
