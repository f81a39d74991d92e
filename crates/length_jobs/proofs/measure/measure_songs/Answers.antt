use Rattle.std.proofs.Common.{refl}
use Rattle.std.proofs.lemmas.Result.{err_from_is_err_and}
use Rattle.psid.proofs.Laws.{read_is_writable}
use Rattle.jobs.proofs.Laws.{psid_begun, psid_held, hold_fails, stage_over}
use Rattle.length_jobs.proofs.measure.measure_songs.Goals as goal

pub returns-in_err-psid : goal.returns-in_err-psid
returns-in_err-psid g c =
    let p = err_from_is_err_and c.from_residual.result c.from_residual.ensures.1 in
    rw (p.1, p.2) (hold_fails _ refl refl c.in_err-psid.ensures.refused)

pub tell_songs-requires-clause-songs : goal.tell_songs-requires-clause-songs
tell_songs-requires-clause-songs g c =
    let read = c.in_ok-psid.ensures.read in (read_is_writable read.bytes c.in_ok-psid.psid read.reads).most_songs

pub returns : goal.returns
returns g c =
    let read = c.in_ok-psid.ensures.read in
    stage_over (psid_begun refl read) refl (c.tell_songs.ensures read.was.files c.args.input.now (psid_held read))
