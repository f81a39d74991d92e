use Rattle.std.proofs.Common.{refl}
use Rattle.std.proofs.lemmas.Result.{err_from_is_err_and}
use Rattle.song_model.specs.Canonical.{canonical}
use Rattle.jobs.proofs.Laws.{wants_first, song_begun, hold_fails, song_held, written}
use Rattle.file_jobs.proofs.copy.copy_song.Goals as goal

pub returns-in_err-song : goal.returns-in_err-song
returns-in_err-song g c =
    let p = err_from_is_err_and c.from_residual.result c.from_residual.ensures.1 in
    rw (p.1, p.2) (λ sink. hold_fails sink refl refl c.in_err-song.ensures.refused)

pub returns-in_err-file : goal.returns-in_err-file
returns-in_err-file g c =
    let p = err_from_is_err_and c.from_residual-in_err-file.result c.from_residual-in_err-file.ensures.1 in
    rw (p.1, p.2) (λ sink. wants_first sink c.in_ok-song.ensures.read.was.stays)

pub returns : goal.returns
returns g c = λ sink.
    let read = c.in_ok-song.ensures.read in
    let song = c.in_ok-song.song in
    let writes = rw (c.deref.ensures.value, c.in_ok-file.ensures) at c.write_file.ensures in
    written sink (song_begun refl read)
    (canonical song, (song, song_held read, refl), record { lines_are = refl; write_is = refl }) writes
