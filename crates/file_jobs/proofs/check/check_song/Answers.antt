use Rattle.std.proofs.Common.{None, refl}
use Rattle.std.proofs.lemmas.Result.{err_from_is_err_and}
use Rattle.jobs.proofs.Laws.{as_before, still, song_begun, hold_fails, song_held, met_next, refused, done_says}
use Rattle.file_jobs.proofs.check.check_song.Goals as goal

pub returns-in_err-song : goal.returns-in_err-song
returns-in_err-song g c =
    let p = err_from_is_err_and c.from_residual.result c.from_residual.ensures.1 in
    rw (p.1, p.2) (λ sink. hold_fails sink refl refl c.in_err-song.ensures.refused)

pub returns-in_err-parts : goal.returns-in_err-parts
returns-in_err-parts g c =
    let read = c.in_ok-song.ensures.read in
    let p = err_from_is_err_and c.from_residual-in_err-parts.result c.from_residual-in_err-parts.ensures.1 in
    let refuses = c.in_err-parts.ensures.refused read.was.files c.args.input.now (song_held read) in
    rw (p.1, p.2) (λ sink. refused sink (song_begun refl read) refl refuses)

pub returns : goal.returns
returns g c = λ sink.
    let read = c.in_ok-song.ensures.read in
    let song = c.in_ok-song.song in
    let holds = song_held read in
    rw c.report_of.ensures
    (done_says sink (met_next (song_begun refl read) (song, holds, c.in_ok-parts.ensures.playable)) None
    ((song, c.in_ok-parts.parts, holds, c.in_ok-parts.ensures.parts, refl), refl) (as_before _)
    (still refl refl refl refl refl))
