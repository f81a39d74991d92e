use Rattle.std.proofs.Common.{refl}
use Rattle.std.proofs.lemmas.Result.{err_from_is_err_and}
use Rattle.playroutine.proofs.Laws.{start_after}
use Rattle.jobs.proofs.Chains.{song_begun, hold_fails, song_held, met_next, refused, lines_over}
use Rattle.jobs.proofs.trace.trace_song.Goals as goal

pub returns-in_err-song : goal.returns-in_err-song
returns-in_err-song g c =
    let p = err_from_is_err_and c.from_residual.result c.from_residual.ensures.1 in
    rw (p.1, p.2) (hold_fails _ refl refl c.in_err-song.ensures.refused)

pub returns-in_err-_parts : goal.returns-in_err-_parts
returns-in_err-_parts g c =
    let read = c.in_ok-song.ensures.read in
    let p = err_from_is_err_and c.from_residual-in_err-_parts.result c.from_residual-in_err-_parts.ensures.1 in
    let refuses = c.in_err-_parts.ensures.refused read.was.files c.args.input.now (song_held read) in
    rw (p.1, p.2) (refused _ (song_begun refl read) refl refuses)

pub returns-in_err-number : goal.returns-in_err-number
returns-in_err-number g c =
    let read = c.in_ok-song.ensures.read in
    let holds = song_held read in
    let p = err_from_is_err_and c.from_residual-in_err-number.result c.from_residual-in_err-number.ensures.1 in
    let refuses = c.in_err-number.ensures.refused read.was.files c.args.input.now holds in
    rw (p.1, p.2)
    (refused _ (met_next (song_begun refl read) (c.in_ok-song.song, holds, c.in_ok-_parts.ensures.playable)) refl
    refuses)

pub returns : goal.returns
returns g c =
    let read = c.in_ok-song.ensures.read in
    let song = c.in_ok-song.song in
    let holds = song_held read in
    let stands =
    start_after c.in-Ok.player song c.in_ok-number.number c.args.options c.in-Ok.ensures.plays c.in-Ok.ensures.start in
    let lines = c.show_frames.ensures song c.in_ok-number.number c.args.options stands in
    lines_over
    (met_next (met_next (song_begun refl read) (song, holds, c.in_ok-_parts.ensures.playable))
    (song, holds, c.in_ok-number.ensures.has)) ((song, holds, refl), refl) (rw c.in_ok-number.ensures.number at lines)
