use Rattle.std.proofs.Common.{refl}
use Rattle.std.proofs.lemmas.Result.{err_from_is_err_and}
use Rattle.song_script.specs.Shown.{script_of}
use Rattle.jobs.proofs.Laws.{song_begun, hold_fails, song_held, met_next, refused, written}
use Rattle.file_jobs.proofs.show.show_song.Goals as goal

pub returns-in_err-song : goal.returns-in_err-song
returns-in_err-song g c =
    let p = err_from_is_err_and c.from_residual.result c.from_residual.ensures.1 in
    rw (p.1, p.2) (λ sink. hold_fails sink refl refl c.in_err-song.ensures.refused)

pub returns-in_err-script : goal.returns-in_err-script
returns-in_err-script g c =
    let read = c.in_ok-song.ensures.read in
    let p = err_from_is_err_and c.from_residual-in_err-script.result c.from_residual-in_err-script.ensures.1 in
    let refuses = c.in_err-script.ensures.refused read.was.files c.args.input.now (song_held read) in
    rw (p.1, p.2) (λ sink. refused sink (song_begun refl read) refl refuses)

pub returns : goal.returns
returns g c = λ sink.
    let read = c.in_ok-song.ensures.read in
    let song = c.in_ok-song.song in
    let holds = song_held read in
    let writes = rw (c.as_slice.ensures, c.in_ok-script.ensures.shown) at c.write_file.ensures in
    written sink (met_next (song_begun refl read) (c.in_ok-script.ensures.short read.was.files c.args.input.now holds))
    (script_of song, (song, holds, refl), record { lines_are = refl; write_is = refl }) writes
