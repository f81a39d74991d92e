use Rattle.std.proofs.Common.{refl}
use Rattle.std.proofs.lemmas.Result.{err_from_is_err_and}
use Rattle.jobs.proofs.Laws.{psid_begun, psid_held, hold_fails, met_next, refused, written}
use Rattle.length_jobs.proofs.chart.draw_song.Goals as goal

pub returns-in_err-psid : goal.returns-in_err-psid
returns-in_err-psid g c =
    let p = err_from_is_err_and c.from_residual.result c.from_residual.ensures.1 in
    rw (p.1, p.2) (λ sink. hold_fails sink refl refl c.in_err-psid.ensures.refused)

pub returns-in_err-_song : goal.returns-in_err-_song
returns-in_err-_song g c =
    let read = c.in_ok-psid.ensures.read in
    let p = err_from_is_err_and c.from_residual-in_err-_song.result c.from_residual-in_err-_song.ensures.1 in
    let refuses = c.in_err-_song.ensures.refused read.was.files c.args.input.now (psid_held read) in
    rw (p.1, p.2) (λ sink. refused sink (psid_begun refl read) refl refuses)

pub returns-in_err-picture : goal.returns-in_err-picture
returns-in_err-picture g c =
    let read = c.in_ok-psid.ensures.read in
    let holds = psid_held read in
    let p = err_from_is_err_and c.from_residual-in_err-picture.result c.from_residual-in_err-picture.ensures.1 in
    let refuses = c.in_err-picture.ensures.refused read.was.files c.args.input.now holds in
    let at = met_next (psid_begun refl read) (c.in_ok-psid.psid, holds, c.in_ok-_song.ensures.has) in
    rw (p.1, p.2) (λ sink. refused sink at refl refuses)

pub returns : goal.returns
returns g c = λ sink.
    let read = c.in_ok-psid.ensures.read in
    let psid = c.in_ok-psid.psid in
    let holds = psid_held read in
    let at = met_next (psid_begun refl read) (psid, holds, c.in_ok-_song.ensures.has) in
    let drawn = c.in_ok-picture.ensures.drawn in
    let writes = rw (c.as_slice.ensures) at c.write_file.ensures in
    written sink (met_next at (psid, drawn.told, holds, drawn.is_told))
    (c.in_ok-picture.picture, (psid, holds, drawn), record { lines_are = refl; write_is = refl }) writes
