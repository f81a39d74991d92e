use Rattle.std.proofs.Common.{Err, ap, add-one, arith}
use Rattle.std.proofs.lemmas.Result.{err_from_is_err_and}
use Rattle.length_jobs.proofs.Telling.{few_digits, told_on, line_cut, untold, all_told}
use Rattle.length_jobs.proofs.measure.tell_songs.Goals as goal

pub returns-in-Err : goal.returns-in-Err
returns-in-Err g c = λ files name holds.
    untold c.loop-song.invariant files name holds c.loop-song-test.true c.in-Err.fault _ c.in-Err.ensures.fault
    c.fault_refusal.ensures

pub song_message-requires-clause-digits : goal.song_message-requires-clause-digits
song_message-requires-clause-digits g c =
    few_digits c.args.psid.now c.loop-song.song c.args.calls c.in-Ok.told c.requires.few c.in-Ok.ensures.measured

pub returns-in_err-put_message : goal.returns-in_err-put_message
returns-in_err-put_message g c = λ files name holds.
    let p = err_from_is_err_and c.from_residual.result c.from_residual.ensures.1 in
    let e = c.in_err-put_message.ensures in
    rw p.1 (line_cut c.loop-song.invariant files name holds c.loop-song-test.true c.in-Ok.told c.in-Ok.ensures.measured _ p.0
    p.2 (λ is. rw c.song_message.ensures at e.failed (ap Err is)) (λ is. e.no_memory (ap Err is)))

pub loop-song-preserved : goal.loop-song-preserved
loop-song-preserved g c =
    rw (add-one c.loop-song.song) (told_on c.loop-song.invariant c.in-Ok.told c.in-Ok.ensures.measured
    (rw c.song_message.ensures at c.in_ok-put_message.ensures.ok))

pub returns : goal.returns
returns g c = λ files name holds.
    let end = c.loop-song.auto.song-end in
    let out = c.loop-song-test.false in
    all_told c.loop-song.invariant files name holds (omega (arith, end, out))
