use Rattle.std.proofs.Common.{◌≤◌, length, arith}
use Rattle.std.proofs.lemmas.List.Sums.{length-filter, count_by-le-length}
use Rattle.song_model.specs.LookUp.{is_playable_subtune, playable_subtunes}
use Rattle.command_line.proofs.Laws.{two_digits, three_digits, features_fit}
use Rattle.file_jobs.proofs.check.report_of.Goals as goal

pub says-requires-clause-short : goal.says-requires-clause-short
says-requires-clause-short c =
    let song = c.args.song.now in
    let few : length (playable_subtunes song) ≤ 64 =
    omega (
      arith,
      length-filter is_playable_subtune song.subtunes,
      count_by-le-length is_playable_subtune song.subtunes,
      c.as_slice-subtunes.ensures.limit,
    )
    in
    let subtunes = two_digits c.from.result (omega (arith, few, c.from.ensures, c.playable_count.ensures)) in
    let patterns = three_digits c.count.result (omega (arith, c.count.ensures.most)) in
    let instruments = two_digits c.count-2.result (omega (arith, c.count-2.ensures.most)) in
    let wave = three_digits c.count-3.result (omega (arith, c.count-3.ensures.most)) in
    let pulse = three_digits c.count-4.result (omega (arith, c.count-4.ensures.most)) in
    let filter = three_digits c.count-5.result (omega (arith, c.count-5.ensures.most)) in
    let speed = three_digits c.count-6.result (omega (arith, c.count-6.ensures.most)) in
    let features = features_fit c.args.parts.now.features.0 in
    omega (arith, subtunes, patterns, instruments, wave, pulse, filter, speed, features)
