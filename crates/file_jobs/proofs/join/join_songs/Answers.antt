use Rattle.std.proofs.Common.{Some, refl, sym, ap, ◌∙◌, ◌≤◌, arith}
use Rattle.std.proofs.lemmas.Result.{err_from_is_err_and}
use Rattle.song_model.specs.Canonical.{canonical}
use Rattle.song_join.specs.Joined.{joined}
use Rattle.jobs.specs.Stages.{input_limit}
use Rattle.jobs.proofs.Laws.{wants_first, song_begun, hold_fails, song_held, met_next, refused, written}
use Rattle.file_jobs.proofs.Joining.{both_fit, other_fails, join_begun, other_held, other_begun, both_play}
use Rattle.file_jobs.proofs.join.join_songs.Goals as goal

pub returns-in_err-song : goal.returns-in_err-song
returns-in_err-song g c =
    let p = err_from_is_err_and c.from_residual.result c.from_residual.ensures.1 in
    rw (p.1, p.2) (λ sink. hold_fails sink refl refl c.in_err-song.ensures.refused)

pub returns-in_err-_parts : goal.returns-in_err-_parts
returns-in_err-_parts g c =
    let read = c.in_ok-song.ensures.read.read in
    let p = err_from_is_err_and c.from_residual-in_err-_parts.result c.from_residual-in_err-_parts.ensures.1 in
    let refuses = c.in_err-_parts.ensures.refused read.was.files c.args.input.now (song_held read) in
    rw (p.1, p.2) (λ sink. refused sink (song_begun refl read) refl refuses)

pub returns-in_err-text : goal.returns-in_err-text
returns-in_err-text g c =
    let read = c.in_ok-song.ensures.read.read in
    let p = err_from_is_err_and c.from_residual-in_err-text.result c.from_residual-in_err-text.ensures.1 in
    let fails = c.in_err-text.ensures.refused in
    rw (p.1, p.2)
    (λ sink. other_fails c.args.output.now c.in_ok-_parts.ensures.playable sink _ read fails.0 fails.1)

pub song_of-requires : goal.song_of-requires
song_of-requires g c =
    let within : input_limit ≤ input_limit = omega arith in
    rw c.deref.ensures.value (both_fit within (c.in_ok-text.ensures.read _ _ c.in_ok-song.ensures.read))

pub returns-in_err-other : goal.returns-in_err-other
returns-in_err-other g c =
    let both = c.in_ok-text.ensures.read _ _ c.in_ok-song.ensures.read in
    let begun = join_begun c.args.output.now c.in_ok-_parts.ensures.playable both in
    let p = err_from_is_err_and c.from_residual-in_err-other.result c.from_residual-in_err-other.ensures.1 in
    let found = begun.found ∙ ap Some (sym c.deref.ensures.value) in
    rw (p.1, p.2)
    (λ sink. refused sink begun.at refl (c.in_err-other.ensures.refused begun.files c.args.second.now found))

pub returns-in_err-_others : goal.returns-in_err-_others
returns-in_err-_others g c =
    let both = c.in_ok-text.ensures.read _ _ c.in_ok-song.ensures.read in
    let plays = c.in_ok-_parts.ensures.playable in
    let spells = rw c.deref.ensures.value at c.in_ok-other.ensures.spells in
    let begun = join_begun c.args.output.now plays both in
    let p = err_from_is_err_and c.from_residual-in_err-_others.result c.from_residual-in_err-_others.ensures.1 in
    let refuses =
    c.in_err-_others.ensures.refused begun.files c.args.second.now (other_held c.args.output.now plays both spells) in
    rw (p.1, p.2) (λ sink. refused sink (other_begun c.args.output.now plays both spells) refl refuses)

pub returns-in_err-joined : goal.returns-in_err-joined
returns-in_err-joined g c =
    let both = c.in_ok-text.ensures.read _ _ c.in_ok-song.ensures.read in
    let plays = c.in_ok-_parts.ensures.playable in
    let spells = rw c.deref.ensures.value at c.in_ok-other.ensures.spells in
    let begun = join_begun c.args.output.now plays both in
    let p = err_from_is_err_and c.from_residual-in_err-joined.result c.from_residual-in_err-joined.ensures.1 in
    let refuses =
    c.in_err-joined.ensures.refused begun.files c.args.input.now c.args.second.now begun.held
    (other_held c.args.output.now plays both spells) in
    rw (p.1, p.2)
    (λ sink.
    refused sink (both_play c.args.output.now plays both spells c.in_ok-_others.ensures.playable) refl refuses)

pub returns-in_err-file : goal.returns-in_err-file
returns-in_err-file g c =
    let both = c.in_ok-text.ensures.read _ _ c.in_ok-song.ensures.read in
    let begun = join_begun c.args.output.now c.in_ok-_parts.ensures.playable both in
    let p = err_from_is_err_and c.from_residual-in_err-file.result c.from_residual-in_err-file.ensures.1 in
    rw (p.1, p.2) (λ sink. wants_first sink begun.at.stays)

pub returns : goal.returns
returns g c = λ sink.
    let both = c.in_ok-text.ensures.read _ _ c.in_ok-song.ensures.read in
    let plays = c.in_ok-_parts.ensures.playable in
    let spells = rw c.deref.ensures.value at c.in_ok-other.ensures.spells in
    let begun = join_begun c.args.output.now plays both in
    let held = other_held c.args.output.now plays both spells in
    let can = c.in_ok-joined.ensures.can in
    let song = c.in_ok-song.song in
    let other = c.in_ok-other.other in
    let writes = rw (c.deref-2.ensures.value, c.in_ok-file.ensures, c.in_ok-joined.ensures.joined) at c.write_file.ensures in
    written sink
    (met_next (both_play c.args.output.now plays both spells c.in_ok-_others.ensures.playable)
    (song, other, begun.held, held, can)) (
      canonical (joined song other),
      (song, other, begun.held, held, can, refl),
      record { lines_are = refl; write_is = refl },
    ) writes
