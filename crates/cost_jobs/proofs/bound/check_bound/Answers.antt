use Rattle.std.proofs.Common.{None, refl}
use Rattle.std.proofs.lemmas.Result.{err_from_is_err_and}
use Rattle.player_bound.specs.Programs.{program_blocks}
use Rattle.jobs.proofs.Laws.{as_before, still, song_begun, hold_fails, song_held, refused, done_says}
use Rattle.cost_jobs.proofs.Bounding.{program_has, certificate_fails, check_begun, not_admitted, all_admitted}
use Rattle.cost_jobs.proofs.bound.check_bound.Goals as goal

pub returns-in_err-song : goal.returns-in_err-song
returns-in_err-song g c =
    let p = err_from_is_err_and c.from_residual.result c.from_residual.ensures.1 in
    rw (p.1, p.2) (λ sink. hold_fails sink refl refl c.in_err-song.ensures.refused)

pub returns-in_err-parts : goal.returns-in_err-parts
returns-in_err-parts g c =
    let read = c.in_ok-song.ensures.read.read in
    let p = err_from_is_err_and c.from_residual-in_err-parts.result c.from_residual-in_err-parts.ensures.1 in
    let refuses = c.in_err-parts.ensures.refused read.was.files c.args.input.now (song_held read) in
    rw (p.1, p.2) (λ sink. refused sink (song_begun refl read) refl refuses)

pub returns-in_err-text : goal.returns-in_err-text
returns-in_err-text g c =
    let read = c.in_ok-song.ensures.read.read in
    let p = err_from_is_err_and c.from_residual-in_err-text.result c.from_residual-in_err-text.ensures.1 in
    let fails = c.in_err-text.ensures.refused in
    rw (p.1, p.2)
    (λ sink. certificate_fails c.args.options c.in_ok-parts.ensures.playable sink _ read fails.0 fails.1)

pub returns-in_err-packed : goal.returns-in_err-packed
returns-in_err-packed g c =
    let both = c.in_ok-text.ensures.read _ _ c.in_ok-song.ensures.read in
    let begun = check_begun c.args.options c.in_ok-parts.ensures.playable both in
    let p = err_from_is_err_and c.from_residual-in_err-packed.result c.from_residual-in_err-packed.ensures.1 in
    let refuses = c.in_err-packed.ensures.refused begun.files c.args.input.now begun.held in
    rw (p.1, p.2) (λ sink. refused sink begun.at refl refuses)

pub returns-in_err-bounds : goal.returns-in_err-bounds
returns-in_err-bounds g c =
    let both = c.in_ok-text.ensures.read _ _ c.in_ok-song.ensures.read in
    let p = err_from_is_err_and c.from_residual-in_err-bounds.result c.from_residual-in_err-bounds.ensures.1 in
    let fails = rw c.deref.ensures.value at c.in_err-bounds.ensures.refused in
    rw (p.1, p.2)
    (λ sink.
    not_admitted c.args.options c.in_ok-parts.ensures.playable both c.in_ok-packed.ensures.packs
    c.in_ok-packed.ensures.short sink fails)

pub returns : goal.returns
returns g c = λ sink.
    let both = c.in_ok-text.ensures.read _ _ c.in_ok-song.ensures.read in
    let plays = c.in_ok-parts.ensures.playable in
    let packs = c.in_ok-packed.ensures.packs in
    let packed = c.in_ok-packed.packed in
    let song = c.in_ok-song.song in
    let begun = check_begun c.args.options plays both in
    let admitted = rw c.deref.ensures.value at c.in_ok-bounds.ensures.admitted in
    rw c.bound_report.ensures
    (done_says sink
    (all_admitted c.args.options plays both packs c.in_ok-packed.ensures.short c.in_ok-bounds.bounds admitted) None (
      (
        song,
        program_blocks packed c.args.options,
        _,
        c.in_ok-bounds.bounds,
        begun.held,
        program_has packed song c.args.options packs,
        begun.found,
        admitted,
        refl,
      ),
      refl,
    ) (as_before _) (still refl refl refl refl refl))
