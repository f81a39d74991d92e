use Rattle.std.proofs.Common.{refl, [], ◌∷◌, ◌++◌, ap, ◌∙◌}
use Rattle.std.proofs.lemmas.Result.{err_from_is_err_and}
use Rattle.player_bound.specs.Programs.{program_blocks, least_init}
use Rattle.cycle_bound.specs.Rules.{bound_by}
use Rattle.bound_text.specs.Texts.{numbers_text}
use Rattle.jobs.specs.Lines.{bound_line}
use Rattle.jobs.proofs.Laws.{song_begun, hold_fails, song_held, met_next, refused, wants_first, written}
use Rattle.cost_jobs.proofs.Bounding.{program_has}
use Rattle.cost_jobs.proofs.bound.write_bound.Goals as goal

pub returns-in_err-song : goal.returns-in_err-song
returns-in_err-song g c =
    let p = err_from_is_err_and c.from_residual.result c.from_residual.ensures.1 in
    rw (p.1, p.2) (λ sink. hold_fails sink refl refl c.in_err-song.ensures.refused)

pub returns-in_err-parts : goal.returns-in_err-parts
returns-in_err-parts g c =
    let read = c.in_ok-song.ensures.read in
    let p = err_from_is_err_and c.from_residual-in_err-parts.result c.from_residual-in_err-parts.ensures.1 in
    let refuses = c.in_err-parts.ensures.refused read.was.files c.args.input.now (song_held read) in
    rw (p.1, p.2) (λ sink. refused sink (song_begun refl read) refl refuses)

pub returns-in_err-packed : goal.returns-in_err-packed
returns-in_err-packed g c =
    let read = c.in_ok-song.ensures.read in
    let holds = song_held read in
    let p = err_from_is_err_and c.from_residual-in_err-packed.result c.from_residual-in_err-packed.ensures.1 in
    let refuses = c.in_err-packed.ensures.refused read.was.files c.args.input.now holds in
    rw (p.1, p.2) (λ sink.
    refused sink (met_next (song_begun refl read) (c.in_ok-song.song, holds, c.in_ok-parts.ensures.playable)) refl refuses)

pub returns-in_err-certificate : goal.returns-in_err-certificate
returns-in_err-certificate g c =
    let p = err_from_is_err_and c.from_residual-in_err-certificate.result c.from_residual-in_err-certificate.ensures.1 in
    rw (p.1, p.2) (λ sink. wants_first sink c.in_ok-song.ensures.read.was.stays)

pub returns-in_err-text : goal.returns-in_err-text
returns-in_err-text g c =
    let p = err_from_is_err_and c.from_residual-in_err-text.result c.from_residual-in_err-text.ensures.1 in
    rw (p.1, p.2) (λ sink. wants_first sink c.in_ok-song.ensures.read.was.stays)

pub returns : goal.returns
returns g c = λ sink.
    let read = c.in_ok-song.ensures.read in
    let song = c.in_ok-song.song in
    let holds = song_held read in
    let b = program_blocks c.in_ok-packed.packed c.args.options in
    let has = program_has c.in_ok-packed.packed song c.args.options c.in_ok-packed.ensures.packs in
    let short = c.in_ok-packed.ensures.short read.was.files c.args.input.now holds in
    let text = c.deref.ensures.value ∙ c.in_ok-text.ensures
    ∙ ap (λ l. numbers_text (l ++ c.in_ok-certificate.certificate.play)) c.in_ok-certificate.ensures.init
    ∙ ap (λ l. numbers_text (least_init b ++ l)) c.in_ok-certificate.ensures.play in
    let bounds = c.bounds.result in
    let init = c.bounds.ensures.init ∙ ap bound_by c.in_ok-certificate.ensures.init in
    let play = c.bounds.ensures.play ∙ ap bound_by c.in_ok-certificate.ensures.play in
    let line = ap (λ n. bound_line n bounds.play ∷ []) init
    ∙ ap (λ n. bound_line (bound_by (least_init b)) n ∷ []) play in
    written sink (met_next (met_next (song_begun refl read) (song, holds, c.in_ok-parts.ensures.playable)) short)
    (c.deref.result.now, (song, b, holds, has, text, line), refl)
    (c.write_and_tell.ensures (bound_line bounds.init bounds.play) c.bound_report-told.ensures)
