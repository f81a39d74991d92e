use Rattle.std.proofs.Common.{refl, ◌∙◌}
use Rattle.std.proofs.lemmas.Result.{err_from_is_err_and}
use Rattle.jobs.proofs.Laws.{wants_first, song_begun, hold_fails, song_held, met_next, refused, written, has_subtune}
use Rattle.goat_cli.proofs.Places.{image_written}
use Rattle.goat_cli.proofs.pack.pack_song.Goals as goal

pub returns-in_err-song : goal.returns-in_err-song
returns-in_err-song g c =
    let p = err_from_is_err_and c.from_residual.result c.from_residual.ensures.1 in
    rw (p.1, p.2) (λ sink. hold_fails sink refl refl c.in_err-song.ensures.refused)

pub returns-in_err-parts : goal.returns-in_err-parts
returns-in_err-parts g c =
    let read = c.in_ok-song.ensures.read in
    let p = err_from_is_err_and c.from_residual-in_err-parts.result c.from_residual-in_err-parts.ensures.1 in
    let refuses = c.in_err-parts.ensures.refused read.was.files c.args.input.now (song_held read) in
    rw (p.1, p.2) (λ sink. refused sink (song_begun refl read) refl refuses)

pub returns-in_err-packed : goal.returns-in_err-packed
returns-in_err-packed g c =
    let read = c.in_ok-song.ensures.read in
    let holds = song_held read in
    let p = err_from_is_err_and c.from_residual-in_err-packed.result c.from_residual-in_err-packed.ensures.1 in
    let refuses = c.in_err-packed.ensures.refused read.was.files c.args.input.now holds in
    rw (p.1, p.2)
    (λ sink.
    refused sink (met_next (song_begun refl read) (c.in_ok-song.song, holds, c.in_ok-parts.ensures.playable)) refl
    refuses)

pub returns-in_err-image : goal.returns-in_err-image
returns-in_err-image g c =
    let read = c.in_ok-song.ensures.read in
    let song = c.in_ok-song.song in
    let holds = song_held read in
    let p = err_from_is_err_and c.from_residual-in_err-image.result c.from_residual-in_err-image.ensures.1 in
    let packs = c.in_ok-packed.ensures.packs in
    let refuses = c.in_err-image.ensures.refused song read.was.files c.args.input.now packs holds in
    rw (p.1, p.2)
    (λ sink.
    refused sink
    (met_next (met_next (song_begun refl read) (song, holds, c.in_ok-parts.ensures.playable))
    (c.in_ok-packed.ensures.short read.was.files c.args.input.now holds))
    refl refuses)

pub image_file-requires-clause-some : goal.image_file-requires-clause-some
image_file-requires-clause-some g c = has_subtune c.in_ok-song.song c.in_ok-parts.ensures.playable

pub returns-in_err-file : goal.returns-in_err-file
returns-in_err-file g c =
    let p = err_from_is_err_and c.from_residual-in_err-file.result c.from_residual-in_err-file.ensures.1 in
    rw (p.1, p.2) (λ sink. wants_first sink c.in_ok-song.ensures.read.was.stays)

pub returns : goal.returns
returns g c = λ sink.
    let read = c.in_ok-song.ensures.read in
    let song = c.in_ok-song.song in
    let holds = song_held read in
    let packs = c.in_ok-packed.ensures.packs in
    let image = c.in_ok-image.ensures in
    let at =
    met_next
    (met_next (met_next (song_begun refl read) (song, holds, c.in_ok-parts.ensures.playable))
    (c.in_ok-packed.ensures.short read.was.files c.args.input.now holds))
    (image.room song read.was.files c.args.input.now packs holds) in
    let file = c.deref.result.now in
    let is =
    image_written c.in_ok-packed.packed song c.args.options packs c.args.psid c.args.address c.args.zero_page
    c.args.chip c.in_ok-image.image file image.built image.address image.zero_page
    (c.deref.ensures.value ∙ c.in_ok-file.ensures) in
    written sink at (file, (song, holds, is), record { lines_are = refl; write_is = refl }) c.write_file.ensures
