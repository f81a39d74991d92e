use Rattle.std.proofs.Common.{true, ap, ◌∙◌}
use Rattle.play_model.specs.declared.options.Options.{Options}
use Rattle.play_model.specs.State.{no_options}
use Rattle.command_line.specs.declared.chip.Chip.TheVariants.{Mos6581}
use Rattle.jobs.specs.Packed.{packed_file}
use Rattle.command_line.proofs.Laws.{ok_mapped}
use Rattle.jobs.proofs.Laws.{has_subtune}
use Rattle.goat_cli.proofs.Places.{image_written}
use Rattle.goat_cli.proofs.images.generated_file.Goals as goal

pub image_file-requires-clause-some : goal.image_file-requires-clause-some
image_file-requires-clause-some c = has_subtune c.args.song.now c.requires.playable

pub returns : goal.returns
returns c =
    let song = c.args.song.now in
    let image = c.in_ok-image.image in
    let e = c.in_ok-image.ensures in
    ok_mapped c.image_file.result
    (λ file is.
    image_written c.in_ok-packed.packed song no_options c.in_ok-packed.ensures true 0x1000 0xFC Mos6581 image file.items
    e.built e.address e.zero_page
    (is ∙ ap (λ (o : Options). packed_file true song image.place.address image.bytes o Mos6581) c.default.ensures))
    c.image_file.ensures
