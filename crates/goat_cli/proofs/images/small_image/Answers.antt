use Rattle.std.proofs.Common.{ℕ, Err, sym, ap, ◌∙◌, subst}
use Rattle.play_model.specs.declared.options.Options.{Options}
use Rattle.play_model.specs.State.{no_options}
use Rattle.image_parts.specs.CodeParts.{code_parts}
use Rattle.player_build.specs.declared.place.Place.{Place}
use Rattle.player_build.specs.Room.{IsTooLarge}
use Rattle.player_build.specs.Built.{IsBuild}
use Rattle.goat_cli.proofs.Places.{small_has_room}
use Rattle.goat_cli.proofs.images.small_image.Goals as goal

pub build-requires : goal.build-requires
build-requires c =
    c.as_slice.ensures
    ∙ (c.in_ok-code.ensures ∙ ap (λ (set : ℕ). code_parts set c.default-options.result) c.asked_by.ensures)

pub unreachable-requires : goal.unreachable-requires
unreachable-requires c =
    let large = (c.in-Err-TooLarge.ensures.too_large c.in-Err-TooLarge.field-0-0).0 (ap Err c.in-Err-TooLarge.field-0-is) in
    let plain = subst (λ (o : Options). IsTooLarge c.args.packed.now o c.place_of-place.result.address
    c.in-Err-TooLarge.field-0-0) c.default-options.ensures large in
    small_has_room c.args.packed.now c.args.song.now c.in-Err-TooLarge.field-0-0 c.requires.packs c.requires.small
    (subst (λ address. IsTooLarge c.args.packed.now no_options address c.in-Err-TooLarge.field-0-0)
    c.place_of-place.ensures.address plain)

pub returns-in-Ok-clause-built : goal.returns-in-Ok-clause-built
returns-in-Ok-clause-built c =
    let is = subst (λ (o : Options). IsBuild c.args.packed.now c.place_of-place.result o c.in-Ok.image) c.default-options.ensures
    c.in-Ok.ensures.built in
    subst (λ place. IsBuild c.args.packed.now place no_options c.in-Ok.image) (sym is.place_is) is

pub returns-in-Ok-clause-address : goal.returns-in-Ok-clause-address
returns-in-Ok-clause-address c =
    ap (λ (place : Place). place.address) c.in-Ok.ensures.built.place_is ∙ c.place_of-place.ensures.address

pub returns-in-Ok-clause-zero_page : goal.returns-in-Ok-clause-zero_page
returns-in-Ok-clause-zero_page c =
    ap (λ (place : Place). place.zero_page) c.in-Ok.ensures.built.place_is ∙ c.place_of-place.ensures.zero_page
