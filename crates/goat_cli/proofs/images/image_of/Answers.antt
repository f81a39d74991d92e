use Rattle.std.proofs.Common.{ℕ, Err, subst, sym, ap, ◌∙◌}
use Rattle.image_parts.specs.CodeParts.{code_parts}
use Rattle.player_build.specs.declared.place.Place.{Place}
use Rattle.player_build.specs.Room.{IsTooLarge}
use Rattle.player_build.specs.Built.{IsBuild}
use Rattle.goat_cli.proofs.Places.{has_room, has_no_room}
use Rattle.goat_cli.proofs.images.image_of.Goals as goal

pub build-requires : goal.build-requires
build-requires c =
    c.as_slice.ensures
    ∙ (c.in_ok-code.ensures ∙ ap (λ (set : ℕ). code_parts set c.args.options.now) c.asked_by.ensures)

pub returns-in-Ok-clause-built : goal.returns-in-Ok-clause-built
returns-in-Ok-clause-built c =
    let is = c.in-Ok.ensures.built in
    subst (λ place. IsBuild c.args.packed.now place c.args.options.now c.in-Ok.image) (sym is.place_is) is

pub returns-in-Ok-clause-address : goal.returns-in-Ok-clause-address
returns-in-Ok-clause-address c =
    ap (λ (place : Place). place.address) c.in-Ok.ensures.built.place_is ∙ c.place_of-place.ensures.address

pub returns-in-Ok-clause-zero_page : goal.returns-in-Ok-clause-zero_page
returns-in-Ok-clause-zero_page c =
    ap (λ (place : Place). place.zero_page) c.in-Ok.ensures.built.place_is ∙ c.place_of-place.ensures.zero_page

pub returns-in-Ok-clause-room : goal.returns-in-Ok-clause-room
returns-in-Ok-clause-room c = λ song files name packs holds.
    let is = c.in-Ok.ensures.built in
    let built = subst (λ place. IsBuild c.args.packed.now place c.args.options.now c.in-Ok.image) (sym is.place_is) is in
    has_room c.args.packed.now song c.args.options.now packs files name c.args.address holds c.in-Ok.image built
    (ap (λ (place : Place). place.address) is.place_is ∙ c.place_of-place.ensures.address)

pub returns-clause-refused : goal.returns-clause-refused
returns-clause-refused c = λ song files name packs holds.
    let large = (c.in-Err-TooLarge.ensures.too_large c.in-Err-TooLarge.length).0 (ap Err c.in-Err-TooLarge.field-0-is) in
    has_no_room c.args.packed.now song c.args.options.now packs files name c.args.address holds c.in-Err-TooLarge.length
    (subst (λ address. IsTooLarge c.args.packed.now c.args.options.now address c.in-Err-TooLarge.length)
    c.place_of-place.ensures.address large) c.too_large_image.ensures
