use Rattle.std.proofs.Common.{◌≡◌, true, false}
use Rattle.std.proofs.lemmas.List.{take_rest}
use Rattle.psid.specs.Reading.{has_address, image_of}
use Rattle.psid.proofs.reading.image_of.Goals as goal

pub returns-then-has_address : goal.returns-then-has_address
unfolding image_of
returns-then-has_address c =
    let placed : has_address c.args.file.now ≡ true = cc in rw (placed, take_rest)

pub returns-else-has_address : goal.returns-else-has_address
unfolding image_of
returns-else-has_address c =
    let placed : has_address c.args.file.now ≡ false = cc in rw (placed, take_rest)
