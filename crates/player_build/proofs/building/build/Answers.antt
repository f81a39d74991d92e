-- What is built isn't too large.
use Rattle.std.proofs.Common.{◌≡◌, ℕ, ◌≤◌, List, length, ap, arith}
use Rattle.play_model.specs.declared.options.Options.{Options}
use Rattle.kept_lines.specs.Asked.{asked_by}
use Rattle.image_parts.specs.CodeParts.{code_parts}
use Rattle.image_parts.proofs.Laws.{code_is_short}
use Rattle.player_build.proofs.building.build.Goals as goal

few : (asked : ℕ) (o : Options) (code : List ℕ) → code ≡ code_parts asked o → length code ≤ 65535
few asked o code is =
    let most = code_is_short asked o in
    let same = ap length is in
    omega (arith, most, same)

pub image_length-length-requires : goal.image_length-length-requires
image_length-length-requires c = few (asked_by c.args.packed.now) c.args.options.now c.args.code.now c.requires
