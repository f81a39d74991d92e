use Rattle.std.proofs.Common.{refl}
use Rattle.play_model.specs.Freq.{freq}
use Rattle.play_model.proofs.claims.worked_frequencies.Goals as goal

pub returns : goal.returns
unfolding freq
returns c =
    record { lowest = refl; first_b = refl; second_c = refl; fifth_a = refl; last = refl; beyond = refl; far_beyond = refl }
