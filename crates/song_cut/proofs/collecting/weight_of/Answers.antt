use Rattle.std.proofs.Common.{ℕ, ◌+◌, refl, sym, ap}
use Rattle.song_cut.proofs.collecting.weight_of.Goals as goal

pub returns-in-Err : goal.returns-in-Err
returns-in-Err c =
    let long = (c.in-Err.ensures.too_long c.in-Err.long.length).0 refl in ap (λ (n : ℕ). n + 2) (sym long.0)
