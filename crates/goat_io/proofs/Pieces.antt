-- Pieces that a sink takes, one after the other.
use Rattle.std.proofs.Common.{◌≡◌, ℕ, List, [], ◌++◌, Option, Some, None, refl, ap}
use Rattle.std.proofs.lemmas.List.{append-nil, append_assoc}
use Rattle.goat_io.specs.Written.{told_with_piece}

pub told_nothing : (told : Option (List ℕ)) → told_with_piece told [] ≡ told
told_nothing None = refl
told_nothing (Some bytes) = ap Some (append-nil bytes)

pub told_both : (told : Option (List ℕ)) (a b : List ℕ) →
    told_with_piece (told_with_piece told a) b ≡ told_with_piece told (a ++ b)
told_both None a b = refl
told_both (Some bytes) a b = ap Some (append_assoc bytes a b)
