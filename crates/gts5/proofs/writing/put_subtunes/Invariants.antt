use Rattle.std.proofs.Common.{◌≡◌, ◌∷◌, ◌++◌, length, take}
use Rattle.std.specs.List.{flat_map}
use Rattle.song_model.specs.Canonical.{subtune_text}
use Rattle.gts5.proofs.writing.put_subtunes.Given as goal

abbrev pub invariant-loop-subtune : goal.invariant-loop-subtune
invariant-loop-subtune l = l.out.items ≡ l.fn.out.items ++ length l.subtunes ∷ flat_map subtune_text
    (take l.subtune-index l.subtunes)
