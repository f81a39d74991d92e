use Rattle.std.proofs.Common.{◌≡◌, take}
use Rattle.std.specs.List.{flat_map}
use Rattle.song_model.specs.Canonical.{row_text}
use Rattle.song_cut.proofs.collecting.text_of.Given as goal

abbrev pub invariant-loop-row : goal.invariant-loop-row
invariant-loop-row l = l.text.items ≡ flat_map row_text (take l.row-index l.rows)
