-- The attributes that are there, behind what was there before.
use Rattle.std.proofs.Common.{◌≡◌, ◌++◌, take, map}
use Rattle.std.specs.List.{flat_map}
use Rattle.song_chart.specs.Elements.{attribute_text}
use Rattle.song_chart.specs.Pieces.{attribute_of}
use Rattle.song_chart.proofs.elements.put_attributes.Given as goal

abbrev pub invariant-loop-name : goal.invariant-loop-name
invariant-loop-name l =
    l.out ≡ l.fn.out ++ flat_map attribute_text (map attribute_of (take l.name-index l.attributes))
