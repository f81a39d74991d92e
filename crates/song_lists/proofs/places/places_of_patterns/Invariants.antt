use Rattle.std.proofs.Common.{◌≡◌, ◌+◌, length, take}
use Rattle.std.specs.List.{concat}
use Rattle.song_lists.specs.DataLists.{places_from}
use Rattle.song_lists.proofs.places.places_of_patterns.Given as goal

abbrev pub invariant-loop-pattern : goal.invariant-loop-pattern
invariant-loop-pattern l = record {
  places : l.places ≡ places_from l.from (take l.pattern-index l.patterns);
  place : l.place ≡ l.from + length (concat (take l.pattern-index l.patterns));
}
