use Rattle.std.proofs.Common.{◌≡◌, ◌+◌, ◌++◌, drop}
use Rattle.song_lists.specs.DataLists.{marks_from}
use Rattle.song_lists.proofs.labels.push_marks_from.Given as goal

abbrev pub invariant-loop-place : goal.invariant-loop-place
invariant-loop-place l = record {
  next : l.next ≡ l.label + l.place-index;
  marks : l.initial.marks ++ marks_from l.label l.places ≡ l.marks ++ marks_from l.next (drop l.place-index l.places);
}
