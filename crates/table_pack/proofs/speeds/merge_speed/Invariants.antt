use Rattle.std.proofs.Common.{◌≡◌, ◌≤◌, length, map}
use Rattle.table_pack.specs.Marks.{is_marked}
use Rattle.table_pack.specs.Speeds.{sides_of}
use Rattle.table_pack.proofs.SpeedRows.{MergedSoFar}
use Rattle.table_pack.proofs.speeds.merge_speed.Given as goal

abbrev pub invariant-loop-index : goal.invariant-loop-index
invariant-loop-index l = record {
  together : l.seen.keys ≡ map sides_of l.rows.items;
  few : length l.rows.items ≤ l.index;
  merged : MergedSoFar l.song (is_marked l.marks) l.index l.rows.items l.to;
}
