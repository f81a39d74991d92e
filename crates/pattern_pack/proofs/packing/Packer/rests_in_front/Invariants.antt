use Rattle.std.proofs.Common.{◌≡◌, ◌+◌, ◌≤◌, drop}
use Rattle.packed_form.specs.Normal.{normal_from}
use Rattle.packed_form.specs.PackedText.{rests_in_front}
use Rattle.pattern_pack.proofs.packing.Packer.rests_in_front.Given as goal

abbrev pub invariant-loop-row : goal.invariant-loop-row
invariant-loop-row l = record {
  counted : l.count ≡ l.row-index;
  few : l.count ≤ 63;
  front : rests_in_front l.self.running (normal_from l.self.last l.rows)
      ≡ l.count + rests_in_front l.self.running (normal_from l.self.last (drop l.row-index l.rows));
}
