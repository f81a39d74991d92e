use Rattle.std.proofs.Common.{◌≡◌, ◌+◌, ◌*◌, ◌≤◌, ◌++◌, length}
use Rattle.std.specs.List.{All, flat_map}
use Rattle.song_model.specs.PatternLimits.{IsRow}
use Rattle.packed_form.specs.Entries.{entry_bytes}
use Rattle.packed_form.specs.Normal.{normal_rows, normal_from}
use Rattle.packed_form.specs.PackedText.{packed_entries, entries_from}
use Rattle.pattern_pack.proofs.packing.text_of.Given as goal

abbrev pub invariant-rows : goal.invariant-rows
invariant-rows l = record {
  text : l.text ++ flat_map entry_bytes (entries_from l.packer.running 0 (normal_from l.packer.last l.left))
      ≡ flat_map entry_bytes (packed_entries (normal_rows l.rows));
  room : length l.text + 4 * length l.left ≤ 512;
  each : All IsRow l.left;
}

abbrev pub decreases-rows : goal.decreases-rows
decreases-rows l = length l.left
