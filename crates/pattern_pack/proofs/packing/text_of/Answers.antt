use Rattle.std.proofs.Common.{length, ap, arith, length-append, length-drop}
use Rattle.packed_form.specs.Entries.{entry_bytes}
use Rattle.pattern_pack.proofs.Packings.{entry_short, pack_step, entry_in_range, entry_fits, each_left}
use Rattle.pattern_pack.proofs.packing.text_of.Goals as goal

pub put_entry-requires-clause-range : goal.put_entry-requires-clause-range
put_entry-requires-clause-range c =
    entry_in_range c.rows.packer.last c.next_entry-entry.new.self.last c.rows.packer.running c.in-Some.row.now
    c.in-Some.others.now c.rows.left.now c.next_entry-entry.result c.rows.invariant.each c.in-Some.ensures.cases.0
    c.next_entry-entry.ensures.entry

pub rows_behind-left-requires : goal.rows_behind-left-requires
rows_behind-left-requires c =
    entry_fits c.rows.packer.last c.next_entry-entry.new.self.last c.rows.packer.running c.in-Some.row.now
    c.in-Some.others.now c.next_entry-entry.result c.more_rests.result c.next_entry-entry.ensures.entry
    c.more_rests.ensures

pub rows-preserved : goal.rows-preserved
rows-preserved c = record {
  text =
      pack_step _ c.rows.text c.put_entry.new.text c.rows.packer.last c.next_entry-entry.new.self.last
      c.rows.packer.running c.next_entry-entry.new.self.running c.in-Some.row.now c.in-Some.others.now c.rows.left.now
      c.rows_behind-left.result.now c.next_entry-entry.result c.more_rests.result c.rows.invariant.text
      c.in-Some.ensures.cases.0 c.put_entry.ensures c.rows_behind-left.ensures c.more_rests.ensures
      c.next_entry-entry.ensures.entry c.next_entry-entry.ensures.running c.next_entry-entry.ensures.last;
  room =
      let before = c.rows.invariant.room in
      let counted = c.in-Some.ensures.cases.1 in
      omega (
        arith,
        before,
        counted,
        ap length c.put_entry.ensures,
        length-append c.rows.text (entry_bytes c.next_entry-entry.result),
        entry_short c.next_entry-entry.result,
        ap length c.rows_behind-left.ensures,
        length-drop c.more_rests.result c.in-Some.others.now,
      );
  each =
      each_left c.in-Some.row.now c.in-Some.others.now c.rows.left.now c.rows_behind-left.result.now
      c.more_rests.result c.rows.invariant.each c.in-Some.ensures.cases.0 c.rows_behind-left.ensures;
}
