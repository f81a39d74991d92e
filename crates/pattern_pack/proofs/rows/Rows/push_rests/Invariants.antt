use Rattle.std.proofs.Common.{◌≡◌, ◌+◌, ◌++◌, List, replicate}
use Rattle.song_model.specs.declared.rows.Row.{Row}
use Rattle.packed_form.specs.Entries.{row_with}
use Rattle.pattern_pack.specs.Answers.{RowsAre}
use Rattle.pattern_pack.proofs.rows.Rows.push_rests.Given as goal

abbrev pub invariant-loop-i : goal.invariant-loop-i
invariant-loop-i l = record {
  running : l.self.running ≡ l.fn.self.running;
  counted : l.self.count ≡ l.fn.self.count + l._i;
  rest : l.rest ≡ row_with 0xBD 0 l.fn.self.running;
  rows : (all : List Row) → RowsAre l.fn.self all → RowsAre l.self (all ++ replicate l._i l.rest);
}
