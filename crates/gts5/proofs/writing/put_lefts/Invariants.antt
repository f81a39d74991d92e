use Rattle.std.proofs.Common.{◌≡◌, ◌++◌, map, take}
use Rattle.gts5.proofs.writing.put_lefts.Given as goal

abbrev pub invariant-loop-row : goal.invariant-loop-row
invariant-loop-row l = l.out.items ≡ l.fn.out.items ++ map (λ row. row.left) (take l.row-index l.rows)
