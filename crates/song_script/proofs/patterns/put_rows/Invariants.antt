use Rattle.std.proofs.Common.{◌≡◌, ◌++◌, take}
use Rattle.song_script.specs.Statements.{text_of, each_from}
use Rattle.song_script.specs.Parts.{row_said}
use Rattle.song_script.proofs.patterns.put_rows.Given as goal

abbrev pub invariant-loop-place : goal.invariant-loop-place
invariant-loop-place l = l.out ≡ l.fn.out ++ text_of (each_from 0 (row_said l.number) (take l.place l.rows))
