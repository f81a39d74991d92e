use Rattle.std.proofs.Common.{◌≡◌, ◌++◌, take}
use Rattle.song_script.specs.Statements.{text_of, each_from}
use Rattle.song_script.specs.Parts.{field_said}
use Rattle.song_script.proofs.instruments.put_fields.Given as goal

abbrev pub invariant-loop-field : goal.invariant-loop-field
invariant-loop-field l = l.out ≡ l.fn.out ++ text_of (each_from 0 (field_said l.number) (take l.field l.values))
