use Rattle.std.proofs.Common.{◌≡◌, ◌++◌, take}
use Rattle.std.specs.List.{flat_map}
use Rattle.edit_script.specs.Forms.{numbers}
use Rattle.song_script.specs.Statements.{argument_text}
use Rattle.song_script.proofs.lines.put_arguments.Given as goal

abbrev pub invariant-loop-byte : goal.invariant-loop-byte
invariant-loop-byte l = l.out ≡ l.fn.out ++ flat_map argument_text (numbers (take l.byte-index l.bytes))
