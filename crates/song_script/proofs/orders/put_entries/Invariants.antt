use Rattle.std.proofs.Common.{◌≡◌, ◌++◌, take}
use Rattle.song_script.specs.Statements.{text_of, each_from}
use Rattle.song_script.specs.Parts.{entry_said}
use Rattle.song_script.proofs.orders.put_entries.Given as goal

abbrev pub invariant-loop-place : goal.invariant-loop-place
invariant-loop-place l = l.out ≡ l.fn.out ++ text_of (each_from 0 (entry_said l.subtune l.channel) (take l.place
    l.entries))
