use Rattle.std.proofs.Common.{take, nat_eq}
use Rattle.std.specs.List.{list_any}
use Rattle.song_cut.specs.Marks.{Adds}
use Rattle.song_cut.proofs.marks.mark_all.Given as goal

abbrev pub invariant-loop-byte : goal.invariant-loop-byte
invariant-loop-byte l = Adds (λ n. list_any (nat_eq n) (take l.byte-index l.entries)) l.initial.marks l.marks
