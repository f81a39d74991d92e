use Rattle.std.proofs.Common.{◌≡◌, ◌++◌, map, take}
use Rattle.song_script.specs.Words.{readable}
use Rattle.song_script.proofs.words.put_readable_text.Given as goal

abbrev pub invariant-loop-byte : goal.invariant-loop-byte
invariant-loop-byte l = l.out ≡ l.fn.out ++ map readable (take l.byte-index l.bytes)
