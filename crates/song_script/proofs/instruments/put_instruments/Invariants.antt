use Rattle.std.proofs.Common.{◌≡◌, ◌++◌, take}
use Rattle.song_script.specs.Statements.{text_of, each_from}
use Rattle.song_script.specs.Parts.{instrument_said}
use Rattle.song_script.proofs.instruments.put_instruments.Given as goal

abbrev pub invariant-loop-place : goal.invariant-loop-place
invariant-loop-place l = l.out ≡ l.fn.out ++ text_of (each_from 1 instrument_said (take l.place l.instruments))
