use Rattle.std.proofs.Common.{◌≤◌, length, take, All, String}
use Rattle.std.specs.Global.{Global}
use Rattle.std.specs.String.{string_bytes}
use Rattle.command_line.proofs.line.longest.Given as goal

abbrev pub invariant-loop-word : goal.invariant-loop-word
invariant-loop-word l = All (λ (word : String Global). length (string_bytes word) ≤ l.most) (take l.word-index l.words)
