-- The spans of the bytes so far.
use Rattle.std.proofs.Common.{◌≡◌, ◌+◌, ◌++◌, ◌∷◌, [], take, length}
use Rattle.player_build.specs.Joined.{Follow}
use Rattle.player_build.specs.Spans.{parts_of_spans}
use Rattle.player_build.proofs.spans.code_spans.Given as goal

abbrev pub invariant-loop-part : goal.invariant-loop-part
invariant-loop-part l = record {
  follow : Follow 0 (l.spans ++ l.open ∷ []) (length (take l.part-index l.code));
  end : l.open.start + l.open.length ≡ length (take l.part-index l.code);
  parts : parts_of_spans (l.spans ++ l.open ∷ []) ≡ take l.part-index l.code;
}
