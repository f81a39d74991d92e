use Rattle.std.proofs.Common.{◌≡◌, length}
use Rattle.edit_script.proofs.ArgumentLaws.{IsReadTo}
use Rattle.edit_script.proofs.arguments.read_arguments.Given as goal

abbrev pub invariant-loop-size : goal.invariant-loop-size
invariant-loop-size l = record {
  room : length l.bytes ≡ 33;
  read : IsReadTo l.sizes l.text l.size-index l.at l.bytes l.left;
}
