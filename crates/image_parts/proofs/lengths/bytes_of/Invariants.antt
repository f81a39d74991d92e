-- The bytes of the part so far.
use Rattle.std.proofs.Common.{◌≡◌, ◌≤◌, take}
use Rattle.scope_parts.specs.Parts.{bytes_of}
use Rattle.image_parts.proofs.lengths.bytes_of.Given as goal

abbrev pub invariant-loop-own : goal.invariant-loop-own
invariant-loop-own l = record {
  so_far : l.count ≡ bytes_of l.part (take l.own-index l.code);
  few : l.count ≤ l.own-index;
}
