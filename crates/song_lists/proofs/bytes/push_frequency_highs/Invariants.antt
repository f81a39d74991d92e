use Rattle.std.proofs.Common.{◌≡◌, ◌-◌, ◌≤◌, ◌++◌, ◌/◌, map}
use Rattle.std.specs.List.{range_with_len}
use Rattle.play_model.specs.Freq.{freq}
use Rattle.song_lists.proofs.bytes.push_frequency_highs.Given as goal

abbrev pub invariant-loop-n : goal.invariant-loop-n
invariant-loop-n l = record {
  from : l.packed.numbers.first ≤ l.n;
  bytes : l.bytes ≡ l.initial.bytes
      ++ map (λ n. freq n / 256) (range_with_len l.packed.numbers.first (l.n - l.packed.numbers.first));
}
