use Rattle.std.proofs.Common.{◌≡◌, ℕ, ◌<◌, false, get_or}
use Rattle.std.specs.Prelude.{nat_le}
use Rattle.packed_form.specs.declared.packed_songs.PackedInstrument.{PackedInstrument}
use Rattle.packed_form.specs.Holders.{held}
use Rattle.packed_form.proofs.holders.before_holder.Given as goal

abbrev pub invariant-loop-instrument : goal.invariant-loop-instrument
invariant-loop-instrument l = record {
  count : l.before ≡ l.instrument-index;
  less : (k : ℕ) (d : PackedInstrument) → k < l.instrument-index →
      nat_le l.least (held (get_or l.instruments k d)) ≡ false;
}
