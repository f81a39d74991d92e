-- The four counts of a folder, and what a read and a write do to them.
use Rattle.std.specs.Prelude.{◌≡◌, Result}
use Rattle.goat_io.specs.declared.folder_counts.FolderCounts.{FolderCounts}
use Rattle.goat_io.specs.declared.fault.ReadFault.{ReadFault}
use Rattle.goat_io.specs.declared.fault.WriteFault.{WriteFault}
use Rattle.goat_io.specs.Count.{Counts}
use Rattle.goat_io.specs.Fault.{is_missing, is_too_long, is_read_failure, is_write_failure}

abbrev pub no_counts : FolderCounts
no_counts = record { read_faults = 0; write_faults = 0; misses = 0; excesses = 0 }

-- each count rose with its own answer to a read, and with no other
pub record CountsRead {X : Type 0} (answer : Result X ReadFault) (before after : FolderCounts) : Type 0 where
  pub misses : Counts (is_missing answer) before.misses after.misses
  pub excesses : Counts (is_too_long answer) before.excesses after.excesses
  pub read_faults : Counts (is_read_failure answer) before.read_faults after.read_faults
  pub write_faults : after.write_faults ≡ before.write_faults

-- a write that the device failed is counted, and nothing else is
pub record CountsWrite {X : Type 0} (answer : Result X WriteFault) (before after : FolderCounts) : Type 0 where
  pub write_faults : Counts (is_write_failure answer) before.write_faults after.write_faults
  pub read_faults : after.read_faults ≡ before.read_faults
  pub misses : after.misses ≡ before.misses
  pub excesses : after.excesses ≡ before.excesses
