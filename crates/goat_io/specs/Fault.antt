-- Which answer a device gave, as tests that compute.
use Rattle.std.specs.Prelude.{Bool, true, false, Result, Err}
use Rattle.goat_io.specs.declared.fault.ReadFault.{ReadFault}
use Rattle.goat_io.specs.declared.fault.ReadFault.TheVariants as read
use Rattle.goat_io.specs.declared.fault.WriteFault.{WriteFault}
use Rattle.goat_io.specs.declared.fault.WriteFault.TheVariants as write
use Rattle.goat_io.specs.declared.fault.SinkFault.{SinkFault}
use Rattle.goat_io.specs.declared.fault.SinkFault.TheVariants as sink

-- no file has the name
abbrev pub is_missing : {X : Type 0} → Result X ReadFault → Bool
is_missing (Err read.Missing) = true
is_missing _ = false

-- the file is above the limit
abbrev pub is_too_long : {X : Type 0} → Result X ReadFault → Bool
is_too_long (Err read.TooLong) = true
is_too_long _ = false

-- the device failed to read
abbrev pub is_read_failure : {X : Type 0} → Result X ReadFault → Bool
is_read_failure (Err read.Failed) = true
is_read_failure _ = false

-- the device failed to write
abbrev pub is_write_failure : {X : Type 0} → Result X WriteFault → Bool
is_write_failure (Err write.Failed) = true
is_write_failure _ = false

-- the device failed to take a piece
abbrev pub is_sink_failure : {X : Type 0} → Result X SinkFault → Bool
is_sink_failure (Err sink.Failed) = true
is_sink_failure _ = false
