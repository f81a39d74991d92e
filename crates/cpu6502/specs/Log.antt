-- The log of what a call writes to the SID, whose 25 writable registers stand at $D400 to $D418. Source: the SID's
-- place in the Commodore 64's memory map.
use Rattle.std.specs.Prelude.{◌-◌, min, ◌&&◌, List, take, length, filter_map, Option, Some, None, nat_le}
use Rattle.std.specs.Prelude.{if◌then◌else◌}
use Rattle.cpu6502.specs.declared.effect.Write.{Write}
use Rattle.cpu6502.specs.declared.log.SidWrite.{SidWrite}
use Rattle.cpu6502.specs.declared.log.WriteLog.{WriteLog}
use Rattle.cpu6502.specs.declared.log.TheConstants.{LOG_CAPACITY, SID_BASE, SID_LAST}

-- a write to a register of the SID; none where the place is no such register
abbrev pub sid_write : Write → Option SidWrite
sid_write write =
    if nat_le SID_BASE write.place && nat_le write.place SID_LAST
    then Some (record { register = write.place - SID_BASE; value = write.value })
    else None

-- the writes to the SID among these, in order
abbrev pub sid_writes : List Write → List SidWrite
sid_writes writes = filter_map sid_write writes

-- the log of these writes: the first 512, and how many more there were, counted up to 4,294,967,295
abbrev pub log_of : List SidWrite → WriteLog
log_of writes = record { writes = take LOG_CAPACITY writes; beyond = min (length writes - LOG_CAPACITY) 4294967295 }
