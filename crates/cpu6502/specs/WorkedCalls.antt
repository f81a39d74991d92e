-- The machine's constants as the manual and the Commodore 64's memory map have them, at their edges: the size of
-- memory, the bytes that a caller pushes, the SID's 25 registers, and the room of a log.
use Rattle.std.specs.Prelude.{◌≡◌, [], ◌∷◌, replicate, length, Some, None}
use Rattle.cpu6502.specs.declared.memory.TheConstants.{MEMORY_SIZE}
use Rattle.cpu6502.specs.Call.{return_address}
use Rattle.cpu6502.specs.Log.{sid_write, log_of}

-- memory has 65,536 bytes
abbrev pub MemoryIsFull : Type 0
MemoryIsFull = MEMORY_SIZE ≡ 65536

-- a caller pushes $FF and $FF, and goes on in page 1 below its end
abbrev pub CallersPush : Type 0
CallersPush =
    (return_address 0xFD ≡ (record { place = 0x01FD; value = 0xFF }) ∷ (record { place = 0x01FC; value = 0xFF }) ∷ [])
    × (return_address 0 ≡ (record { place = 0x0100; value = 0xFF }) ∷ (record { place = 0x01FF; value = 0xFF }) ∷ [])

-- $D400 is register 0 and $D418 register 24; the bytes beside them are none
abbrev pub SidStandsThere : Type 0
SidStandsThere =
    (sid_write (record { place = 0xD3FF; value = 7 }) ≡ None)
    × (sid_write (record { place = 0xD400; value = 7 }) ≡ Some (record { register = 0; value = 7 }))
    × (sid_write (record { place = 0xD418; value = 7 }) ≡ Some (record { register = 24; value = 7 }))
    × (sid_write (record { place = 0xD419; value = 7 }) ≡ None)

-- of 514 writes the log has 512, and 2 are beyond
abbrev pub LogsHaveRoom : Type 0
LogsHaveRoom =
    (length (log_of (replicate 514 (record { register = 0; value = 7 }))).writes ≡ 512)
    × ((log_of (replicate 514 (record { register = 0; value = 7 }))).beyond ≡ 2)
