-- The lines that tell what became of a job.
use Rattle.std.specs.Prelude.{ℕ, ◌+◌, List, [], ◌∷◌, ◌++◌, Option, Some, None, codes, decimal}
use Rattle.command_line.specs.Lines.{line, no_memory_line, address_digits, feature_digits, sum_digits}
use Rattle.song_model.specs.declared.tables.TableName.{TableName}
use Rattle.song_model.specs.declared.tables.TableName.TheVariants.{Wave, Pulse, Filter, Speed}
use Rattle.play_model.specs.declared.unplayable.Unplayable.{Unplayable}
use Rattle.play_model.specs.declared.unplayable.Unplayable.TheVariants.{NoSubtune, MissingPattern, BadRestart}
use Rattle.play_model.specs.declared.unplayable.Unplayable.TheVariants.{TableOverflow, PointerToJump}
use Rattle.usage.specs.declared.parts.UsedParts.{UsedParts}
use Rattle.song_length.specs.declared.measuring.Repeat.{Repeat}
use Rattle.song_length.specs.declared.measuring.Measured.{Measured}
use Rattle.usage.specs.Marks.{count_of}
use Rattle.gts5.specs.declared.faults.SongFault.{SongFault}
use Rattle.gts5.specs.declared.faults.SongFault.TheVariants as song
use Rattle.psid.specs.declared.faults.PsidFault.{PsidFault}
use Rattle.psid.specs.declared.faults.PsidFault.TheVariants as psid
use Rattle.song_join.specs.declared.faults.JoinPart.{JoinPart}
use Rattle.song_join.specs.declared.faults.JoinPart.TheVariants as parts
use Rattle.song_join.specs.declared.faults.JoinPart.TheVariants.{Subtunes, Instruments, Patterns}
use Rattle.song_join.specs.declared.faults.JoinFault.{JoinFault}
use Rattle.song_join.specs.declared.faults.JoinFault.TheVariants as faults
use Rattle.song_join.specs.declared.faults.JoinFault.TheVariants.{OverLimit, LooseInstrument, LooseSpeed, GateTimer}
use Rattle.song_join.specs.declared.faults.JoinFault.TheVariants.{NoteBeforeInstrument}
use Rattle.cycle_bound.specs.declared.checks.CertKind.{CertKind}
use Rattle.cycle_bound.specs.declared.checks.CertKind.TheVariants.{BadShape, TooSmall}
use Rattle.asm_text.specs.declared.faults.TextFault.{TextFault}
use Rattle.asm_text.specs.declared.faults.TextKind.{TextKind}
use Rattle.asm_text.specs.declared.faults.TextKind.TheVariants as text
use Rattle.cpu6502.specs.declared.stop.Stop.TheVariants.{Illegal, Break, Decimal}
use Rattle.cpu6502.specs.declared.stop.CallStop.{CallStop}
use Rattle.cpu6502.specs.declared.stop.CallStop.TheVariants.{Stopped, Budget}

abbrev pub missing_line : List ℕ → List ℕ
missing_line name = line (codes "missing: " ∷ name ∷ [])

abbrev pub too_long_line : List ℕ → List ℕ
too_long_line name = line (codes "too long: " ∷ name ∷ [])

abbrev pub read_fault_line : List ℕ → List ℕ
read_fault_line name = line (codes "read fault: " ∷ name ∷ [])

abbrev pub write_fault_line : List ℕ → List ℕ
write_fault_line name = line (codes "write fault: " ∷ name ∷ [])

-- the faults of a file that spells no song; running out of memory is none of the file's
abbrev pub song_fault_line : SongFault → List ℕ
song_fault_line song.NotGts5 = line (codes "not a song: bad magic" ∷ [])
song_fault_line (song.Truncated offset) = line (codes "not a song: truncated at " ∷ decimal offset ∷ [])
song_fault_line (song.OutOfLimit offset) = line (codes "not a song: over limit at " ∷ decimal offset ∷ [])
song_fault_line (song.BadOrder offset) = line (codes "not a song: bad order at " ∷ decimal offset ∷ [])
song_fault_line (song.BadRow offset) = line (codes "not a song: bad row at " ∷ decimal offset ∷ [])
song_fault_line song.NoMemory = no_memory_line

-- the faults of a file that is no PSID file; running out of memory is none of the file's
abbrev pub psid_fault_line : PsidFault → List ℕ
psid_fault_line psid.NotPsid = line (codes "not a PSID: bad magic" ∷ [])
psid_fault_line psid.Truncated = line (codes "not a PSID: truncated" ∷ [])
psid_fault_line psid.Unsupported = line (codes "not a PSID: unsupported" ∷ [])
psid_fault_line psid.BadField = line (codes "not a PSID: bad field" ∷ [])
psid_fault_line psid.NoMemory = no_memory_line

-- for a subtune that isn't one of this number
abbrev pub no_subtune_line : ℕ → ℕ → List ℕ
no_subtune_line asked songs = line (codes "no such subtune: " ∷ decimal asked ∷ codes " of " ∷ decimal songs ∷ [])

-- how a call ended that did not return
abbrev pub stop_text : CallStop → List ℕ
stop_text (Stopped (Illegal place)) = codes "illegal at $" ++ address_digits place
stop_text (Stopped (Break place)) = codes "break at $" ++ address_digits place
stop_text (Stopped (Decimal place)) = codes "decimal at $" ++ address_digits place
stop_text Budget = codes "no return"

-- for a call with this number
abbrev pub stop_line : CallStop → ℕ → List ℕ
stop_line reason call = line (codes "machine stopped: " ∷ stop_text reason ∷ codes " in call " ∷ decimal call ∷ [])

-- ---- how long a song is, and what its dearest call costs

-- when the state comes again; or that it doesn't in so many plays
abbrev pub repeat_words : ℕ → Option Repeat → List (List ℕ)
repeat_words calls (Some repeat) =
    codes ", repeats from " ∷ decimal repeat.from ∷ codes " after " ∷ decimal repeat.length ∷ []
repeat_words calls None = codes ", not repeated in " ∷ decimal calls ∷ codes " calls" ∷ []

-- for a subtune, counted from 1, of which this is told of so many plays
abbrev pub measured_line : ℕ → ℕ → Measured → List ℕ
measured_line calls subtune told =
    line (codes "subtune " ∷ decimal subtune ∷ codes ": init " ∷ decimal told.init ∷ codes ", play at most "
    ∷ decimal told.dearest.cycles ∷ codes " in call " ∷ decimal told.dearest.call ∷ repeat_words calls told.repeat)

-- ---- songs that can be played, and others

-- the name of a table
abbrev pub table_word : TableName → List ℕ
table_word Wave = codes "wave"
table_word Pulse = codes "pulse"
table_word Filter = codes "filter"
table_word Speed = codes "speed"

-- for a song that can't be played
abbrev pub unplayable_line : Unplayable → List ℕ
unplayable_line NoSubtune = line (codes "unplayable: no subtune" ∷ [])
unplayable_line (MissingPattern subtune channel place pattern) =
    line (codes "unplayable: missing pattern " ∷ decimal pattern ∷ codes " in subtune " ∷ decimal subtune ∷
    codes " channel " ∷ decimal channel ∷ codes " place " ∷ decimal place ∷ [])
unplayable_line (BadRestart subtune channel) =
    line (codes "unplayable: bad restart in subtune " ∷ decimal subtune ∷ codes " channel " ∷ decimal channel ∷ [])
unplayable_line (TableOverflow name row) =
    line (codes "unplayable: " ∷ table_word name ∷ codes " table ends before row " ∷ decimal row ∷ [])
unplayable_line (PointerToJump name row) =
    line (codes "unplayable: " ∷ table_word name ∷ codes " pointer to jump row " ∷ decimal row ∷ [])

-- for a pattern with this number whose packed text is too long
abbrev pub too_large_line : ℕ → ℕ → List ℕ
too_large_line pattern count =
    line (codes "too large: pattern " ∷ decimal pattern ∷ codes " packs to " ∷ decimal count ∷ codes " bytes" ∷ [])

-- for an image of this length that would pass $D000
abbrev pub image_too_large_line : ℕ → List ℕ
image_too_large_line count = line (codes "too large: image of " ∷ decimal count ∷ codes " bytes" ∷ [])

-- for a song whose script has this length, too long to be read
abbrev pub script_too_large_line : ℕ → List ℕ
script_too_large_line count = line (codes "too large: script of " ∷ decimal count ∷ codes " bytes" ∷ [])

-- for a song with this number of playable subtunes, and these used parts
abbrev pub check_line : ℕ → UsedParts → List ℕ
check_line subtunes parts =
    line (codes "subtunes " ∷ decimal subtunes ∷ codes " patterns " ∷ decimal (count_of parts.patterns) ∷
    codes " instruments " ∷ decimal (count_of parts.instruments) ∷
    codes " wave " ∷ decimal (count_of parts.wave) ∷ codes " pulse " ∷ decimal (count_of parts.pulse) ∷
    codes " filter " ∷ decimal (count_of parts.filter) ∷ codes " speed " ∷ decimal (count_of parts.speed) ∷
    codes " features " ∷ feature_digits parts.features.0 ∷ [])

-- for a line of a script that can't be done, with the cause
abbrev pub script_line : ℕ → List ℕ → List ℕ
script_line number words = line (codes "script line " ∷ decimal number ∷ codes ": " ∷ words ∷ [])

-- what is wrong with a line of a listing; running out of memory is none of the listing's
abbrev pub listing_words : TextKind → List ℕ
listing_words text.BadLine = codes "bad line"
listing_words text.DoubleLabel = codes "double label"
listing_words text.UnknownLabel = codes "unknown label"
listing_words text.PastEnd = codes "past end"
listing_words text.BranchTooFar = codes "branch too far"
listing_words text.NoMemory = codes "no memory"

-- for a listing that can't be assembled
abbrev pub listing_line : TextFault → List ℕ
listing_line fault = line (codes "asm line " ∷ decimal fault.line ∷ codes ": " ∷ listing_words fault.kind ∷ [])

-- what the joined song would have too many of
abbrev pub part_words : JoinPart → List ℕ
part_words Subtunes = codes " subtunes"
part_words Instruments = codes " instruments"
part_words parts.Wave = codes " wave rows"
part_words parts.Pulse = codes " pulse rows"
part_words parts.Filter = codes " filter rows"
part_words parts.Speed = codes " speed rows"
part_words Patterns = codes " patterns"

-- for two songs that can't be joined; running out of memory is none of the songs'
abbrev pub join_line : JoinFault → List ℕ
join_line (OverLimit part sum) = line (codes "cannot join: " ∷ decimal sum ∷ part_words part ∷ [])
join_line (LooseInstrument song instrument) =
    line (codes "cannot join: " ∷ codes "loose instrument " ∷ decimal instrument ∷ codes " in song "
    ∷ decimal song ∷ [])
join_line (LooseSpeed song row) =
    line (codes "cannot join: " ∷ codes "loose speed row " ∷ decimal row ∷ codes " in song " ∷ decimal song ∷ [])
join_line (GateTimer first second) =
    line (codes "cannot join: " ∷ codes "gate timers " ∷ decimal first ∷ codes " and " ∷ decimal second ∷ [])
join_line (NoteBeforeInstrument subtune channel) =
    line (codes "cannot join: " ∷ codes "note before instrument in subtune " ∷ decimal subtune ∷ codes " channel " ∷
    decimal channel ∷ [])
join_line faults.NoMemory = no_memory_line

-- the clock cycles that are allowed for a call beside those of its blocks
abbrev pub call_allowance : ℕ
call_allowance = 24

-- for the first numbers of a program's init and play: a call takes at most so many clock cycles, with what is allowed beside
-- those of its blocks
abbrev pub bound_line : ℕ → ℕ → List ℕ
bound_line init play =
    line (codes "init " ∷ decimal (init + call_allowance) ∷ codes " play " ∷ decimal (play + call_allowance) ∷ [])

-- what is wrong with the numbers of a certificate
abbrev pub fault_words : CertKind → List ℕ
fault_words BadShape = codes "bad shape"
fault_words TooSmall = codes "too small"

-- for a line of a certificate that isn't admitted, with the cause
abbrev pub certificate_line : ℕ → List ℕ → List ℕ
certificate_line number words =
    line (codes "certificate line " ∷ decimal number ∷ codes ": " ∷ words ∷ [])

-- for a file of this length
abbrev pub wrote_line : ℕ → List ℕ
wrote_line count = line (codes "wrote " ∷ decimal count ∷ codes " bytes" ∷ [])

-- for the song of a number, with so many playable subtunes, this sum of its registers and so many steps of the machine
abbrev pub selftest_line : ℕ → ℕ → ℕ → ℕ → List ℕ
selftest_line number subtunes sum steps =
    line (codes "selftest " ∷ decimal number ∷ codes ": " ∷ decimal subtunes ∷ codes " subtunes, 300 frames, sum " ∷
    sum_digits sum ∷ codes ", " ∷ decimal steps ∷ codes " steps" ∷ [])
