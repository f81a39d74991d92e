-- What a run still has to say once its job is over, as the parts of the top call tell each other.
use Rattle.std.specs.Prelude.{◌≡◌, ℕ, List, Result, Ok, Err}
use Rattle.goat_io.specs.declared.fault.SinkFault.{SinkFault}
use Rattle.goat_io.specs.declared.fault.SinkFault.TheVariants as sink
use Rattle.command_line.specs.declared.refusal.Report.{Report}
use Rattle.command_line.specs.declared.refusal.Report.TheVariants as report
use Rattle.command_line.specs.declared.refusal.Refusal.{Refusal}
use Rattle.command_line.specs.declared.refusal.Refusal.TheVariants as refusal
use Rattle.command_line.specs.Message.{MessageState, line_of}

-- a status and its last line; nothing, since all is printed and the job is done; nothing, since the sink has failed;
-- that it is out of memory
pub data Last : Type 0 where
  Says : (status : ℕ) (line : List ℕ) → Last
  SaysNothing : Last
  SinkFailed : Last
  Wants : Last

-- of a message
abbrev pub last_message : MessageState → Last
last_message message = Says message.status (line_of message.pieces)

-- of a refusal
abbrev pub last_of : Refusal → Last
last_of (refusal.Says message) = last_message message
last_of refusal.SinkFault = SinkFailed
last_of refusal.NoMemory = Wants

-- of a job
abbrev pub last_word : Result Report Refusal → Last
last_word (Ok (report.Says message)) = last_message message
last_word (Ok report.Shown) = SaysNothing
last_word (Err refusal) = last_of refusal

-- the refusal of a sink's fault
abbrev pub IsOfSink : SinkFault → Refusal → Type 0
IsOfSink sink.Failed it = it ≡ refusal.SinkFault
IsOfSink sink.NoMemory it = it ≡ refusal.NoMemory
