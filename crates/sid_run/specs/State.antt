-- A runner as contracts see it, and the machine that a PSID v2 file is loaded into.
use Rattle.std.specs.Prelude.{ℕ, ◌+◌, ◌-◌, List, [], ◌++◌, length, slice_index, replicate, false, Option, None}
use Rattle.cpu6502.specs.declared.cpu.Cpu.{Cpu}
use Rattle.cpu6502.specs.declared.machine.Machine.{Machine}
use Rattle.cpu6502.specs.declared.log.TheConstants.{SID_BASE}
use Rattle.cpu6502.specs.declared.log.WriteLog.{WriteLog}
use Rattle.cpu6502.specs.declared.memory.TheConstants.{MEMORY_SIZE}
use Rattle.cpu6502.specs.declared.stop.CallStop.{CallStop}
use Rattle.cpu6502.specs.Code.{bytes_at}
use Rattle.cpu6502.specs.Log.{log_of}
use Rattle.psid.specs.declared.header.Psid.{Psid}
use Rattle.sid_run.specs.declared.runner.TheConstants.{MOST_STEPS}
use Rattle.sid_run.specs.declared.memory.TheConstants.{REGISTERS}

-- its machine, the addresses of init and play, why it stopped if it did, the steps of the last call that returned and their
-- clock cycles, and what the last call wrote to the SID
pub record RunnerState : Type 0 where
  pub machine : Machine
  pub init : ℕ
  pub play : ℕ
  pub stopped : Option CallStop
  pub spent : ℕ
  pub cycles : ℕ
  pub log : WriteLog

-- the registers of a machine that nothing has run on
abbrev pub cleared_cpu : Cpu
cleared_cpu = record {
  a = 0;
  x = 0;
  y = 0;
  sp = 0xFF;
  pc = 0;
  n = false;
  v = false;
  d = false;
  i = false;
  z = false;
  c = false;
}

-- 65,536 bytes: the image at its address, and 0 elsewhere
unfoldable pub loaded_memory : ℕ → List ℕ → List ℕ
loaded_memory load image = replicate load 0 ++ image ++ replicate (MEMORY_SIZE - (load + length image)) 0

abbrev pub loaded_machine : Psid → Machine
loaded_machine psid = record { cpu = cleared_cpu; memory = loaded_memory psid.load psid.image }

-- a file as it is loaded
abbrev pub loaded : Psid → RunnerState
loaded psid = record {
  machine = loaded_machine psid;
  init = psid.header.init;
  play = psid.header.play;
  stopped = None;
  spent = 0;
  cycles = 0;
  log = log_of [];
}

-- the steps that a call may take
abbrev pub most_steps : ℕ
most_steps = MOST_STEPS

-- the SID's registers, the 25 bytes at $D400 to $D418
abbrev pub sid_registers : Machine → List ℕ
sid_registers machine = bytes_at (slice_index machine.memory) SID_BASE REGISTERS
