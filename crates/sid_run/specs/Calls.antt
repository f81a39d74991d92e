-- What a call answers, and what it leaves of a runner.
use Rattle.std.specs.Prelude.{◌≡◌, ℕ, ◌≤◌, List, Some, None, Result, Ok, Err, IfOk, IfErr, OnOk, OnErr}
use Rattle.cpu6502.specs.declared.machine.Machine.{Machine}
use Rattle.cpu6502.specs.declared.log.WriteLog.{WriteLog}
use Rattle.cpu6502.specs.declared.stop.CallStop.{CallStop}
use Rattle.cpu6502.specs.Call.{Called, FailsBy, entered, writes_in, call_cycles}
use Rattle.cpu6502.specs.Log.{log_of, sid_writes}
use Rattle.sid_run.specs.State.{RunnerState, sid_registers}

-- a log holds what a call at an address, with a in the accumulator, writes to the SID in this number of steps
pub record LogsCall (log : WriteLog) (machine : Machine) (address a steps : ℕ) : Type 0 where
  pub logged : log ≡ log_of (sid_writes (writes_in steps (entered machine address a)))

-- the answer to a call at an address, with a in the accumulator and this budget of steps, and the runner after it
pub record AnswersCall (address a budget : ℕ) (before after : RunnerState)
    (answer : Result (List ℕ) CallStop) : Type 0 where
  -- registers: the call returned, and the runner hasn't stopped
  pub returned : OnOk answer (Called before.machine address a after.spent after.machine)
  pub in_budget : OnOk answer (after.spent ≤ budget)
  pub cycles : OnOk answer (after.cycles ≡ call_cycles before.machine address a after.spent)
  pub registers : IfOk answer (λ registers. registers ≡ sid_registers after.machine)
  pub was_running : OnOk answer (before.stopped ≡ None)
  pub is_running : OnOk answer (after.stopped ≡ None)
  -- a reason: the call didn't return, and the reason is kept
  pub failed : before.stopped ≡ None
      → IfErr answer (λ reason. FailsBy before.machine address a budget reason after.machine)
  pub kept : IfErr answer (λ reason. after.stopped ≡ Some reason)
  pub spent : OnErr answer (after.spent ≡ before.spent)
  pub same_cycles : OnErr answer (after.cycles ≡ before.cycles)
  -- where a call returns, and where it doesn't, the answer says so
  pub returns : (steps : ℕ) (end : Machine) → before.stopped ≡ None
      → Called before.machine address a steps end → steps ≤ budget → answer ≡ Ok (sid_registers end)
  pub fails : (reason : CallStop) (end : Machine) → before.stopped ≡ None
      → FailsBy before.machine address a budget reason end → answer ≡ Err reason
  -- a runner that stopped answers its reason again, and stays as it is
  pub stays_stopped : (reason : CallStop) → before.stopped ≡ Some reason → answer ≡ Err reason
  pub stays : (reason : CallStop) → before.stopped ≡ Some reason → after ≡ before
  -- what the call wrote to the SID, up to its end or its stop
  pub log : OnOk answer (LogsCall after.log before.machine address a after.spent)
  pub log_failed : before.stopped ≡ None → OnErr answer (LogsCall after.log before.machine address a budget)
  -- the two addresses stay
  pub same_init : after.init ≡ before.init
  pub same_play : after.play ≡ before.play
