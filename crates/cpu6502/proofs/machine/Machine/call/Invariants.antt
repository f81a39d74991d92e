use Rattle.std.proofs.Common.{◌≡◌, ◌≤◌, ◌-◌, ◌*◌, Ok}
use Rattle.cpu6502.specs.Call.{entered, run, IsOutFor, writes_in, cycles_in}
use Rattle.cpu6502.specs.Log.{log_of, sid_writes}
use Rattle.cpu6502.proofs.machine.Machine.call.Given as goal

abbrev pub invariant-stepping : goal.invariant-stepping
invariant-stepping l = record {
  home : l.home ≡ l.fn.self.cpu.sp;
  within : l.steps ≤ l.budget;
  runs : run l.steps (entered l.fn.self l.address l.a) ≡ Ok l.self;
  out : IsOutFor l.fn.self l.address l.a l.steps;
  cycles : l.cycles ≡ cycles_in l.steps (entered l.fn.self l.address l.a);
  few : l.cycles ≤ 255 * l.steps;
  logged : l.log ≡ log_of (sid_writes (writes_in l.steps (entered l.fn.self l.address l.a)));
}

abbrev pub decreases-stepping : goal.decreases-stepping
decreases-stepping l = l.budget - l.steps
