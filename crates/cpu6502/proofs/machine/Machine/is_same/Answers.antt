use Rattle.std.proofs.Common.{sym, ap}
use Rattle.cpu6502.specs.declared.machine.Machine.{Machine}
use Rattle.cpu6502.proofs.Same.{cpus_are_one, machines_are_one}
use Rattle.cpu6502.proofs.machine.Machine.is_same.Goals as goal

pub returns-then-eq : goal.returns-then-eq
returns-then-eq c =
    let cpu = cpus_are_one c.args.self.now.cpu c.args.other.now.cpu (sym c.if-eq.ensures) in (
      (λ is. machines_are_one c.args.self.now c.args.other.now cpu (c.is_same.ensures.0 is)),
      (λ same. c.is_same.ensures.1 (ap (λ (m : Machine). m.memory) same)),
    )
