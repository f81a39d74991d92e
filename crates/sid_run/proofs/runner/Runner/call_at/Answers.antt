use Rattle.std.proofs.Common.{◌≡◌, ap, rules}
use Rattle.sid_run.specs.State.{RunnerState}
use Rattle.sid_run.proofs.runner.Runner.call_at.Goals as goal

pub returns-in-Err : goal.returns-in-Err
returns-in-Err c =
    let machine : c.self.inside.machine ≡ c.args.self.now.machine =
    ap (λ (s : RunnerState). s.machine) c.self.view_is in record {
      returned = search rules;
      in_budget = search rules;
      cycles = search rules;
      registers = search rules;
      was_running = search rules;
      is_running = search rules;
      failed = search rules;
      kept = search rules;
      spent = search rules;
      same_cycles = search rules;
      returns = λ steps end running called within.
          let other = c.in-Err.ensures.returns steps end (rw machine called) within in cc;
      fails = search rules;
      stays_stopped = search rules;
      stays = search rules;
      log = search rules;
      log_failed = search rules;
      same_init = search rules;
      same_play = search rules;
    }
