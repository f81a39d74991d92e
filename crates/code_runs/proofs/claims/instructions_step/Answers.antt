use Rattle.code_runs.proofs.Steps.{load_steps, transfer_steps, logic_steps, sum_steps, compare_steps, shift_steps}
use Rattle.code_runs.proofs.Steps.{count_steps, flag_steps, jump_steps, stack_steps}
use Rattle.code_runs.proofs.Branches.{branch_steps}
use Rattle.code_runs.proofs.claims.instructions_step.Goals as goal

pub returns : goal.returns
returns c = record {
  loads = load_steps;
  transfers = transfer_steps;
  logic = logic_steps;
  sums = sum_steps;
  compares = compare_steps;
  shifts = shift_steps;
  counts = count_steps;
  flags = flag_steps;
  branches = branch_steps;
  jumps = jump_steps;
  stack = stack_steps;
}
