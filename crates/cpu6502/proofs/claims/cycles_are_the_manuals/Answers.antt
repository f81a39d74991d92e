use Rattle.cpu6502.proofs.Columns.{rows_have_these_cycles, effects_take_cycles, cycles_are_in_range}
use Rattle.cpu6502.proofs.Steps.{steps_take_few_cycles}
use Rattle.cpu6502.proofs.claims.cycles_are_the_manuals.Goals as goal

pub returns-clause-rows : goal.returns-clause-rows
returns-clause-rows c = rows_have_these_cycles

pub returns-clause-effects : goal.returns-clause-effects
returns-clause-effects c = effects_take_cycles

pub returns-clause-range : goal.returns-clause-range
returns-clause-range c = cycles_are_in_range

pub returns-clause-calls : goal.returns-clause-calls
returns-clause-calls c = steps_take_few_cycles
