use Rattle.register_code.proofs.claims.worked_registers.Goals as goal
use Rattle.register_code.proofs.WorkedRegisters.{registers_are_worked, others_are_denied}

-- src/claims.rt:13:1
pub returns-clause-registers : goal.returns-clause-registers
returns-clause-registers c = registers_are_worked

-- src/claims.rt:13:1
pub returns-clause-others : goal.returns-clause-others
returns-clause-others c = others_are_denied
