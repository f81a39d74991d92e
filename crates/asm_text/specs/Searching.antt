-- How the line of a fault is looked for: the first statement of one of four kinds.
use Rattle.std.specs.Prelude.{◌≡◌, ℕ, ◌+◌, ◌&&◌, Bool, true, false, List, [], Option, nat_eq, nat_lt}
use Rattle.std.specs.Prelude.{take, slice_get, All}
use Rattle.std.specs.Option.{option_map, option_or}
use Rattle.cpu6502.specs.declared.memory.TheConstants.{MEMORY_SIZE}
use Rattle.asm6502.specs.Operands.{is_relative}
use Rattle.asm_text.specs.declared.statements.Operand.TheVariants.{Number, Label as LabelOf}
use Rattle.asm_text.specs.declared.statements.Statement.{Statement}
use Rattle.asm_text.specs.declared.statements.Statement.TheVariants.{Code}
use Rattle.asm_text.specs.declared.statements.Written.{Written}
use Rattle.asm_text.specs.declared.refusing.Sought.{Sought}
use Rattle.asm_text.specs.declared.refusing.Sought.TheVariants.{SecondNaming, Use, PastEnd, FarNumber}
use Rattle.asm_text.specs.Statements.{size, is_right}
use Rattle.asm_text.specs.Laying.{size_of}
use Rattle.asm_text.specs.Faults.{names, is_named, is_out_of_reach, first_found}

-- the label that is looked for; any where none is
abbrev pub label_sought : Sought → ℕ
label_sought (SecondNaming label) = label
label_sought (Use label) = label
label_sought PastEnd = 0
label_sought FarNumber = 0

-- whether the operand of a statement is a label
abbrev pub uses : ℕ → Statement → Bool
uses label (Code mnemonic mode (LabelOf other)) = nat_eq other label
uses label _ = false

-- whether a statement at pc has bytes that pass the end of memory
abbrev pub passes_end : ℕ → Statement → Bool
passes_end pc statement = nat_lt MEMORY_SIZE (pc + size statement) && nat_lt 0 (size statement)

-- whether a statement at pc is a branch to a number that it doesn't reach
abbrev pub is_far_number : ℕ → Statement → Bool
is_far_number pc (Code mnemonic mode (Number number)) = is_relative mode && is_out_of_reach pc number
is_far_number pc _ = false

-- whether a statement is what is looked for, behind those before it
abbrev pub finds : Sought → ℕ → List Written → Statement → Bool
finds (SecondNaming label) origin front statement = is_named front label && names label statement
finds (Use label) origin front statement = uses label statement
finds PastEnd origin front statement = passes_end (origin + size_of front) statement
finds FarNumber origin front statement = is_far_number (origin + size_of front) statement

-- the line of the first statement that a test finds
abbrev pub line_found : (List Written → Statement → Bool) → List Written → Option ℕ
line_found test script = option_map (λ written. written.line) (first_found test [] script)

-- the line of the first branch that reaches no number, or else of the statement at a place
abbrev pub first_far : ℕ → List Written → ℕ → Option ℕ
first_far origin script place =
    option_or (line_found (finds FarNumber origin) (take place script))
    (option_map (λ written. written.line) (slice_get script place))

-- each statement may stand in a listing
pub record AreRight (script : List Written) : Type 0 where
  pub right : All (λ written. is_right written.statement ≡ true) script
