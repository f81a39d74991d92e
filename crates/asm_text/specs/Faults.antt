-- What is wrong with a text: one of five faults, each looked for in all lines before the next, and told with its first
-- line. This is the project's own profile.
use Rattle.std.specs.Prelude.{◌≡◌, ℕ, ◌+◌, ◌%◌, ◌&&◌, ◌||◌, Bool, false, List, [], ◌∷◌}
use Rattle.std.specs.Prelude.{◌++◌, Option, Some, None, nat_eq, nat_lt, not, if◌then◌else◌}
use Rattle.std.specs.Option.{option_map, option_or, is_some}
use Rattle.cpu6502.specs.declared.memory.TheConstants.{MEMORY_SIZE}
use Rattle.asm6502.specs.declared.assembled.Assembled.{Assembled}
use Rattle.asm6502.specs.Branches.{branch_byte}
use Rattle.asm6502.specs.Lines.{address_in}
use Rattle.asm6502.specs.Operands.{is_relative}
use Rattle.asm6502.specs.Moving.{IsAssembly}
use Rattle.asm_text.specs.declared.statements.Operand.{Operand}
use Rattle.asm_text.specs.declared.statements.Operand.TheVariants.{Nothing, Number, Label as LabelOf}
use Rattle.asm_text.specs.declared.statements.Statement.{Statement}
use Rattle.asm_text.specs.declared.statements.Statement.TheVariants.{Label, Code}
use Rattle.asm_text.specs.declared.statements.Written.{Written}
use Rattle.asm_text.specs.declared.faults.TextFault.{TextFault}
use Rattle.asm_text.specs.declared.faults.TextKind.{TextKind}
use Rattle.asm_text.specs.declared.faults.TextKind.TheVariants.{BadLine, DoubleLabel, UnknownLabel, PastEnd, BranchTooFar}
use Rattle.asm_text.specs.Statements.{size}
use Rattle.asm_text.specs.Laying.{listing_at, size_of}
use Rattle.asm_text.specs.Lines.{IsListing, IsBadAt}

-- whether a statement names this label
abbrev pub names : ℕ → Statement → Bool
names label (Label other) = nat_eq other label
names label _ = false

-- whether one of these does
abbrev pub is_named : List Written → ℕ → Bool
is_named [] label = false
is_named (written ∷ rest) label = names label written.statement || is_named rest label

-- a statement names a label that one before it names
abbrev pub is_double : List Written → Statement → Bool
is_double front (Label label) = is_named front label
is_double front _ = false

-- an operand is a label that none of all statements names; those before it are given to every test, and no matter here
abbrev pub is_unknown : List Written → List Written → Statement → Bool
is_unknown script front (Code mnemonic mode (LabelOf label)) = not (is_named script label)
is_unknown script front _ = false

-- a statement has bytes that pass the end of memory, behind the bytes of those before it
abbrev pub is_past_end : ℕ → List Written → Statement → Bool
is_past_end origin front statement =
    nat_lt MEMORY_SIZE (origin + size_of front + size statement) && nat_lt 0 (size statement)

-- no displacement leads from a branch at pc to a place: the way there from the next instruction, mod 65,536, isn't one
-- of -128 to 127
abbrev pub is_out_of_reach : ℕ → ℕ → Bool
is_out_of_reach pc place = not (is_some (branch_byte pc place))

-- so for the place that an operand names: a number, or where the statement stands that names the label
abbrev pub names_far_place : (ℕ → ℕ) → ℕ → Operand → Bool
names_far_place address pc Nothing = false
names_far_place address pc (Number number) = is_out_of_reach pc number
names_far_place address pc (LabelOf label) = is_out_of_reach pc (address label % MEMORY_SIZE)

-- an instruction at pc is a branch to a place out of reach
abbrev pub is_far_at : (ℕ → ℕ) → ℕ → Statement → Bool
is_far_at address pc (Code mnemonic mode operand) = is_relative mode && names_far_place address pc operand
is_far_at address pc _ = false

abbrev pub is_far : ℕ → List Written → List Written → Statement → Bool
is_far origin script front = is_far_at (address_in (listing_at origin script) origin) (origin + size_of front)

-- the first statement that a test finds, where the test sees the statements before it too
abbrev pub first_found : (List Written → Statement → Bool) → List Written → List Written → Option Written
first_found test front [] = None
first_found test front (written ∷ behind) =
    if test front written.statement then Some written else first_found test (front ++ written ∷ []) behind

-- the fault of this kind at its line
abbrev pub fault_at : TextKind → Written → TextFault
fault_at kind written = record { line = written.line; kind = kind }

abbrev pub first_fault : TextKind → (List Written → Statement → Bool) → List Written → Option TextFault
first_fault kind test script = option_map (fault_at kind) (first_found test [] script)

-- what is wrong with the statements of a text whose lines are right; none where nothing is
abbrev pub fault_in : ℕ → List Written → Option TextFault
fault_in origin script =
    option_or (first_fault DoubleLabel is_double script)
    (option_or (first_fault UnknownLabel (is_unknown script) script)
    (option_or (first_fault PastEnd (is_past_end origin) script)
    (first_fault BranchTooFar (is_far origin script) script)))

-- the fault is the text's: a bad line, the first; or where the text is a listing, what is wrong with its statements
pub data IsFaultOf (text : List ℕ) (fault : TextFault) : Type 0 where
  bad_line : fault.kind ≡ BadLine → IsBadAt text fault.line → IsFaultOf text fault
  in_script : (origin : ℕ) (script : List Written) → IsListing text origin script →
      fault_in origin script ≡ Some fault → IsFaultOf text fault

-- the text is a listing with which nothing is wrong, and this is what its statements give
pub record Reads (text : List ℕ) (result : Assembled) : Type 0 where
  pub origin : ℕ
  pub script : List Written
  pub listing : IsListing text origin script
  pub sound : fault_in origin script ≡ None
  pub given : IsAssembly result 0 origin (listing_at origin script)
