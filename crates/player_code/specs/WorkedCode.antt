-- Plans that are worked by hand, how many bytes their code takes, and plans and lists that are none.
use Rattle.std.specs.Prelude.{◌≡◌, ℕ, ◌+◌, ◌-◌, ◌≤◌, ◌==◌}
use Rattle.std.specs.Prelude.{◌||◌, not, if◌then◌else◌, Bool, true, false}
use Rattle.std.specs.Prelude.{List, [], ◌∷◌, replicate}
use Rattle.cpu6502.specs.declared.mnemonic.Mnemonic.TheVariants.{Rts}
use Rattle.cpu6502.specs.declared.mnemonic.Mode.TheVariants.{Implied}
use Rattle.asm6502.specs.declared.lines.Operand.TheVariants.{Nothing}
use Rattle.asm6502.specs.declared.lines.Item.TheVariants.{Label}
use Rattle.asm6502.specs.declared.lines.Line.{Line}
use Rattle.scope_lines.specs.Instructions.{code}
use Rattle.player_memory.specs.declared.conditions.TheConstants.{FIRST_HOLDS}
use Rattle.player_memory.specs.declared.labels.TheConstants.{LENT, FREQUENCY_LOWS, SLIDES_HIGH}
use Rattle.player_code.specs.declared.labels.TheConstants.{INIT_CODE}
use Rattle.player_code.specs.CodeLines.{name, byte_line, variable_lines}
use Rattle.player_code.specs.Plans.{IsData, Plan, IsPlan, code_size}

-- ---- the variables

-- labels 3 and 7 have place 1, and the others place 0: both stand in front of the byte there, and none in front of the
-- byte behind it
abbrev pub worked_places : ℕ → ℕ
worked_places label = if label == 3 || label == 7 then 1 else 0

abbrev pub VariablesAreNamed : Type 0
VariablesAreNamed =
    variable_lines worked_places 1 (20 ∷ 30 ∷ []) ≡ name 3 ∷ name 7 ∷ byte_line 20 ∷ byte_line 30 ∷ []

-- ---- plans

-- bytes, each behind its label, from a first label on
abbrev pub labelled_lines : ℕ → List ℕ → List Line
labelled_lines first [] = []
labelled_lines first (byte ∷ bytes) = name first ∷ byte_line byte ∷ labelled_lines (first + 1) bytes

-- a zero behind each label from the first of the lists to the last that is read
abbrev pub worked_lists : List Line
worked_lists = labelled_lines FREQUENCY_LOWS (replicate 36 0)

-- they stand behind the code of a player at $1000, whose variables take so many bytes
abbrev pub plan_with : (ℕ → ℕ) → ℕ → (ℕ → Bool) → Plan
plan_with places variables holds = record {
  places = places;
  variables = replicate variables 0;
  pointer = 0xFC;
  holds = holds;
  start = record { tempo = 5; funk = 8; timer_low = 0; timer_high = 0 };
  lists = worked_lists;
  origin = 0x1000;
  open_turns = 255;
  may_read = λ place. false;
  may_write = λ place. false;
}

-- each variable at its label's number
abbrev pub worked_plan : (ℕ → Bool) → Plan
worked_plan = plan_with (λ label. label) 113

-- and 34 of them at place 0, with the others behind it
abbrev pub small_plan : (ℕ → Bool) → Plan
small_plan = plan_with (λ label. label - 33) 80

pub record PlansAreMet : Type 0 where
  pub worked : (holds : ℕ → Bool) → IsPlan (worked_plan holds)
  pub small : (holds : ℕ → Bool) → IsPlan (small_plan holds)

-- no plan: with no byte but the 21 that are never cleared, with more bytes than labels, and with a place behind the
-- bytes
pub record PlansAreRefused : Type 0 where
  pub none : (holds : ℕ → Bool) → IsPlan (plan_with (λ label. 0) 21 holds) → ⊥
  pub more : (holds : ℕ → Bool) → IsPlan (plan_with (λ label. label) 114 holds) → ⊥
  pub behind : (holds : ℕ → Bool) → IsPlan (plan_with (λ label. label - 32) 80 holds) → ⊥

-- the code takes 509 bytes where no condition holds and 1,665 where all do, with 80 bytes of variables 33 less; it
-- takes most where all do but that the first instrument holds more before its notes than another, and that of no plan
-- takes more
pub record CodeIsMeasured : Type 0 where
  pub bare : code_size (worked_plan (λ condition. false)) ≡ 509
  pub full : code_size (worked_plan (λ condition. true)) ≡ 1665
  pub small_bare : code_size (small_plan (λ condition. false)) ≡ 476
  pub small_full : code_size (small_plan (λ condition. true)) ≡ 1632
  pub greatest : code_size (worked_plan (λ condition. not (condition == FIRST_HOLDS))) ≡ 1667
  pub most : (plan : Plan) → IsPlan plan → code_size plan ≤ 1667

-- no lists of an image: with a label of the code or of a variable, with an instruction, with a line that isn't always
-- kept, with a label twice, and without one that is read
pub record ListsAreRefused : Type 0 where
  pub code_label : IsData (name INIT_CODE ∷ worked_lists) → ⊥
  pub variable : IsData (name LENT ∷ worked_lists) → ⊥
  pub instruction : IsData (code Rts Implied Nothing ∷ worked_lists) → ⊥
  pub part : IsData (record { part = 0; item = Label 300 } ∷ worked_lists) → ⊥
  pub twice : IsData (name SLIDES_HIGH ∷ worked_lists) → ⊥
  pub missing : IsData (labelled_lines FREQUENCY_LOWS (replicate 35 0)) → ⊥
