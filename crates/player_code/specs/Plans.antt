-- What the listing of an image is made from, and where its two entrances stand in it. This is the project's own player.
use Rattle.std.specs.Prelude.{◌≡◌, ℕ, ◌<◌, ◌≤◌, ◌+◌, ◌||◌, Bool, List, ◌++◌, length, All, true}
use Rattle.asm6502.specs.declared.lines.Item.{Item}
use Rattle.asm6502.specs.declared.lines.Item.TheVariants.{Label, Code, Bytes}
use Rattle.asm6502.specs.declared.lines.Line.{Line}
use Rattle.asm6502.specs.Lines.{size_of, address_in}
use Rattle.asm6502.specs.Stretches.{NamesNoLabelTwice, IsNamedAlways}
use Rattle.scopes.specs.Desk.{Layout}
use Rattle.scope_calls.specs.Entrances.{Entrance, entrance_lines}
use Rattle.scope_calls.specs.Listed.{Listed}
use Rattle.player_memory.specs.declared.labels.TheConstants.{VARIABLES, FIRST_CLEARED}
use Rattle.player_text.specs.Facts.{HasBytes, is_list, is_filter_list, is_order_list}
use Rattle.player_text.specs.declared.texts.Start.{Start}
use Rattle.player_code.specs.declared.labels.TheConstants.{INIT_CODE}
use Rattle.player_code.specs.CodeLines.{play_entrance, init_entrance, cleared_of, front_lines, middle_lines}
use Rattle.player_code.specs.CodeLines.{code_lines}

-- ---- the lists behind the code

-- a label of a list, or bytes; no instruction
abbrev pub IsListItem : Item → Type 0
IsListItem (Label label) = (VARIABLES ≤ label) × (label < INIT_CODE)
IsListItem (Code mnemonic mode operand) = ⊥
IsListItem (Bytes bytes) = Unit {0}

pub record IsListLine (line : Line) : Type 0 where
  pub part : line.part ≡ 255
  pub item : IsListItem line.item

-- the labels of lists that the blocks read
abbrev pub is_read : ℕ → Bool
is_read label = is_list label || is_filter_list label || is_order_list label

-- The lines are always kept, their labels are none of the code's, no two of them name one, and those that the blocks
-- read are all named.
pub record IsData (lists : List Line) : Type 0 where
  pub lines : All IsListLine lists
  pub once : NamesNoLabelTwice lists
  pub tables : (label : ℕ) → is_read label ≡ true → IsNamedAlways lists label

-- ---- plans

-- the places of the variables, by their labels, and the bytes with which they begin, by their places; the place of the
-- pointer in page 0, the conditions that hold, the numbers with which a subtune begins, the lines of the lists, the
-- address of the first byte, how many turns an open loop has, and where the blocks may read and write
pub record Plan : Type 0 where
  pub places : ℕ → ℕ
  pub variables : List ℕ
  pub pointer : ℕ
  pub holds : ℕ → Bool
  pub start : Start
  pub lists : List Line
  pub origin : ℕ
  pub open_turns : ℕ
  pub may_read : ℕ → Bool
  pub may_write : ℕ → Bool

-- what is asked of them: there are bytes behind those that are never cleared, but not more than labels, and each
-- label's place is one of the bytes'
pub record IsPlan (plan : Plan) : Type 0 where
  pub variables_low : FIRST_CLEARED < length plan.variables
  pub variables_high : length plan.variables ≤ VARIABLES
  pub places : (label : ℕ) → label < VARIABLES → plan.places label < length plan.variables
  pub pointer_low : 2 ≤ plan.pointer
  pub pointer_high : plan.pointer ≤ 254
  pub start : HasBytes plan.start
  pub lists : IsData plan.lists

-- the lines of the code, and all lines of the image
abbrev pub plan_code : Plan → List Line
plan_code plan = code_lines plan.places plan.variables plan.pointer plan.holds plan.start

abbrev pub plan_lines : Plan → List Line
plan_lines plan = plan_code plan ++ plan.lists

-- the bytes of the code, and those of the image
abbrev pub code_size : Plan → ℕ
code_size plan = size_of (plan_code plan)

abbrev pub plan_size : Plan → ℕ
plan_size plan = size_of (plan_lines plan)

-- where the blocks find their bytes, which conditions hold, and where they may read and write
abbrev pub plan_layout : Plan → Layout
plan_layout plan = record {
  address = address_in (plan_lines plan) plan.origin;
  pointer = plan.pointer;
  holds = plan.holds;
  open_turns = plan.open_turns;
  may_read = plan.may_read;
  may_write = plan.may_write;
}

-- ---- the entrances in it

abbrev pub its_play : Plan → Entrance
its_play plan = play_entrance plan.pointer plan.holds

abbrev pub its_init : Plan → Entrance
its_init plan = init_entrance plan.pointer plan.holds plan.start (cleared_of (length plan.variables))

-- play is entered 3 bytes behind the first byte of the image
abbrev pub play_listed : Plan → Listed
play_listed plan = record {
  front = front_lines plan.places plan.variables;
  entrance = its_play plan;
  back = middle_lines ++ (entrance_lines (its_init plan) ++ plan.lists);
  set = 0;
  origin = plan.origin;
  entry = plan.origin + 3;
  open_turns = plan.open_turns;
  may_read = plan.may_read;
  may_write = plan.may_write;
}

-- and init at it
abbrev pub init_listed : Plan → Listed
init_listed plan = record {
  front = front_lines plan.places plan.variables ++ (entrance_lines (its_play plan) ++ middle_lines);
  entrance = its_init plan;
  back = plan.lists;
  set = 0;
  origin = plan.origin;
  entry = plan.origin;
  open_turns = plan.open_turns;
  may_read = plan.may_read;
  may_write = plan.may_write;
}
