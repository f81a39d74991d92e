-- Blocks that are worked by hand: what they come to, and in how many instructions.
use Rattle.std.specs.Prelude.{◌≡◌, ℕ, ◌+◌, ◌%◌, Bool, true, false, not, nat_eq, List}
use Rattle.code_runs.specs.Runs.{put}
use Rattle.scopes.specs.declared.line.Line.{Line}
use Rattle.scopes.specs.declared.worked.TheConstants.{HALVED, HALVED_OPEN, SOUGHT, LOOP_IN_LOOP, HALVED_AGAIN, LEFT_TWICE, SAME_NAME, LEFT_ALL}
use Rattle.scopes.specs.declared.worked.TheConstants.{RISEN, LEFT_FAR, LEFT_FAR_ON, CHOSEN, CHOSEN_APART}
use Rattle.scopes.specs.declared.worked.TheConstants.{READ, STORED, NOT_COME_TO, DECIMAL, NOT_CLOSED, END_TOO_MANY}
use Rattle.scopes.specs.declared.worked.TheConstants.{END_BEFORE_ITS_SCOPE}
use Rattle.scopes.specs.declared.worked.TheConstants.{COUNTER, LEVEL, SHORT}
use Rattle.scopes.specs.Desk.{Desk, Layout}
use Rattle.scopes.specs.Trees.{Tree, WithTree, tree_of}
use Rattle.scopes.specs.declared.line.Operand.TheVariants.{Register}
use Rattle.cpu6502.specs.declared.mnemonic.Mnemonic.TheVariants.{Stx, Sty, Inc}
use Rattle.scopes.specs.Meaning.{Outcome, Ran, Done, Left, Stuck, Prices, each_one, ran}

-- labels stand in their order from $1000 on; each condition holds, or none does; an open loop has two turns; all places
-- may be read and written
abbrev pub in_order : Bool → Layout
in_order holds = record {
  address = λ label. 0x1000 + label;
  pointer = 0xFC;
  holds = λ condition. holds;
  open_turns = 2;
  may_read = λ place. true;
  may_write = λ place. true;
}

-- A and Y have these bytes, and each place of memory the low byte of its number
abbrev pub counting : ℕ → ℕ → Desk
counting a y = record {
  cpu = record {
    a = a;
    x = 0;
    y = y;
    sp = 0xFD;
    pc = 0;
    n = false;
    v = false;
    d = false;
    i = false;
    z = false;
    c = false;
  };
  at = λ place. place % 256;
}

-- a byte stands under a label
abbrev pub with_label : ℕ → ℕ → Desk → Desk
with_label label byte desk = record desk { at = put desk.at (0x1000 + label) byte }

abbrev pub runs : List Line → Desk → Ran
runs lines desk = ran each_one (in_order false) (tree_of lines) desk

-- a loop ends by its test; a turn more than it may have is stuck
abbrev pub halved : ℕ → Ran
halved counter = runs HALVED.now (with_label COUNTER counter (counting 0xFF 0))

pub record LoopsAreWorked : Type 0 where
  pub left : (halved 0).desk.cpu.a ≡ 0xFF
  pub left_in : (halved 0).cost ≡ 2
  pub once : (halved 1).desk.cpu.a ≡ 0x7F
  pub twice : (halved 2).desk.cpu.a ≡ 0x3F
  pub twice_in : (halved 2).cost ≡ 8
  pub three_times : (halved 3).desk.cpu.a ≡ 0x1F
  pub ends : (halved 3).outcome ≡ Done
  pub too_often : (halved 4).outcome ≡ Stuck

-- an open loop has the turns that the layout says, and never more than 255
abbrev pub halved_open : ℕ → ℕ → Ran
halved_open most y =
    ran each_one (record (in_order false) { open_turns = most }) (tree_of HALVED_OPEN.now) (counting 0xFF y)

pub record OpenLoopsAreWorked : Type 0 where
  pub none : (halved_open 0 1).outcome ≡ Stuck
  pub two : (halved_open 2 2).outcome ≡ Done
  pub two_leave : (halved_open 2 2).desk.cpu.a ≡ 0x3F
  pub two_in : (halved_open 2 2).cost ≡ 6
  pub too_often : (halved_open 2 3).outcome ≡ Stuck
  pub three : (halved_open 3 3).outcome ≡ Done
  pub most : (halved_open 300 255).outcome ≡ Done
  pub no_more : (halved_open 300 0).outcome ≡ Stuck

-- the list's bytes are $40 to $43; a loop is left from within
abbrev pub sought : ℕ → Ran
sought byte = runs SOUGHT.now (counting byte 0)

pub record SearchesAreWorked : Type 0 where
  pub found : (sought 0x42).desk.cpu.y ≡ 2
  pub found_in : (sought 0x42).cost ≡ 8
  pub missed : (sought 0x44).desk.cpu.y ≡ 255
  pub missed_in : (sought 0x44).cost ≡ 20
  pub ends : (sought 0x44).outcome ≡ Done

-- a loop in a loop, each with turns of its own, also from within a scope; both tests of a next turn
abbrev pub twice_twice : Ran
twice_twice = runs LOOP_IN_LOOP.now (counting 0 0)

pub record TurnsAreWorked : Type 0 where
  pub sum : twice_twice.desk.cpu.a ≡ 4
  pub sum_in : twice_twice.cost ≡ 23
  pub ends : twice_twice.outcome ≡ Done
  pub again_on : (runs HALVED_AGAIN.now (counting 1 0)).cost ≡ 4
  pub again_on_ends : (runs HALVED_AGAIN.now (counting 1 0)).outcome ≡ Done

-- a scope is left by its name, also from within another one; of two with one name, the inner one
pub record ScopesAreLeft : Type 0 where
  pub outer : (runs LEFT_TWICE.now (counting 16 0)).desk.cpu.a ≡ 5
  pub outer_in : (runs LEFT_TWICE.now (counting 16 0)).cost ≡ 5
  pub inner : (runs LEFT_TWICE.now (counting 0 8)).desk.cpu.a ≡ 70
  pub inner_in : (runs LEFT_TWICE.now (counting 0 8)).cost ≡ 9
  pub neither : (runs LEFT_TWICE.now (counting 0 7)).desk.cpu.a ≡ 71
  pub innermost : (runs SAME_NAME.now (counting 0 0)).desk.cpu.a ≡ 1
  pub all : (runs LEFT_ALL.now (counting 0 0)).outcome ≡ Left 0
  pub all_in : (runs LEFT_ALL.now (counting 0 0)).cost ≡ 1
  pub not_come_to : (runs NOT_COME_TO.now (counting 0 0)).outcome ≡ Done

-- what no code does is stuck
pub record StuckAreWorked : Type 0 where
  pub decimal : (runs DECIMAL.now (counting 0 0)).outcome ≡ Stuck
  pub not_closed : (runs NOT_CLOSED (counting 0 0)).outcome ≡ Stuck
  pub end_too_many : (runs END_TOO_MANY (counting 0 0)).outcome ≡ Stuck
  pub end_before_its_scope : (runs END_BEFORE_ITS_SCOPE (counting 0 0)).outcome ≡ Stuck

-- nor does it read or write where it may not: a place may be read alone, or written alone
abbrev pub but : ℕ → ℕ → Bool
but other place = not (nat_eq place other)

abbrev pub closed : ℕ → ℕ → Layout
closed unread unwritten = record (in_order false) { may_read = but unread; may_write = but unwritten }

abbrev pub kept_from : ℕ → ℕ → List Line → Outcome
kept_from unread unwritten lines =
    (ran each_one (closed unread unwritten) (tree_of lines) (counting 0 0)).outcome

-- one instruction on the volume's register
abbrev pub unread : Tree → Outcome
unread tree = (ran each_one (closed 0xD418 0) tree (counting 0 0)).outcome

pub record PlacesAreKept : Type 0 where
  pub x_unread : unread (WithTree Stx (Register 24)) ≡ Done
  pub y_unread : unread (WithTree Sty (Register 24)) ≡ Done
  pub count_unread : unread (WithTree Inc (Register 24)) ≡ Stuck
  -- the list's third byte is read, and $1022
  pub entry_read : kept_from 0x1042 0 READ.now ≡ Stuck
  pub pointed_read : kept_from 0x1022 0 READ.now ≡ Stuck
  pub others_read : kept_from 0x1023 0 READ.now ≡ Done
  -- the pointer's bytes may always be written there
  pub pointer_read : kept_from 0xFC 0 READ.now ≡ Done
  pub pointer_written : kept_from 0 0xFC READ.now ≡ Done
  -- a counter is read and written, where it is shifted
  pub shift_read : kept_from (0x1000 + COUNTER) 0 STORED.now ≡ Stuck
  pub shift_written : kept_from 0 (0x1000 + COUNTER) STORED.now ≡ Stuck
  pub register_written : kept_from 0 0xD418 STORED.now ≡ Stuck
  pub register_unread : kept_from 0xD418 0 STORED.now ≡ Done
  pub over_the_end : kept_from 0 1 STORED.now ≡ Stuck

-- a voice's byte and its register are found by X
abbrev pub risen : ℕ → ℕ → Ran
risen x byte =
    let desk = with_label (LEVEL + x) byte (counting 0 0) in
    runs RISEN.now (record desk { cpu = record desk.cpu { x = x } })

pub record VoicesAreWorked : Type 0 where
  pub first : (risen 0 8).desk.at (0x1000 + LEVEL) ≡ 9
  pub second : (risen 7 8).desk.at (0x1000 + LEVEL + 7) ≡ 9
  pub second_alone : (risen 7 8).desk.at (0x1000 + LEVEL) ≡ LEVEL
  pub first_wave : (risen 0 8).desk.at 0xD404 ≡ 9
  pub second_wave : (risen 7 8).desk.at 0xD40B ≡ 9
  pub third_wave : (risen 14 8).desk.at 0xD412 ≡ 9
  pub in_all : (risen 14 8).cost ≡ 5
  pub left : (risen 14 0).desk.at 0xD412 ≡ 0x12
  pub left_in : (risen 14 0).cost ≡ 2

-- a far leave goes where a near one does, and takes two instructions
abbrev pub left_far : ℕ → Ran
left_far y = runs LEFT_FAR.now (counting 0 y)

abbrev pub left_far_on : ℕ → Ran
left_far_on y = runs LEFT_FAR_ON.now (counting 0 y)

pub record FarLeavesAreWorked : Type 0 where
  pub below : (left_far 7).desk.cpu.a ≡ 1
  pub below_in : (left_far 7).cost ≡ 4
  pub at : (left_far 8).desk.cpu.a ≡ 3
  pub at_in : (left_far 8).cost ≡ 4
  pub on_below : (left_far_on 7).desk.cpu.a ≡ 3
  pub on_at : (left_far_on 8).desk.cpu.a ≡ 1

-- what is kept depends on the conditions alone, each on its own
abbrev pub chosen : Bool → Ran
chosen holds = ran each_one (in_order holds) (tree_of CHOSEN.now) (counting 0 0)

abbrev pub chosen_apart : Ran
chosen_apart =
    ran each_one (record (in_order false) { holds = nat_eq SHORT }) (tree_of CHOSEN_APART.now) (counting 0 0)

pub record ConditionsAreWorked : Type 0 where
  pub holds : (chosen true).desk.cpu.a ≡ 129
  pub not : (chosen false).desk.cpu.a ≡ 2
  pub holds_in : (chosen true).cost ≡ 2
  pub not_in : (chosen false).cost ≡ 1
  pub apart : chosen_apart.desk.cpu.a ≡ 1
  pub apart_in : chosen_apart.cost ≡ 1

-- the list's third byte is $42, and at $1022 stands $22
pub record ReadsAreWorked : Type 0 where
  pub sum : (runs READ.now (counting 0 0)).desk.cpu.a ≡ 0x64
  pub low : (runs READ.now (counting 0 0)).desk.at 0xFC ≡ 0x20
  pub high : (runs READ.now (counting 0 0)).desk.at 0xFD ≡ 0x10

-- a place is taken mod 65,536
abbrev pub stored : Ran
stored = runs STORED.now (counting 0 0)

pub record StoresAreWorked : Type 0 where
  pub register : stored.desk.at 0xD418 ≡ 7
  pub low : stored.desk.at 0xDC04 ≡ 7
  pub high : stored.desk.at 0xDC05 ≡ 9
  pub doubled : stored.desk.at (0x1000 + COUNTER) ≡ 6
  pub entry : stored.desk.at 1 ≡ 9
  pub pointed : stored.desk.at 2 ≡ 255
  pub all_in : stored.cost ≡ 13

-- prices that can't be taken for each other
abbrev pub apart : Prices
apart = record {
  alone = λ mnemonic desk. desk.cpu.y;
  operand = λ mnemonic operand desk. 10;
  jump = 100;
  left = 1000;
  stayed = 10000;
  taken = 1000000;
  passed = 10000000;
}

abbrev pub priced : List Line → Desk → ℕ
priced lines desk = (ran apart (in_order false) (tree_of lines) desk).cost

pub record PricesAreWorked : Type 0 where
  pub left : priced LEFT_ALL.now (counting 0 3) ≡ 100
  pub halved : priced HALVED.now (with_label COUNTER 2 (counting 0xFF 0)) ≡ 11010016
  pub sought : priced SOUGHT.now (counting 0x42 0) ≡ 21133
  pub risen : priced RISEN.now (counting 0 3) ≡ 10040

pub record ScopesAreWorked : Type 0 where
  pub loops : LoopsAreWorked
  pub open_loops : OpenLoopsAreWorked
  pub searches : SearchesAreWorked
  pub turns : TurnsAreWorked
  pub scopes : ScopesAreLeft
  pub stuck : StuckAreWorked
  pub places : PlacesAreKept
  pub voices : VoicesAreWorked
  pub far : FarLeavesAreWorked
  pub conditions : ConditionsAreWorked
  pub reads : ReadsAreWorked
  pub stores : StoresAreWorked
  pub prices : PricesAreWorked
