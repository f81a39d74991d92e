-- How many clock cycles the lines of a tree take where they stand, from any desk: those of each instruction that is
-- done, by what stands in memory and in the registers in front of it. Source: the MOS 6502 programming manual.
use Rattle.std.specs.Prelude.{◌≡◌, ◌≢◌, true, ℕ, zero, suc, ◌+◌, Bool, Some, if◌then◌else◌}
use Rattle.cpu6502.specs.declared.mnemonic.Mnemonic.{Mnemonic}
use Rattle.cpu6502.specs.declared.mnemonic.Mnemonic.TheVariants.{Jmp}
use Rattle.cpu6502.specs.declared.mnemonic.Mode.TheVariants.{Absolute, Relative}
use Rattle.cpu6502.specs.Cycles.{index_cycles, branch_cycles}
use Rattle.cpu6502.specs.Manual.{read_cycles, cycles_of}
use Rattle.code_runs.specs.Runs.{State, cycles_from}
use Rattle.code_runs.specs.Cycles.{unindexed}
use Rattle.scopes.specs.declared.line.Operand.{Operand}
use Rattle.scopes.specs.Desk.{Desk, Layout, operand_place}
use Rattle.scopes.specs.Trees.{Tree, DoTree, WithTree, NoneTree, ThenTree, ScopeTree, LeaveTree, LeaveIfTree, LoopTree}
use Rattle.scopes.specs.Trees.{AgainTree, AgainIfTree, WhenTree, ChooseTree, NeverTree}
use Rattle.scopes.specs.Meaning.{Outcome, Done, Again, Stuck, Ran, each_one, is_met, ran, turns_in}
use Rattle.scope_lines.specs.Instructions.{mode_of, alone_mode}
use Rattle.scope_lines.specs.Sizes.{size}
use Rattle.scope_lines.specs.Lines.{Around, in_scope, in_loop, block_around}
use Rattle.scope_lines.specs.Reach.{Reach, has_lines}
use Rattle.scope_lines.specs.Known.{Known, known}
use Rattle.scope_lines.specs.Isolation.{Alike}
use Rattle.scope_lines.specs.Lowered.{Site, layout_at, desk_of, meant, IsWellPlaced, Enters}

-- ---- single lines

-- an instruction with its operand: one cycle more where it reads its byte by an index in another page
abbrev pub with_cycles : Layout → Mnemonic → Operand → Desk → ℕ
with_cycles layout mnemonic operand desk =
    cycles_of mnemonic (mode_of operand)
    + index_cycles mnemonic (mode_of operand)
    (operand_place layout operand (record desk { cpu = unindexed desk.cpu })) (operand_place layout operand desk)

-- a branch, where its test is met or isn't: where the next line stands, and where it leads to
abbrev pub test_cycles : Bool → ℕ → ℕ → ℕ
test_cycles met next to = read_cycles Relative + branch_cycles (Some met) next to

-- a jump
abbrev pub leave_cycles : ℕ
leave_cycles = cycles_of Jmp Absolute

-- ---- trees

-- what follows is done behind an end alone, and the next turn where it is asked for
abbrev pub if_done : Outcome → ℕ → ℕ
if_done Done cycles = cycles
if_done outcome cycles = 0

abbrev pub if_again : Outcome → ℕ → ℕ
if_again Again cycles = cycles
if_again outcome cycles = 0

-- at most so many turns of a body, which takes so many cycles from each desk
abbrev pub turn_cycles : ℕ → (Desk → Ran) → (Desk → ℕ) → Desk → ℕ
turn_cycles zero body takes desk = 0
turn_cycles (suc more) body takes desk =
    takes desk + if_again (body desk).outcome (turn_cycles more body takes (body desk).desk)

-- where so many bytes behind the label is
abbrev pub address_in : Layout → Around → ℕ → ℕ
address_in layout around place = layout.address around.label + place

-- the lines of a tree whose first byte stands so many bytes behind the label
abbrev pub cycles : Layout → Around → ℕ → Tree → Desk → ℕ
cycles layout around place (DoTree mnemonic) desk = cycles_of mnemonic (alone_mode mnemonic)
cycles layout around place (WithTree mnemonic operand) desk = with_cycles layout mnemonic operand desk
cycles layout around place NoneTree desk = 0
cycles layout around place (ThenTree first rest) desk =
    cycles layout around place first desk
    + if_done (ran each_one layout first desk).outcome
    (cycles layout around (place + size around.holds first) rest (ran each_one layout first desk).desk)
cycles layout around place (ScopeTree name body) desk =
    cycles layout (in_scope name (place + size around.holds body) around) place body desk
cycles layout around place (LeaveTree name) desk = leave_cycles
cycles layout around place (LeaveIfTree name test) desk =
    test_cycles (is_met test desk) (address_in layout around (place + 2)) (address_in layout around (around.ends name))
cycles layout around place (LoopTree count body) desk =
    turn_cycles (turns_in layout.open_turns count) (ran each_one layout body)
    (cycles layout (in_loop place around) place body) desk
cycles layout around place AgainTree desk = leave_cycles
cycles layout around place (AgainIfTree test) desk =
    test_cycles (is_met test desk) (address_in layout around (place + 2)) (address_in layout around around.head)
cycles layout around place (WhenTree condition body) desk =
    if layout.holds condition then cycles layout around place body desk else 0
cycles layout around place (ChooseTree condition this other) desk =
    if layout.holds condition then cycles layout around place this desk else cycles layout around place other desk
cycles layout around place NeverTree desk = 0

-- ---- blocks

-- from a state that enters a site
abbrev pub block_cycles : Site → State → ℕ
block_cycles site state =
    cycles (layout_at site) (block_around site.label site.pointer site.holds) site.first site.tree (desk_of state)

-- the steps that the block's lines make there take as many
abbrev pub LoweredBlocksTake : Type 0
LoweredBlocksTake =
    (site : Site) (state : State) → IsWellPlaced site → Enters site state → (meant site state).outcome ≡ Done →
    cycles_from (meant site state).cost state ≡ block_cycles site state

-- ---- on what they depend

-- from two desks with the same in what is known, a tree that reads what is known alone takes as many, where neither run
-- is stuck
abbrev pub CyclesAreIsolated : Type 0
CyclesAreIsolated =
    (layout : Layout) (around : Around) (place : ℕ) (reach : Reach) (tree : Tree) (before : Known) (one two : Desk) →
    has_lines reach tree ≡ true → (known tree before).reads_known ≡ true → Alike layout before one two →
    (ran each_one layout tree one).outcome ≢ Stuck → (ran each_one layout tree two).outcome ≢ Stuck →
    cycles layout around place tree one ≡ cycles layout around place tree two
