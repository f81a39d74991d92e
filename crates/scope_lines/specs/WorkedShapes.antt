-- Trees that are worked by hand: which of them have lines, how much these weigh, and what is known in them.
use Rattle.std.specs.Prelude.{◌≡◌, ℕ, zero, suc, ◌^◌, ◌||◌, Bool, true, false, nat_eq, List, [], ◌∷◌}
use Rattle.cpu6502.specs.declared.mnemonic.Mnemonic.TheVariants.{Adc, And, Asl, Beq, Bit, Brk, Clc, Cld, Cli, Clv, Cmp}
use Rattle.cpu6502.specs.declared.mnemonic.Mnemonic.TheVariants.{Cpx, Cpy, Dec, Dex, Dey}
use Rattle.cpu6502.specs.declared.mnemonic.Mnemonic.TheVariants.{Eor, Inc, Inx, Iny, Jmp, Jsr, Lda, Ldx, Ldy, Lsr, Nop}
use Rattle.cpu6502.specs.declared.mnemonic.Mnemonic.TheVariants.{Ora, Pha, Php, Pla, Plp}
use Rattle.cpu6502.specs.declared.mnemonic.Mnemonic.TheVariants.{Rol, Ror, Rti, Rts, Sbc, Sec, Sed, Sei, Sta, Stx, Sty}
use Rattle.cpu6502.specs.declared.mnemonic.Mnemonic.TheVariants.{Tax, Tay, Tsx, Txa, Txs, Tya}
use Rattle.cpu6502.specs.declared.mnemonic.Mnemonic.{Mnemonic}
use Rattle.scopes.specs.declared.line.Half.TheVariants.{Low, High}
use Rattle.scopes.specs.declared.line.Operand.TheVariants.{Number, Var, Own, Entry, Pointed, Pointer, Register}
use Rattle.scopes.specs.declared.line.Operand.TheVariants.{OwnRegister, Timer}
use Rattle.scopes.specs.declared.line.Flag.TheVariants.{Zero, Minus, Carry}
use Rattle.scopes.specs.declared.line.Test.TheVariants.{On, Off}
use Rattle.scopes.specs.Trees.{Tree, DoTree, WithTree, NoneTree, ThenTree, ScopeTree, LeaveTree, LeaveIfTree, LoopTree}
use Rattle.scopes.specs.Trees.{AgainTree, AgainIfTree, WhenTree, ChooseTree, NeverTree, tree_of}
use Rattle.scope_lines.specs.declared.worked.TheConstants.{CAPPED, COUNTER, LIST, SOUGHT, SUMMED, NOT_CLOSED, ONE_SIDE}
use Rattle.scope_lines.specs.declared.worked.TheConstants.{OTHER_SIDE, LEFT}
use Rattle.scope_lines.specs.Sizes.{size, most}
use Rattle.scope_lines.specs.Reach.{nothing_around, has_lines}
use Rattle.scope_lines.specs.Known.{the_a, known, is_known}
use Rattle.scope_lines.specs.Readings.{is_block, holds_in}
use Rattle.scope_lines.specs.Homes.{uses_only}
use Rattle.scope_lines.specs.Weights.{weight}

-- ---- which trees have lines

abbrev pub stands : Tree → Bool
stands tree = has_lines nothing_around tree

-- so many bytes
abbrev pub idle : ℕ → Tree
idle zero = NoneTree
idle (suc more) = ThenTree (DoTree Nop) (idle more)

-- a branch over what stands between it and the end of a scope, or the beginning of a loop
abbrev pub left_over : Tree → Tree
left_over between = ScopeTree 0 (ThenTree (LeaveIfTree 0 (On Zero)) between)

abbrev pub again_over : Tree → Tree
again_over between = LoopTree 1 (ThenTree between (AgainIfTree (On Zero)))

pub record BranchesAreWorked : Type 0 where
  pub forwards : stands (left_over (idle 127)) ≡ true
  pub too_far : stands (left_over (idle 128)) ≡ false
  pub backwards : stands (again_over (idle 126)) ≡ true
  pub too_far_back : stands (again_over (idle 127)) ≡ false
  -- lines under a condition count, and of a choice the longer side
  pub over_lines_kept : stands (left_over (WhenTree 0 (idle 128))) ≡ false
  pub over_choice : stands (left_over (ChooseTree 0 NoneTree (idle 128))) ≡ false
  -- a jump goes any way
  pub far : stands (ScopeTree 0 (ThenTree (LeaveTree 0) (idle 128))) ≡ true
  pub far_back : stands (LoopTree 1 (ThenTree (idle 127) AgainTree)) ≡ true

pub record NamesAreWorked : Type 0 where
  pub unknown : stands (LeaveTree 0) ≡ false
  pub unknown_by_branch : stands (LeaveIfTree 0 (On Zero)) ≡ false
  pub other_name : stands (ScopeTree 1 (LeaveTree 0)) ≡ false
  pub behind_its_scope : stands (ThenTree (ScopeTree 0 NoneTree) (LeaveTree 0)) ≡ false
  pub outer : stands (ScopeTree 0 (ScopeTree 1 (LeaveTree 0))) ≡ true
  pub outer_by_branch : stands (ScopeTree 0 (ThenTree (ScopeTree 1 (LeaveIfTree 0 (Off Carry))) (idle 128))) ≡ false
  pub no_loop : stands AgainTree ≡ false
  pub no_loop_by_branch : stands (AgainIfTree (On Zero)) ≡ false
  pub behind_its_loop : stands (ThenTree (LoopTree 1 NoneTree) AgainTree) ≡ false
  pub in_a_scope : stands (LoopTree 1 (ScopeTree 0 AgainTree)) ≡ true

pub record InstructionsAreWorked : Type 0 where
  pub shift : stands (DoTree Asl) ≡ true
  pub no_operand : stands (DoTree Lda) ≡ false
  pub return : stands (DoTree Rts) ≡ false
  pub decimal : stands (DoTree Sed) ≡ false
  pub jump : stands (WithTree Jmp (Var 0)) ≡ false
  pub stored_number : stands (WithTree Sta (Number 1)) ≡ false
  pub x_by_x : stands (WithTree Stx (Own 0)) ≡ false
  pub count_by_y : stands (WithTree Inc (Entry 0)) ≡ false
  pub by_pointer : stands (WithTree Lda Pointed) ≡ true
  pub x_by_pointer : stands (WithTree Ldx Pointed) ≡ false
  pub byte : stands (WithTree Lda (Number 255)) ≡ true
  pub no_byte : stands (WithTree Lda (Number 256)) ≡ false
  pub register : stands (WithTree Sta (Register 24)) ≡ true
  pub no_register : stands (WithTree Sta (Register 25)) ≡ false
  pub own_register : stands (WithTree Sta (OwnRegister 6)) ≡ true
  pub no_own_register : stands (WithTree Sta (OwnRegister 7)) ≡ false

-- the instructions that a block may have, without an operand and with a byte; and none of the others
abbrev pub each_alone : List Mnemonic → Tree
each_alone [] = NoneTree
each_alone (mnemonic ∷ more) = ThenTree (DoTree mnemonic) (each_alone more)

abbrev pub each_with : List Mnemonic → Tree
each_with [] = NoneTree
each_with (mnemonic ∷ more) = ThenTree (WithTree mnemonic (Var 0)) (each_with more)

abbrev pub some_alone : List Mnemonic → Bool
some_alone [] = false
some_alone (mnemonic ∷ more) = stands (DoTree mnemonic) || some_alone more

abbrev pub alone_ones : List Mnemonic
alone_ones = Asl ∷ Clc ∷ Clv ∷ Dex ∷ Dey ∷ Inx ∷ Iny ∷ Lsr ∷ Nop ∷ Rol ∷ Ror ∷ Sec ∷ Tax
    ∷ Tay ∷ Txa ∷ Tya ∷ []

abbrev pub byte_ones : List Mnemonic
byte_ones =
    Adc ∷ And ∷ Asl ∷ Bit ∷ Cmp ∷ Cpx ∷ Cpy ∷ Dec ∷ Eor ∷ Inc ∷ Lda ∷ Ldx ∷ Ldy ∷ Lsr
    ∷ Ora ∷ Rol ∷ Ror ∷ Sbc ∷ Sta ∷
    Stx ∷ Sty ∷ []

abbrev pub other_ones : List Mnemonic
other_ones = Brk ∷ Cld ∷ Cli ∷ Pha ∷ Php ∷ Pla ∷ Plp ∷ Rti ∷ Rts ∷ Sed ∷ Sei ∷ Tsx ∷ Txs ∷ []

pub record MnemonicsAreWorked : Type 0 where
  pub alone : stands (each_alone alone_ones) ≡ true
  pub bytes : stands (each_with byte_ones) ≡ true
  pub others : some_alone other_ones ≡ false
  pub branch : stands (WithTree Beq (Var 0)) ≡ false
  pub call : stands (WithTree Jsr (Var 0)) ≡ false
  pub own : stands (WithTree Lda (Own 0)) ≡ true
  pub timer : stands (WithTree Sta (Timer High)) ≡ true

-- ---- which lines are blocks, and which conditions are in a set

pub record FormsAreWorked : Type 0 where
  pub sought : is_block SOUGHT.now ≡ true
  pub summed : is_block SUMMED.now ≡ true
  pub not_closed : is_block NOT_CLOSED ≡ false
  pub one_side : is_block ONE_SIDE ≡ false
  pub other_side : is_block OTHER_SIDE ≡ false
  pub left : is_block LEFT ≡ false

pub record SetsAreWorked : Type 0 where
  pub first : holds_in 1 0 ≡ true
  pub last : holds_in (2 ^ 127) 127 ≡ true
  pub other : holds_in (2 ^ 127) 126 ≡ false
  pub none : holds_in (2 ^ 128) 128 ≡ false

-- ---- how many bytes and instructions, and which labels

pub record MeasuresAreWorked : Type 0 where
  pub sought : size (λ condition. false) (tree_of SOUGHT.now) ≡ 13
  pub sought_weighs : weight (tree_of SOUGHT.now) ≡ 21
  pub sought_uses : uses_only (nat_eq LIST) (tree_of SOUGHT.now) ≡ true
  pub sought_uses_it : uses_only (nat_eq COUNTER) (tree_of SOUGHT.now) ≡ false
  pub summed : size (nat_eq CAPPED) (tree_of SUMMED.now) ≡ 26
  pub summed_without : size (λ condition. false) (tree_of SUMMED.now) ≡ 19
  pub summed_most : most (tree_of SUMMED.now) ≡ 29
  pub summed_weighs : weight (tree_of SUMMED.now) ≡ 13
  pub summed_uses : uses_only (nat_eq COUNTER) (tree_of SUMMED.now) ≡ true

-- ---- what is known

-- one behind the other, a byte in a register, and X stored behind a tree
abbrev pub two : Tree → Tree → Tree
two first second = ThenTree first second

abbrev pub three : Tree → Tree → Tree → Tree
three first second third = ThenTree first (ThenTree second third)

abbrev pub load_a : Tree
load_a = WithTree Lda (Number 1)

abbrev pub load_x : Tree
load_x = WithTree Ldx (Number 1)

abbrev pub load_y : Tree
load_y = WithTree Ldy (Number 1)

abbrev pub store_low : Tree
store_low = WithTree Sta (Pointer Low)

abbrev pub store_high : Tree
store_high = WithTree Sta (Pointer High)

abbrev pub knows_x : Tree → Bool
knows_x tree = is_known (two tree (WithTree Stx (Var 0)))

pub record OperandsAreKnown : Type 0 where
  pub no_a : is_known (DoTree Tax) ≡ false
  pub a : is_known (two load_a (DoTree Tax)) ≡ true
  pub shift : is_known (DoTree Asl) ≡ false
  pub shift_of_a : is_known (two load_a (DoTree Asl)) ≡ true
  pub shift_of_byte : is_known (WithTree Asl (Var 0)) ≡ true
  pub rotation : is_known (WithTree Rol (Var 0)) ≡ false
  pub no_carry : is_known (two load_a (WithTree Adc (Number 1))) ≡ false
  pub carry : is_known (three load_a (DoTree Clc) (WithTree Adc (Number 1))) ≡ true
  pub by_x : is_known (WithTree Lda (Own 0)) ≡ false
  pub by_known_x : is_known (two load_x (WithTree Lda (Own 0))) ≡ true
  pub by_y : is_known (WithTree Lda (Entry 0)) ≡ false
  pub by_pointer : is_known (two load_y (WithTree Lda Pointed)) ≡ false
  pub by_half : is_known (two load_y (three load_a store_low (WithTree Lda Pointed))) ≡ false
  pub by_both : is_known (two load_y (two load_a (three store_low store_high (WithTree Lda Pointed)))) ≡ true
  pub without_y : is_known (two load_a (three store_low store_high (WithTree Lda Pointed))) ≡ false
  pub half_read : is_known (WithTree Lda (Pointer Low)) ≡ false
  pub half_counted : is_known (WithTree Inc (Pointer High)) ≡ false
  pub half_counted_on : is_known (three load_a store_high (WithTree Inc (Pointer High))) ≡ true
  pub other_half : is_known (three load_a store_high (WithTree Inc (Pointer Low))) ≡ false

pub record WaysAreKnown : Type 0 where
  -- a test reads its flag
  pub test : is_known (ScopeTree 0 (LeaveIfTree 0 (On Zero))) ≡ false
  pub test_of_byte : is_known (ScopeTree 0 (two load_a (LeaveIfTree 0 (Off Minus)))) ≡ true
  pub test_of_carry : is_known (ScopeTree 0 (two load_a (LeaveIfTree 0 (On Carry)))) ≡ false
  pub test_of_turn : is_known (LoopTree 2 (AgainIfTree (On Zero))) ≡ false
  pub compared : is_known (ScopeTree 0 (three load_a (WithTree Cmp (Number 1)) (LeaveIfTree 0 (On Carry)))) ≡ true
  -- at the end of a scope is known what all ways to it know
  pub one_way : knows_x (ScopeTree 0 (three load_a (LeaveIfTree 0 (On Zero)) load_x)) ≡ false
  pub each_way : knows_x (ScopeTree 0 (three load_x (LeaveIfTree 0 (On Zero)) load_x)) ≡ true
  pub left_alone : knows_x (ScopeTree 0 (three load_x (LeaveTree 0) NoneTree)) ≡ true
  pub left_before : knows_x (ScopeTree 0 (two (LeaveTree 0) load_x)) ≡ false
  pub left_from_within : knows_x (ScopeTree 0 (two (ScopeTree 1 (LeaveTree 0)) load_x)) ≡ false
  -- and what is kept, or chosen
  pub kept : knows_x (WhenTree 0 load_x) ≡ false
  pub one_side : knows_x (ChooseTree 0 load_x NoneTree) ≡ false
  pub both_sides : knows_x (ChooseTree 0 load_x load_x) ≡ true
  pub other_side_never : knows_x (ChooseTree 0 load_x NeverTree) ≡ true
  -- behind a loop what is known where its last turn ends
  pub turns : knows_x (LoopTree 2 (three load_x (AgainIfTree (On Zero)) NoneTree)) ≡ true
  pub left_loop : knows_x (ScopeTree 0 (LoopTree 2 (three (LeaveTree 0) load_x AgainTree))) ≡ false

-- the search rests on A, which it finds, and behind it Y is known and X isn't; the sum rests on nothing
pub record BlocksAreKnown : Type 0 where
  pub sought : is_known (tree_of SOUGHT.now) ≡ false
  pub sought_with_a : (known (tree_of SOUGHT.now) the_a).reads_known ≡ true
  pub y_behind : (known (tree_of SOUGHT.now) the_a).done.y ≡ true
  pub x_behind : (known (tree_of SOUGHT.now) the_a).done.x ≡ false
  pub summed : is_known (tree_of SUMMED.now) ≡ true

pub record ShapesAreWorked : Type 0 where
  pub branches : BranchesAreWorked
  pub names : NamesAreWorked
  pub instructions : InstructionsAreWorked
  pub mnemonics : MnemonicsAreWorked
  pub forms : FormsAreWorked
  pub sets : SetsAreWorked
  pub measures : MeasuresAreWorked
  pub operands : OperandsAreKnown
  pub ways : WaysAreKnown
  pub blocks : BlocksAreKnown
