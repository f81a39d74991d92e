-- The lines of a tree are at home in any listing.
use Rattle.std.proofs.Common.{◌≡◌, ℕ, ◌+◌, ◌<◌, ◌≤◌, Bool, IsTrue, true, false, List, []}
use Rattle.std.proofs.Common.{◌∷◌, ◌++◌}
use Rattle.std.proofs.Common.{Some, None, refl, sym, ap, subst, ◌∙◌, inl, arith, if◌then◌else◌}
use Rattle.std.specs.Option.{is_some}
use Rattle.std.proofs.lemmas.Bool.{and_parts, and_from, lt-ltb}
use Rattle.cpu6502.specs.declared.mnemonic.Mnemonic.{Mnemonic}
use Rattle.cpu6502.specs.declared.mnemonic.Mnemonic.TheVariants.{Asl, Lsr, Rol, Ror, Jmp}
use Rattle.cpu6502.specs.declared.mnemonic.Mode.{Mode}
use Rattle.cpu6502.specs.declared.mnemonic.Mode.TheVariants.{Implied, Immediate, Absolute, AbsoluteX, AbsoluteY}
use Rattle.cpu6502.specs.declared.mnemonic.Mode.TheVariants.{IndirectY, ZeroPage, Relative}
use Rattle.cpu6502.specs.Opcodes.{opcode_of}
use Rattle.asm6502.specs.declared.lines.Operand.TheVariants.{Nothing, Number as Numeral, Label}
use Rattle.asm6502.specs.declared.lines.Line.{Line}
use Rattle.asm6502.specs.Operands.{suits}
use Rattle.asm6502.specs.Lines.{label_used, is_sound, is_no_part}
use Rattle.asm6502.specs.Stretches.{branch_of, AtHome}
use Rattle.asm6502.proofs.Laws.{stretches_pass}
use Rattle.scopes.specs.declared.line.Half.TheVariants.{Low, High}
use Rattle.scopes.specs.declared.line.Operand.{Operand}
use Rattle.scopes.specs.declared.line.Operand.TheVariants.{Number, Var, Own, Entry, Pointed, Pointer, Register}
use Rattle.scopes.specs.declared.line.Operand.TheVariants.{OwnRegister, Timer}
use Rattle.scopes.specs.declared.line.Flag.TheVariants.{Zero, Minus, Carry}
use Rattle.scopes.specs.declared.line.Test.{Test}
use Rattle.scopes.specs.declared.line.Test.TheVariants.{On, Off}
use Rattle.scopes.specs.Trees.{Tree, DoTree, WithTree, NoneTree, ThenTree, ScopeTree, LeaveTree, LeaveIfTree, LoopTree}
use Rattle.scopes.specs.Trees.{AgainTree, AgainIfTree, WhenTree, ChooseTree, NeverTree}
use Rattle.scopes.specs.Plain.{is_plain}
use Rattle.scope_lines.specs.Instructions.{code, mode_of, argument_of, alone_mode, branch, jump, is_spelled}
use Rattle.scope_lines.specs.Instructions.{branch_of as test_branch}
use Rattle.scope_lines.specs.Sizes.{size, most}
use Rattle.scope_lines.specs.Lines.{Around, in_scope, in_loop, forwards, backwards, lines, block_around, block_lines}
use Rattle.scope_lines.specs.Reach.{Reach, nothing_around, before_bytes, behind_bytes, is_operand, has_lines}
use Rattle.scope_lines.specs.Reach.{in_scope as reach_in_scope, in_loop as reach_in_loop}
use Rattle.scope_lines.specs.Homes.{operand_uses, uses_only, LoweredLinesAreAtHome, LoweredLinesAreNotRefused}
use Rattle.scope_lines.proofs.Sizing.{sizes_are_bounded}
use Rattle.scope_lines.proofs.Nearing.{IsNear, within, nothing_near, near_first, near_rest, near_scope, near_loop}

-- an instruction of the part that is always kept, which uses no label but these and branches to none
record Plainly (others : ℕ → Bool) (line : Line) : Type 0 where
  pub part : is_no_part line.part ≡ false
  pub sound : is_sound line.item ≡ true
  pub used : (label : ℕ) → label_used line.item ≡ Some label → IsTrue (others label)
  pub straight : branch_of line.item ≡ None

abbrev AllPlain : (ℕ → Bool) → List Line → Type 0
AllPlain others [] = Unit {0}
AllPlain others (line ∷ ls) = Plainly others line × AllPlain others ls

plain_append : (others : ℕ → Bool) (front back : List Line) → AllPlain others front → AllPlain others back →
    AllPlain others (front ++ back)
plain_append others [] back all more = more
plain_append others (line ∷ front) back all more = (all.0, plain_append others front back all.1 more)

-- is at home anywhere
all_home : (others : ℕ → Bool) (before ls after : List Line) → AllPlain others ls → AtHome others before ls after
all_home others before [] after all = tt
all_home others before (line ∷ ls) after all = (
  record {
    part = all.0.part;
    sound = all.0.sound;
    named = λ label e. inl (all.0.used label e);
    reach = λ label offset e. (let no : None ≡ Some (label, offset) = sym all.0.straight ∙ e in absurd (cc));
  },
  all_home others (before ++ line ∷ []) ls after all.1,
)

-- ---- single lines

-- a number, no operand, or a label
number_plain : (others : ℕ → Bool) (mnemonic : Mnemonic) (mode : Mode) (number : ℕ) →
    is_some (opcode_of mnemonic mode) ≡ true → suits mode (Numeral number) ≡ true →
    branch_of (code mnemonic mode (Numeral number)).item ≡ None → Plainly others (code mnemonic mode (Numeral number))
number_plain others mnemonic mode number opcode suit straight = record {
  part = refl;
  sound = and_from (is_some (opcode_of mnemonic mode)) (suits mode (Numeral number)) opcode suit;
  used = λ label e. absurd (cc);
  straight = straight;
}

bare_plain : (others : ℕ → Bool) (mnemonic : Mnemonic) (mode : Mode) → is_some (opcode_of mnemonic mode) ≡ true →
    suits mode Nothing ≡ true → branch_of (code mnemonic mode Nothing).item ≡ None →
    Plainly others (code mnemonic mode Nothing)
bare_plain others mnemonic mode opcode suit straight = record {
  part = refl;
  sound = and_from (is_some (opcode_of mnemonic mode)) (suits mode Nothing) opcode suit;
  used = λ label e. absurd (cc);
  straight = straight;
}

label_plain : (others : ℕ → Bool) (mnemonic : Mnemonic) (mode : Mode) (label offset : ℕ) →
    is_some (opcode_of mnemonic mode) ≡ true → suits mode (Label label offset) ≡ true →
    branch_of (code mnemonic mode (Label label offset)).item ≡ None → others label ≡ true →
    Plainly others (code mnemonic mode (Label label offset))
label_plain others mnemonic mode label offset opcode suit straight named = record {
  part = refl;
  sound = and_from (is_some (opcode_of mnemonic mode)) (suits mode (Label label offset)) opcode suit;
  used = λ other e. (let is : label ≡ other = cc in ap others (sym is) ∙ named);
  straight = straight;
}

alone_plain : (others : ℕ → Bool) (mnemonic : Mnemonic) → is_some (opcode_of mnemonic (alone_mode mnemonic)) ≡ true →
    Plainly others (code mnemonic (alone_mode mnemonic) Nothing)
alone_plain others Asl opcode = bare_plain others Asl _ opcode refl refl
alone_plain others Lsr opcode = bare_plain others Lsr _ opcode refl refl
alone_plain others Rol opcode = bare_plain others Rol _ opcode refl refl
alone_plain others Ror opcode = bare_plain others Ror _ opcode refl refl
alone_plain others mnemonic opcode = bare_plain others mnemonic Implied opcode refl refl

with_plain : (others : ℕ → Bool) (mnemonic : Mnemonic) (pointer : ℕ) (operand : Operand) →
    is_some (opcode_of mnemonic (mode_of operand)) ≡ true → is_operand operand ≡ true →
    operand_uses others operand ≡ true → pointer ≤ 254 →
    Plainly others (code mnemonic (mode_of operand) (argument_of pointer operand))
with_plain others mnemonic pointer (Number number) opcode is uses few =
    number_plain others mnemonic Immediate number opcode is refl
with_plain others mnemonic pointer (Var label) opcode is uses few =
    label_plain others mnemonic Absolute label 0 opcode refl refl uses
with_plain others mnemonic pointer (Own label) opcode is uses few =
    label_plain others mnemonic AbsoluteX label 0 opcode refl refl uses
with_plain others mnemonic pointer (Entry label) opcode is uses few =
    label_plain others mnemonic AbsoluteY label 0 opcode refl refl uses
with_plain others mnemonic pointer Pointed opcode is uses few =
    number_plain others mnemonic IndirectY pointer opcode (lt-ltb pointer 256 (omega arith)) refl
with_plain others mnemonic pointer (Pointer Low) opcode is uses few =
    number_plain others mnemonic ZeroPage pointer opcode (lt-ltb pointer 256 (omega arith)) refl
with_plain others mnemonic pointer (Pointer High) opcode is uses few =
    number_plain others mnemonic ZeroPage (pointer + 1) opcode (lt-ltb (pointer + 1) 256 (omega arith)) refl
with_plain others mnemonic pointer (Register register) opcode is uses few =
    number_plain others mnemonic Absolute _ opcode refl refl
with_plain others mnemonic pointer (OwnRegister register) opcode is uses few =
    number_plain others mnemonic AbsoluteX _ opcode refl refl
with_plain others mnemonic pointer (Timer half) opcode is uses few =
    number_plain others mnemonic Absolute _ opcode refl refl

-- a branch by a number
branch_plain : (others : ℕ → Bool) (test : Test) (displacement : ℕ) → displacement < 256 →
    Plainly others (branch test displacement)
branch_plain others test displacement few =
    number_plain others (test_branch test) Relative displacement (has_opcode test) (lt-ltb displacement 256 few) refl
  where
    has_opcode : (test : Test) → is_some (opcode_of (test_branch test) Relative) ≡ true
    has_opcode (On Zero) = refl
    has_opcode (Off Zero) = refl
    has_opcode (On Minus) = refl
    has_opcode (Off Minus) = refl
    has_opcode (On Carry) = refl
    has_opcode (Off Carry) = refl

jump_plain : (others : ℕ → Bool) (label offset : ℕ) → others label ≡ true → Plainly others (jump label offset)
jump_plain others label offset named = label_plain others Jmp Absolute label offset refl refl refl named

opcode_is : (mnemonic : Mnemonic) (mode : Mode) → is_spelled mnemonic mode ≡ true →
    is_some (opcode_of mnemonic mode) ≡ true
opcode_is mnemonic mode spelled = (and_parts (is_plain mnemonic) (is_some (opcode_of mnemonic mode)) spelled).1

-- ---- trees

choose_plain : (others : ℕ → Bool) (ls ks : List Line) (z : Bool) → (z ≡ true → AllPlain others ls) →
    (z ≡ false → AllPlain others ks) → AllPlain others (if z then ls else ks)
choose_plain others ls ks true this other = this refl
choose_plain others ls ks false this other = other refl

tree_plain : (others : ℕ → Bool) (around : Around) (reach : Reach) (tree : Tree) (place : ℕ) →
    has_lines reach tree ≡ true → uses_only others tree ≡ true → others around.label ≡ true → around.pointer ≤ 254 →
    IsNear around reach place (place + size around.holds tree) → AllPlain others (lines around place tree)
tree_plain others around reach (DoTree mnemonic) place has uses named few near =
    (alone_plain others mnemonic (opcode_is mnemonic (alone_mode mnemonic) has), tt)
tree_plain others around reach (WithTree mnemonic operand) place has uses named few near =
    let parts = and_parts (is_spelled mnemonic (mode_of operand)) (is_operand operand) has in (
      with_plain others mnemonic around.pointer operand
          (opcode_is mnemonic (mode_of operand) parts.0) parts.1 uses few,
      tt,
    )
tree_plain others around reach NoneTree place has uses named few near = tt
tree_plain others around reach (ThenTree first rest) place has uses named few near =
    let parts =
    and_parts (has_lines (before_bytes (most rest) reach) first)
    (has_lines (behind_bytes (most first) reach) rest) has in
    let both = and_parts (uses_only others first) (uses_only others rest) uses in
    let mid = place + size around.holds first in
    let ms = sizes_are_bounded around.holds first in
    let ns = sizes_are_bounded around.holds rest in
    let end : place + (size around.holds first + size around.holds rest) ≡ mid + size around.holds rest = omega arith in
    plain_append others (lines around place first) (lines around mid rest)
    (tree_plain others around (before_bytes (most rest) reach) first place parts.0 both.0 named few
    (near_first (most rest) (omega arith) (omega (arith, ns)) near))
    (tree_plain others around (behind_bytes (most first) reach) rest mid parts.1 both.1 named few
    (subst (λ q. IsNear around (behind_bytes (most first) reach) mid q) end
    (near_rest (most first) (omega arith) (omega (arith, ms)) near)))
tree_plain others around reach (ScopeTree name body) place has uses named few near =
    tree_plain others (in_scope name (place + size around.holds body) around)
    (reach_in_scope name reach) body place has uses
    named few (near_scope name near)
tree_plain others around reach (LeaveTree name) place has uses named few near =
    (jump_plain others around.label (around.ends name) named, tt)
tree_plain others around reach (LeaveIfTree name test) place has uses named few near =
    let far = within 127 (reach.ends name) has in
    let at = near.ends name far.0 far.1 in
    (branch_plain others test (forwards place (around.ends name)) (omega (arith, at.1, far.2)), tt)
tree_plain others around reach (LoopTree count body) place has uses named few near =
    tree_plain others (in_loop place around) (reach_in_loop reach) body place has uses named few (near_loop near)
tree_plain others around reach AgainTree place has uses named few near =
    (jump_plain others around.label around.head named, tt)
tree_plain others around reach (AgainIfTree test) place has uses named few near =
    let far = within 126 reach.head has in
    let at = near.head far.0 far.1 in
    (branch_plain others test (backwards place around.head) (omega (arith, at.0)), tt)
tree_plain others around reach (WhenTree condition body) place has uses named few near =
    choose_plain others (lines around place body) [] (around.holds condition)
    (λ e.
    tree_plain others around reach body place has uses named few
    (subst (λ z. IsNear around reach place (place + (if z then size around.holds body else 0))) e near)) (λ e. tt)
tree_plain others around reach (ChooseTree condition this other) place has uses named few near =
    let parts = and_parts (has_lines reach this) (has_lines reach other) has in
    let both = and_parts (uses_only others this) (uses_only others other) uses in
    let which = λ (z : Bool).
    IsNear around reach place (place + (if z then size around.holds this else size around.holds other)) in
    choose_plain others (lines around place this) (lines around place other) (around.holds condition)
    (λ e. tree_plain others around reach this place parts.0 both.0 named few (subst which e near))
    (λ e. tree_plain others around reach other place parts.1 both.1 named few (subst which e near))
tree_plain others around reach NeverTree place has uses named few near = tt

pub lowered_lines_are_at_home : LoweredLinesAreAtHome
lowered_lines_are_at_home others label pointer holds place tree has named uses few =
    all_home others [] (lines (block_around label pointer holds) place tree) []
    (tree_plain others (block_around label pointer holds) nothing_around tree place has uses named few
    (nothing_near (block_around label pointer holds) place (place + size holds tree)))

pub lowered_lines_are_not_refused : LoweredLinesAreNotRefused
lowered_lines_are_not_refused others set origin label pointer holds place tree front back before line after has named
    uses few single around fits e =
    stretches_pass others set origin front (block_lines label pointer holds place tree) back before line after
    (lowered_lines_are_at_home others label pointer holds place tree has named uses few) single around fits e
