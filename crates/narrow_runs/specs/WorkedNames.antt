-- Worked by hand: which labels small blocks and an entrance name, where labels stand, and runs in three layouts; and
-- what of each is refused.
use Rattle.std.specs.Prelude.{◌≡◌, ℕ, ◌+◌, ◌||◌, Bool, true, false, nat_eq, if◌then◌else◌}
use Rattle.std.specs.Prelude.{Some, List, [], ◌∷◌, map}
use Rattle.cpu6502.specs.declared.mnemonic.Mnemonic.TheVariants.{Lda, Ldx, Sta, Stx}
use Rattle.code_runs.specs.Runs.{put}
use Rattle.scopes.specs.declared.line.Half.TheVariants.{Low, High}
use Rattle.scopes.specs.declared.line.Operand.{Operand}
use Rattle.scopes.specs.declared.line.Operand.TheVariants.{Number, Var, Own, Entry, Pointed, Pointer, Register}
use Rattle.scopes.specs.declared.line.Operand.TheVariants.{OwnRegister, Timer}
use Rattle.scopes.specs.Desk.{Desk, Layout}
use Rattle.scopes.specs.Trees.{Tree, DoTree, WithTree, NoneTree, ThenTree, ScopeTree, LoopTree, WhenTree, ChooseTree}
use Rattle.scopes.specs.Meaning.{Done, Stuck, Ran, each_one, ran}
use Rattle.scope_lines.specs.Reach.{nothing_around, has_lines}
use Rattle.scope_calls.specs.Entrances.{Entrance, have_lines}
use Rattle.scope_calls.specs.Meaning.{entrance_ran}
use Rattle.narrow_runs.specs.Named.{operand_names, names, entrance_names, stands_under, are_covered}
use Rattle.narrow_runs.specs.Narrow.{AgreesOn, IsNarrow, IsSameBut, CameTo}

-- ---- which labels are named

-- label 1 always, 2 where condition 7 holds, 3 where 8 holds, and 4 where it doesn't
abbrev pub naming : Tree
naming =
    ScopeTree 5
    (ThenTree (WithTree Lda (Var 1))
    (LoopTree 6
    (ThenTree (WhenTree 7 (WithTree Sta (Own 2))) (ChooseTree 8 (WithTree Ldx (Entry 3)) (WithTree Stx (Var 4))))))

abbrev pub naming_where : (ℕ → Bool) → List Bool
naming_where holds = map (names holds naming) (1 ∷ 2 ∷ 3 ∷ 4 ∷ 5 ∷ 6 ∷ 7 ∷ 8 ∷ [])

abbrev pub never : ℕ → Bool
never condition = false

abbrev pub always : ℕ → Bool
always condition = true

-- label 1 by itself, and 3 and 4 by its blocks
abbrev pub entrance_of : Tree → Tree → Entrance
entrance_of first voice = record {
  label = 1;
  numbered = false;
  first = first;
  voice = Some voice;
  pointer = 0xFC;
  holds = never;
}

abbrev pub entrance_naming : (ℕ → Bool) → List Bool
entrance_naming holds =
    map
    (entrance_names holds
    (entrance_of (WhenTree 7 (WithTree Lda (Var 3))) (ChooseTree 7 NoneTree (WithTree Sta (Var 4)))))
    (1 ∷ 2 ∷ 3 ∷ 4 ∷ 7 ∷ [])

abbrev pub by_operand : Operand → Bool
by_operand operand = operand_names operand 1

-- what label 2 asks is condition 7, and what 3 asks is 8 or 9; the others ask nothing
abbrev pub asked : ℕ → List ℕ
asked label = if nat_eq label 2 then 7 ∷ [] else if nat_eq label 3 then 8 ∷ 9 ∷ [] else []

abbrev pub covered : Tree → Bool
covered tree = are_covered asked [] tree

abbrev pub one_line : Tree
one_line = WithTree Sta (Own 2)

abbrev pub stands_where : ℕ → List ℕ → Bool
stands_where condition conditions = stands_under (nat_eq condition) conditions

pub record NamesAreWorked : Type 0 where
  pub neither : naming_where never ≡ true ∷ false ∷ false ∷ true ∷ false ∷ false ∷ false ∷ false ∷ []
  pub seven : naming_where (nat_eq 7) ≡ true ∷ true ∷ false ∷ true ∷ false ∷ false ∷ false ∷ false ∷ []
  pub eight : naming_where (nat_eq 8) ≡ true ∷ false ∷ true ∷ false ∷ false ∷ false ∷ false ∷ false ∷ []
  pub both : naming_where always ≡ true ∷ true ∷ true ∷ false ∷ false ∷ false ∷ false ∷ false ∷ []
  pub entrance : entrance_naming never ≡ true ∷ false ∷ false ∷ true ∷ false ∷ []
  pub entrance_seven : entrance_naming (nat_eq 7) ≡ true ∷ false ∷ true ∷ false ∷ false ∷ []
  pub by_label : map by_operand (Var 1 ∷ Own 1 ∷ Entry 1 ∷ []) ≡ true ∷ true ∷ true ∷ []
  pub by_none : map by_operand (Number 1 ∷ Pointed ∷ Pointer Low ∷ Register 1 ∷ OwnRegister 1 ∷ Timer High ∷ [])
      ≡ false ∷ false ∷ false ∷ false ∷ false ∷ false ∷ []
  -- under no condition, under one, and under any of two
  pub under_none : stands_where 7 [] ≡ true
  pub under_it : stands_where 7 (7 ∷ []) ≡ true
  pub under_another : stands_where 8 (7 ∷ []) ≡ false
  pub under_first : stands_where 8 (8 ∷ 9 ∷ []) ≡ true
  pub under_second : stands_where 9 (8 ∷ 9 ∷ []) ≡ true
  pub under_neither : stands_where 7 (8 ∷ 9 ∷ []) ≡ false
  -- each line of the block has what its labels ask; a line has it under more conditions, too, and by any of two
  pub all : covered naming ≡ true
  pub within : covered (WhenTree 7 (WhenTree 8 one_line)) ≡ true
  pub around : covered (WhenTree 8 (WhenTree 7 one_line)) ≡ true
  pub by_another : covered (WhenTree 9 (WithTree Lda (Entry 3))) ≡ true
  pub this_side : covered (ChooseTree 7 one_line NoneTree) ≡ true
  -- and a line hasn't outside the condition, under another one, or in the other side of a choice
  pub outside : covered one_line ≡ false
  pub elsewhere : covered (WhenTree 8 one_line) ≡ false
  pub other_side : covered (ChooseTree 7 NoneTree one_line) ≡ false
  pub by_neither : covered (WhenTree 7 (WithTree Lda (Entry 3))) ≡ false
  pub a_byte : covered (WithTree Lda (Var 2)) ≡ false
  pub an_entry : covered (WithTree Lda (Entry 2)) ≡ false
  -- behind or before other lines, and within what a tree opens
  pub before : covered (ThenTree one_line NoneTree) ≡ false
  pub behind : covered (ThenTree NoneTree one_line) ≡ false
  pub in_a_scope : covered (ScopeTree 0 one_line) ≡ false
  pub in_a_loop : covered (LoopTree 1 one_line) ≡ false
  pub in_this : covered (ChooseTree 8 one_line NoneTree) ≡ false
  -- such a line names a label that doesn't stand
  pub named : names (nat_eq 8) one_line 2 ≡ true
  pub not_there : stands_under (nat_eq 8) (asked 2) ≡ false

-- ---- runs

-- a byte is copied from label 1, at $11, to label 2, at $12; no kept line names label 3
abbrev pub copying : Tree
copying =
    ThenTree (WithTree Lda (Var 1)) (ThenTree (WhenTree 7 (WithTree Sta (Var 3))) (WithTree Sta (Var 2)))

abbrev pub pointing : Tree
pointing = WithTree Lda (Pointer Low)

abbrev pub narrow_one : Layout
narrow_one = record {
  address = λ label. 0x10 + label;
  pointer = 0xFC;
  holds = never;
  open_turns = 4;
  may_read = λ place. nat_eq place 0x11;
  may_write = λ place. nat_eq place 0x12;
}

-- label 3 has a place
abbrev pub wide_one : ℕ → Layout
wide_one place = record {
  address = λ label. if nat_eq label 3 then place else 0x10 + label;
  pointer = 0xFC;
  holds = never;
  open_turns = 4;
  may_read = λ other. nat_eq other 0x11 || nat_eq other place;
  may_write = λ other. nat_eq other 0x12 || nat_eq other place;
}

abbrev pub is_at : ℕ → ℕ → Bool
is_at place other = nat_eq other place

-- each byte is 5, and at one place there is another
abbrev pub fives : Desk
fives = record {
  cpu = record {
    a = 0;
    x = 0;
    y = 0;
    sp = 0xFF;
    pc = 0;
    n = false;
    v = false;
    d = false;
    i = false;
    z = false;
    c = false;
  };
  at = λ place. 5;
}

abbrev pub fives_but : ℕ → ℕ → Desk
fives_but place byte = record { cpu = fives.cpu; at = put fives.at place byte }

-- label 3 is at $20 in the one wide layout, and at $30 in the other
abbrev pub Came : Ran → Ran → Ran → Type 0
Came run one two = CameTo (is_at 0x20) (is_at 0x30) run one two

abbrev pub narrow_ran : Tree → Ran
narrow_ran tree = ran each_one narrow_one tree fives

abbrev pub first_ran : Tree → Ran
first_ran tree = ran each_one (wide_one 0x20) tree (fives_but 0x20 9)

abbrev pub second_ran : Tree → Ran
second_ran tree = ran each_one (wide_one 0x30) tree (fives_but 0x30 9)

-- an entrance that copies, once and for each voice
abbrev pub copies : Entrance
copies = entrance_of copying copying

-- what the law asks is met
pub record IsMet : Type 0 where
  pub lines : has_lines nothing_around copying ≡ true
  pub first_agrees : AgreesOn (names never copying) narrow_one (wide_one 0x20)
  pub second_agrees : AgreesOn (names never copying) narrow_one (wide_one 0x30)
  pub narrow : IsNarrow narrow_one (wide_one 0x20) (wide_one 0x30) (is_at 0x20) (is_at 0x30)
  pub first_same : IsSameBut (is_at 0x20) fives (fives_but 0x20 9)
  pub second_same : IsSameBut (is_at 0x30) fives (fives_but 0x30 9)
  pub first_ends : (first_ran copying).outcome ≡ Done
  pub second_ends : (second_ran copying).outcome ≡ Done
  pub came : Came (narrow_ran copying) (first_ran copying) (second_ran copying)
  pub byte : (narrow_ran copying).desk.at 0x12 ≡ 5
  pub steps : (narrow_ran copying).cost ≡ 2
  -- so it is with the entrance
  pub have : have_lines copies ≡ true
  pub first_known : AgreesOn (entrance_names never copies) narrow_one (wide_one 0x20)
  pub second_known : AgreesOn (entrance_names never copies) narrow_one (wide_one 0x30)
  pub entrance : Came (entrance_ran narrow_one copies fives)
      (entrance_ran (wide_one 0x20) copies (fives_but 0x20 9))
      (entrance_ran (wide_one 0x30) copies (fives_but 0x30 9))
  pub ends : (entrance_ran narrow_one copies fives).outcome ≡ Done

-- ---- what is refused

-- another address, another pointer, another condition, and other turns of an open loop
abbrev pub Agrees : Layout → Type 0
Agrees wide = AgreesOn (names never copying) narrow_one wide

pub record AgreementIsDenied : Type 0 where
  pub addresses : Agrees (record (wide_one 0x20) { address = λ label. 0x20 }) → ⊥
  pub pointer : Agrees (record (wide_one 0x20) { pointer = 0xFB }) → ⊥
  pub holds : Agrees (record (wide_one 0x20) { holds = nat_eq 7 }) → ⊥
  pub open_turns : Agrees (record (wide_one 0x20) { open_turns = 5 }) → ⊥

-- a place that both may read, or write, and the narrow layout mayn't, or that is one of the differing ones; and a
-- pointer that is one of them
abbrev pub reads_at : ℕ → Layout → Layout
reads_at place layout = record layout { may_read = is_at place }

abbrev pub writes_at : ℕ → Layout → Layout
writes_at place layout = record layout { may_write = is_at place }

abbrev pub All : (Layout → Layout) → (Layout → Layout) → Type 0
All changed wider =
    IsNarrow (changed narrow_one) (wider (wide_one 0x20)) (wider (wide_one 0x30)) (is_at 0x20) (is_at 0x30)

abbrev pub Between : ℕ → ℕ → Type 0
Between more other = IsNarrow narrow_one (wide_one 0x20) (wide_one 0x30) (is_at more) (is_at other)

pub record NarrownessIsDenied : Type 0 where
  pub reads : All (λ layout. layout) (reads_at 0x40) → ⊥
  pub reads_more : All (reads_at 0x20) (reads_at 0x20) → ⊥
  pub reads_other : All (reads_at 0x30) (reads_at 0x30) → ⊥
  pub writes : All (λ layout. layout) (writes_at 0x40) → ⊥
  pub writes_more : All (writes_at 0x20) (writes_at 0x20) → ⊥
  pub writes_other : All (writes_at 0x30) (writes_at 0x30) → ⊥
  pub low : Between 0xFC 0x30 → ⊥
  pub low_other : Between 0x20 0xFC → ⊥
  pub high : Between 0xFD 0x30 → ⊥
  pub high_other : Between 0x20 0xFD → ⊥

-- another register, another byte, another end, and another number of instructions
abbrev pub stuck_run : Ran
stuck_run = record { outcome = Stuck; desk = fives; cost = 0 }

abbrev pub done_run : Desk → ℕ → Ran
done_run desk cost = record { outcome = Done; desk = desk; cost = cost }

pub record ResultsAreDenied : Type 0 where
  pub cpu : IsSameBut (is_at 0x20) fives (record fives { cpu = record fives.cpu { a = 1 } }) → ⊥
  pub at : IsSameBut (is_at 0x20) fives (fives_but 0x30 9) → ⊥
  pub as_one : Came (done_run fives 0) stuck_run (done_run fives 0) → ⊥
  pub as_two : Came (done_run fives 0) (done_run fives 0) stuck_run → ⊥
  pub cost : Came (done_run fives 0) (done_run fives 1) (done_run fives 0) → ⊥
  pub first : Came (done_run fives 0) (done_run (fives_but 0x30 9) 0) (done_run fives 0) → ⊥
  pub second : Came (done_run fives 0) (done_run fives 0) (done_run (fives_but 0x20 9) 0) → ⊥

-- label 1 has another place, which may be read
abbrev pub elsewhere_one : Layout
elsewhere_one = record (wide_one 0x20) { address = λ label. if nat_eq label 1 then 0x20 else 0x10 + label }

-- Where what the law asks isn't so, runs come to other results. No line has LDA without an operand, which reads place
-- 0; label 1 has another place; a byte that is read differs, also where that is a place of the one layout's own, or the
-- pointer's; the narrow layout may not write what both may; one of the two runs is stuck
pub record OthersAreNotNarrow : Type 0 where
  pub no_line : has_lines nothing_around (DoTree Lda) ≡ false
  pub still_narrow : IsNarrow narrow_one (wide_one 0) (wide_one 0x30) (is_at 0) (is_at 0x30)
  pub lines : CameTo (is_at 0) (is_at 0x30) (narrow_ran (DoTree Lda))
      (ran each_one (wide_one 0) (DoTree Lda) (fives_but 0 9)) (second_ran (DoTree Lda)) → ⊥
  pub addresses : Came (narrow_ran copying) (ran each_one elsewhere_one copying (fives_but 0x20 9))
      (second_ran copying) → ⊥
  pub bytes : Came (narrow_ran copying) (ran each_one (wide_one 0x20) copying (fives_but 0x11 9))
      (second_ran copying) → ⊥
  pub reads : CameTo (is_at 0x11) (is_at 0x30) (narrow_ran copying)
      (ran each_one (wide_one 0x20) copying (fives_but 0x11 9)) (second_ran copying) → ⊥
  pub pointer : CameTo (is_at 0xFC) (is_at 0x30) (narrow_ran pointing)
      (ran each_one (wide_one 0x20) pointing (fives_but 0xFC 9)) (second_ran pointing) → ⊥
  pub writes : Came (ran each_one (writes_at 0x13 narrow_one) copying fives) (first_ran copying)
      (second_ran copying) → ⊥
  pub first_stuck : Came (narrow_ran copying) (ran each_one (reads_at 0x20 (wide_one 0x20)) copying (fives_but 0x20 9))
      (second_ran copying) → ⊥
  pub second_stuck : Came (narrow_ran copying) (first_ran copying)
      (ran each_one (reads_at 0x30 (wide_one 0x30)) copying (fives_but 0x30 9)) → ⊥

pub record RunsAreWorked : Type 0 where
  pub met : IsMet
  pub agreement : AgreementIsDenied
  pub narrowness : NarrownessIsDenied
  pub results : ResultsAreDenied
  pub others : OthersAreNotNarrow
