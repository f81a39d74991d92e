-- The whole block, on the way: what it leaves in the variables, and elsewhere.
use Rattle.std.proofs.Common.{◌≡◌, ◌≢◌, ◌⊎◌, ℕ, zero, suc, ◌+◌, ◌-◌, ◌*◌, ◌/◌, ◌%◌, ◌<◌, ◌≤◌}
use Rattle.std.proofs.Common.{Bool, true, false, nat_lt, if◌then◌else◌, inl, inr}
use Rattle.std.proofs.Common.{refl, ap, ◌∙◌, subst, arith}
use Rattle.std.proofs.lemmas.Bool.{cases_lt, lt-ltb, le-ltb}
use Rattle.cpu6502.specs.declared.memory.TheConstants.{MEMORY_SIZE}
use Rattle.cpu6502.specs.declared.mnemonic.Mnemonic.TheVariants.{Lda, Ldx, Sta}
use Rattle.cpu6502.specs.Registers.{with_x}
use Rattle.code_runs.specs.Runs.{put}
use Rattle.scopes.specs.declared.line.Operand.TheVariants.{Number, Var, Own, OwnRegister}
use Rattle.scopes.specs.Desk.{Desk, Layout}
use Rattle.scopes.specs.Meaning.{Outcome, Done}
use Rattle.scopes.specs.Trees.{Tree, WithTree, NoneTree, ThenTree, LoopTree, WhenTree}
use Rattle.player_memory.specs.declared.conditions.TheConstants.{TIMED, SET_VOLUME, FUNK_TEMPO, SUBTUNES}
use Rattle.player_memory.specs.declared.labels.TheConstants.{VARIABLES, FIRST_CLEARED, VOLUME, FUNK_ONE}
use Rattle.player_memory.specs.declared.labels.TheConstants.{ORDERS_LOW, ORDERS_HIGH, ORDER_LOW, ORDER_HIGH}
use Rattle.player_memory.specs.Rooms.{IsRoom, MayUse}
use Rattle.player_memory.specs.Playing.{place_in}
use Rattle.player_memory.specs.Fetching.{AreHalves}
use Rattle.player_text.specs.declared.texts.Start.{Start}
use Rattle.player_text.specs.Texts.{init_tree}
use Rattle.init_code.specs.InitBlock.{IsOutOf, MayClear, MaySetTimer, IsOrderByte, HasOrders, IsAtSubtune}
use Rattle.init_code.proofs.Going.{Goes, goes_on, then_goes, step, loaded, no_more, loop_goes}
use Rattle.init_code.proofs.Clearing.{IsCleared, Stores, clear_tree, cleared}
use Rattle.init_code.proofs.Taking.{IsTaken, takes, IsTimed, times}
use Rattle.init_code.proofs.Variables.{IsHere, IsEntry, put_where, where_kept, lda_number, ldx_number, sta_var}
use Rattle.init_code.proofs.Turns.{turned, turn_tree, IsGiven, voices}

-- ---- all is cleared

abbrev in_x : ℕ → Desk → Desk
in_x number d = record d { cpu = with_x d.cpu number }

abbrev clears_tree : ℕ → Tree → Tree
clears_tree variables rest =
    ThenTree (WithTree Lda (Number 0)) (ThenTree (WithTree Ldx (Number 24))
    (ThenTree (LoopTree 25 (clear_tree (OwnRegister 0))) (ThenTree (WithTree Ldx (Number (variables - 1)))
    (ThenTree (LoopTree 92 (clear_tree (Own FIRST_CLEARED))) rest))))

-- the registers and the variables are 0, and other places as before
record AreCleared (layout : Layout) (count : ℕ) (before after : Desk) : Type 0 where
  middle : Desk
  registers : IsCleared 0xD400 25 (in_x 24 (loaded 0 before)) middle
  variables : IsCleared (layout.address FIRST_CLEARED) count (in_x (count - 1) middle) after

module _ (layout : Layout) (rows count : ℕ) (at : ℕ → ℕ) (may : MayUse layout rows)
    (clear : MayClear layout rows count at) where
  registers_store : Stores layout (OwnRegister 0) 0xD400 25
  registers_store d few =
      let place : (0xD400 + 0 + d.cpu.x) % MEMORY_SIZE ≡ 0xD400 + d.cpu.x = omega (arith, few) in
      rw (place, may.registers d.cpu.x (omega (arith, few))) refl

  variables_store : Stores layout (Own FIRST_CLEARED) (layout.address FIRST_CLEARED) count
  variables_store d few =
      let ends = clear.to in
      let place : (layout.address FIRST_CLEARED + d.cpu.x) % MEMORY_SIZE ≡ layout.address FIRST_CLEARED + d.cpu.x =
      omega (arith, few, ends) in
      rw (place, clear.writes d.cpu.x few) refl

  -- the loop may turn 92 times, and turns as often as there are bytes
  variables_clear : (d : Desk) → d.cpu.x ≡ count - 1 → d.cpu.a ≡ 0 →
      Goes layout (LoopTree 92 (clear_tree (Own FIRST_CLEARED))) Done
      (IsCleared (layout.address FIRST_CLEARED) count d) d
  variables_clear d x a =
      let some = clear.some in
      let few = clear.few in
      let all : suc (count - 1) ≡ count = omega (arith, some) in
      subst (λ n. Goes layout (LoopTree 92 (clear_tree (Own FIRST_CLEARED))) Done
      (IsCleared (layout.address FIRST_CLEARED) n d) d) all
      (loop_goes layout 92 (clear_tree (Own FIRST_CLEARED)) _ d (omega arith)
      (cleared layout (Own FIRST_CLEARED) (layout.address FIRST_CLEARED) count variables_store 92 (count - 1) d
      (omega (arith, some, few)) (omega (arith, some)) (omega (arith, some, few)) x a))

  clears : (rest : Tree) (end : Outcome) (P : Desk → Type 0) (d : Desk) →
      ((m : Desk) → AreCleared layout count d m → Goes layout rest end P m) →
      Goes layout (clears_tree count rest) end P d
  clears rest end P d follows =
      step layout Lda (Number 0) _ end P d (loaded 0 d) refl
      (step layout Ldx (Number 24) _ end P _ (in_x 24 (loaded 0 d)) refl
      (then_goes layout (LoopTree 25 (clear_tree (OwnRegister 0))) _ end P _
      (goes_on layout _ Done _ _ _
      (λ middle one. step layout Ldx (Number (count - 1)) _ end P middle (in_x (count - 1) middle) refl
      (then_goes layout (LoopTree 92 (clear_tree (Own FIRST_CLEARED))) rest end P _
      (goes_on layout _ Done _ _ _
      (λ after two. follows after (record { middle = middle; registers = one; variables = two }))
      (variables_clear (in_x (count - 1) middle) refl one.a))))
      (loop_goes layout 25 (clear_tree (OwnRegister 0)) _ _ (omega arith)
      (cleared layout (OwnRegister 0) 0xD400 25 registers_store 25 24 (in_x 24 (loaded 0 d)) (omega arith) (omega arith)
      (omega arith) refl refl)))))

-- ---- where no variable stands

-- the registers are 0, the timer is set where that is kept, and of the other places those that are cleared, and the
-- pointer's low byte, alone may be others
pub record IsPast (layout : Layout) (count : ℕ) (start : Start) (before past : ℕ → ℕ) : Type 0 where
  pub registers : (register : ℕ) → register < 25 → past (0xD400 + register) ≡ 0
  pub timer_low : past 0xDC04 ≡ (if layout.holds TIMED then start.timer_low else before 0xDC04)
  pub timer_high : past 0xDC05 ≡ (if layout.holds TIMED then start.timer_high else before 0xDC05)
  pub others : (place : ℕ) → place ≢ layout.pointer → (place < 0xD400) ⊎ (0xD419 ≤ place) →
      (layout.holds TIMED ≡ true → (place < 0xDC04) ⊎ (0xDC06 ≤ place)) →
      IsOutOf (layout.address FIRST_CLEARED) count place → past place ≡ before place

past_is : (layout : Layout) (count : ℕ) (start : Start) (subtune : ℕ) (before took timed after : Desk) →
    layout.pointer ≤ 254 → layout.address FIRST_CLEARED + count ≤ 0xD000 → IsTaken layout subtune before took →
    IsTimed layout start took timed → AreCleared layout count timed after →
    IsPast layout count start before.at after.at
past_is layout count start subtune before took timed after low to taken set all = record {
  registers = λ register few. high (0xD400 + register) (omega arith) ∙ all.registers.inside register few;
  timer_low =
      high 0xDC04 (omega arith) ∙ all.registers.outside 0xDC04 (inr (omega arith)) ∙ set.low
      ∙ ap (λ n. if layout.holds TIMED then start.timer_low else n)
      (taken.others 0xDC04 (λ e. omega (arith, e, low)));
  timer_high =
      high 0xDC05 (omega arith) ∙ all.registers.outside 0xDC05 (inr (omega arith)) ∙ set.high
      ∙ ap (λ n. if layout.holds TIMED then start.timer_high else n)
      (taken.others 0xDC05 (λ e. omega (arith, e, low)));
  others = λ place pointer out timer cleared.
      all.variables.outside place cleared
      ∙ all.registers.outside place out ∙ set.others place timer ∙ taken.others place pointer;
}
  where
    high : (place : ℕ) → 0xD000 ≤ place → after.at place ≡ all.middle.at place
    high place from = all.variables.outside place (inr (omega (arith, to, from)))

-- the lists are as before there
entry_is : (layout : Layout) (rows count : ℕ) (start : Start) (before past : ℕ → ℕ) (label number byte : ℕ) →
    IsPast layout count start before past → IsOrderByte layout rows count before label number byte →
    IsEntry layout past label number byte
entry_is layout rows count start before past label number byte is found = record {
  reads = found.listed.reads;
  out = found.listed.elsewhere.variables;
  is = is.others (place_in layout label number) found.listed.elsewhere.low found.listed.elsewhere.registers
      found.untouched.timer found.untouched.cleared ∙ found.listed.is;
}

-- ---- the block

-- once they are cleared: the first ones are as before, and the others 0
abbrev pub cleared_variables : Layout → (ℕ → ℕ) → ℕ → ℕ
cleared_variables layout at label = if nat_lt label FIRST_CLEARED then at (layout.address label) else 0

-- then what all voices share is set, and then each voice's, from the last one on
abbrev pub first_variables : (ℕ → Bool) → Start → (ℕ → ℕ) → ℕ → ℕ
first_variables holds start vars =
    put_where (holds FUNK_TEMPO) (put_where (holds SET_VOLUME) vars VOLUME 15) FUNK_ONE start.funk

abbrev pub last_variables : (ℕ → Bool) → Start → (ℕ → ℕ) → (ℕ → ℕ) → ℕ → ℕ
last_variables holds start address vars =
    turned holds 0 (address 0) start.tempo (turned holds 7 (address 1) start.tempo
    (turned holds 14 (address 2) start.tempo (first_variables holds start vars)))

-- what the desk is at the end
pub record IsBegun (layout : Layout) (count : ℕ) (start : Start) (address : ℕ → ℕ) (before after : Desk) : Type 0
  where
    pub past : ℕ → ℕ
    pub a : ℕ
    pub y : ℕ
    pub here : IsHere layout past (last_variables layout.holds start address (cleared_variables layout before.at)) a 249
        y after
    pub is_past : IsPast layout count start before.at past

abbrev set_tree : ℕ → ℕ → Tree
set_tree number label = ThenTree (WithTree Lda (Number number)) (ThenTree (WithTree Sta (Var label)) NoneTree)

abbrev started_tree : Start → Tree
started_tree start =
    ThenTree (WhenTree SET_VOLUME (set_tree 15 VOLUME)) (ThenTree (WhenTree FUNK_TEMPO (set_tree start.funk FUNK_ONE))
    (ThenTree (WithTree Ldx (Number 14)) (ThenTree (LoopTree 3 (turn_tree start.tempo)) NoneTree)))

module _ (layout : Layout) (rows : ℕ) (room : IsRoom layout rows) (may : MayUse layout rows) where
  -- a number is put under a label
  sets : {past vars : ℕ → ℕ} {a x y : ℕ} {d : Desk} (number label : ℕ) → label < VARIABLES →
      IsHere layout past vars a x y d →
      Goes layout (set_tree number label) Done (IsHere layout past (put vars label number) number x y) d
  sets number label few here =
      lda_number here
      (λ one loaded. sta_var layout rows room may few loaded (λ two stored. no_more layout _ two stored))

  started : (start : Start) (address past vars : ℕ → ℕ) (a x y its : ℕ) (P : Desk → Type 0) (d : Desk) →
      ((voice : ℕ) → voice < 3 → IsGiven layout past (first_variables layout.holds start vars) (7 * voice) (y + voice)
      (address voice)) →
      (layout.holds SUBTUNES ≡ true → its ≡ y + 2) → (layout.holds SUBTUNES ≡ true → y + 2 < 256) →
      IsHere layout past vars a x its d →
      ((m : Desk) (its_a its_y : ℕ) →
      IsHere layout past (last_variables layout.holds start address vars) its_a 249 its_y m → P m) →
      Goes layout (started_tree start) Done P d
  started start address past vars a x y its P d given last few here follows =
      where_kept SET_VOLUME VOLUME 15 _ here (sets 15 VOLUME (omega arith) here)
      (λ any one volume. where_kept FUNK_TEMPO FUNK_ONE start.funk _ volume
      (sets start.funk FUNK_ONE (omega arith) volume)
      (λ same two funk. ldx_number funk
      (λ three first. then_goes layout (LoopTree 3 (turn_tree start.tempo)) NoneTree Done P three
      (voices layout rows room may past (first_variables layout.holds start vars) same y its start.tempo address _ three
      given last few first (λ m its_a its_y done. no_more layout P m (follows m its_a its_y done))))))

  -- a variable that the code leaves is as before
  stays : (count : ℕ) (start : Start) (before after : Desk) → IsPast layout count start before.at after.at →
      (label : ℕ) → label < VARIABLES → IsOutOf (layout.address FIRST_CLEARED) count (layout.address label) →
      after.at (layout.address label) ≡ before.at (layout.address label)
  stays count start before after past label few out =
      let from = room.variables.from label few in
      let to = room.variables.to label few in
      let low = room.pointer_high in
      past.others (layout.address label) (λ e. omega (arith, e, from, low)) (inl (omega (arith, to)))
      (λ timed. inl (omega (arith, to))) out

  -- each of the others is 0, since it is cleared, or was 0
  zero_is : (count : ℕ) (start : Start) (before after : Desk) → MayClear layout rows count before.at →
      IsPast layout count start before.at after.at →
      ((number : ℕ) → number < count → after.at (layout.address FIRST_CLEARED + number) ≡ 0) → (label : ℕ) →
      FIRST_CLEARED ≤ label → label < VARIABLES → after.at (layout.address label) ≡ 0
  zero_is count start before after clear past inside label behind few =
      elim (clear.each label behind few) [
        | inl within ↦
            (let front = within.0 in
            let end = within.1 in
            let at : layout.address label
            ≡ layout.address FIRST_CLEARED + (layout.address label - layout.address FIRST_CLEARED) =
            omega (arith, front) in
            ap after.at at
            ∙ inside (layout.address label - layout.address FIRST_CLEARED) (omega (arith, front, end)))
        | inr out ↦ stays count start before after past label few out.0 ∙ out.1
      ]

  variables_are : (count : ℕ) (start : Start) (before after : Desk) → MayClear layout rows count before.at →
      IsPast layout count start before.at after.at →
      ((number : ℕ) → number < count → after.at (layout.address FIRST_CLEARED + number) ≡ 0) → (label : ℕ) →
      label < VARIABLES → after.at (layout.address label) ≡ cleared_variables layout before.at label
  variables_are count start before after clear past inside label few = elim (cases_lt label FIRST_CLEARED) [
    | inl front ↦
        rw (lt-ltb label FIRST_CLEARED front)
        (stays count start before after past label few (clear.front label front))
    | inr behind ↦
        rw (le-ltb label FIRST_CLEARED behind)
        (zero_is count start before after clear past inside label behind few)
  ]

  here_is : (count y : ℕ) (start : Start) (before middle after : Desk) → MayClear layout rows count before.at →
      IsPast layout count start before.at after.at →
      IsCleared (layout.address FIRST_CLEARED) count (in_x (count - 1) middle) after → middle.cpu.y ≡ y →
      middle.cpu.d ≡ false → IsHere layout after.at (cleared_variables layout before.at) 0 after.cpu.x y after
  here_is count y start before middle after clear past is y_is decimal = record {
    a_is = is.a;
    x_is = refl;
    y_is = is.y ∙ y_is;
    decimal = is.decimal ∙ decimal;
    variables = variables_are count start before after clear past is.inside;
    others = λ place out. refl;
  }

  -- each voice is given its orderlist's address
  given : (count subtune : ℕ) (start : Start) (address : ℕ → ℕ) (before after : Desk) →
      IsPast layout count start before.at after.at → HasOrders layout rows count before.at subtune address →
      (voice : ℕ) → voice < 3 →
      (layout.holds SUBTUNES ≡ false →
      AreHalves (first_variables layout.holds start (cleared_variables layout before.at) (ORDER_LOW + 7 * voice))
      (first_variables layout.holds start (cleared_variables layout before.at) (ORDER_HIGH + 7 * voice))
      (address voice)) →
      IsGiven layout after.at (first_variables layout.holds start (cleared_variables layout before.at)) (7 * voice)
      (3 * subtune + voice) (address voice)
  given count subtune start address before after past orders voice few own = record {
    listed = λ on. record {
      low = entry_is layout rows count start before.at after.at ORDERS_LOW (3 * subtune + voice) (address voice % 256)
          past (orders.low on voice few);
      high = entry_is layout rows count start before.at after.at ORDERS_HIGH (3 * subtune + voice) (address voice / 256)
          past (orders.high on voice few);
    };
    low = λ off. (own off).low_is;
    high = λ off. (own off).high_is;
  }

  each_given : (count subtune : ℕ) (start : Start) (address : ℕ → ℕ) (before after : Desk) →
      IsPast layout count start before.at after.at → HasOrders layout rows count before.at subtune address →
      (voice : ℕ) → voice < 3 →
      IsGiven layout after.at (first_variables layout.holds start (cleared_variables layout before.at)) (7 * voice)
      (3 * subtune + voice) (address voice)
  each_given count subtune start address before after past orders zero few =
      given count subtune start address before after past orders 0 few (λ off. orders.own off 0 few)
  each_given count subtune start address before after past orders (suc zero) few =
      given count subtune start address before after past orders 1 few (λ off. orders.own off 1 few)
  each_given count subtune start address before after past orders (suc (suc zero)) few =
      given count subtune start address before after past orders 2 few (λ off. orders.own off 2 few)
  each_given count subtune start address before after past orders (suc (suc (suc more))) never =
      absurd (omega (arith, never))

  pub block_begins : (subtune count : ℕ) (start : Start) (address : ℕ → ℕ) (d : Desk) →
      MayClear layout rows count d.at → MaySetTimer layout → HasOrders layout rows count d.at subtune address →
      IsAtSubtune layout subtune d → Goes layout (init_tree start count) Done (IsBegun layout count start address d) d
  block_begins subtune count start address d clear timer orders is =
      takes layout subtune _ Done _ d is
      (λ took taken. then_goes layout _ _ Done _ took
      (goes_on layout _ Done _ _ took
      (λ timed set. clears layout rows count d.at may clear (started_tree start) Done _ timed
      (λ after all.
      let past : IsPast layout count start d.at after.at =
      past_is layout count start subtune d took timed after room.pointer_high clear.to taken set all in
      started start address after.at _ 0 after.cpu.x (3 * subtune) took.cpu.y _ after
      (each_given count subtune start address d after past orders) taken.y is.byte
      (here_is count took.cpu.y start d all.middle after clear past all.variables
      (all.registers.y ∙ set.y) (all.registers.decimal ∙ set.decimal ∙ taken.decimal))
      (λ m a y here. record { past = after.at; a = a; y = y; here = here; is_past = past })))
      (times layout start took timer)))
