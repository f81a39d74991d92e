-- What the three turns of the voices leave in the variables.
use Rattle.std.proofs.Common.{◌≡◌, ℕ, ◌+◌, ◌*◌, ◌/◌, ◌%◌, ◌<◌, Bool, true, false, nat_lt, nat_le, refl, sym, ◌∙◌, subst, arith}
use Rattle.std.proofs.lemmas.Bool.{ltb-true, and_parts, both_ways}
use Rattle.player_memory.specs.Labels.{is_own}
use Rattle.cpu6502.specs.declared.mnemonic.Mnemonic.TheVariants.{Lda, Sta, Dec, Dey}
use Rattle.code_runs.specs.Runs.{put}
use Rattle.code_runs.proofs.Laws.{put_other}
use Rattle.scopes.specs.declared.line.Flag.TheVariants.{Carry}
use Rattle.scopes.specs.declared.line.Operand.TheVariants.{Number, Var, Own, Entry}
use Rattle.scopes.specs.declared.line.Test.TheVariants.{On}
use Rattle.scopes.specs.Desk.{Desk, Layout}
use Rattle.scopes.specs.Meaning.{Outcome, Done, Again}
use Rattle.scopes.specs.Trees.{Tree, DoTree, WithTree, NoneTree, ThenTree, LoopTree, AgainIfTree, WhenTree}
use Rattle.player_memory.specs.declared.conditions.TheConstants.{INSTRUMENT_VIBRATO, FUNK_TEMPO, SUBTUNES}
use Rattle.player_memory.specs.declared.labels.TheConstants.{ORDERS_LOW, ORDERS_HIGH, ORDER_LOW, ORDER_HIGH, TICK}
use Rattle.player_memory.specs.declared.labels.TheConstants.{INSTRUMENT, VIB_DELAY, GATE, TEMPO, FUNK_TWO}
use Rattle.player_memory.specs.Rooms.{IsRoom, MayUse}
use Rattle.init_code.proofs.Going.{Goes, goes_on, then_goes, no_more, kept, not_kept, loop_goes, turn_more, turn_last, again, no_turn}
use Rattle.init_code.proofs.Variables.{IsHere, IsEntry, lda_number, dey, sta_var, sta_own, dec_own, lda_entry, with_same}
use Rattle.init_code.proofs.Variables.{put_where, where_kept, next_tree, next_voice, IsVoiceAt}

-- ---- one turn

-- a byte that is counted down where a condition holds
abbrev fallen : Bool → ℕ → (ℕ → ℕ) → ℕ → ℕ
fallen holds label vars = put_where holds vars label ((vars label + 255) % 256)

-- a voice at X that has its orderlist begins; and it has that at this address
abbrev ready : (ℕ → Bool) → ℕ → ℕ → (ℕ → ℕ) → ℕ → ℕ
ready holds x tempo vars =
    put_where (holds FUNK_TEMPO) (put (put (put (put (fallen (holds INSTRUMENT_VIBRATO) (VIB_DELAY + x) vars)
    (TICK + x) 1) (INSTRUMENT + x) 1) (GATE + x) 0xFE) (TEMPO + x) tempo) FUNK_TWO tempo

abbrev ordered : ℕ → ℕ → (ℕ → ℕ) → ℕ → ℕ
ordered x address vars = put (put vars (ORDER_LOW + x) (address % 256)) (ORDER_HIGH + x) (address / 256)

abbrev pub turned : (ℕ → Bool) → ℕ → ℕ → ℕ → (ℕ → ℕ) → ℕ → ℕ
turned holds x address tempo vars = ready holds x tempo (ordered x address vars)

abbrev last_tree : Tree
last_tree = ThenTree (AgainIfTree (On Carry)) NoneTree

abbrev begun_tree : ℕ → Tree
begun_tree tempo =
    ThenTree (WhenTree INSTRUMENT_VIBRATO (ThenTree (WithTree Dec (Own VIB_DELAY)) NoneTree))
    (ThenTree (WithTree Lda (Number 1)) (ThenTree (WithTree Sta (Own TICK)) (ThenTree (WithTree Sta (Own INSTRUMENT))
    (ThenTree (WithTree Lda (Number 0xFE)) (ThenTree (WithTree Sta (Own GATE))
    (ThenTree (WithTree Lda (Number tempo)) (ThenTree (WithTree Sta (Own TEMPO))
    (ThenTree (WhenTree FUNK_TEMPO (ThenTree (WithTree Sta (Var FUNK_TWO)) NoneTree)) (next_tree last_tree)))))))))

abbrev order_tree : Tree
order_tree =
    WhenTree SUBTUNES (ThenTree (WithTree Lda (Entry ORDERS_LOW)) (ThenTree (WithTree Sta (Own ORDER_LOW))
    (ThenTree (WithTree Lda (Entry ORDERS_HIGH)) (ThenTree (WithTree Sta (Own ORDER_HIGH))
    (ThenTree (DoTree Dey) NoneTree)))))

abbrev pub turn_tree : ℕ → Tree
turn_tree tempo = ThenTree order_tree (begun_tree tempo)

-- the two bytes of an address stand in the lists
pub record HasAddress (layout : Layout) (past : ℕ → ℕ) (number address : ℕ) : Type 0 where
  pub low : IsEntry layout past ORDERS_LOW number (address % 256)
  pub high : IsEntry layout past ORDERS_HIGH number (address / 256)

-- Where there are several subtunes they do; and where there is one alone the voice at X has them already.
pub record IsGiven (layout : Layout) (past vars : ℕ → ℕ) (x y address : ℕ) : Type 0 where
  pub listed : layout.holds SUBTUNES ≡ true → HasAddress layout past y address
  pub low : layout.holds SUBTUNES ≡ false → vars (ORDER_LOW + x) ≡ address % 256
  pub high : layout.holds SUBTUNES ≡ false → vars (ORDER_HIGH + x) ≡ address / 256

-- the bytes of a voice at X stand behind those of the first
abbrev AreOwn : Layout → ℕ → Type 0
AreOwn layout x = (label : ℕ) → is_own label ≡ true → IsVoiceAt layout label x

-- Y goes back to the orderlist before, where there are several subtunes
pub record IsTurned (layout : Layout) (past vars : ℕ → ℕ) (x y : ℕ) (m : Desk) : Type 0 where
  pub a_is : ℕ
  pub y_is : ℕ
  pub back : layout.holds SUBTUNES ≡ true → y_is ≡ (y + 255) % 256
  pub here : IsHere layout past vars a_is x y_is m

module _ (layout : Layout) (rows : ℕ) (room : IsRoom layout rows) (may : MayUse layout rows) where
  are_own : (voice : ℕ) → voice < 3 → AreOwn layout (7 * voice)
  are_own voice few label own = record {
    few = (let small = ltb-true label 90 (and_parts (nat_lt label 90) (nat_lt (label % 21) 7) own).0 in
        omega (arith, small, few));
    at = room.variables.voices label voice own few;
  }

  begun : (past vars : ℕ → ℕ) (a x y tempo : ℕ) (end : Outcome) (P : Desk → Type 0) (d : Desk) → AreOwn layout x →
      IsHere layout past vars a x y d →
      ((m : Desk) → m.cpu.c ≡ nat_le 256 (x + 248 + 1) →
      IsHere layout past (ready layout.holds x tempo vars) ((x + 248 + 1) % 256) ((x + 248 + 1) % 256) y m →
      Goes layout last_tree end P m) → Goes layout (begun_tree tempo) end P d
  begun past vars a x y tempo end P d own here follows =
      where_kept INSTRUMENT_VIBRATO (VIB_DELAY + x) _ _ here
      (dec_own layout rows room may (own VIB_DELAY refl) here (λ m delay. no_more layout _ m delay))
      (λ its one delay. lda_number delay
      (λ two number. sta_own layout rows room may (own TICK refl) number
      (λ three tick. sta_own layout rows room may (own INSTRUMENT refl) tick
      (λ four instrument. lda_number instrument
      (λ five mask. sta_own layout rows room may (own GATE refl) mask
      (λ six gate. lda_number gate
      (λ seven frames. sta_own layout rows room may (own TEMPO refl) frames
      (λ eight its_own. where_kept FUNK_TEMPO FUNK_TWO tempo _ its_own
      (sta_var layout rows room may (omega arith) its_own (λ m funk. no_more layout _ m funk))
      (λ same nine funk. next_voice layout past _ _ x y last_tree end P nine funk follows)))))))))

  orders : (past vars : ℕ → ℕ) (a x y address : ℕ) (d : Desk) → AreOwn layout x →
      IsGiven layout past vars x y address → IsHere layout past vars a x y d →
      Goes layout order_tree Done (IsTurned layout past (ordered x address vars) x y) d
  orders past vars a x y address d own given here = by_case (layout.holds SUBTUNES) refl
    where
      by_case : (z : Bool) → layout.holds SUBTUNES ≡ z →
          Goes layout order_tree Done (IsTurned layout past (ordered x address vars) x y) d
      by_case true on =
          kept layout SUBTUNES _ Done _ d on
          (lda_entry (given.listed on).low here
          (λ one low. sta_own layout rows room may (own ORDER_LOW refl) low
          (λ two order_low. lda_entry (given.listed on).high order_low
          (λ three high. sta_own layout rows room may (own ORDER_HIGH refl) high
          (λ four order_high. dey order_high
          (λ five back. no_more layout _ five
          (record { a_is = _; y_is = _; back = λ same. refl; here = back })))))))
      by_case false off =
          not_kept layout SUBTUNES _ _ d off (record {
            a_is = a;
            y_is = y;
            back = λ on. absurd (both_ways (layout.holds SUBTUNES) off on);
            here = with_same (ORDER_HIGH + x) (address / 256)
                (put_other vars (ORDER_LOW + x) (address % 256) (ORDER_HIGH + x) (λ e. omega (arith, e)) ∙ given.high off)
                (with_same (ORDER_LOW + x) (address % 256) (given.low off) here);
          })

  turn : (past vars : ℕ → ℕ) (a x y address tempo : ℕ) (end : Outcome) (P : Desk → Type 0) (d : Desk) →
      AreOwn layout x → IsGiven layout past vars x y address → IsHere layout past vars a x y d →
      ((m : Desk) → m.cpu.c ≡ nat_le 256 (x + 248 + 1) →
      IsTurned layout past (turned layout.holds x address tempo vars) ((x + 248 + 1) % 256) y m →
      Goes layout last_tree end P m) → Goes layout (turn_tree tempo) end P d
  turn past vars a x y address tempo end P d own given here follows =
      then_goes layout order_tree _ end P d
      (goes_on layout order_tree Done _ _ d
      (λ one there. begun past _ there.a_is x there.y_is tempo end P one own there.here
      (λ m carry last. follows m carry (record {
        a_is = _;
        y_is = there.y_is;
        back = there.back;
        here = last;
      })))
      (orders past vars a x y address d own given here))

  -- ---- the three

  -- where Y is that of its orderlist, and its own bytes are as they were
  given_then : (past vars then : ℕ → ℕ) (x y its address : ℕ) → (layout.holds SUBTUNES ≡ true → its ≡ y) →
      then (ORDER_LOW + x) ≡ vars (ORDER_LOW + x) → then (ORDER_HIGH + x) ≡ vars (ORDER_HIGH + x) →
      IsGiven layout past vars x y address → IsGiven layout past then x its address
  given_then past vars then x y its address is low high given = record {
    listed = λ on. subst (λ n. HasAddress layout past n address) (sym (is on)) (given.listed on);
    low = λ off. low ∙ given.low off;
    high = λ off. high ∙ given.high off;
  }

  pub voices : (past vars : ℕ → ℕ) (a y its tempo : ℕ) (address : ℕ → ℕ) (P : Desk → Type 0) (d : Desk) →
      ((voice : ℕ) → voice < 3 → IsGiven layout past vars (7 * voice) (y + voice) (address voice)) →
      (layout.holds SUBTUNES ≡ true → its ≡ y + 2) → (layout.holds SUBTUNES ≡ true → y + 2 < 256) →
      IsHere layout past vars a 14 its d →
      ((m : Desk) (its_a its_y : ℕ) → IsHere layout past
      (turned layout.holds 0 (address 0) tempo (turned layout.holds 7 (address 1) tempo
      (turned layout.holds 14 (address 2) tempo vars))) its_a 249 its_y m → P m) →
      Goes layout (LoopTree 3 (turn_tree tempo)) Done P d
  voices past vars a y its tempo address P d given last few here follows =
      loop_goes layout 3 (turn_tree tempo) P d (omega arith) (turn_more layout 2 (turn_tree tempo) P d
      (turn past vars a 14 its (address 2) tempo Again _ d (are_own 2 (omega arith))
      (given_then past vars vars 14 (y + 2) its (address 2) last refl refl (given 2 (omega arith))) here
      (λ one carry_one third. again layout (On Carry) NoneTree _ one carry_one
      (turn_more layout 1 (turn_tree tempo) P one
      (turn past _ third.a_is 7 third.y_is (address 1) tempo Again _ one (are_own 1 (omega arith))
      (given_then past vars _ 7 (y + 1) third.y_is (address 1)
      (λ on. (let from = last on in let below = few on in let back = third.back on in omega (arith, from, below, back)))
      refl refl (given 1 (omega arith))) third.here
      (λ two carry_two second. again layout (On Carry) NoneTree _ two carry_two
      (turn_last layout 0 (turn_tree tempo) P two
      (turn past _ second.a_is 0 second.y_is (address 0) tempo Done P two (are_own 0 (omega arith))
      (given_then past vars _ 0 (y + 0) second.y_is (address 0)
      (λ on. (let from = last on in let below = few on in let back = third.back on in let more = second.back on in
      omega (arith, from, below, back, more))) refl refl (given 0 (omega arith))) second.here
      (λ three carry_three first. no_turn layout (On Carry) P three carry_three
      (follows three first.a_is first.y_is first.here))))))))))
