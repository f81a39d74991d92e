-- The first lines: where there are several subtunes Y is the number of the subtune's third orderlist; and the timer is set
-- where that is kept.
use Rattle.std.proofs.Common.{◌≡◌, ◌≢◌, ◌⊎◌, ℕ, ◌+◌, ◌*◌, ◌%◌, ◌<◌, ◌≤◌}
use Rattle.std.proofs.Common.{Bool, true, false, nat_le}
use Rattle.std.proofs.Common.{inl, inr, if◌then◌else◌, refl, ◌∙◌, eq-eqb, arith}
use Rattle.std.proofs.lemmas.Bool.{lt-leb, both_ways}
use Rattle.cpu6502.specs.declared.mnemonic.Mnemonic.TheVariants.{Sta, Asl, Adc, Tay, Lda}
use Rattle.cpu6502.specs.Registers.{with_a, with_y}
use Rattle.cpu6502.specs.Arithmetic.{added}
use Rattle.code_runs.specs.Runs.{put}
use Rattle.code_runs.proofs.Laws.{put_same, put_other}
use Rattle.scopes.specs.declared.line.Half.TheVariants.{Low, High}
use Rattle.scopes.specs.declared.line.Operand.TheVariants.{Number, Pointer, Timer}
use Rattle.scopes.specs.Desk.{Desk, Layout}
use Rattle.scopes.specs.Meaning.{Outcome, Done}
use Rattle.scopes.specs.Trees.{Tree, DoTree, WithTree, NoneTree, ThenTree, WhenTree}
use Rattle.player_memory.specs.declared.conditions.TheConstants.{TIMED, SUBTUNES}
use Rattle.player_text.specs.declared.texts.Start.{Start}
use Rattle.init_code.specs.InitBlock.{MaySetTimer, IsAtSubtune}
use Rattle.init_code.proofs.Going.{Goes, goes_on, then_goes, loaded, stored, step, step_alone, kept, not_kept, no_more}

-- ---- the subtune's number

-- Y is the third orderlist's, where there are several subtunes, and the pointer's low byte alone is another
pub record IsTaken (layout : Layout) (subtune : ℕ) (before after : Desk) : Type 0 where
  pub y : layout.holds SUBTUNES ≡ true → after.cpu.y ≡ 3 * subtune + 2
  pub decimal : after.cpu.d ≡ false
  pub others : (place : ℕ) → place ≢ layout.pointer → after.at place ≡ before.at place

abbrev take_tree : Tree
take_tree =
    WhenTree SUBTUNES (ThenTree (WithTree Sta (Pointer Low)) (ThenTree (DoTree Asl)
    (ThenTree (WithTree Adc (Pointer Low)) (ThenTree (WithTree Adc (Number 2)) NoneTree))))

abbrev pointed : Layout → Desk → Desk
pointed layout d = stored layout.pointer d

abbrev doubled : Desk → Desk
doubled d =
    record d { cpu = with_a (record (d.cpu) { c = nat_le 128 d.cpu.a }) (2 * d.cpu.a % 256) }

abbrev tripled : Layout → Desk → Desk
tripled layout d = record d { cpu = added d.cpu (d.at layout.pointer) }

abbrev two_more : Desk → Desk
two_more d = record d { cpu = added d.cpu 2 }

abbrev in_y : Desk → Desk
in_y d = record d { cpu = with_y d.cpu d.cpu.a }

abbrev counted : Layout → Desk → Desk
counted layout d = two_more (tripled layout (doubled (pointed layout d)))

-- A is the third orderlist's
record IsCounted (layout : Layout) (subtune : ℕ) (before after : Desk) : Type 0 where
  a : layout.holds SUBTUNES ≡ true → after.cpu.a ≡ 3 * subtune + 2
  decimal : after.cpu.d ≡ false
  others : (place : ℕ) → place ≢ layout.pointer → after.at place ≡ before.at place

counted_is : (layout : Layout) (subtune : ℕ) (d : Desk) → layout.holds SUBTUNES ≡ true →
    IsAtSubtune layout subtune d → IsCounted layout subtune d (counted layout d)
counted_is layout subtune d on is = record {
  a = λ same. last;
  decimal = is.decimal;
  others = λ place away. put_other d.at layout.pointer d.cpu.a place away;
}
  where
    few : d.cpu.a < 128
    few = let a = is.a on in let b = is.byte on in omega (arith, a, b)

    no_carry : nat_le 128 d.cpu.a ≡ false
    no_carry = lt-leb 128 d.cpu.a few

    -- the triple is below 256
    no_second : nat_le 256 (2 * d.cpu.a % 256 + d.cpu.a + 0) ≡ false
    no_second = lt-leb 256 (2 * d.cpu.a % 256 + d.cpu.a + 0) (let a = is.a on in let b = is.byte on in omega (arith, a, b))

    last : (counted layout d).cpu.a ≡ 3 * subtune + 2
    last =
        rw (put_same d.at layout.pointer d.cpu.a, no_carry, no_second)
        (let a = is.a on in let b = is.byte on in omega (arith, a, b))

counts : (layout : Layout) (subtune : ℕ) (d : Desk) → IsAtSubtune layout subtune d →
    Goes layout take_tree Done (IsCounted layout subtune d) d
counts layout subtune d is = by_case (layout.holds SUBTUNES) refl
  where
    by_case : (z : Bool) → layout.holds SUBTUNES ≡ z → Goes layout take_tree Done (IsCounted layout subtune d) d
    by_case true on =
        kept layout SUBTUNES _ Done _ d on
        (step layout Sta (Pointer Low) _ Done _ d (pointed layout d)
        (rw (eq-eqb layout.pointer layout.pointer refl) refl)
        (step_alone layout Asl _ Done _ _ (doubled (pointed layout d)) refl
        (step layout Adc (Pointer Low) _ Done _ _ (tripled layout (doubled (pointed layout d))) (rw is.decimal refl)
        (step layout Adc (Number 2) _ Done _ _ (counted layout d) (rw is.decimal refl)
        (no_more layout _ _ (counted_is layout subtune d on is))))))
    by_case false off = not_kept layout SUBTUNES _ _ d off (record {
      a = λ on. absurd (both_ways (layout.holds SUBTUNES) off on);
      decimal = is.decimal;
      others = λ place away. refl;
    })

pub takes : (layout : Layout) (subtune : ℕ) (rest : Tree) (end : Outcome) (P : Desk → Type 0) (d : Desk) →
    IsAtSubtune layout subtune d → ((m : Desk) → IsTaken layout subtune d m → Goes layout rest end P m) →
    Goes layout (ThenTree take_tree (ThenTree (DoTree Tay) rest)) end P d
takes layout subtune rest end P d is follows =
    then_goes layout take_tree _ end P d
    (goes_on layout take_tree Done _ _ d
    (λ m its. step_alone layout Tay rest end P m (in_y m) refl
    (follows (in_y m) (record { y = its.a; decimal = its.decimal; others = its.others })))
    (counts layout subtune d is))

-- ---- the timer

-- it has its two numbers where it is set, and Y and the other places are as before
pub record IsTimed (layout : Layout) (start : Start) (before after : Desk) : Type 0 where
  pub y : after.cpu.y ≡ before.cpu.y
  pub decimal : after.cpu.d ≡ before.cpu.d
  pub low : after.at 0xDC04 ≡ (if layout.holds TIMED then start.timer_low else before.at 0xDC04)
  pub high : after.at 0xDC05 ≡ (if layout.holds TIMED then start.timer_high else before.at 0xDC05)
  pub others : (place : ℕ) → (layout.holds TIMED ≡ true → (place < 0xDC04) ⊎ (0xDC06 ≤ place)) →
      after.at place ≡ before.at place

abbrev pub timer_tree : Start → Tree
timer_tree start =
    WhenTree TIMED (ThenTree (WithTree Lda (Number start.timer_low)) (ThenTree (WithTree Sta (Timer Low))
    (ThenTree (WithTree Lda (Number start.timer_high)) (ThenTree (WithTree Sta (Timer High)) NoneTree))))

abbrev set_low : Start → Desk → Desk
set_low start d = stored 0xDC04 (loaded start.timer_low d)

abbrev set_both : Start → Desk → Desk
set_both start d = stored 0xDC05 (loaded start.timer_high (set_low start d))

apart_timer : (place : ℕ) → (place < 0xDC04) ⊎ (0xDC06 ≤ place) → (place ≢ 0xDC04) × (place ≢ 0xDC05)
apart_timer place (inl below) = (λ e. omega (arith, below, e), λ e. omega (arith, below, e))
apart_timer place (inr above) = (λ e. omega (arith, above, e), λ e. omega (arith, above, e))

pub times : (layout : Layout) (start : Start) (d : Desk) → MaySetTimer layout →
    Goes layout (timer_tree start) Done (IsTimed layout start d) d
times layout start d may = by_case (layout.holds TIMED) refl
  where
    by_case : (z : Bool) → layout.holds TIMED ≡ z → Goes layout (timer_tree start) Done (IsTimed layout start d) d
    by_case true holds =
        kept layout TIMED _ Done _ d holds
        (step layout Lda (Number start.timer_low) _ Done _ d (loaded start.timer_low d) refl
        (step layout Sta (Timer Low) _ Done _ _ (set_low start d) (rw (may.low holds) refl)
        (step layout Lda (Number start.timer_high) _ Done _ _ (loaded start.timer_high (set_low start d)) refl
        (step layout Sta (Timer High) _ Done _ _ (set_both start d) (rw (may.high holds) refl)
        (no_more layout _ _ (record {
          y = refl;
          decimal = refl;
          low = rw holds refl;
          high = rw holds refl;
          others = λ place away.
              put_other (put d.at 0xDC04 start.timer_low) 0xDC05 start.timer_high place
              (apart_timer place (away holds)).1
              ∙ put_other d.at 0xDC04 start.timer_low place (apart_timer place (away holds)).0;
        }))))))
    by_case false out = not_kept layout TIMED _ _ d out (record {
      y = refl;
      decimal = refl;
      low = rw out refl;
      high = rw out refl;
      others = λ place away. refl;
    })
