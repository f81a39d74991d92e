-- The loop that clears places in one piece, from the last one back.
use Rattle.std.proofs.Common.{◌≡◌, ◌≢◌, ℕ, zero, suc, ◌+◌, ◌%◌, ◌<◌, false, Some}
use Rattle.std.proofs.Common.{inl, inr}
use Rattle.std.proofs.Common.{below_more, refl, ap, ◌∙◌, nat_le, arith}
use Rattle.std.proofs.lemmas.Bool.{lt-leb}
use Rattle.cpu6502.specs.declared.mnemonic.Mnemonic.TheVariants.{Sta, Dex}
use Rattle.cpu6502.specs.Registers.{with_x}
use Rattle.code_runs.specs.Runs.{put}
use Rattle.code_runs.proofs.Laws.{put_same, put_other}
use Rattle.scopes.specs.declared.line.Operand.{Operand}
use Rattle.scopes.specs.declared.line.Flag.TheVariants.{Minus}
use Rattle.scopes.specs.declared.line.Test.TheVariants.{Off}
use Rattle.scopes.specs.Desk.{Desk, Layout}
use Rattle.scopes.specs.Steps.{done_with}
use Rattle.scopes.specs.Meaning.{Done}
use Rattle.scopes.specs.Trees.{Tree, DoTree, WithTree, NoneTree, ThenTree, LoopTree, AgainIfTree}
use Rattle.init_code.specs.InitBlock.{IsOutOf}
use Rattle.init_code.proofs.Going.{GoesRound, round_on, stored, step, step_alone, turn_more, turn_last, again, no_turn}

-- ---- places

-- so many places are 0, and the others are as before; X apart, so are the registers
pub record IsCleared (base count : ℕ) (before after : Desk) : Type 0 where
  pub inside : (number : ℕ) → number < count → after.at (base + number) ≡ 0
  pub outside : (place : ℕ) → IsOutOf base count place → after.at place ≡ before.at place
  pub a : after.cpu.a ≡ 0
  pub y : after.cpu.y ≡ before.cpu.y
  pub decimal : after.cpu.d ≡ before.cpu.d

out_apart : (base n place : ℕ) → IsOutOf base (suc n) place → place ≢ base + n
out_apart base n place (inl low) e = omega (arith, low, e)
out_apart base n place (inr high) e = omega (arith, high, e)

out_less : (base n place : ℕ) → IsOutOf base (suc n) place → IsOutOf base n place
out_less base n place (inl low) = inl low
out_less base n place (inr high) = inr (omega (arith, high))

-- ---- the loop

abbrev pub clear_tree : Operand → Tree
clear_tree operand =
    ThenTree (WithTree Sta operand) (ThenTree (DoTree Dex) (ThenTree (AgainIfTree (Off Minus)) NoneTree))

-- behind the step back
abbrev back : Desk → Desk
back d = record d { cpu = with_x d.cpu ((d.cpu.x + 255) % 256) }

-- the operand is the byte at X from a base on, which may be written
abbrev pub Stores : Layout → Operand → ℕ → ℕ → Type 0
Stores layout operand base count =
    (d : Desk) → d.cpu.x < count → done_with layout Sta operand d ≡ Some (stored (base + d.cpu.x) d)

first_is : (base : ℕ) (d : Desk) → d.cpu.x ≡ 0 → d.cpu.a ≡ 0 → IsCleared base 1 d (back (stored (base + d.cpu.x) d))
first_is base d x a = record {
  inside = λ number few.
      let e : base + number ≡ base + d.cpu.x = omega (arith, few, x) in
      rw e (put_same d.at (base + d.cpu.x) d.cpu.a ∙ a);
  outside = λ place out.
      put_other d.at (base + d.cpu.x) d.cpu.a place (λ e. out_apart base 0 place out (omega (arith, e, x)));
  a = a;
  y = refl;
  decimal = refl;
}

more_is : (base n : ℕ) (d after : Desk) → d.cpu.x ≡ suc n → d.cpu.a ≡ 0 →
    IsCleared base (suc n) (back (stored (base + d.cpu.x) d)) after → IsCleared base (suc (suc n)) d after
more_is base n d after x a is = record {
  inside = λ number few.
      below_more (λ its. after.at (base + its) ≡ 0) (suc n) is.inside
      (is.outside (base + suc n) (inr (omega arith))
      ∙ ap (put d.at (base + d.cpu.x) d.cpu.a) (omega (arith, x)) ∙ put_same d.at (base + d.cpu.x) d.cpu.a ∙ a) number
      (omega (arith, few));
  outside = λ place out.
      is.outside place (out_less base (suc n) place out)
      ∙ put_other d.at (base + d.cpu.x) d.cpu.a place (λ e. out_apart base (suc n) place out (omega (arith, e, x)));
  a = is.a;
  y = is.y;
  decimal = is.decimal;
}

-- in so many turns or more
pub cleared : (layout : Layout) (operand : Operand) (base count : ℕ) → Stores layout operand base count →
    (turns n : ℕ) (d : Desk) → n < turns → n < count → n < 128 → d.cpu.x ≡ n → d.cpu.a ≡ 0 →
    GoesRound layout turns (clear_tree operand) (IsCleared base (suc n) d) d
cleared layout operand base count stores zero n d less few small x a = absurd (omega (arith, less))
cleared layout operand base count stores (suc turns) zero d less few small x a =
    turn_last layout turns (clear_tree operand) _ d
    (step layout Sta operand _ _ _ d (stored (base + d.cpu.x) d) (stores d (omega (arith, few, x)))
    (step_alone layout Dex _ _ _ _ (back (stored (base + d.cpu.x) d)) refl
    (no_turn layout (Off Minus) _ _ (rw x refl) (first_is base d x a))))
cleared layout operand base count stores (suc turns) (suc n) d less few small x a =
    turn_more layout turns (clear_tree operand) _ d
    (step layout Sta operand _ _ _ d (stored (base + d.cpu.x) d) (stores d (omega (arith, few, x)))
    (step_alone layout Dex _ _ _ _ (back (stored (base + d.cpu.x) d)) refl
    (again layout (Off Minus) _ _ _ (rw below refl)
    (round_on layout turns (clear_tree operand) _ _ _ (λ m is. more_is base n d m x a is)
    (cleared layout operand base count stores turns n (back (stored (base + d.cpu.x) d)) (omega (arith, less))
    (omega (arith, few)) (omega (arith, small)) next a)))))
  where
    next : (d.cpu.x + 255) % 256 ≡ n
    next = omega (arith, x, small)

    below : nat_le 128 ((d.cpu.x + 255) % 256) ≡ false
    below = rw next (lt-leb 128 n (omega (arith, small)))
