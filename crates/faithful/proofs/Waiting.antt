-- A loop in a loop, which takes 1,026 steps a turn and leaves X and Y at 0.
use Rattle.std.proofs.Common.{◌≡◌, ℕ, zero, suc, ◌+◌, ◌%◌, ◌<◌, ◌≤◌, false, true, refl, arith}
use Rattle.std.specs.Prelude.{nat_eq}
use Rattle.std.proofs.lemmas.Bool.Decides.{nat_tests}
use Rattle.cpu6502.specs.declared.cpu.Cpu.{Cpu}
use Rattle.cpu6502.specs.declared.mnemonic.Mnemonic.TheVariants.{Bne, Dex, Dey, Nop}
use Rattle.cpu6502.specs.Effects.{displacement}
use Rattle.cpu6502.specs.Registers.{with_x, with_y}
use Rattle.code_runs.specs.Runs.{State, Goes, Leads}
use Rattle.code_runs.proofs.Laws.{jumped, Works, goes, goes_once, leads_on, in_steps, stands_implied, stands_relative}
use Rattle.code_runs.proofs.Laws.{works, flag_steps, count_steps, dex, bne_taken, bne_passed}

-- two NOPs, DEX and BNE to the first of them; DEY and BNE to it
pub record LoopStands (at : ℕ → ℕ) (a : ℕ) : Type 0 where
  pub from : 0x1006 ≤ a
  pub below : a + 1 + 1 + 1 + 1 + 1 + 1 + 1 < 0x2000
  pub one : at a ≡ 0xEA
  pub two : at (a + 1) ≡ 0xEA
  pub down : at (a + 1 + 1) ≡ 0xCA
  pub on : at (a + 1 + 1 + 1) ≡ 0xD0
  pub back : at (a + 1 + 1 + 1 + 1) ≡ 0xFB
  pub outer_down : at (a + 1 + 1 + 1 + 1 + 1) ≡ 0x88
  pub outer_on : at (a + 1 + 1 + 1 + 1 + 1 + 1) ≡ 0xD0
  pub outer_back : at (a + 1 + 1 + 1 + 1 + 1 + 1 + 1) ≡ 0xF8

abbrev in_memory : (ℕ → ℕ) → Cpu → ℕ → State
in_memory at cpu pc = record { cpu = jumped cpu pc; at = at }

some : (n : ℕ) → nat_eq (suc n) 0 ≡ false
some n = grind (arith, nat_tests)

abbrev inner_steps : ℕ → ℕ
inner_steps zero = 4
inner_steps (suc n) = suc (suc (suc (suc (inner_steps n))))

abbrev outer_steps : ℕ → ℕ
outer_steps zero = 1024 + 2
outer_steps (suc n) = 1024 + suc (suc (outer_steps n))

-- 0 is 256 turns
abbrev pub wait_steps : ℕ → ℕ
wait_steps zero = 262656
wait_steps (suc n) = outer_steps n

module _ (at : ℕ → ℕ) (a : ℕ) (loop : LoopStands at a) where
  -- ---- its instructions

  first : (cpu : Cpu) → Goes (in_memory at cpu a) (jumped cpu (a + 1))
  first cpu =
      let from = loop.from in
      let below = loop.below in
      flag_steps.nop
      (works {at = at} {cpu = jumped cpu a} 0 (a + 1) (stands_implied at a 0xEA Nop loop.one refl) refl refl (omega arith)
      (omega arith))

  second : (cpu : Cpu) → Goes (in_memory at cpu (a + 1)) (jumped cpu (a + 1 + 1))
  second cpu =
      let from = loop.from in
      let below = loop.below in
      flag_steps.nop
      (works {at = at} {cpu = jumped cpu (a + 1)} 0 (a + 1 + 1) (stands_implied at (a + 1) 0xEA Nop loop.two refl) refl refl
      (omega arith) (omega arith))

  down_x : (cpu : Cpu) (x : ℕ) → (cpu.x + 255) % 256 ≡ x → Goes (in_memory at cpu (a + 1 + 1)) (jumped (with_x cpu x) (a + 1 + 1 + 1))
  down_x cpu x is =
      let from = loop.from in
      let below = loop.below in
      dex
      (works {at = at} {cpu = jumped cpu (a + 1 + 1)} 0 (a + 1 + 1 + 1) (stands_implied at (a + 1 + 1) 0xCA Dex loop.down refl) refl refl
      (omega arith) (omega arith)) is

  down_y : (cpu : Cpu) (y : ℕ) → (cpu.y + 255) % 256 ≡ y →
      Goes (in_memory at cpu (a + 1 + 1 + 1 + 1 + 1)) (jumped (with_y cpu y) (a + 1 + 1 + 1 + 1 + 1 + 1))
  down_y cpu y is =
      let from = loop.from in
      let below = loop.below in
      count_steps.dey
      (works {at = at} {cpu = jumped cpu (a + 1 + 1 + 1 + 1 + 1)} 0 (a + 1 + 1 + 1 + 1 + 1 + 1)
      (stands_implied at (a + 1 + 1 + 1 + 1 + 1) 0x88 Dey loop.outer_down refl) refl refl (omega arith) (omega arith)) is

  -- the two branches go back to the first NOP
  inner_target : (a + 1 + 1 + 1 + 2 + 65531) % 65536 ≡ a
  inner_target = (let below = loop.below in omega arith)

  outer_target : (a + 1 + 1 + 1 + 1 + 1 + 1 + 2 + 65528) % 65536 ≡ a
  outer_target = (let below = loop.below in omega arith)

  branch_works : (cpu : Cpu) (pc byte : ℕ) → 0 < pc → pc < 0x2000 → at pc ≡ 0xD0 → at (pc + 1) ≡ byte →
      (pc + 2 + displacement byte) % 65536 ≡ a → Works (in_memory at cpu pc) Bne a (pc + 1 + 1)
  branch_works cpu pc byte away below on back target =
      works {at = at} {cpu = jumped cpu pc} a (pc + 1 + 1)
      (stands_relative at pc 0xD0 (pc + 1) byte a Bne on refl (omega arith) back target) refl refl (omega arith) away

  inner_branch : (cpu : Cpu) → Works (in_memory at cpu (a + 1 + 1 + 1)) Bne a (a + 1 + 1 + 1 + 1 + 1)
  inner_branch cpu =
      let from = loop.from in
      let below = loop.below in
      branch_works cpu (a + 1 + 1 + 1) 0xFB (omega arith) (omega arith) loop.on loop.back inner_target

  inner_again : (cpu : Cpu) → cpu.z ≡ false → Goes (in_memory at cpu (a + 1 + 1 + 1)) (jumped cpu a)
  inner_again cpu is = bne_taken (inner_branch cpu) is

  inner_over : (cpu : Cpu) → cpu.z ≡ true → Goes (in_memory at cpu (a + 1 + 1 + 1)) (jumped cpu (a + 1 + 1 + 1 + 1 + 1))
  inner_over cpu is = bne_passed (inner_branch cpu) is

  outer_branch : (cpu : Cpu) →
      Works (in_memory at cpu (a + 1 + 1 + 1 + 1 + 1 + 1)) Bne a (a + 1 + 1 + 1 + 1 + 1 + 1 + 1 + 1)
  outer_branch cpu =
      let from = loop.from in
      let below = loop.below in
      branch_works cpu (a + 1 + 1 + 1 + 1 + 1 + 1) 0xF8 (omega arith) (omega arith) loop.outer_on loop.outer_back
      outer_target

  outer_again : (cpu : Cpu) → cpu.z ≡ false → Goes (in_memory at cpu (a + 1 + 1 + 1 + 1 + 1 + 1)) (jumped cpu a)
  outer_again cpu is = bne_taken (outer_branch cpu) is

  outer_over : (cpu : Cpu) → cpu.z ≡ true →
      Goes (in_memory at cpu (a + 1 + 1 + 1 + 1 + 1 + 1)) (jumped cpu (a + 1 + 1 + 1 + 1 + 1 + 1 + 1 + 1))
  outer_over cpu is = bne_passed (outer_branch cpu) is

  -- ---- the inner loop

  -- one less
  less : (n x : ℕ) → x ≡ suc n → n < 255 → (x + 255) % 256 ≡ n
  less n x e few = omega (arith, e, few)

  most : (x : ℕ) → x ≡ 0 → (x + 255) % 256 ≡ 255
  most x e = omega (arith, e)

  inner_from : {W : ℕ → Type 0} (n : ℕ) (cpu : Cpu) → cpu.x ≡ suc n → n < 255 →
      Leads W (inner_steps n) (in_memory at cpu a) (in_memory at (with_x cpu 0) (a + 1 + 1 + 1 + 1 + 1))
  inner_from zero cpu is few =
      goes (first cpu) (goes (second cpu) (goes (down_x cpu 0 (less 0 cpu.x is few))
      (goes_once (inner_over (with_x cpu 0) refl))))
  inner_from (suc n) cpu is few =
      goes (first cpu) (goes (second cpu) (goes (down_x cpu (suc n) (less (suc n) cpu.x is few))
      (goes (inner_again (with_x cpu (suc n)) (some n)) (inner_from n (with_x cpu (suc n)) refl (omega arith)))))

  inner_all : {W : ℕ → Type 0} (cpu : Cpu) → cpu.x ≡ 0 →
      Leads W 1024 (in_memory at cpu a) (in_memory at (with_x cpu 0) (a + 1 + 1 + 1 + 1 + 1))
  inner_all cpu is =
      in_steps refl
      (goes (first cpu) (goes (second cpu) (goes (down_x cpu 255 (most cpu.x is))
      (goes (inner_again (with_x cpu 255) refl) (inner_from 254 (with_x cpu 255) refl (omega arith))))))

  -- ---- the outer loop

  outer_from : {W : ℕ → Type 0} (n : ℕ) (cpu : Cpu) → cpu.x ≡ 0 → cpu.y ≡ suc n → n < 255 →
      Leads W (outer_steps n) (in_memory at cpu a) (in_memory at (with_y (with_x cpu 0) 0) (a + 1 + 1 + 1 + 1 + 1 + 1 + 1 + 1))
  outer_from zero cpu x y few =
      leads_on (inner_all cpu x)
      (goes (down_y (with_x cpu 0) 0 (less 0 cpu.y y few)) (goes_once (outer_over (with_y (with_x cpu 0) 0) refl)))
  outer_from (suc n) cpu x y few =
      leads_on (inner_all cpu x)
      (goes (down_y (with_x cpu 0) (suc n) (less (suc n) cpu.y y few))
      (goes (outer_again (with_y (with_x cpu 0) (suc n)) (some n))
      (outer_from n (with_y (with_x cpu 0) (suc n)) refl refl (omega arith))))

  pub loop_leads : {W : ℕ → Type 0} (turns : ℕ) (cpu : Cpu) → turns < 256 → cpu.x ≡ 0 → cpu.y ≡ turns →
      Leads W (wait_steps turns) (in_memory at cpu a)
      (in_memory at (with_y (with_x cpu 0) 0) (a + 1 + 1 + 1 + 1 + 1 + 1 + 1 + 1))
  loop_leads zero cpu few x y =
      in_steps refl
      (leads_on (inner_all cpu x)
      (goes (down_y (with_x cpu 0) 255 (most cpu.y y))
      (goes (outer_again (with_y (with_x cpu 0) 255) refl)
      (outer_from 254 (with_y (with_x cpu 0) 255) refl refl (omega arith)))))
  loop_leads (suc n) cpu few x y = outer_from n cpu x y (omega (arith, few))
