-- How many of the numbers from 1 to n are kept.
use Rattle.std.proofs.Common.{◌≡◌, ℕ, zero, suc, ◌+◌, ◌≤◌, ◌⊎◌, Bool, true, false, cond}
use Rattle.std.proofs.Common.{◌∙◌, ap, inl, inr, arith}
use Rattle.std.specs.List.{range_with_len, count_by}
use Rattle.std.proofs.lemmas.List.Sums.{sum_by_push}
use Rattle.std.proofs.lemmas.Bool.{cases_Bool}
use Rattle.packing_rules.specs.Renumbering.{rank}
use Rattle.packing_rules.proofs.Laws.{range_more}

pub rank_next : (keep : ℕ → Bool) (n : ℕ) → rank keep (suc n) ≡ rank keep n + cond (keep (suc n)) 1 0
rank_next keep n =
    let one_more : 1 + n ≡ suc n = omega arith in
    ap (count_by keep) (range_more 1 n) ∙ sum_by_push (λ (k : ℕ). cond (keep k) 1 0) (range_with_len 1 n) (1 + n)
    ∙ ap (λ (k : ℕ). rank keep n + cond (keep k) 1 0) one_more

pub rank_kept : (keep : ℕ → Bool) (n : ℕ) → keep (suc n) ≡ true → rank keep (suc n) ≡ rank keep n + 1
rank_kept keep n is = rank_next keep n ∙ ap (λ (b : Bool). rank keep n + cond b 1 0) is

pub rank_left : (keep : ℕ → Bool) (n : ℕ) → keep (suc n) ≡ false → rank keep (suc n) ≡ rank keep n
rank_left keep n is = rank_next keep n ∙ ap (λ (b : Bool). rank keep n + cond b 1 0) is ∙ omega arith

step_up : (keep : ℕ → Bool) (n : ℕ) → rank keep n ≤ rank keep (suc n)
step_up keep n = elim (cases_Bool (keep (suc n))) [
  | inl is ↦ (let e = rank_kept keep n is in omega arith)
  | inr fails ↦ (let e = rank_left keep n fails in omega arith)
]

pub rank_most : (keep : ℕ → Bool) (n : ℕ) → rank keep n ≤ n
rank_most keep zero = omega arith
rank_most keep (suc n) =
    let most = rank_most keep n in
    elim (cases_Bool (keep (suc n))) [
      | inl is ↦ (let e = rank_kept keep n is in omega arith)
      | inr fails ↦ (let e = rank_left keep n fails in omega arith)
    ]

pub last_or_before : (m n : ℕ) → m ≤ suc n → (m ≡ suc n) ⊎ (m ≤ n)
last_or_before m n most = grind arith

pub rank_rises : (keep : ℕ → Bool) (m n : ℕ) → m ≤ n → rank keep m ≤ rank keep n
rank_rises keep m zero most = let e : m ≡ 0 = omega arith in rw e (omega arith)
rank_rises keep m (suc n) most = elim (last_or_before m n most) [
  | inl same ↦ rw same (omega arith)
  | inr before ↦ (let low = rank_rises keep m n before in let up = step_up keep n in omega arith)
]

-- the new number of a kept number from 1 on isn't 0
pub rank_positive : (keep : ℕ → Bool) (n : ℕ) → 1 ≤ n → keep n ≡ true → 1 ≤ rank keep n
rank_positive keep zero some is = absurd (omega arith)
rank_positive keep (suc n) some is = let e = rank_kept keep n is in omega arith
