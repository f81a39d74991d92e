-- What parts cost, one part more at a time, and how long their names are.
use Rattle.std.proofs.Common.{◌≡◌, ◌↔◌, ℕ, ◌+◌, ◌<◌, ◌≤◌, nat_le, true, List, []}
use Rattle.std.proofs.Common.{◌∷◌, ◌++◌, length, Option, Some, None, IsSome, All, refl, sym, subst, arith}
use Rattle.std.specs.Option.{option_to_list}
use Rattle.std.proofs.lemmas.Bool.{agree_below_at, leb-true}
use Rattle.std.proofs.lemmas.List.{append-nil}
use Rattle.std.proofs.lemmas.List.Elements.{All-nil, All-cons, All-append, All-weaker}
use Rattle.song_model.specs.declared.songs.Song.{Song}
use Rattle.play_model.specs.declared.options.Options.{Options}
use Rattle.song_costs.specs.declared.kept.PartCost.{PartCost}
use Rattle.song_costs.specs.Kept.{is_told, IsPartCost, AreKeptBelow}
use Rattle.song_costs.proofs.Laws.{kept_told, kept_passed}
use Rattle.jobs.specs.Costs.{part_name}

-- ---- costs

module _ (song : Song) (asked : ℕ) (o : Options) (n : ℕ) (costs : List PartCost) where
  pub kept_next : (result : Option PartCost) → AreKeptBelow song asked o n costs →
      ((cost : PartCost) → (result ≡ Some cost) ↔ ((cost.part ≡ n) × IsPartCost song asked o cost)) →
      (IsSome result ↔ (is_told asked o n ≡ true)) →
      AreKeptBelow song asked o (n + 1) (costs ++ option_to_list result)
  kept_next None kept exact told =
      subst (AreKeptBelow song asked o (n + 1)) (sym (append-nil costs))
      (kept_passed song asked o n costs kept (λ so. let never = told.1 so in absurd (cc (never))))
  kept_next (Some cost) kept exact told =
      let is = (exact cost).0 refl in kept_told song asked o n costs cost kept is.0 is.1

  abbrev IsBelow : ℕ → PartCost → Type 0
  IsBelow m cost = cost.part < m

  pub below_next : (result : Option PartCost) → All (λ cost. cost.part < n) costs →
      ((cost : PartCost) → (result ≡ Some cost) ↔ ((cost.part ≡ n) × IsPartCost song asked o cost)) →
      All (λ cost. cost.part < n + 1) (costs ++ option_to_list result)
  below_next None below exact =
      subst (All (λ cost. cost.part < n + 1)) (sym (append-nil costs))
      (All-weaker (IsBelow n) (IsBelow (n + 1)) (λ cost is. omega (arith, is)) costs below)
  below_next (Some cost) below exact =
      let is = (exact cost).0 refl in
      All-append (IsBelow (n + 1)) costs (cost ∷ [])
      (All-weaker (IsBelow n) (IsBelow (n + 1)) (λ cost is. omega (arith, is)) costs below)
      (All-cons (IsBelow (n + 1)) cost [] (omega (arith, is.0)) (All-nil (IsBelow (n + 1))))

-- ---- names

pub names_short : (part : ℕ) → part < 61 → length (part_name part) ≤ 24
names_short part below =
    leb-true (length (part_name part)) 24
    (agree_below_at (λ n. nat_le (length (part_name n)) 24) (λ n. true) 61 part refl below)
