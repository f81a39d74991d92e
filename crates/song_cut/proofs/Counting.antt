-- How many pieces the patterns have is written down pattern by pattern.
use Rattle.std.proofs.Common.{◌≡◌, ℕ, ◌+◌, ◌<◌, ◌≤◌, List, length, slice_index, replicate, ◌∙◌, inl, inr, arith}
use Rattle.std.proofs.Math.ListN.{set}
use Rattle.std.proofs.lemmas.Bool.{cases_lt}
use Rattle.std.proofs.lemmas.List.{get_or-set_same, get_or-set_other, length-set, length-replicate, get_or-replicate}
use Rattle.song_model.specs.declared.patterns.TheConstants.{MOST_PATTERNS}
use Rattle.pattern_cut.specs.CutSongs.{Ways}
use Rattle.song_cut.specs.declared.table.PieceTable.{PieceTable}
use Rattle.song_cut.specs.Tables.{way_numbers}
use Rattle.song_cut.specs.Orders.{AreCounts}

-- those of the first n patterns
pub record CountedTo (table : PieceTable) (ways : Ways) (n : ℕ) (counts : List ℕ) : Type 0 where
  pub long : length counts ≡ 256
  pub patterns : (p : ℕ) → p < n → slice_index counts p ≡ length (way_numbers table ways p)
  pub others : (b : ℕ) → MOST_PATTERNS ≤ b → b < 256 → slice_index counts b ≡ 1

pub counted_none : (table : PieceTable) (ways : Ways) → CountedTo table ways 0 (replicate 256 1)
counted_none table ways = record {
  long = length-replicate {A = ℕ} 256 1;
  patterns = λ p low. absurd (omega arith);
  others = λ b past small. get_or-replicate 256 b 1 0 small;
}

pub counted_more : (table : PieceTable) (ways : Ways) (n k : ℕ) (counts : List ℕ) → CountedTo table ways n counts →
    n < MOST_PATTERNS → k ≡ length (way_numbers table ways n) → CountedTo table ways (n + 1) (set counts n k)
counted_more table ways n k counts so_far inside is = record {
  long = length-set counts n k ∙ so_far.long;
  patterns = λ p low. elim (cases_lt p n) [
    | inl before ↦ get_or-set_other counts n p k 0 (λ (e : p ≡ n). omega arith) ∙ so_far.patterns p before
    | inr last ↦ (
        let e : p ≡ n = omega arith in
        rw e (get_or-set_same counts n k 0 (let long = so_far.long in omega arith) ∙ is))
  ];
  others = λ b past small. get_or-set_other counts n b k 0 (λ (e : b ≡ n). omega arith) ∙ so_far.others b past small;
}

pub counted_all : (table : PieceTable) (ways : Ways) (counts : List ℕ) → CountedTo table ways MOST_PATTERNS counts →
    AreCounts table ways counts
counted_all table ways counts all = record { patterns = all.patterns; others = all.others }
