-- What is told of the parts, one part more at a time.
use Rattle.std.proofs.Common.{◌≡◌, ℕ, suc, ◌+◌, Bool, true, false, List, [], ◌∷◌, ◌++◌}
use Rattle.std.proofs.Common.{map, refl, sym, ◌∙◌, ap, subst, inl, inr, arith}
use Rattle.std.specs.List.{All, filter, range_with_len, sum_by}
use Rattle.std.proofs.lemmas.Bool.{cases_Bool}
use Rattle.std.proofs.lemmas.List.{map-append}
use Rattle.std.proofs.lemmas.List.Elements.{All-nil, All-head, All-tail, All-push, filter-append}
use Rattle.std.proofs.lemmas.List.Sums.{sum_by-cons}
use Rattle.base.proofs.Laws.{same_head, same_tail}
use Rattle.song_model.specs.declared.songs.Song.{Song}
use Rattle.play_model.specs.declared.options.Options.{Options}
use Rattle.packing_rules.proofs.Laws.{range_more}
use Rattle.kept_lines.specs.KeptLines.{keeps}
use Rattle.image_parts.specs.CodeParts.{always, part_length}
use Rattle.song_costs.specs.declared.kept.PartCost.{PartCost}
use Rattle.song_costs.specs.Kept.{is_told, IsCause, IsPartCost, AreKeptBelow}
use Rattle.song_costs.specs.CostLaws.{KeptPartsAddUp, KeptPartsAreOne}
use Rattle.song_costs.proofs.KeptParts.{one_cause, same_cost}
use Rattle.song_costs.proofs.ToldSums.{is_told as told_so, told_sum}
use Rattle.song_costs.proofs.Sums.{parts_add_up}

abbrev part_of : PartCost → ℕ
part_of cost = cost.part

pub kept_none : (song : Song) (asked : ℕ) (options : Options) → AreKeptBelow song asked options 0 []
kept_none song asked options = record { parts = refl; each = All-nil (IsPartCost song asked options) }

range_of : (n : ℕ) → range_with_len 0 (n + 1) ≡ range_with_len 0 n ++ n ∷ []
range_of n =
    let next : n + 1 ≡ suc n = omega arith in
    let last : 0 + n ≡ n = omega arith in
    ap (range_with_len 0) next ∙ range_more 0 n ∙ ap (λ (k : ℕ). range_with_len 0 n ++ k ∷ []) last

-- the parts below one more
parts_more : (test : ℕ → Bool) (n : ℕ) →
    filter test (range_with_len 0 (n + 1)) ≡ filter test (range_with_len 0 n) ++ filter test (n ∷ [])
parts_more test n =
    ap (filter test) (range_of n) ∙ filter-append test (range_with_len 0 n) (n ∷ [])

-- with one that passes a test, and with one that doesn't
one_passes : (test : ℕ → Bool) (n : ℕ) → test n ≡ true →
    filter test (range_with_len 0 (n + 1)) ≡ filter test (range_with_len 0 n) ++ n ∷ []
one_passes test n passes =
    let last : filter test (n ∷ []) ≡ n ∷ [] = rw passes refl in
    parts_more test n ∙ ap (λ (ps : List ℕ). filter test (range_with_len 0 n) ++ ps) last

nothing_more : (xs : List ℕ) → xs ++ [] ≡ xs
nothing_more [] = refl
nothing_more (x ∷ xs) = ap (λ (rest : List ℕ). x ∷ rest) (nothing_more xs)

one_fails : (test : ℕ → Bool) (n : ℕ) → test n ≡ false →
    filter test (range_with_len 0 (n + 1)) ≡ filter test (range_with_len 0 n)
one_fails test n fails =
    let last : filter test (n ∷ []) ≡ [] = rw fails refl in
    parts_more test n ∙ ap (λ (ps : List ℕ). filter test (range_with_len 0 n) ++ ps) last
    ∙ nothing_more (filter test (range_with_len 0 n))

-- a part of which a cost is told
passes_so : (song : Song) (asked : ℕ) (options : Options) (cost : PartCost) →
    IsPartCost song asked options cost → is_told asked options cost.part ≡ true
passes_so song asked options cost told =
    told_so (keeps asked options) (part_length asked options) cost.part told.kept
    (λ none. told.some (told.bytes ∙ none))

pub kept_told : (song : Song) (asked : ℕ) (options : Options) (n : ℕ) (costs : List PartCost) (cost : PartCost) →
    AreKeptBelow song asked options n costs → cost.part ≡ n → IsPartCost song asked options cost →
    AreKeptBelow song asked options (n + 1) (costs ++ cost ∷ [])
kept_told song asked options n costs cost kept is told =
    let passes = subst (λ (p : ℕ). is_told asked options p ≡ true) is (passes_so song asked options cost told) in
    record {
      parts = map-append part_of costs (cost ∷ []) ∙ ap (λ (p : ℕ). map part_of costs ++ p ∷ []) is
          ∙ ap (λ (ps : List ℕ). ps ++ n ∷ []) kept.parts ∙ sym (one_passes (is_told asked options) n passes);
      each = All-push (IsPartCost song asked options) costs cost kept.each told;
    }

pub kept_passed : (song : Song) (asked : ℕ) (options : Options) (n : ℕ) (costs : List PartCost) →
    AreKeptBelow song asked options n costs → ¬ (is_told asked options n ≡ true) →
    AreKeptBelow song asked options (n + 1) costs
kept_passed song asked options n costs kept not_so = elim (cases_Bool (is_told asked options n)) [
  | inl so ↦ absurd (not_so so)
  | inr fails ↦ record {
    parts = kept.parts ∙ sym (one_fails (is_told asked options) n fails);
    each = kept.each;
  }
]

-- ---- one list

one_cost : (song : Song) (asked : ℕ) (options : Options) (one other : PartCost) → one.part ≡ other.part →
    IsPartCost song asked options one → IsPartCost song asked options other → one ≡ other
one_cost song asked options one other same a b =
    same_cost other one.part one.bytes one.cause (sym same)
    (b.bytes ∙ ap (part_length asked options) (sym same) ∙ sym a.bytes)
    (one_cause song other.part other.cause one.cause b.cause (subst (λ (p : ℕ). IsCause song p one.cause) same a.cause))

one_list : (song : Song) (asked : ℕ) (options : Options) (one other : List PartCost) →
    map part_of one ≡ map part_of other → All (IsPartCost song asked options) one →
    All (IsPartCost song asked options) other → one ≡ other
one_list song asked options [] [] same a b = refl
one_list song asked options [] (y ∷ ys) same a b = absurd (cc)
one_list song asked options (x ∷ xs) [] same a b = absurd (cc)
one_list song asked options (x ∷ xs) (y ∷ ys) same a b =
    let first : x ≡ y = one_cost song asked options x y
    (same_head x.part y.part (map part_of xs) (map part_of ys) same)
    (All-head (IsPartCost song asked options) x xs a) (All-head (IsPartCost song asked options) y ys b) in
    let rest : xs ≡ ys = one_list song asked options xs ys
    (same_tail x.part y.part (map part_of xs) (map part_of ys) same)
    (All-tail (IsPartCost song asked options) x xs a) (All-tail (IsPartCost song asked options) y ys b) in
    cc

pub kept_parts_are_one : KeptPartsAreOne
kept_parts_are_one song asked options one other a b =
    one_list song asked options one other (a.parts ∙ sym b.parts) a.each b.each

-- ---- their sum

bytes_are : (song : Song) (asked : ℕ) (options : Options) (costs : List PartCost) →
    All (IsPartCost song asked options) costs →
    sum_by (λ (cost : PartCost). cost.bytes) costs ≡ sum_by (part_length asked options) (map part_of costs)
bytes_are song asked options [] each = refl
bytes_are song asked options (cost ∷ costs) each =
    sum_by-cons (λ (c : PartCost). c.bytes) cost costs
    ∙ both (All-head (IsPartCost song asked options) cost costs each).bytes
    (bytes_are song asked options costs (All-tail (IsPartCost song asked options) cost costs each))
    ∙ sym (sum_by-cons (part_length asked options) cost.part (map part_of costs))
  where
    both : {a b c d : ℕ} → a ≡ c → b ≡ d → a + b ≡ c + d
    both e f = rw (e, f) refl

pub kept_parts_add_up : KeptPartsAddUp
kept_parts_add_up song asked options costs kept =
    parts_add_up asked options
    ∙ ap (λ (bytes : ℕ). part_length asked options always + bytes)
    (sym (told_sum (keeps asked options) (part_length asked options) (range_with_len 0 61))
    ∙ ap (sum_by (part_length asked options)) (sym kept.parts)
    ∙ sym (bytes_are song asked options costs kept.each))
