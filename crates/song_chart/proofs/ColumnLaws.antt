-- The columns are the calls.
use Rattle.std.proofs.Common.{◌≡◌, ℕ, zero, suc, ◌+◌, ◌*◌, ◌<◌, ◌≤◌, List, [], ◌∷◌, ◌++◌, length, take, drop, map, get_or}
use Rattle.std.proofs.Common.{sym, ap, subst, ◌∙◌, arith}
use Rattle.std.specs.List.{flat_map, range_with_len}
use Rattle.std.specs.Int.{div_ceil}
use Rattle.std.proofs.Math.Seq.{take-add}
use Rattle.std.proofs.lemmas.List.{append-nil, take_all, length-take, length-drop}
use Rattle.std.proofs.lemmas.List.Concat.{flat_map-append}
use Rattle.std.proofs.lemmas.List.Elements.{All-map}
use Rattle.std.proofs.lemmas.List.FromFn.{map-range_with_len_more, length-map-range_with_len, get_or-range_with_len}
use Rattle.std.proofs.lemmas.List.FromFn.{length-range_with_len}
use Rattle.song_chart.specs.Columns.{column, column_count, calls_per_column}
use Rattle.song_chart.specs.Laws.{ColumnsAreTheCalls, ColumnsAreFilled, ColumnsAreFew}
use Rattle.song_chart.proofs.Quotients.{enough, begins_inside, few_parts}

-- the first columns are the first calls
first_columns : (per : ℕ) (cycles : List ℕ) (n : ℕ) →
    flat_map (λ (calls : List ℕ). calls) (map (column per cycles) (range_with_len 0 n)) ≡ take (n * per) cycles
first_columns per cycles zero =
    let none : 0 ≡ 0 * per = omega arith in ap (λ k. take k cycles) none
first_columns per cycles (suc n) =
    let place : suc n ≡ n + 1 = omega arith in
    let more : n * per + per ≡ suc n * per = omega arith in
    let id : List ℕ → List ℕ = λ calls. calls in
    ap (λ k. flat_map id (map (column per cycles) (range_with_len 0 k))) place
    ∙ ap (flat_map id) (map-range_with_len_more (column per cycles) 0 n n (omega arith))
    ∙ flat_map-append id (map (column per cycles) (range_with_len 0 n)) (column per cycles n ∷ [])
    ∙ ap (λ calls. calls ++ (column per cycles n ++ [])) (first_columns per cycles n)
    ∙ ap (λ calls. take (n * per) cycles ++ calls) (append-nil (column per cycles n))
    ∙ sym (take-add (n * per) per cycles)
    ∙ ap (λ k. take k cycles) more

pub columns_are_the_calls : ColumnsAreTheCalls
columns_are_the_calls per cycles some =
    first_columns per cycles (div_ceil (length cycles) per)
    ∙ take_all (div_ceil (length cycles) per * per) cycles (enough (length cycles) per some)

pub columns_are_filled : ColumnsAreFilled
columns_are_filled per cycles some =
    All-map (λ (calls : List ℕ). (0 < length calls) × (length calls ≤ per)) (column per cycles)
    (range_with_len 0 (column_count per (length cycles)))
    (λ k d few.
    let count = column_count per (length cycles) in
    let inside : k < count = subst (λ n. k < n) (length-range_with_len 0 count) few in
    let at = get_or-range_with_len 0 count k d inside in
    let place : get_or (range_with_len 0 count) k d ≡ k = omega (arith, at) in
    let begins = begins_inside (length cycles) per k some inside in
    let taken = length-take per (drop (k * per) cycles) in
    let left = length-drop (k * per) cycles in
    subst (λ p. (0 < length (column per cycles p)) × (length (column per cycles p) ≤ per)) (sym place)
    (omega (arith, taken, left, begins, some), omega (arith, taken)))

pub columns_are_few : ColumnsAreFew
columns_are_few cycles =
    let per = calls_per_column (length cycles) in
    let count = column_count per (length cycles) in
    let all = length-map-range_with_len (column per cycles) 0 count in
    let few = few_parts (length cycles) in
    omega (arith, all, few)
