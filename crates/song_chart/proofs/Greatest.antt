-- The greatest of a list, and the mean.
use Rattle.std.proofs.Common.{◌≡◌, ℕ, suc, ◌+◌, ◌*◌, ◌≤◌, max, List, [], ◌∷◌, length, take, drop, All, sum}
use Rattle.std.proofs.Common.{arith}
use Rattle.std.specs.List.{fold}
use Rattle.std.proofs.lemmas.Nat.{div_below}
use Rattle.std.proofs.lemmas.List.Elements.{All-nil, All-cons, All-head, All-tail, All-take, All-drop}
use Rattle.std.proofs.lemmas.List.Sums.{sum_by-le}
use Rattle.std.proofs.Math.Nat.{div-zero}
use Rattle.song_chart.specs.Columns.{greatest, mean, cycles_shown}
use Rattle.song_chart.specs.declared.columns.Shown.{Shown}
use Rattle.song_chart.specs.declared.columns.Shown.TheVariants.{Greatest, Mean}

from_start : (start : ℕ) (calls : List ℕ) → fold max start calls ≡ max start (greatest calls)
from_start start [] = omega arith
from_start start (call ∷ calls) =
    let one = from_start (max start call) calls in
    let two = from_start (max 0 call) calls in
    omega (arith, one, two)

pub first_more : (call : ℕ) (calls : List ℕ) → greatest (call ∷ calls) ≡ max call (greatest calls)
first_more call calls = let more = from_start (max 0 call) calls in omega (arith, more)

-- no call takes more, where none takes more than that
pub none_more : (most : ℕ) (calls : List ℕ) → greatest calls ≤ most → All (λ call. call ≤ most) calls
none_more most [] high = All-nil (λ call. call ≤ most)
none_more most (call ∷ calls) high =
    let first = first_more call calls in
    All-cons (λ call. call ≤ most) call calls (omega (arith, first, high))
    (none_more most calls (omega (arith, first, high)))

pub most_of : (most : ℕ) (calls : List ℕ) → All (λ call. call ≤ most) calls → greatest calls ≤ most
most_of most [] all = omega arith
most_of most (call ∷ calls) all =
    let first = first_more call calls in
    let head = All-head (λ call. call ≤ most) call calls all in
    let tail = most_of most calls (All-tail (λ call. call ≤ most) call calls all) in
    omega (arith, first, head, tail)

pub all_low : (calls : List ℕ) → All (λ call. call ≤ greatest calls) calls
all_low calls = none_more (greatest calls) calls (omega arith)

-- the greatest of some in a row is no greater
pub part_low : (from count : ℕ) (calls : List ℕ) → greatest (take count (drop from calls)) ≤ greatest calls
part_low from count calls =
    most_of (greatest calls) (take count (drop from calls))
    (All-take (λ call. call ≤ greatest calls) count (drop from calls)
    (All-drop (λ call. call ≤ greatest calls) from calls (all_low calls)))

-- nor is a mean
pub mean_low : (calls : List ℕ) → mean calls ≤ greatest calls
mean_low [] = omega (arith, div-zero 0)
mean_low (call ∷ calls) =
    let most = greatest (call ∷ calls) in
    let all : sum (call ∷ calls) ≤ suc (length calls) * most =
    sum_by-le (λ call. call) most (call ∷ calls) (all_low (call ∷ calls)) in
    let below = div_below (sum (call ∷ calls)) (suc (length calls)) (most + 1) (omega arith) (omega (arith, all)) in
    omega (arith, below)

pub shown_low : (shown : Shown) (calls : List ℕ) → cycles_shown shown calls ≤ greatest calls
shown_low Greatest calls = omega arith
shown_low Mean calls = mean_low calls
