-- The steps of the reader's loops.
use Rattle.std.proofs.Common.{◌≡◌, ◌≢◌, ℕ, suc, ◌+◌, ◌-◌, ◌<◌, true, false, List, []}
use Rattle.std.proofs.Common.{◌∷◌, ◌++◌, length, drop, Result, Ok, Err, refl, sym, ap, ◌∙◌}
use Rattle.std.proofs.Common.{append_assoc, arith}
use Rattle.std.proofs.lemmas.List.{append-nil, length_push}
use Rattle.song_model.specs.declared.rows.Row.{Row}
use Rattle.gts5.specs.declared.faults.SongFault.{SongFault}
use Rattle.gts5.specs.declared.faults.SongFault.TheVariants.{NoMemory}
use Rattle.gts5.specs.Faults.{◌>>=◌, row_of}
use Rattle.gts5.specs.Reading.{each_at, rows_of, cut_at, ends_at}

-- ---- n pieces

-- what reading gives after what was read
abbrev pub with_front : {X Y : Type 0} → List X → Result (List X × Y) SongFault → Result (List X × Y) SongFault
with_front front read = read >>= λ x. Ok (front ++ x.0, x.1)

regroup : {X : Type 0} (front : List X) (x : X) (r : Result (List X × List ℕ) SongFault) →
    with_front front (r >>= λ others. Ok (x ∷ others.0, others.1)) ≡ with_front (front ++ x ∷ []) r
regroup front x (Ok others) = ap (λ items. Ok (items, others.1)) (sym (append_assoc front (x ∷ []) others.0))
regroup front x (Err fault) = refl

-- of count pieces from bytes on, i are read: these items, and what is left goes on from rest
pub record HasRead {X : Type 0} (one : List ℕ → Result (X × List ℕ) SongFault) (count : ℕ) (bytes : List ℕ) (i : ℕ)
    (items : List X) (rest : List ℕ) : Type 0 where
  pub number : length items ≡ i
  pub reading : with_front items (each_at one (count - i) rest) ≡ each_at one count bytes

-- one more is read
pub one_more : {X : Type 0} (one : List ℕ → Result (X × List ℕ) SongFault) (count : ℕ) (bytes : List ℕ) (i : ℕ)
    (items more : List X) (rest after : List ℕ) (x : X) → i < count → more ≡ items ++ x ∷ [] →
    one rest ≡ Ok (x, after) → HasRead one count bytes i items rest → HasRead one count bytes (i + 1) more after
one_more one count bytes i items more rest after x lt is_more is_one read =
    let k : count - i ≡ suc (count - (i + 1)) = omega arith in
    let step : with_front items (each_at one (count - i) rest)
    ≡ with_front (items ++ x ∷ []) (each_at one (count - (i + 1)) after) =
    rw (k, is_one) (regroup items x (each_at one (count - (i + 1)) after)) in
    record {
      number = ap length is_more ∙ length_push items x ∙ ap (λ n. n + 1) read.number;
      reading = rw is_more (sym step ∙ read.reading);
    }

-- the next one is none, for a fault that is answered
pub next_faults : {X : Type 0} (one : List ℕ → Result (X × List ℕ) SongFault) (count : ℕ) (bytes : List ℕ) (i : ℕ)
    (items : List X) (rest : List ℕ) (fault answered : SongFault) → i < count → answered ≡ fault →
    (fault ≢ NoMemory → one rest ≡ Err fault) → HasRead one count bytes i items rest → answered ≢ NoMemory →
    each_at one count bytes ≡ Err answered
next_faults one count bytes i items rest fault answered lt same is_fault read known =
    let k : count - i ≡ suc (count - (i + 1)) = omega arith in
    let none = is_fault (λ e. known (same ∙ e)) in
    let step : with_front items (each_at one (count - i) rest) ≡ Err fault = rw (k, none) refl in
    sym read.reading ∙ step ∙ ap Err (sym same)

-- ---- the rows of a pattern

abbrev pub with_rows : List Row → Result (List Row) SongFault → Result (List Row) SongFault
with_rows front read = read >>= λ rows. Ok (front ++ rows)

-- the next row, seen from the count
one_row : (count i : ℕ) (left : List ℕ) (row : Row) (after : List ℕ) → i < count → row ≡ row_of left →
    after ≡ drop 4 left → rows_of (count - i) left ≡ row ∷ rows_of (count - (i + 1)) after
one_row count i left row after lt is_row is_after =
    let k : count - i ≡ suc (count - (i + 1)) = omega arith in
    ap (λ n. rows_of n left) k ∙ ap (λ (r : Row). r ∷ rows_of (count - (i + 1)) (drop 4 left)) (sym is_row)
    ∙ ap (λ bytes. row ∷ rows_of (count - (i + 1)) bytes) (sym is_after)

regroup_rows : (front : List Row) (row : Row) (r : Result (List Row) SongFault) →
    with_rows front (r >>= λ others. Ok (row ∷ others)) ≡ with_rows (front ++ row ∷ []) r
regroup_rows front row (Ok others) = ap Ok (sym (append_assoc front (row ∷ []) others))
regroup_rows front row (Err fault) = refl

pub row_goes_on : (at : ℕ) (front : List Row) (count i : ℕ) (left : List ℕ) (row : Row) (after : List ℕ)
    (total : Result (List Row) SongFault) → i < count → row ≡ row_of left → after ≡ drop 4 left →
    ends_at at i row ≡ Ok false
    → with_rows front (cut_at at i (rows_of (count - i) left)) ≡ total →
    with_rows (front ++ row ∷ []) (cut_at at (i + 1) (rows_of (count - (i + 1)) after)) ≡ total
row_goes_on at front count i left row after total lt is_row is_after h so_far =
    let next : with_rows front (cut_at at i (row ∷ rows_of (count - (i + 1)) after))
    ≡ with_rows (front ++ row ∷ []) (cut_at at (i + 1) (rows_of (count - (i + 1)) after)) =
    rw h (regroup_rows front row (cut_at at (i + 1) (rows_of (count - (i + 1)) after))) in
    sym (ap (λ rows. with_rows front (cut_at at i rows)) (one_row count i left row after lt is_row is_after) ∙ next)
    ∙ so_far

pub row_ends : (at : ℕ) (front : List Row) (count i : ℕ) (left : List ℕ) (row : Row)
    (total : Result (List Row) SongFault) → i < count → row ≡ row_of left → ends_at at i row ≡ Ok true
    → with_rows front (cut_at at i (rows_of (count - i) left)) ≡ total → total ≡ Ok front
row_ends at front count i left row total lt is_row h so_far =
    let next : with_rows front (cut_at at i (row ∷ rows_of (count - (i + 1)) (drop 4 left))) ≡ Ok front =
    rw h (ap Ok (append-nil front)) in
    sym so_far ∙ ap (λ rows. with_rows front (cut_at at i rows)) (one_row count i left row (drop 4 left) lt is_row refl)
    ∙ next

pub row_faults : (at : ℕ) (front : List Row) (count i : ℕ) (left : List ℕ) (row : Row) (fault : SongFault)
    (total : Result (List Row) SongFault) → i < count → row ≡ row_of left → ends_at at i row ≡ Err fault
    → with_rows front (cut_at at i (rows_of (count - i) left)) ≡ total → total ≡ Err fault
row_faults at front count i left row fault total lt is_row h so_far =
    let next : with_rows front (cut_at at i (row ∷ rows_of (count - (i + 1)) (drop 4 left))) ≡ Err fault = rw h refl in
    sym so_far ∙ ap (λ rows. with_rows front (cut_at at i rows)) (one_row count i left row (drop 4 left) lt is_row refl)
    ∙ next
