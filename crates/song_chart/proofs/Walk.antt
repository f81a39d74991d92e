-- A walk over the calls, column by column.
use Rattle.std.proofs.Common.{◌≡◌, ℕ, zero, suc, ◌+◌, ◌*◌, ◌<◌, ◌≤◌, min, List, [], ◌∷◌, ◌++◌, length, take, drop}
use Rattle.std.proofs.Common.{refl, sym, ap, ◌∙◌, arith}
use Rattle.std.specs.Int.{div_ceil}
use Rattle.std.proofs.lemmas.List.{length-drop, length-append, drop-drop}
use Rattle.song_chart.specs.Columns.{column}
use Rattle.song_chart.proofs.Quotients.{as_many}

-- what comes off the front is the first ones, and what is left the others
off_front : (per : ℕ) (first left : List ℕ) → length first ≡ min per (length (first ++ left)) →
    (first ≡ take per (first ++ left)) × (left ≡ drop per (first ++ left))
off_front zero [] left long = (refl, refl)
off_front zero (x ∷ first) left long = absurd (omega (arith, long))
off_front (suc per) [] [] long = (refl, refl)
off_front (suc per) [] (x ∷ left) long = absurd (omega (arith, long))
off_front (suc per) (x ∷ first) left long =
    let more : length first ≡ min per (length (first ++ left)) = omega (arith, long) in
    let rest = off_front per first left more in
    (ap (λ xs. x ∷ xs) rest.0, rest.1)

-- the columns before a place are gone, and there were calls in each of them
pub record IsAt (per place : ℕ) (cycles rest : List ℕ) : Type 0 where
  pub left : rest ≡ drop (place * per) cycles
  pub few : place + length rest ≤ length cycles
  pub inside : place * per < length cycles + per

pub at_first : (per : ℕ) (cycles rest : List ℕ) → 0 < per → rest ≡ cycles → IsAt per 0 cycles rest
at_first per cycles rest some all = record {
  left = let none : 0 ≡ 0 * per = omega arith in all ∙ ap (λ n. drop n cycles) none;
  few = let long = ap length all in omega (arith, long);
  inside = omega arith;
}

-- one column more
pub record GoesOn (per place : ℕ) (cycles first left : List ℕ) : Type 0 where
  pub column_is : first ≡ column per cycles place
  pub is_at : IsAt per (place + 1) cycles left

pub one_more : (per place : ℕ) (cycles rest first left : List ℕ) → 0 < per → IsAt per place cycles rest →
    rest ≡ first ++ left → length first ≡ min per (length rest) → 0 < length rest →
    GoesOn per place cycles first left
one_more per place cycles rest first left some at split long none =
    let off = off_front per first left (long ∙ ap (λ xs. min per (length xs)) split) in
    let next : place * per + per ≡ (place + 1) * per = omega arith in
    let lengths = ap length split in
    let both = length-append first left in
    let there = ap length at.left in
    let dropped = length-drop (place * per) cycles in
    record {
      column_is = off.0 ∙ ap (take per) (sym split ∙ at.left);
      is_at = record {
        left = off.1 ∙ ap (drop per) (sym split ∙ at.left) ∙ drop-drop per (place * per) cycles
            ∙ ap (λ n. drop n cycles) next;
        few = let few = at.few in omega (arith, few, lengths, both, long, some, none);
        inside = omega (arith, there, dropped, none, next);
      };
    }

-- at the end there were as many columns as the calls take
pub at_end : (per place : ℕ) (cycles rest : List ℕ) → 0 < per → IsAt per place cycles rest → length rest ≡ 0 →
    place ≡ div_ceil (length cycles) per
at_end per place cycles rest some at none =
    let there = ap length at.left in
    let dropped = length-drop (place * per) cycles in
    as_many (length cycles) per place some (omega (arith, there, dropped, none)) at.inside
