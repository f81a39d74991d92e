-- Lists of things that are drawn one after the other.
use Rattle.std.proofs.Common.{◌≡◌, ℕ, zero, suc, ◌+◌, ◌*◌, ◌≤◌, List, [], ◌∷◌, ◌++◌}
use Rattle.std.proofs.Common.{length, map, sym, ap, ◌∙◌, subst, arith, add-one}
use Rattle.std.specs.List.{range_with_len}
use Rattle.std.proofs.Math.Nat.{mul-suc}
use Rattle.std.proofs.lemmas.List.{append_assoc, length-map}
use Rattle.std.proofs.lemmas.List.FromFn.{map-range_with_len_more, length-range_with_len}
use Rattle.song_gen.specs.Draws.{next, after}
use Rattle.song_gen.specs.GeneratedSong.{behind_row, behind_rows}

-- ---- what stands behind many draws

pub after_after : (y n m : ℕ) → after (after y n) m ≡ after y (n + m)
unfolding after
after_after y n zero = let e : n + 0 ≡ n = omega arith in ap (after y) (sym e)
after_after y n (suc m) =
    let e : suc (n + m) ≡ n + suc m = omega arith in
    ap next (after_after y n m) ∙ ap (after y) e

pub behind_rows_behind : (y n m : ℕ) → behind_rows (behind_rows y n) m ≡ behind_rows y (n + m)
unfolding behind_rows
behind_rows_behind y n zero = let e : n + 0 ≡ n = omega arith in ap (behind_rows y) (sym e)
behind_rows_behind y n (suc m) =
    let e : suc (n + m) ≡ n + suc m = omega arith in
    ap behind_row (behind_rows_behind y n m) ∙ ap (behind_rows y) e

-- so many more behind a number of times as many
pub draws_more : (y each n now later : ℕ) → now ≡ after y (each * n) → later ≡ after now each →
    later ≡ after y (each * (n + 1))
draws_more y each n now later e is =
    let more : each * n + each ≡ each * (n + 1) = sym (mul-suc each n) ∙ ap (λ k. each * k) (sym (add-one n)) in
    is ∙ ap (λ z. after z each) e ∙ after_after y (each * n) each ∙ ap (after y) more

pub rows_more : (y each n now later : ℕ) → now ≡ behind_rows y (each * n) → later ≡ behind_rows now each →
    later ≡ behind_rows y (each * (n + 1))
rows_more y each n now later e is =
    let more : each * n + each ≡ each * (n + 1) = sym (mul-suc each n) ∙ ap (λ k. each * k) (sym (add-one n)) in
    is ∙ ap (λ z. behind_rows z each) e ∙ behind_rows_behind y (each * n) each ∙ ap (behind_rows y) more

-- ---- a loop that draws

-- behind these items stand n that were drawn, the first of them item a; and this is the number then
pub record HaveBeenDrawn {X : Type 0} (front : List X) (item : ℕ → X) (number : ℕ → ℕ) (a n : ℕ) (items : List X)
    (now : ℕ) : Type 0 where
  pub items_are : items ≡ front ++ map item (range_with_len a n)
  pub number_is : now ≡ number n

pub one_more : {X : Type 0} {front : List X} {item : ℕ → X} {number : ℕ → ℕ} {a n : ℕ} {items more : List X}
    {now later : ℕ} {new : X} → HaveBeenDrawn front item number a n items now → (j : ℕ) → a + n ≡ j →
    more ≡ items ++ new ∷ [] → new ≡ item j → later ≡ number (n + 1) → HaveBeenDrawn front item number a (n + 1) more later
one_more {X} {front} {item} {number} {a} {n} {items} {more} {now} {later} {new} drawn j place pushed is moved = record {
  items_are = pushed ∙ ap (λ (xs : List X). xs ++ new ∷ []) drawn.items_are
      ∙ append_assoc front (map item (range_with_len a n)) (new ∷ [])
      ∙ ap (λ (x : X). front ++ (map item (range_with_len a n) ++ x ∷ [])) is
      ∙ ap (λ (xs : List X). front ++ xs) (sym (map-range_with_len_more item a n j place));
  number_is = moved;
}

pub all_drawn : {X : Type 0} {front : List X} {item : ℕ → X} {number : ℕ → ℕ} {a n : ℕ} {items : List X} {now : ℕ} →
    HaveBeenDrawn front item number a n items now → (count : ℕ) → n ≤ count → count ≤ n →
    HaveBeenDrawn front item number a count items now
all_drawn {X} {front} {item} {number} {a} {n} {items} {now} drawn count most least =
    let e : n ≡ count = omega (arith, most, least) in
    subst (λ k. HaveBeenDrawn front item number a k items now) e drawn

pub drawn_count : {X : Type 0} {item : ℕ → X} {number : ℕ → ℕ} {a n : ℕ} {items : List X} {now : ℕ} →
    HaveBeenDrawn [] item number a n items now → length items ≡ n
drawn_count {X} {item} {number} {a} {n} drawn =
    ap length drawn.items_are ∙ length-map (range_with_len a n) item ∙ length-range_with_len a n
