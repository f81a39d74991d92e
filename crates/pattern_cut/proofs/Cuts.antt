-- An orderlist that names the pieces of its patterns plays the same rows.
use Rattle.std.specs.List.{flat_map}
use Rattle.std.proofs.Common.{◌≡◌, ℕ, ℤ, zero, suc, pos, ◌+◌, ◌<◌, ◌≤◌}
use Rattle.std.proofs.Common.{List, [], ◌∷◌, ◌++◌, map, length, take, drop, replicate, All, inl, inr, refl, sym, ap, ◌∙◌}
use Rattle.std.proofs.Common.{subst, arith}
use Rattle.std.proofs.lemmas.Bool.{cases_lt}
use Rattle.std.proofs.Math.Seq.{drop-append_seam}
use Rattle.std.proofs.lemmas.Grind.{flat_map-append}
use Rattle.std.proofs.lemmas.List.{map-append, append-nil, take-append-drop}
use Rattle.std.proofs.lemmas.List.Elements.{All-head, All-tail, All-drop}
use Rattle.song_model.specs.declared.rows.Row.{Row}
use Rattle.song_model.specs.declared.orders.Order.{Order}
use Rattle.song_model.specs.declared.orders.Step.{Step}
use Rattle.song_model.specs.Endless.{IsPatternByte}
use Rattle.song_model.specs.Walk.{transpose_after, repeat_after, walk_plays, end_transpose, end_repeat}
use Rattle.song_model.specs.Walk.{prefix_of, cycle_of}
use Rattle.play_model.specs.LookUps.{LookUps}
use Rattle.same_frames.proofs.Laws.{is_low, is_lower, is_high}
use Rattle.same_frames.specs.RowLists.{PlayedRow, rows_of_step, rows_of_steps}
use Rattle.pattern_cut.specs.Cuts.{ArePieces, in_pieces, cut_order, RepeatsWhole, CutOrdersHaveSameRowLists}

abbrev play : ℤ → ℕ → Step
play t n = record { pattern = n; transpose = t }

transpose_kept : (n : ℕ) (t : ℤ) → IsPatternByte n → transpose_after n t ≡ t
transpose_kept n t h = rw (is_lower n h) refl

repeat_used : (n r : ℕ) → IsPatternByte n → repeat_after n r ≡ 0
repeat_used n r h = rw (is_low n h) refl

-- ---- walks along patterns

-- a pattern is played once where no repeat stands
pattern_walk : (n : ℕ) (bytes : List ℕ) (t : ℤ) (r : ℕ) → IsPatternByte n →
    walk_plays (n ∷ bytes) t r ≡ replicate (r + 1) (play t n) ++ walk_plays bytes t 0
pattern_walk n bytes t r h = rw (is_low n h) (rw (is_lower n h) refl)

pieces_walk : (pieces bytes : List ℕ) (t : ℤ) → All IsPatternByte pieces →
    walk_plays (pieces ++ bytes) t 0 ≡ map (play t) pieces ++ walk_plays bytes t 0
pieces_walk [] bytes t all = refl
pieces_walk (n ∷ pieces) bytes t all =
    pattern_walk n (pieces ++ bytes) t 0 (All-head IsPatternByte n pieces all)
    ∙ ap (λ (steps : List Step). play t n ∷ steps) (pieces_walk pieces bytes t (All-tail IsPatternByte n pieces all))

pieces_transpose : (pieces bytes : List ℕ) (t : ℤ) → All IsPatternByte pieces →
    end_transpose (pieces ++ bytes) t ≡ end_transpose bytes t
pieces_transpose [] bytes t all = refl
pieces_transpose (n ∷ pieces) bytes t all =
    ap (end_transpose (pieces ++ bytes)) (transpose_kept n t (All-head IsPatternByte n pieces all))
    ∙ pieces_transpose pieces bytes t (All-tail IsPatternByte n pieces all)

pieces_repeat : (pieces bytes : List ℕ) (r : ℕ) → 0 < length pieces → All IsPatternByte pieces →
    end_repeat (pieces ++ bytes) r ≡ end_repeat bytes 0
pieces_repeat [] bytes r some all = absurd (omega arith)
pieces_repeat (n ∷ []) bytes r some all = ap (end_repeat bytes) (repeat_used n r (All-head IsPatternByte n [] all))
pieces_repeat (n ∷ m ∷ pieces) bytes r some all =
    ap (end_repeat (m ∷ pieces ++ bytes)) (repeat_used n r (All-head IsPatternByte n (m ∷ pieces) all))
    ∙ pieces_repeat (m ∷ pieces) bytes 0 (omega arith) (All-tail IsPatternByte n (m ∷ pieces) all)

-- ---- rows of pieces

module _ (look other : LookUps) where
  -- a row with this transpose
  abbrev with : ℤ → Row → PlayedRow
  with t r = record { row = r; transpose = t }

  pieces_rows : (pieces : List ℕ) (t : ℤ) →
      rows_of_steps other (map (play t) pieces) ≡ map (with t) (flat_map other.rows pieces)
  pieces_rows [] t = refl
  pieces_rows (n ∷ pieces) t =
      ap (λ (rs : List PlayedRow). map (with t) (other.rows n) ++ rs) (pieces_rows pieces t)
      ∙ sym (map-append (with t) (other.rows n) (flat_map other.rows pieces))

  repeated : (n m k : ℕ) (t : ℤ) → other.rows m ≡ look.rows n →
      rows_of_steps other (replicate k (play t m)) ≡ rows_of_steps look (replicate k (play t n))
  repeated n m zero t e = refl
  repeated n m (suc k) t e =
      ap (λ (rs : List PlayedRow). rs ++ rows_of_steps other (replicate k (play t m))) (ap (map (with t)) e)
      ∙ ap (λ (rs : List PlayedRow). map (with t) (look.rows n) ++ rs) (repeated n m k t e)

-- ---- walks along the whole orderlist

module _ (look other : LookUps) (pieces : ℕ → List ℕ) where
  abbrev cut : List ℕ → List ℕ
  cut bytes = flat_map (in_pieces pieces) bytes

  abbrev Holds : ℕ → Type 0
  Holds byte = IsPatternByte byte → ArePieces look other byte (pieces byte)

  -- where a byte stands alone
  alone : (byte : ℕ) → 0xD0 ≤ byte → in_pieces pieces byte ≡ byte ∷ []
  alone byte h = rw (is_high byte h) refl

  several : (byte : ℕ) → IsPatternByte byte → in_pieces pieces byte ≡ pieces byte
  several byte h = rw (is_low byte h) refl

  same_transpose : (bytes : List ℕ) (t : ℤ) → All Holds bytes → end_transpose (cut bytes) t ≡ end_transpose bytes t
  same_transpose [] t all = refl
  same_transpose (byte ∷ bytes) t all =
      elim (cases_lt byte 0xD0) [
        | inl low ↦
            let h = All-head Holds byte bytes all low in
            ap (λ (xs : List ℕ). end_transpose (xs ++ cut bytes) t) (several byte low)
            ∙ pieces_transpose (pieces byte) (cut bytes) t h.numbers
            ∙ same_transpose bytes t (All-tail Holds byte bytes all)
            ∙ ap (end_transpose bytes) (sym (transpose_kept byte t low))
        | inr high ↦
            ap (λ (xs : List ℕ). end_transpose (xs ++ cut bytes) t) (alone byte high)
            ∙ same_transpose bytes (transpose_after byte t) (All-tail Holds byte bytes all)
      ]

  same_repeat : (bytes : List ℕ) (r : ℕ) → All Holds bytes → end_repeat (cut bytes) r ≡ end_repeat bytes r
  same_repeat [] r all = refl
  same_repeat (byte ∷ bytes) r all =
      elim (cases_lt byte 0xD0) [
        | inl low ↦
            let h = All-head Holds byte bytes all low in
            ap (λ (xs : List ℕ). end_repeat (xs ++ cut bytes) r) (several byte low)
            ∙ pieces_repeat (pieces byte) (cut bytes) r h.some h.numbers
            ∙ same_repeat bytes 0 (All-tail Holds byte bytes all)
            ∙ ap (end_repeat bytes) (sym (repeat_used byte r low))
        | inr high ↦
            ap (λ (xs : List ℕ). end_repeat (xs ++ cut bytes) r) (alone byte high)
            ∙ same_repeat bytes (repeat_after byte r) (All-tail Holds byte bytes all)
      ]

  -- the rows of several steps
  rows_before : (steps more : List Step) → rows_of_steps other (steps ++ more)
      ≡ rows_of_steps other steps ++ rows_of_steps other more
  rows_before steps more = flat_map-append (rows_of_step other) steps more

  -- a pattern that isn't repeated, in any number of pieces
  once : (n : ℕ) (xs : List ℕ) (t : ℤ) → ArePieces look other n (pieces n) →
      rows_of_steps other (walk_plays (pieces n ++ xs) t 0)
      ≡ rows_of_step look (play t n) ++ rows_of_steps other (walk_plays xs t 0)
  once n xs t h =
      ap (rows_of_steps other) (pieces_walk (pieces n) xs t h.numbers)
      ∙ rows_before (map (play t) (pieces n)) (walk_plays xs t 0)
      ∙ ap (λ (rs : List PlayedRow). rs ++ rows_of_steps other (walk_plays xs t 0))
      (pieces_rows look other (pieces n) t ∙ ap (map (λ (r : Row). record { row = r; transpose = t })) h.rows)

  -- one that may be repeated, in one piece
  often : (n : ℕ) (ps xs : List ℕ) (t : ℤ) (r : ℕ) → ArePieces look other n ps → length ps ≡ 1 →
      rows_of_steps other (walk_plays (ps ++ xs) t r)
      ≡ rows_of_steps look (replicate (r + 1) (play t n)) ++ rows_of_steps other (walk_plays xs t 0)
  often n [] xs t r h one = absurd (omega arith)
  often n (p ∷ []) xs t r h one =
      ap (rows_of_steps other) (pattern_walk p xs t r (All-head IsPatternByte p [] h.numbers))
      ∙ rows_before (replicate (r + 1) (play t p)) (walk_plays xs t 0)
      ∙ ap (λ (rs : List PlayedRow). rs ++ rows_of_steps other (walk_plays xs t 0))
      (repeated look other n p (r + 1) t (sym (append-nil (other.rows p)) ∙ h.rows))
  often n (p ∷ q ∷ ps) xs t r h one = absurd (omega arith)

  high_walk : (byte : ℕ) (xs : List ℕ) (t : ℤ) (r : ℕ) → 0xD0 ≤ byte →
      walk_plays (byte ∷ xs) t r ≡ walk_plays xs (transpose_after byte t) (repeat_after byte r)
  high_walk byte xs t r h = rw (is_high byte h) refl

  -- the rows of a walk that begins at a pattern
  low_rows : (n : ℕ) (bytes : List ℕ) (t : ℤ) (r : ℕ) → IsPatternByte n →
      rows_of_steps look (walk_plays (n ∷ bytes) t r)
      ≡ rows_of_steps look (replicate (r + 1) (play t n)) ++ rows_of_steps look (walk_plays bytes t 0)
  low_rows n bytes t r h =
      ap (rows_of_steps look) (pattern_walk n bytes t r h)
      ∙ flat_map-append (rows_of_step look) (replicate (r + 1) (play t n)) (walk_plays bytes t 0)

  low_same : (n : ℕ) (bytes : List ℕ) (t : ℤ) (r : ℕ) → IsPatternByte n → ArePieces look other n (pieces n) →
      (0 < r → length (pieces n) ≡ 1) →
      rows_of_steps other (walk_plays (pieces n ++ cut bytes) t r)
      ≡ rows_of_steps look (replicate (r + 1) (play t n)) ++ rows_of_steps other (walk_plays (cut bytes) t 0)
  low_same n bytes t zero low h one =
      once n (cut bytes) t h
      ∙ ap (λ (rs : List PlayedRow). rs ++ rows_of_steps other (walk_plays (cut bytes) t 0))
      (sym (append-nil (rows_of_step look (play t n))))
  low_same n bytes t (suc r) low h one = often n (pieces n) (cut bytes) t (suc r) h (one (omega arith))

  walk_same : (bytes : List ℕ) (t : ℤ) (r : ℕ) → All Holds bytes → RepeatsWhole pieces bytes r →
      rows_of_steps other (walk_plays (cut bytes) t r) ≡ rows_of_steps look (walk_plays bytes t r)
  walk_same [] t r all whole = refl
  walk_same (byte ∷ bytes) t r all whole =
      elim (cases_lt byte 0xD0) [
        | inl low ↦
            let h = All-head Holds byte bytes all low in
            let rest = walk_same bytes t 0 (All-tail Holds byte bytes all)
            (subst (RepeatsWhole pieces bytes) (repeat_used byte r low) whole.1) in
            ap (λ (xs : List ℕ). rows_of_steps other (walk_plays (xs ++ cut bytes) t r)) (several byte low)
            ∙ low_same byte bytes t r low h (whole.0 low)
            ∙ ap (λ (rs : List PlayedRow). rows_of_steps look (replicate (r + 1) (play t byte)) ++ rs) rest
            ∙ sym (low_rows byte bytes t r low)
        | inr high ↦
            ap (λ (xs : List ℕ). rows_of_steps other (walk_plays (xs ++ cut bytes) t r)) (alone byte high)
            ∙ ap (rows_of_steps other) (high_walk byte (cut bytes) t r high)
            ∙ walk_same bytes (transpose_after byte t) (repeat_after byte r) (All-tail Holds byte bytes all) whole.1
            ∙ sym (ap (rows_of_steps look) (high_walk byte bytes t r high))
      ]

  -- what stands from the restart position on
  pub restarted : (order : Order) →
      drop (cut_order pieces order).restart (cut_order pieces order).entries ≡ cut (drop order.restart order.entries)
  restarted order =
      let first = take order.restart order.entries in
      let rest = drop order.restart order.entries in
      ap (λ (xs : List ℕ). drop (length (cut first)) (cut xs)) (sym (take-append-drop order.restart order.entries))
      ∙ ap (drop (length (cut first))) (flat_map-append (in_pieces pieces) first rest)
      ∙ drop-append_seam (cut first) (cut rest)

pub cut_orders_lem : CutOrdersHaveSameRowLists
unfolding prefix_of cycle_of
cut_orders_lem look other pieces order h = record {
  prefix = walk_same look other pieces order.entries (pos 0) 0 h.pieces_of h.prefix;
  cycle =
      let bytes = cut look other pieces order.entries in
      ap (λ (xs : List ℕ). rows_of_steps other (walk_plays xs (end_transpose bytes (pos 0)) (end_repeat bytes 0)))
      (restarted look other pieces order)
      ∙ ap (λ (t : ℤ). rows_of_steps other
      (walk_plays (cut look other pieces (drop order.restart order.entries)) t (end_repeat bytes 0)))
      (same_transpose look other pieces order.entries (pos 0) h.pieces_of)
      ∙ ap (λ (r : ℕ). rows_of_steps other
      (walk_plays (cut look other pieces (drop order.restart order.entries)) (end_transpose order.entries (pos 0)) r))
      (same_repeat look other pieces order.entries 0 h.pieces_of)
      ∙ walk_same look other pieces (drop order.restart order.entries) (end_transpose order.entries (pos 0))
      (end_repeat order.entries 0) (All-drop (Holds look other pieces) order.restart order.entries h.pieces_of) h.cycle;
}
