-- Orderlists whose plays have the same rows, as lists, play the same rows for ever.
use Rattle.std.specs.Prelude.{◌==◌}
use Rattle.std.proofs.Common.{◌≡◌, ◌≢◌, ◌⊎◌, ℕ, zero, suc, ◌+◌, ◌-◌, ◌%◌, ◌<◌, ◌≤◌, true, false, ltb}
use Rattle.std.proofs.Common.{List, [], ◌∷◌, ◌++◌, length, get_or, take, inl, inr, refl, sym, ap, ◌∙◌, arith}
use Rattle.std.proofs.lemmas.Bool.{cases_lt, cond_both, eqb-true, eqb-false}
use Rattle.std.proofs.lemmas.Bool.Decides.{nat_tests}
use Rattle.std.proofs.Math.Nat.{mod-eq_of_lt, mod-eq-sub-mod}
use Rattle.std.proofs.Math.Seq.{take-length}
use Rattle.std.proofs.lemmas.Grind.{flat_map-append}
use Rattle.std.proofs.lemmas.List.{length-append, length-map, get_or-map, get_or_append_left, get_or-append_right}
use Rattle.std.proofs.lemmas.List.{take_more}
use Rattle.std.proofs.lemmas.List.Concat.{get_or-flat_map}
use Rattle.std.proofs.lemmas.List.Folds.{length-flat_map-take}
use Rattle.song_model.specs.declared.rows.Row.{Row}
use Rattle.song_model.specs.declared.orders.Order.{Order}
use Rattle.song_model.specs.declared.orders.Step.{Step}
use Rattle.song_model.specs.LookUp.{zero_row}
use Rattle.song_model.specs.Endless.{IsEndless}
use Rattle.song_model.specs.Walk.{prefix_of, cycle_of, no_step, played}
use Rattle.song_model.proofs.Laws.{endless_cycle}
use Rattle.play_model.specs.LookUps.{LookUps}
use Rattle.same_frames.specs.Begins.{rows_of_play}
use Rattle.same_frames.specs.SameRows.{Place, rows_there, row_there, next_place, place_of_row, HasPatternLengths}
use Rattle.same_frames.specs.RowLists.{PlayedRow, rows_of_step, rows_of_steps, HasSameRowLists, RowListsPlaySameRows}

-- ---- the rows of the first plays

some_steps : (look : LookUps) (steps : List Step) → 0 < length (rows_of_steps look steps) → 0 < length steps
some_steps look [] h = h
some_steps look (step ∷ steps) h = omega arith

module _ (look : LookUps) (order : Order) (steps : List Step)
    (begins : (i : ℕ) → i < length steps → played order i ≡ get_or steps i no_step)
    (lengths : HasPatternLengths look order) where
  -- how many rows there are before a play
  abbrev before : ℕ → ℕ
  before i = length (rows_of_steps look (take i steps))

  record StandsAt (n : ℕ) (p : Place) : Type 0 where
    inside : p.plays < length steps
    row : p.row < length (rows_there look order p)
    count : before p.plays + p.row ≡ n

  step_length : (i : ℕ) → i < length steps →
      length (rows_of_step look (get_or steps i no_step)) ≡ length (rows_of_play look order i)
  step_length i h =
      length-map (look.rows (get_or steps i no_step).pattern) _
      ∙ ap (λ (s : Step). length (look.rows s.pattern)) (sym (begins i h))

  before_next : (i : ℕ) → i < length steps → before (i + 1) ≡ before i + length (rows_of_play look order i)
  before_next i h =
      let x = get_or steps i no_step in
      ap (λ (xs : List Step). length (rows_of_steps look xs)) (take_more steps i no_step h)
      ∙ ap (λ (rs : List PlayedRow). length rs) (flat_map-append (rows_of_step look) (take i steps) (x ∷ []))
      ∙ length-append (rows_of_steps look (take i steps)) (rows_of_step look x ++ [])
      ∙ ap (λ (n : ℕ). before i + n) (length-append (rows_of_step look x) [])
      ∙ sum (before i) (length (rows_of_step look x)) (length (rows_of_play look order i)) (step_length i h)
    where
      sum : (a b c : ℕ) → b ≡ c → a + (b + 0) ≡ a + c
      sum a b c e = omega arith

  before_all : (i : ℕ) → i ≡ length steps → before i ≡ length (rows_of_steps look steps)
  before_all i e =
      ap before e ∙ ap (λ (xs : List Step). length (rows_of_steps look xs)) (take-length steps)

  next_stands : (n : ℕ) (p : Place) → StandsAt n p → suc n < length (rows_of_steps look steps) →
      StandsAt (suc n) (next_place look order p)
  next_stands n p s more =
      cond_both (p.row + 1 == length (rows_there look order p)) _ _ (StandsAt (suc n))
      (λ z. behind (eqb-true (p.row + 1) (length (rows_there look order p)) z) (cases_lt (p.plays + 1) (length steps)))
      (λ z. within (eqb-false (p.row + 1) (length (rows_there look order p)) z))
    where
      counted : p.row + 1 ≡ length (rows_there look order p) → before (p.plays + 1) ≡ suc n
      counted e =
          let next = before_next p.plays s.inside in
          let count = s.count in
          omega arith

      behind : p.row + 1 ≡ length (rows_there look order p) →
          (p.plays + 1 < length steps) ⊎ (length steps ≤ p.plays + 1) →
          StandsAt (suc n) (record { plays = p.plays + 1; row = 0 })
      behind e (inl lt) = record {
        inside = lt;
        row = (let least = (lengths (p.plays + 1)).least in omega arith);
        count = (let count = counted e in omega arith);
      }
      behind e (inr ge) =
          let inside = s.inside in
          let all = before_all (p.plays + 1) (omega arith) in
          let count = counted e in
          absurd (omega arith)

      within : p.row + 1 ≢ length (rows_there look order p) →
          StandsAt (suc n) (record { plays = p.plays; row = p.row + 1 })
      within e = record {
        inside = s.inside;
        row = (let row = s.row in omega arith);
        count = (let count = s.count in omega arith);
      }

  stands : (n : ℕ) → n < length (rows_of_steps look steps) → StandsAt n (place_of_row look order n)
  stands zero h = record {
    inside = some_steps look steps h;
    row = (let least = (lengths 0).least in omega arith);
    count = refl;
  }
  stands (suc n) h = next_stands n (place_of_row look order n) (stands n (omega arith)) h

  -- row n of all
  row_is : (n : ℕ) (d : PlayedRow) → n < length (rows_of_steps look steps) →
      get_or (rows_of_steps look steps) n d
      ≡ record {
        row = row_there look order (place_of_row look order n);
        transpose = (played order (place_of_row look order n).plays).transpose;
      }
  row_is n d h =
      let p = place_of_row look order n in
      let s = stands n h in
      let step = get_or steps p.plays no_step in
      let here : p.row < length (rows_of_step look step) =
      at_step (length (rows_of_step look step)) (length (rows_there look order p)) (step_length p.plays s.inside) s.row in
      ap (λ (k : ℕ). get_or (rows_of_steps look steps) k d) (sym s.count)
      ∙ get_or-flat_map (rows_of_step look) steps p.plays p.row no_step d s.inside here
      ∙ ap (λ (x : Step). get_or (rows_of_step look x) p.row d) (sym (begins p.plays s.inside))
      ∙ get_or-map _ (rows_there look order p) p.row zero_row d s.row
    where
      at_step : (a b : ℕ) → a ≡ b → {r : ℕ} → r < b → r < a
      at_step a b e h = omega arith

-- ---- the rounds of an orderlist

copies : {X : Type 0} → ℕ → List X → List X
copies zero xs = []
copies (suc m) xs = xs ++ copies m xs

copied : {X : Type 0} (m : ℕ) (xs : List X) (j : ℕ) (d : X) → j < length (copies m xs) →
    get_or (copies m xs) j d ≡ get_or xs (j % length xs) d
unfolding copies
copied zero xs j d h = absurd (omega arith)
copied (suc m) xs j d h =
    elim (cases_lt j (length xs)) [
      | inl lt ↦
          get_or_append_left xs (copies m xs) d j lt
          ∙ ap (λ (k : ℕ). get_or xs k d) (sym (mod-eq_of_lt lt))
      | inr ge ↦
          get_or-append_right xs (copies m xs) (length xs) j d refl ge
          ∙ copied m xs (j - length xs) d
          (inside j (length xs) (length (copies m xs)) (length (xs ++ copies m xs)) (length-append xs (copies m xs)) h ge)
          ∙ ap (λ (k : ℕ). get_or xs k d) (sym (mod-eq-sub-mod ge))
    ]
  where
    inside : (j a b c : ℕ) → c ≡ a + b → j < c → a ≤ j → j - a < b
    inside j a b c e h ge = omega arith

many_copies : {X : Type 0} (m : ℕ) (xs : List X) → 0 < length xs → m ≤ length (copies m xs)
unfolding copies
many_copies zero xs some = omega arith
many_copies (suc m) xs some =
    let e = length-append xs (copies m xs) in
    let rest = many_copies m xs some in
    omega arith

rows_copied : (look : LookUps) (m : ℕ) (steps : List Step) →
    rows_of_steps look (copies m steps) ≡ copies m (rows_of_steps look steps)
unfolding copies
rows_copied look zero steps = refl
rows_copied look (suc m) steps =
    flat_map-append (rows_of_step look) steps (copies m steps)
    ∙ ap (λ (rs : List PlayedRow). rows_of_steps look steps ++ rs) (rows_copied look m steps)

-- the plays to the end, and so many rounds more
abbrev rounds : Order → ℕ → List Step
rounds order m = prefix_of order ++ copies m (cycle_of order)

rounds_played : (order : Order) (m i : ℕ) → i < length (rounds order m) →
    played order i ≡ get_or (rounds order m) i no_step
unfolding played
rounds_played order m i h =
    let prefix = prefix_of order in
    let cycle = cycle_of order in
    elim (cases_lt i (length prefix)) [
      | inl lt ↦
          let test : ltb i (length prefix) ≡ true = grind (arith, nat_tests) in
          rw test (sym (get_or_append_left prefix (copies m cycle) no_step i lt))
      | inr ge ↦
          let test : ltb i (length prefix) ≡ false = grind (arith, nat_tests) in
          rw test (sym
          (get_or-append_right prefix (copies m cycle) (length prefix) i no_step refl ge
          ∙ copied m cycle (i - length prefix) no_step
          (inside i (length prefix) (length (copies m cycle)) (length (rounds order m))
          (length-append prefix (copies m cycle)) h ge)))
    ]
  where
    inside : (j a b c : ℕ) → c ≡ a + b → j < c → a ≤ j → j - a < b
    inside j a b c e h ge = omega arith

first_of_round : (order : Order) → 0 < length (cycle_of order) →
    played order (length (prefix_of order)) ≡ get_or (cycle_of order) 0 no_step
unfolding copies
first_of_round order some =
    let prefix = prefix_of order in
    let round = cycle_of order ++ [] in
    let start = length prefix in
    rounds_played order 1 start (inside start (length (cycle_of order)) (length round) (length (prefix ++ round)) some
    (length-append (cycle_of order) []) (length-append prefix round))
    ∙ get_or-append_right prefix round start start no_step refl (omega arith)
    ∙ ap (λ (k : ℕ). get_or round k no_step) (none start)
    ∙ get_or_append_left (cycle_of order) [] no_step 0 some
  where
    inside : (a b c d : ℕ) → 0 < b → c ≡ b + 0 → d ≡ a + c → a < d
    inside a b c d some e f = omega arith

    none : (a : ℕ) → a - a ≡ 0
    none a = omega arith

-- a round has a row
round_some : (look : LookUps) (order : Order) → IsEndless order → HasPatternLengths look order →
    0 < length (rows_of_steps look (cycle_of order))
round_some look order endless lengths =
    let cycle = cycle_of order in
    let some = endless_cycle order endless in
    let first = get_or cycle 0 no_step in
    let long = length-flat_map-take (rows_of_step look) cycle 0 no_step some in
    let at : played order (length (prefix_of order)) ≡ first = first_of_round order some in
    let least = (lengths (length (prefix_of order))).least in
    let same = length-map (look.rows first.pattern) (λ (r : Row). record { row = r; transpose = first.transpose }) in
    let rows = ap (λ (s : Step). length (look.rows s.pattern)) at in
    enough _ _ _ _ _ least rows same long
  where
    enough : (a b c d e : ℕ) → 1 ≤ a → a ≡ b → c ≡ b → d + c ≤ e → 0 < e
    enough a b c d e least rows same long = omega arith

rounds_long : (look : LookUps) (order : Order) (m : ℕ) → IsEndless order → HasPatternLengths look order →
    m ≤ length (rows_of_steps look (rounds order m))
rounds_long look order m endless lengths =
    let rows = rows_of_steps look (cycle_of order) in
    let all = ap (λ (rs : List PlayedRow). length rs)
    (flat_map-append (rows_of_step look) (prefix_of order) (copies m (cycle_of order))
    ∙ ap (λ (rs : List PlayedRow). rows_of_steps look (prefix_of order) ++ rs) (rows_copied look m (cycle_of order))) in
    let sum = length-append (rows_of_steps look (prefix_of order)) (copies m rows) in
    let long = many_copies m rows (round_some look order endless lengths) in
    omega arith

rounds_same : (look other : LookUps) (order beyond : Order) (m : ℕ) → HasSameRowLists look other order beyond →
    rows_of_steps other (rounds beyond m) ≡ rows_of_steps look (rounds order m)
rounds_same look other order beyond m same =
    flat_map-append (rows_of_step other) (prefix_of beyond) (copies m (cycle_of beyond))
    ∙ ap (λ (rs : List PlayedRow). rows_of_steps other (prefix_of beyond) ++ rs) (rows_copied other m (cycle_of beyond))
    ∙ ap (λ (rs : List PlayedRow). rs ++ copies m (rows_of_steps other (cycle_of beyond))) same.prefix
    ∙ ap (λ (rs : List PlayedRow). rows_of_steps look (prefix_of order) ++ copies m rs) same.cycle
    ∙ ap (λ (rs : List PlayedRow). rows_of_steps look (prefix_of order) ++ rs) (sym (rows_copied look m (cycle_of order)))
    ∙ sym (flat_map-append (rows_of_step look) (prefix_of order) (copies m (cycle_of order)))

pub row_lists_lem : RowListsPlaySameRows
row_lists_lem look other order beyond endless others lengths beside same = record {
  row = λ n. ap (λ (r : PlayedRow). r.row) (each n);
  transpose = λ n. ap (λ (r : PlayedRow). r.transpose) (each n);
  lengths = lengths;
  other_lengths = beside;
}
  where
    none : PlayedRow
    none = record { row = zero_row; transpose = no_step.transpose }

    each : (n : ℕ) → Path PlayedRow
        (record {
          row = row_there other beyond (place_of_row other beyond n);
          transpose = (played beyond (place_of_row other beyond n).plays).transpose;
        })
        (record {
          row = row_there look order (place_of_row look order n);
          transpose = (played order (place_of_row look order n).plays).transpose;
        })
    each n =
        sym (row_is other beyond (rounds beyond (suc n)) (rounds_played beyond (suc n)) beside n none
        (rounds_long other beyond (suc n) others beside))
        ∙ ap (λ (rs : List PlayedRow). get_or rs n none) (rounds_same look other order beyond (suc n) same)
        ∙ row_is look order (rounds order (suc n)) (rounds_played order (suc n)) lengths n none
        (rounds_long look order (suc n) endless lengths)
