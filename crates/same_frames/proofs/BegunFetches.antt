-- Fetching a row keeps two voices alike that may differ in the instrument with which they began: until a row names one
-- none has a note.
use Rattle.std.specs.Prelude.{ℤ, bit_and, not, ◌==◌, ◌||◌, if◌then◌else◌}
use Rattle.std.proofs.Common.{◌≡◌, ℕ, zero, suc, ◌+◌, ◌<◌, ◌≤◌, Bool, true, false, List, []}
use Rattle.std.proofs.Common.{◌∷◌, length, get_or, refl, sym, ap, ◌∙◌, subst, inl, inr, arith}
use Rattle.std.specs.Prelude.{Some, None}
use Rattle.std.specs.List.{find}
use Rattle.std.proofs.lemmas.Bool.{cases_eq, cases_lt, cases_Bool, ne_eqb, eq-eqb}
use Rattle.song_model.specs.declared.rows.Row.{Row}
use Rattle.song_model.specs.declared.orders.Order.{Order}
use Rattle.song_model.specs.PatternLimits.{IsPatternLength}
use Rattle.song_model.specs.Walk.{played}
use Rattle.song_model.specs.LookUp.{zero_row, pattern_row}
use Rattle.play_model.specs.LookUps.{LookUps}
use Rattle.play_model.specs.Wrap.{byte_plus}
use Rattle.play_model.specs.State.{Voice}
use Rattle.play_model.specs.FetchRow.{row_taken, gate_keyed, is_note, transposed, gate_shut, note_waits, row_moved}
use Rattle.play_model.specs.FetchRow.{row_done, fetch_row}
use Rattle.same_frames.specs.Maps.{same_numbers}
use Rattle.same_frames.specs.Begins.{is_opening, rows_of_play, opening_of_play, BeginsUnnamed}
use Rattle.same_frames.proofs.Choices.{same_choice}
use Rattle.same_frames.proofs.Moved.{Held, held_of}
use Rattle.same_frames.proofs.Fetched.{after_taken, keyed_holds, done_holds}
use Rattle.same_frames.proofs.Fetches.{next_held, fetched_holds, next_is}
use Rattle.same_frames.proofs.Runs.{Runs, runs_of, IsRunning, chosen}
use Rattle.same_frames.proofs.Begun.{with_aside, IsUnnamedYet, BegunAlike, aside_held, aside_again}

-- ---- the first of a list that passes a test

pub find_first : {X : Type 0} (p : X → Bool) (xs : List X) (k : ℕ) (d : X) → k < length xs →
    ((n : ℕ) → n < k → p (get_or xs n d) ≡ false) → p (get_or xs k d) ≡ true → find p xs ≡ Some (get_or xs k d)
find_first p [] k d inside none pass = absurd (omega arith)
find_first p (x ∷ xs) zero d inside none pass = rw pass refl
find_first p (x ∷ xs) (suc k) d inside none pass =
    let first : p x ≡ false = none 0 (omega arith) in
    rw first (find_first p xs k d (omega arith) (λ n low. none (suc n) (omega arith)) pass)

pub find_none : {X : Type 0} (p : X → Bool) (xs : List X) (d : X) →
    ((n : ℕ) → n < length xs → p (get_or xs n d) ≡ false) → find p xs ≡ None
find_none p [] d none = refl
find_none p (x ∷ xs) d none =
    let first : p x ≡ false = none 0 (omega arith) in
    rw first (find_none p xs d (λ n low. none (suc n) (omega arith)))

-- ---- what a row does not change

abbrev running_of : Voice → Runs
running_of v = record { command = v.command; param = v.param; delay = v.vib_delay; new_note = 0 }

keyed_runs : (note : ℕ) (v : Voice) → runs_of (gate_keyed note v) ≡ runs_of v
keyed_runs note v =
    chosen runs_of (runs_of v) (note == 0xBE) _ _ refl (chosen runs_of (runs_of v) (note == 0xBF) _ v refl refl)

shut_running : (timer : ℕ) (v : Voice) → running_of (gate_shut timer v) ≡ running_of v
shut_running timer v =
    chosen running_of (running_of v) ((v.new_command == 3) || not (bit_and timer 0x40 == 0)) v _ refl
    (chosen running_of (running_of v) (bit_and timer 0x80 == 0) (record v { gate = 0xFE; ad = 0x0F; sr = 0 })
    (record v { gate = 0xFE }) refl refl)

waits_running : (look : LookUps) (note : ℕ) (transpose : ℤ) (v : Voice) →
    running_of (note_waits look note transpose v) ≡ running_of v
waits_running look note transpose v =
    let waits = record v { new_note = transposed note transpose } in
    let timer = (look.instrument v.instrument).gate_timer in
    chosen running_of (running_of v) (is_note note) (gate_shut timer waits) v (shut_running timer waits) refl

done_running : (look : LookUps) (row : Row) (transpose : ℤ) (v : Voice) →
    running_of (row_done look row transpose v) ≡ running_of v
done_running look row transpose v =
    waits_running look row.note transpose (gate_keyed row.note (row_taken row v))
    ∙ ap (λ (r : Runs). record r { new_note = 0 }) (keyed_runs row.note (row_taken row v))

-- without a note the waiting note stays
done_runs : (look : LookUps) (row : Row) (transpose : ℤ) (v : Voice) → is_note row.note ≡ false →
    runs_of (row_done look row transpose v) ≡ runs_of v
done_runs look row transpose v none = rw none (keyed_runs row.note (row_taken row v))

moved_runs : (rows : ℕ) (v : Voice) → runs_of (row_moved rows v) ≡ runs_of v
moved_runs rows v = chosen runs_of (runs_of v) (byte_plus v.row 1 == rows) _ _ refl refl

moved_running : (rows : ℕ) (v : Voice) → running_of (row_moved rows v) ≡ running_of v
moved_running rows v = chosen running_of (running_of v) (byte_plus v.row 1 == rows) _ _ refl refl

moved_aside : (a p rows : ℕ) (v : Voice) → row_moved rows (with_aside a p v) ≡ with_aside a p (row_moved rows v)
moved_aside a p rows v =
    same_choice (with_aside a p) (byte_plus v.row 1 == rows) _ _ _ _ (λ z. refl) (λ z. refl)

-- ---- a row that is no opening

no_note : (row : Row) → is_opening row ≡ false → is_note row.note ≡ false
no_note row none = elim (cases_Bool (is_note row.note)) [
  | inl is ↦ (let e : is_opening row ≡ true = rw is refl in cc)
  | inr not_one ↦ not_one
]

no_name : (row : Row) → is_opening row ≡ false → row.instrument ≡ 0
no_name row none = elim (cases_eq row.instrument 0) [
  | inl z ↦ z
  | inr some ↦ (
      let test = ne_eqb row.instrument 0 some in
      let e : is_opening row ≡ true = elim (cases_Bool (is_note row.note)) [
        | inl is ↦ rw is refl
        | inr not_one ↦ rw not_one (rw test refl)
      ] in cc)
]

module _ (look : LookUps) (order : Order) (i j : ℕ) (named : ¬ BeginsUnnamed look order)
    (lengths : (n : ℕ) → IsPatternLength (length (rows_of_play look order n))) where
  -- a row without an instrument, behind none that names one, has no note
  unnamed_is_no_opening : (h : Held) (r : Runs) (a : ℕ) → IsUnnamedYet look order i j h r a →
      (pattern_row (rows_of_play look order h.plays) h.row).instrument ≡ 0 →
      is_opening (pattern_row (rows_of_play look order h.plays) h.row) ≡ false
  unnamed_is_no_opening h r a u none =
      let rows = rows_of_play look order h.plays in
      elim (cases_Bool (is_opening (pattern_row rows h.row))) [
        | inr not_one ↦ not_one
        | inl is ↦ absurd (named (record {
          play = h.plays;
          row = pattern_row rows h.row;
          opens = find_first is_opening rows h.row zero_row u.inside u.above is;
          unnamed = none;
          before = u.before;
        }))
      ]

  -- the place behind it
  next_unnamed : (h : Held) (r after : Runs) (a : ℕ) → IsUnnamedYet look order i j h r a →
      is_opening (pattern_row (rows_of_play look order h.plays) h.row) ≡ false → after.new_note ≡ 0 →
      after.delay ≡ 0 →
      IsUnnamedYet look order i j (next_held (length (rows_of_play look order h.plays)) h) after a
  next_unnamed h r after a u none note delay =
      let rows = rows_of_play look order h.plays in
      let step = next_is h.row (length rows) u.inside (lengths h.plays).most in
      elim (cases_eq (byte_plus h.row 1) (length rows)) [
        | inl end ↦ (
            let test = eq-eqb (byte_plus h.row 1) (length rows) end in
            rw test (record {
              mine = u.mine;
              its = u.its;
              no_note = note;
              no_delay = delay;
              before = λ n low. elim (cases_lt n h.plays) [
                | inl earlier ↦ u.before n earlier
                | inr on ↦ (
                    let e : h.plays ≡ n = omega arith in
                    subst (λ (m : ℕ). opening_of_play look order m ≡ None) e
                    (find_none is_opening rows zero_row (all_above h r a u none (omega arith))))
              ];
              above = λ k low. absurd (omega arith);
              inside = (lengths (h.plays + 1)).least;
            }))
        | inr on ↦ (
            let test = ne_eqb (byte_plus h.row 1) (length rows) on in
            rw test (record {
              mine = u.mine;
              its = u.its;
              no_note = note;
              no_delay = delay;
              before = u.before;
              above = λ k low. up_to h r a u none k (omega arith);
              inside = omega arith;
            }))
      ]
    where
      up_to : (h : Held) (r : Runs) (a : ℕ) → IsUnnamedYet look order i j h r a →
          is_opening (pattern_row (rows_of_play look order h.plays) h.row) ≡ false → (k : ℕ) → k ≤ h.row →
          is_opening (pattern_row (rows_of_play look order h.plays) k) ≡ false
      up_to h r a u none k low = elim (cases_lt k h.row) [
        | inl above ↦ u.above k above
        | inr here ↦ (
            let e : h.row ≡ k = omega arith in
            subst (λ (m : ℕ). is_opening (pattern_row (rows_of_play look order h.plays) m) ≡ false) e none)
      ]

      all_above : (h : Held) (r : Runs) (a : ℕ) → IsUnnamedYet look order i j h r a →
          is_opening (pattern_row (rows_of_play look order h.plays) h.row) ≡ false →
          length (rows_of_play look order h.plays) ≤ suc h.row → (k : ℕ) →
          k < length (rows_of_play look order h.plays) →
          is_opening (pattern_row (rows_of_play look order h.plays) k) ≡ false
      all_above h r a u none end k low = up_to h r a u none k (omega arith)

  -- ---- the whole step

  fetched_is : (v w : Voice) (q : BegunAlike look order i j v w) →
      (is_note (pattern_row (rows_of_play look order v.plays) v.row).note ≡ true →
      (if (pattern_row (rows_of_play look order v.plays) v.row).instrument == 0 then q.instrument
      else (pattern_row (rows_of_play look order v.plays) v.row).instrument)
      ≡ (row_taken (pattern_row (rows_of_play look order v.plays) v.row) v).instrument) →
      fetch_row look order w
      ≡ with_aside
      (if (pattern_row (rows_of_play look order v.plays) v.row).instrument == 0 then q.instrument
      else (pattern_row (rows_of_play look order v.plays) v.row).instrument)
      q.param (fetch_row look order v)
  unfolding fetch_row
  fetched_is v w q same =
      let rows = rows_of_play look order v.plays in
      let row = pattern_row rows v.row in
      let transpose = (played order v.plays).transpose in
      let a = if row.instrument == 0 then q.instrument else row.instrument in
      let p = q.param in
      let taken = row_taken row v in
      let done = row_done look row transpose v in
      let h = aside_held a p (held_of taken) in
      let keyed = keyed_holds row.note taken in
      ap (fetch_row_of look order) q.is
      ∙ ap (row_moved (length rows))
      (after_taken same_numbers h look look row.note transpose taken
      (sym (ap (λ (x : Held). x.new_command) keyed))
      (λ z. ap (λ (n : ℕ). (look.instrument n).gate_timer)
      (same z ∙ sym (ap (λ (x : Held). x.instrument) keyed)))
      ∙ aside_again a p done taken (done_holds look row transpose v))
      ∙ moved_aside a p (length rows) done
    where
      fetch_row_of : LookUps → Order → Voice → Voice
      fetch_row_of look order v =
          row_moved (length (rows_of_play look order v.plays))
          (row_done look (pattern_row (rows_of_play look order v.plays) v.row) (played order v.plays).transpose v)

  fetch_holds : (v : Voice) →
      held_of (fetch_row look order v)
      ≡ next_held (length (rows_of_play look order v.plays))
      (held_of (row_taken (pattern_row (rows_of_play look order v.plays) v.row) v))
  unfolding fetch_row
  fetch_holds v =
      fetched_holds look (length (rows_of_play look order v.plays)) (pattern_row (rows_of_play look order v.plays) v.row)
      (played order v.plays).transpose v

  fetch_running : (v : Voice) → running_of (fetch_row look order v) ≡ running_of v
  unfolding fetch_row
  fetch_running v =
      moved_running (length (rows_of_play look order v.plays)) _
      ∙ done_running look (pattern_row (rows_of_play look order v.plays) v.row) (played order v.plays).transpose v

  fetch_runs : (v : Voice) → is_note (pattern_row (rows_of_play look order v.plays) v.row).note ≡ false →
      runs_of (fetch_row look order v) ≡ runs_of v
  unfolding fetch_row
  fetch_runs v none =
      moved_runs (length (rows_of_play look order v.plays)) _
      ∙ done_runs look (pattern_row (rows_of_play look order v.plays) v.row) (played order v.plays).transpose v none

  runs_then : (v : Voice) (p : ℕ) → (IsRunning (runs_of v) → p ≡ v.param) →
      IsRunning (runs_of (fetch_row look order v)) → p ≡ (fetch_row look order v).param
  runs_then v p runs =
      subst (λ (r : Runs). IsRunning r → p ≡ r.param) (sym (fetch_running v)) runs

  next_instrument : (rows : ℕ) (h : Held) → (next_held rows h).instrument ≡ h.instrument
  next_instrument rows h = chosen (λ (x : Held). x.instrument) h.instrument (byte_plus h.row 1 == rows) _ _ refl refl

  -- both voices have the same instrument then
  same_then : (v w : Voice) (q : BegunAlike look order i j v w) →
      (if (pattern_row (rows_of_play look order v.plays) v.row).instrument == 0 then q.instrument
      else (pattern_row (rows_of_play look order v.plays) v.row).instrument)
      ≡ (row_taken (pattern_row (rows_of_play look order v.plays) v.row) v).instrument →
      BegunAlike look order i j (fetch_row look order v) (fetch_row look order w)
  same_then v w q same =
      let row = pattern_row (rows_of_play look order v.plays) v.row in
      record {
        instrument = if row.instrument == 0 then q.instrument else row.instrument;
        param = q.param;
        is = fetched_is v w q (λ z. same);
        may = record {
          runs = runs_then v q.param q.may.runs;
          held = inl (same
              ∙ sym (ap (λ (h : Held). h.instrument) (fetch_holds v)
              ∙ next_instrument (length (rows_of_play look order v.plays)) (held_of (row_taken row v))));
        };
      }

  -- the row names none, and neither has one before it
  unnamed_then : (v w : Voice) (q : BegunAlike look order i j v w) →
      IsUnnamedYet look order i j (held_of v) (runs_of v) q.instrument →
      (pattern_row (rows_of_play look order v.plays) v.row).instrument ≡ 0 →
      BegunAlike look order i j (fetch_row look order v) (fetch_row look order w)
  unnamed_then v w q u none =
      let rows = rows_of_play look order v.plays in
      let row = pattern_row rows v.row in
      let closed = unnamed_is_no_opening (held_of v) (runs_of v) q.instrument u none in
      let note = no_note row closed in
      let test : (row.instrument == 0) ≡ true = eq-eqb row.instrument 0 none in
      let runs = fetch_runs v note in
      let after = runs_of (fetch_row look order v) in
      let a = if row.instrument == 0 then q.instrument else row.instrument in
      let its : a ≡ q.instrument = rw test refl in
      let bare : Held = record (held_of v) { new_command = row.command; new_param = row.param } in
      let kept : held_of (fetch_row look order v) ≡ next_held (length rows) bare =
      fetch_holds v ∙ ap (λ (n : ℕ). next_held (length rows) (record (held_of v) {
        instrument = n;
        new_command = row.command;
        new_param = row.param;
      })) (let mine : (if row.instrument == 0 then v.instrument else row.instrument) ≡ v.instrument = rw test refl in mine) in
      record {
        instrument = if row.instrument == 0 then q.instrument else row.instrument;
        param = q.param;
        is = fetched_is v w q (λ z. let e : true ≡ false = sym z ∙ note in cc);
        may = record {
          runs = runs_then v q.param q.may.runs;
          held = inr (subst (λ (h : Held). IsUnnamedYet look order i j h after a) (sym kept)
              (subst (IsUnnamedYet look order i j (next_held (length rows) bare) after) (sym its)
              (next_unnamed bare (runs_of v) after q.instrument
              (record {
                mine = u.mine;
                its = u.its;
                no_note = u.no_note;
                no_delay = u.no_delay;
                before = u.before;
                above = u.above;
                inside = u.inside;
              }) closed
              (ap (λ (r : Runs). r.new_note) runs ∙ u.no_note) (ap (λ (r : Runs). r.delay) runs ∙ u.no_delay))));
        };
      }

  pub fetch_begun : (v w : Voice) → BegunAlike look order i j v w →
      BegunAlike look order i j (fetch_row look order v) (fetch_row look order w)
  fetch_begun v w q =
      let row = pattern_row (rows_of_play look order v.plays) v.row in
      elim (cases_eq row.instrument 0) [
        | inr some ↦ (let test = ne_eqb row.instrument 0 some in same_then v w q (rw test refl))
        | inl none ↦ elim q.may.held [
          | inl e ↦ (let test = eq-eqb row.instrument 0 none in same_then v w q (rw test e))
          | inr u ↦ unnamed_then v w q u none
        ]
      ]
