-- A rest of a run is the next row.
use Rattle.std.proofs.Common.{◌≡◌, ◌≢◌, ℕ, zero, suc, ◌+◌, ◌%◌, ◌<◌, ◌≤◌}
use Rattle.std.proofs.Common.{List, ◌++◌, length, drop, replicate, refl, sym, ap, ◌∙◌, subst, arith}
use Rattle.song_model.specs.declared.rows.Row.{Row}
use Rattle.song_model.specs.declared.orders.Order.{Order}
use Rattle.song_model.specs.LookUp.{zero_row}
use Rattle.song_model.specs.Walk.{played}
use Rattle.play_model.specs.LookUps.{LookUps}
use Rattle.play_model.specs.State.{Voice}
use Rattle.play_model.specs.FetchRow.{row_moved, fetch_row}
use Rattle.packed_form.specs.Entries.{row_with}
use Rattle.scopes.specs.Desk.{Layout}
use Rattle.player_memory.specs.declared.labels.TheConstants.{REST, OFFSET}
use Rattle.player_memory.specs.Fetching.{EntryIsNext, Walked, NotWalked, last_command, AreRests, SongStands, AtEntry}
use Rattle.player_memory.specs.Fetching.{InRun, InLastRun}
use Rattle.entry_code.proofs.Laws.{stands_there}
use Rattle.entry_code.proofs.Laws.{SamePlay}
use Rattle.entry_code.proofs.Laws.{same_pattern, same_walk, moved_on, moved_out}
use Rattle.fetch_code.proofs.Taken.{fetch_is}

-- the next entry stays, where the bytes say the same and the command that runs on is the same
pub same_next : (layout : Layout) (look : LookUps) (packed : ℕ → List ℕ) (order : Order) (v w : Voice) (n row : ℕ)
    (one two : ℕ → ℕ) → SamePlay two one → two OFFSET ≡ one OFFSET → w.new_command ≡ v.new_command →
    w.new_param ≡ v.new_param → EntryIsNext layout look packed order v n row one →
    EntryIsNext layout look packed order w n row two
same_next layout look packed order v w n row one two same offset command param
    (Walked some first pattern transpose walk entries) =
    Walked (rw offset some) (rw offset first) (same_pattern layout order n one two same pattern)
    (same.transpose ∙ transpose) (same_walk layout order (n + 1) one two same walk)
    (rw (offset, command, param) entries)
same_next layout look packed order v w n row one two same offset command param (NotWalked none first walk) =
    NotWalked (offset ∙ none) first (same_walk layout order n one two same walk)

-- a run's next row is a rest, which changes nothing of the voice
rest_row : (look : LookUps) (order : Order) (v : Voice) (count : ℕ) →
    AreRests (look.rows (played order v.plays).pattern) v (suc count) →
    fetch_row look order v ≡ row_moved (length (look.rows (played order v.plays).pattern)) v
rest_row look order v count rests =
    let rows = look.rows (played order v.plays).pattern in
    let here = stands_there rows v.row (row_with 0xBD 0 (last_command v)) zero_row
    (replicate count (row_with 0xBD 0 (last_command v)) ++ drop (v.row + suc count) rows) rests.each in
    fetch_is look order v (row_with 0xBD 0 (last_command v)) here.is

-- one rest fewer is left
fewer : (rows : List Row) (v : Voice) (count : ℕ) → AreRests rows v (suc count) →
    AreRests rows (record v { row = v.row + 1 }) count
fewer rows v count rests =
    let here = stands_there rows v.row (row_with 0xBD 0 (last_command v)) zero_row
    (replicate count (row_with 0xBD 0 (last_command v)) ++ drop (v.row + suc count) rows) rests.each in
    let inside = rests.inside in
    let next : v.row + suc count ≡ v.row + 1 + count = omega arith in record {
      begun = omega arith;
      inside = omega (arith, inside);
      each = here.rest_is ∙ ap (λ n. replicate count (row_with 0xBD 0 (last_command v)) ++ drop n rows) next;
    }

-- where the voice is behind a rest
pub stands_behind_rest : (layout : Layout) (look : LookUps) (packed : ℕ → List ℕ) (order : Order) (v : Voice)
    (one two : ℕ → ℕ) → length (look.rows (played order v.plays).pattern) ≤ 128 → SamePlay two one →
    two OFFSET ≡ one OFFSET → one REST ≢ 0 → two REST ≡ (one REST + 255) % 256 →
    SongStands layout look packed order v one → SongStands layout look packed order (fetch_row look order v) two
stands_behind_rest layout look packed order v one two few same offset some less (AtEntry none next) = absurd (some none)
stands_behind_rest layout look packed order v one two few same offset some less (InRun more rests inside next) =
    by_count (one REST) refl
  where
    rows : List Row
    rows = look.rows (played order v.plays).pattern

    on : Voice
    on = record v { row = v.row + 1 }

    by_count : (count : ℕ) → one REST ≡ count → SongStands layout look packed order (fetch_row look order v) two
    by_count zero e = absurd (some e)
    by_count (suc count) e =
        let run = subst (AreRests rows v) e rests in
        let most = run.inside in
        let left : two REST ≡ count = omega (arith, less, e, most, few) in
        let moved = rest_row look order v count run ∙ moved_on (length rows) v (omega (arith, inside, e)) few in
        let next_is : EntryIsNext layout look packed order on v.plays (v.row + 1 + count) two =
        subst (λ n. EntryIsNext layout look packed order on v.plays n two) (omega (arith, e))
        (same_next layout look packed order v on v.plays (v.row + one REST) one two same offset refl refl next) in
        subst (λ u. SongStands layout look packed order u two) (sym moved)
        (by_left count left (fewer rows v count run) (omega (arith, inside, e)) next_is)
      where
        by_left : (count : ℕ) → two REST ≡ count → AreRests rows on count → v.row + 1 + count < length rows →
            EntryIsNext layout look packed order on v.plays (v.row + 1 + count) two →
            SongStands layout look packed order on two
        by_left zero left run inside next =
            let place : v.row + 1 + 0 ≡ v.row + 1 = omega arith in
            AtEntry left (subst (λ n. EntryIsNext layout look packed order on v.plays n two) place next)
        by_left (suc count) left run inside next =
            InRun (λ none. omega (arith, none, left)) (subst (AreRests rows on) (sym left) run)
            (omega (arith, inside, left))
            (subst (λ n. EntryIsNext layout look packed order on v.plays (v.row + 1 + n) two) (sym left) next)
stands_behind_rest layout look packed order v one two few same offset some less (InLastRun more rests last next) =
    by_count (one REST) refl
  where
    rows : List Row
    rows = look.rows (played order v.plays).pattern

    on : Voice
    on = record v { row = v.row + 1 }

    out : Voice
    out = record v { row = 0; plays = v.plays + 1 }

    by_count : (count : ℕ) → one REST ≡ count → SongStands layout look packed order (fetch_row look order v) two
    by_count zero e = absurd (some e)
    by_count (suc zero) e =
        let run = subst (AreRests rows v) e rests in
        let left : two REST ≡ 0 = omega (arith, less, e) in
        let moved = rest_row look order v 0 run ∙ moved_out (length rows) v (omega (arith, last, e)) few in
        subst (λ u. SongStands layout look packed order u two) (sym moved)
        (AtEntry left (same_next layout look packed order v out (v.plays + 1) 0 one two same offset refl refl next))
    by_count (suc (suc count)) e =
        let run = subst (AreRests rows v) e rests in
        let most = run.inside in
        let left : two REST ≡ suc count = omega (arith, less, e, most, few) in
        let moved = rest_row look order v (suc count) run ∙ moved_on (length rows) v (omega (arith, last, e)) few in
        subst (λ u. SongStands layout look packed order u two) (sym moved)
        (InLastRun (λ none. omega (arith, none, left))
        (subst (AreRests rows on) (sym left) (fewer rows v (suc count) run)) (omega (arith, last, e, left))
        (same_next layout look packed order v on (v.plays + 1) 0 one two same offset refl refl next))

-- behind it the voice is only moved
pub rest_moves : (layout : Layout) (look : LookUps) (packed : ℕ → List ℕ) (order : Order) (v : Voice)
    (own : ℕ → ℕ) →
    own REST ≢ 0 → SongStands layout look packed order v own →
    fetch_row look order v ≡ row_moved (length (look.rows (played order v.plays).pattern)) v
rest_moves layout look packed order v own some (AtEntry none next) = absurd (some none)
rest_moves layout look packed order v own some (InRun more rests inside next) = by_count (own REST) refl
  where
    by_count : (count : ℕ) → own REST ≡ count →
        fetch_row look order v ≡ row_moved (length (look.rows (played order v.plays).pattern)) v
    by_count zero e = absurd (some e)
    by_count (suc count) e =
        rest_row look order v count (subst (AreRests (look.rows (played order v.plays).pattern) v) e rests)
rest_moves layout look packed order v own some (InLastRun more rests last next) = by_count (own REST) refl
  where
    by_count : (count : ℕ) → own REST ≡ count →
        fetch_row look order v ≡ row_moved (length (look.rows (played order v.plays).pattern)) v
    by_count zero e = absurd (some e)
    by_count (suc count) e =
        rest_row look order v count (subst (AreRests (look.rows (played order v.plays).pattern) v) e rests)
