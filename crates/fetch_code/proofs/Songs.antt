-- Where a voice is in its song, by the bytes that say it.
use Rattle.std.proofs.Common.{◌≡◌, ℕ, ◌+◌, ◌<◌, ◌≤◌, List, ◌++◌, length, drop, replicate}
use Rattle.std.proofs.Common.{refl, sym, ap, ◌∙◌}
use Rattle.std.proofs.Common.{subst}
use Rattle.song_model.specs.declared.rows.Row.{Row}
use Rattle.song_model.specs.declared.orders.Order.{Order}
use Rattle.song_model.specs.Walk.{played}
use Rattle.play_model.specs.LookUps.{LookUps}
use Rattle.play_model.specs.State.{Voice}
use Rattle.packed_form.specs.Entries.{row_with}
use Rattle.scopes.specs.Desk.{Layout}
use Rattle.player_memory.specs.declared.labels.TheConstants.{REST}
use Rattle.player_memory.specs.declared.variables.TheConstants.{SONG_BYTES}
use Rattle.player_memory.specs.Playing.{AreSame}
use Rattle.player_memory.specs.Fetching.{EntryIsNext, AreRests, SongStands, AtEntry, InRun, InLastRun}
use Rattle.entry_code.proofs.Laws.{SamePlay}
use Rattle.fetch_code.proofs.Rests.{same_next}

-- the same play, row and last command
pub record SamePlace (one two : Voice) : Type 0 where
  pub plays : one.plays ≡ two.plays
  pub row : one.row ≡ two.row
  pub new_command : one.new_command ≡ two.new_command
  pub new_param : one.new_param ≡ two.new_param

same_play : (one two : ℕ → ℕ) → AreSame SONG_BYTES two one → SamePlay two one
same_play one two same = record {
  pattern_low = same.1.1.0;
  pattern_high = same.1.1.1.0;
  order_low = same.1.1.1.1.0;
  order_high = same.1.1.1.1.1.0;
  order_place = same.1.1.1.1.1.1.0;
  transpose = same.1.1.1.1.1.1.1.0;
  repeat = same.1.1.1.1.1.1.1.1.0;
}

each : (rows : List Row) (count row next command new param other : ℕ) → next ≡ row → new ≡ command →
    other ≡ param → drop row rows
    ≡ replicate count (row_with 0xBD 0 (record { number = command; param = param })) ++ drop (row + count) rows →
    drop next rows
    ≡ replicate count (row_with 0xBD 0 (record { number = new; param = other })) ++ drop (next + count) rows
each rows count row next command new param other at commands params is = rw (at, commands, params) is

same_rests : (rows : List Row) (v w : Voice) (count : ℕ) → SamePlace w v → AreRests rows v count →
    AreRests rows w count
same_rests rows v w count place rests = record {
  begun = subst (λ row. 1 ≤ row) (sym place.row) rests.begun;
  inside = subst (λ row. row + count ≤ length rows) (sym place.row) rests.inside;
  each = each rows count v.row w.row v.new_command w.new_command v.new_param w.new_param place.row place.new_command
      place.new_param rests.each;
}

next_at : (layout : Layout) (look : LookUps) (packed : ℕ → List ℕ) (order : Order) (w : Voice) (own : ℕ → ℕ)
    (n m row next : ℕ) → m ≡ n → next ≡ row → EntryIsNext layout look packed order w n row own →
    EntryIsNext layout look packed order w m next own
next_at layout look packed order w own n m row next plays rows is = rw (plays, rows) is

rests_at : (look : LookUps) (order : Order) (w : Voice) (n m count left : ℕ) → m ≡ n → left ≡ count →
    AreRests (look.rows (played order n).pattern) w count → AreRests (look.rows (played order m).pattern) w left
rests_at look order w n m count left plays same rests = rw (plays, same) rests

below_at : (look : LookUps) (order : Order) (n m row next : ℕ) → m ≡ n → next ≡ row →
    row < length (look.rows (played order n).pattern) → next < length (look.rows (played order m).pattern)
below_at look order n m row next plays rows few = rw (plays, rows) few

end_at : (look : LookUps) (order : Order) (n m row next : ℕ) → m ≡ n → next ≡ row →
    row ≡ length (look.rows (played order n).pattern) → next ≡ length (look.rows (played order m).pattern)
end_at look order n m row next plays rows last = rw plays (rows ∙ last)

both : (a b c d : ℕ) → a ≡ b → c ≡ d → a + c ≡ b + d
both a b c d one two = rw (one, two) refl

pub song_stays : (layout : Layout) (look : LookUps) (packed : ℕ → List ℕ) (order : Order) (v w : Voice)
    (one two : ℕ → ℕ) → SamePlace w v → AreSame SONG_BYTES two one → SongStands layout look packed order v one →
    SongStands layout look packed order w two
song_stays layout look packed order v w one two place same (AtEntry none next) =
    AtEntry (same.0 ∙ none)
    (next_at layout look packed order w two v.plays w.plays v.row w.row place.plays place.row
    (same_next layout look packed order v w v.plays v.row one two (same_play one two same) same.1.0 place.new_command
    place.new_param next))
song_stays layout look packed order v w one two place same (InRun some rests inside next) =
    let row = both w.row v.row (two REST) (one REST) place.row same.0 in
    InRun (λ none. some (sym same.0 ∙ none))
    (rests_at look order w v.plays w.plays (one REST) (two REST) place.plays same.0
    (same_rests (look.rows (played order v.plays).pattern) v w (one REST) place rests))
    (below_at look order v.plays w.plays (v.row + one REST) (w.row + two REST) place.plays row inside)
    (next_at layout look packed order w two v.plays w.plays (v.row + one REST) (w.row + two REST) place.plays row
    (same_next layout look packed order v w v.plays (v.row + one REST) one two (same_play one two same) same.1.0
    place.new_command place.new_param next))
song_stays layout look packed order v w one two place same (InLastRun some rests last next) =
    let row = both w.row v.row (two REST) (one REST) place.row same.0 in
    InLastRun (λ none. some (sym same.0 ∙ none))
    (rests_at look order w v.plays w.plays (one REST) (two REST) place.plays same.0
    (same_rests (look.rows (played order v.plays).pattern) v w (one REST) place rests))
    (end_at look order v.plays w.plays (v.row + one REST) (w.row + two REST) place.plays row last)
    (next_at layout look packed order w two (v.plays + 1) (w.plays + 1) 0 0 (ap (λ n. n + 1) place.plays) refl
    (same_next layout look packed order v w (v.plays + 1) 0 one two (same_play one two same) same.1.0
    place.new_command place.new_param next))
