-- Fetching a row, over a playable song and over other look-ups that agree with it, keeps voices alike.
use Rattle.std.specs.Prelude.{ℤ, ◌==◌, if◌then◌else◌}
use Rattle.std.proofs.Common.{◌≡◌, ◌≢◌, ℕ, suc, ◌+◌, ◌<◌, ◌≤◌, cond, length, refl, ap, sym}
use Rattle.std.proofs.Common.{◌∙◌, inl, inr, subst, arith}
use Rattle.std.proofs.lemmas.Bool.{cases_eq, cond_both, eqb-false, ne_eqb}
use Rattle.std.proofs.lemmas.List.Elements.{Contains-get_or}
use Rattle.song_model.specs.declared.rows.Row.{Row}
use Rattle.song_model.specs.declared.orders.Order.{Order}
use Rattle.song_model.specs.declared.orders.Step.{Step}
use Rattle.song_model.specs.declared.instruments.Instrument.{Instrument}
use Rattle.song_model.specs.declared.songs.Song.{Song}
use Rattle.song_model.specs.LookUp.{zero_row, pattern_row, pattern_at}
use Rattle.song_model.specs.Walk.{played}
use Rattle.song_model.proofs.Laws.{plays_are_patterns_lem}
use Rattle.play_model.specs.LookUps.{LookUps, look_ups_of}
use Rattle.play_model.specs.Wrap.{byte_plus}
use Rattle.play_model.specs.State.{Voice}
use Rattle.play_model.specs.FetchRow.{row_taken, row_moved, row_done, fetched, fetch_row}
use Rattle.play_model.specs.Used.{IsPlayedOrder, IsUsedPattern, IsUsedRow, IsUsedInstrument}
use Rattle.play_model.specs.Safe.{IsSafeVoice}
use Rattle.play_model.proofs.Laws.{whole_lem}
use Rattle.safe_states.specs.SafeLaws.{VoiceRulesKeepSafe}
use Rattle.safe_states.proofs.Laws.{CanBePlayed, play_length}
use Rattle.same_frames.specs.Maps.{Maps, named_after}
use Rattle.same_frames.specs.Agreement.{Agrees, PlaysFor}
use Rattle.same_frames.specs.Alike.{named_above, moved_voice, WaitsFor, IsNamedLast, VoicesAreAlike}
use Rattle.same_frames.proofs.Choices.{same_choice}
use Rattle.same_frames.proofs.Moved.{Held, held_of}
use Rattle.same_frames.proofs.Rows.{same_length, row_at, named_next}
use Rattle.same_frames.proofs.Fetched.{IsFetchFor, done_holds, fetch_moved}
use Rattle.same_frames.proofs.Rules.{HeldAlike}

-- ---- the row of the play that is on

play_used : (song : Song) (order : Order) (i : ℕ) → CanBePlayed song → IsPlayedOrder song order →
    IsUsedPattern song (played order i).pattern
play_used song order i play o =
    let plays = plays_are_patterns_lem order i ((whole_lem song play.playable).order order o) in
    record { byte = record { order = order; played = o; entry = plays.entry }; is_pattern = plays.pattern }

row_used : (song : Song) (order : Order) (v : Voice) → CanBePlayed song → IsPlayedOrder song order →
    v.row < length (pattern_at song (played order v.plays).pattern) →
    IsUsedRow song (pattern_row (pattern_at song (played order v.plays).pattern) v.row)
row_used song order v play o inside = record {
  pattern = (played order v.plays).pattern;
  used = play_used song order v.plays play o;
  has = Contains-get_or (pattern_at song (played order v.plays).pattern) v.row zero_row inside;
}

names_used : (song : Song) (row : Row) → IsUsedRow song row → row.instrument ≢ 0 → IsUsedInstrument song row.instrument
names_used song row used some = inr (record { row = row; used = used; names = refl; some = some })

after_used : (song : Song) (i : ℕ) (row : Row) → IsUsedRow song row → IsUsedInstrument song i →
    IsUsedInstrument song (named_after i row)
after_used song i row used before =
    cond_both (row.instrument == 0) i row.instrument (IsUsedInstrument song) (λ z. before)
    (λ z. names_used song row used (eqb-false row.instrument 0 z))

fetch_for : (maps : Maps) (song : Song) (other : LookUps) (order : Order) (v w : Voice) → CanBePlayed song →
    Agrees maps song other → IsPlayedOrder song order → VoicesAreAlike maps song order v w →
    IsFetchFor maps (look_ups_of song) other
    (named_above 0 (pattern_at song (played order v.plays).pattern) v.row)
    (pattern_row (pattern_at song (played order v.plays).pattern) v.row)
    (pattern_row (other.rows (maps.pattern (played order v.plays).pattern)) v.row) v
fetch_for maps song other order v w play a o q =
    let n = (played order v.plays).pattern in
    let rows = pattern_at song n in
    let row = pattern_row rows v.row in
    let used = row_used song order v play o q.safe.row in
    let for_pattern = a.patterns n (play_used song order v.plays play o) in
    record {
      row_for = row_at maps 0 rows (other.rows (maps.pattern n)) v.row for_pattern.each q.safe.row;
      nothing = a.instruments.nothing;
      some = λ is. a.instruments.some row.instrument (names_used song row used is);
      named = q.named;
      timer = ap (λ (i : Instrument). i.gate_timer)
          (a.instruments.stands_for (named_after v.instrument row)
          (after_used song v.instrument row used q.safe.instrument)).moved;
    }

-- ---- what is held then

-- the next row is on
abbrev pub next_held : ℕ → Held → Held
next_held rows h =
    if byte_plus h.row 1 == rows then record h { row = 0; plays = h.plays + 1 }
    else record h { row = byte_plus h.row 1 }

moved_holds : (rows : ℕ) (v : Voice) → held_of (row_moved rows v) ≡ next_held rows (held_of v)
moved_holds rows v = sym (same_choice held_of (byte_plus v.row 1 == rows) _ _ _ _ (λ z. refl) (λ z. refl))

pub fetched_holds : (look : LookUps) (rows : ℕ) (row : Row) (transpose : ℤ) (v : Voice) →
    held_of (row_moved rows (row_done look row transpose v)) ≡ next_held rows (held_of (row_taken row v))
fetched_holds look rows row transpose v =
    moved_holds rows (row_done look row transpose v) ∙ ap (next_held rows) (done_holds look row transpose v)

named_on : (last i a : ℕ) → (last ≢ 0 → i ≡ last) → cond (a == 0) last a ≢ 0 →
    cond (a == 0) i a ≡ cond (a == 0) last a
named_on last i a is some = elim (cases_eq a 0) [
  | inl z ↦ rw z (is (rw z at some))
  | inr n ↦ (let f = ne_eqb a 0 n in rw f refl)
]

pub next_is : (row rows : ℕ) → row < rows → rows ≤ 128 → byte_plus row 1 ≡ suc row
next_is row rows inside most = omega arith

named_then : (song : Song) (order : Order) (v : Voice) → CanBePlayed song → IsPlayedOrder song order →
    v.row < length (pattern_at song (played order v.plays).pattern) →
    IsNamedLast song order v.plays v.row v.instrument →
    IsNamedLast song order v.plays (byte_plus v.row 1)
    (named_after v.instrument (pattern_row (pattern_at song (played order v.plays).pattern) v.row))
named_then song order v play o inside named =
    let rows = pattern_at song (played order v.plays).pattern in
    let row = pattern_row rows v.row in
    rw (next_is v.row (length rows) inside (play_length song order v.plays play o).most)
    (rw (named_next 0 rows v.row inside) (named_on (named_above 0 rows v.row) v.instrument row.instrument named))

held_then : (maps : Maps) (song : Song) (order : Order) (v : Voice) (param : ℕ) → CanBePlayed song →
    IsPlayedOrder song order → v.row < length (pattern_at song (played order v.plays).pattern) →
    IsNamedLast song order v.plays v.row v.instrument →
    WaitsFor maps (pattern_row (pattern_at song (played order v.plays).pattern) v.row).command
    (pattern_row (pattern_at song (played order v.plays).pattern) v.row).param param →
    HeldAlike maps song order param
    (next_held (length (pattern_at song (played order v.plays).pattern))
    (held_of (row_taken (pattern_row (pattern_at song (played order v.plays).pattern) v.row) v)))
held_then maps song order v param play o inside named waits =
    cond_both (byte_plus v.row 1 == length (pattern_at song (played order v.plays).pattern)) _ _
    (HeldAlike maps song order param)
    (λ z. record { named = λ some. absurd (some refl); waiting = waits })
    (λ z. record { named = named_then song order v play o inside named; waiting = waits })

-- ---- the whole step

voice_for : (maps : Maps) (song : Song) (order : Order) (v w : Voice) (param : ℕ) → IsSafeVoice song order v →
    HeldAlike maps song order param (held_of v) → w ≡ moved_voice maps param v → VoicesAreAlike maps song order v w
voice_for maps song order v w param safe held moved =
    let is : w.new_param ≡ param = ap (λ (x : Voice). x.new_param) moved in
    record {
      safe = safe;
      named = held.named;
      moved = subst (λ (n : ℕ). w ≡ moved_voice maps n v) (sym is) moved;
      waiting = subst (WaitsFor maps v.new_command v.new_param) (sym is) held.waiting;
    }

pub fetch_alike : (maps : Maps) (song : Song) (other : LookUps) (order beyond : Order) (v w : Voice) →
    CanBePlayed song → Agrees maps song other → IsPlayedOrder song order → PlaysFor maps order beyond →
    VoiceRulesKeepSafe song order → VoicesAreAlike maps song order v w →
    VoicesAreAlike maps song order (fetch_row (look_ups_of song) order v) (fetch_row other beyond w)
unfolding fetch_row
fetch_alike maps song other order beyond v w play a o plays rules q =
    let look = look_ups_of song in
    let step = played order v.plays in
    let rows = pattern_at song step.pattern in
    let others = other.rows (maps.pattern step.pattern) in
    let row = pattern_row rows v.row in
    let for_pattern = a.patterns step.pattern (play_used song order v.plays play o) in
    let meets = fetch_for maps song other order v w play a o q in
    let last = named_above 0 rows v.row in
    let param = (pattern_row others v.row).param in
    voice_for maps song order (fetch_row look order v) (fetch_row other beyond w) param (rules.fetch v q.safe)
    (subst (HeldAlike maps song order param) (sym (fetched_holds look (length rows) row step.transpose v))
    (held_then maps song order v param play o q.safe.row q.named meets.row_for.param))
    (ap (fetch_row other beyond) q.moved
    ∙ ap (λ (s : Step). fetched other s (moved_voice maps w.new_param v)) (plays v.plays)
    ∙ fetch_moved maps look other last w.new_param rows others step.transpose v
    (same_length maps 0 rows others for_pattern.each) meets)
