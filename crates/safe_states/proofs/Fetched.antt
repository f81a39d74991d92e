-- Fetching a row keeps a voice safe: the row is one of a used pattern, and the next one is there.
use Rattle.std.specs.Prelude.{ℤ, pos, negsuc, ◌+ℤ◌, ◌*◌, unsigned_abs, bit_and, not, ◌==◌, ◌||◌}
use Rattle.std.proofs.Common.{◌≡◌, ◌≢◌, ℕ, suc, ◌+◌, ◌-◌, ◌%◌, ◌<◌, ◌≤◌, Bool, true, false, cond, [], length}
use Rattle.std.proofs.Common.{refl, ap, inr, arith}
use Rattle.std.specs.List.{Contains}
use Rattle.std.proofs.lemmas.Bool.{cond_both, eqb-false, leb-true, and_parts}
use Rattle.std.proofs.lemmas.Int.{ints, int_rem_euclid_is}
use Rattle.std.proofs.lemmas.Option.{unwrap_or-slice_get}
use Rattle.std.proofs.lemmas.List.Elements.{All-get_or, Contains-get_or, All-contains, All-filter}
use Rattle.song_model.specs.declared.rows.Row.{Row}
use Rattle.song_model.specs.declared.orders.Order.{Order}
use Rattle.song_model.specs.declared.songs.Song.{Song}
use Rattle.song_model.specs.PatternLimits.{IsPatternLength, IsPattern}
use Rattle.song_model.specs.Limits.{IsOrder, IsSubtune, KeepsLimits}
use Rattle.song_model.specs.LookUp.{zero_row, pattern_row, pattern_at, order_of, playable_subtune, playable_subtunes}
use Rattle.song_model.specs.LookUp.{void_subtune, is_playable_subtune}
use Rattle.song_model.specs.Walk.{played}
use Rattle.song_model.specs.WalkLaws.{IsTranspose}
use Rattle.song_model.proofs.Laws.{plays_are_patterns_lem, transposes_in_range_lem}
use Rattle.play_model.specs.LookUps.{LookUps, look_ups_of}
use Rattle.play_model.specs.Wrap.{byte_plus}
use Rattle.play_model.specs.State.{Voice}
use Rattle.play_model.specs.FetchRow.{row_taken, gate_keyed, is_note, transposed, gate_shut, note_waits, row_moved}
use Rattle.play_model.specs.FetchRow.{row_done, fetch_row}
use Rattle.play_model.specs.Frame.{subtune_at}
use Rattle.play_model.specs.Used.{IsChannel, IsPlayedOrder, IsUsedPattern, IsUsedRow, IsUsedInstrument}
use Rattle.play_model.specs.Safe.{IsSafeNewNote, IsSafeVoice, of_row}
use Rattle.play_model.proofs.Laws.{whole_lem}
use Rattle.safe_states.proofs.Pointers.{CanBePlayed}

-- ---- the orderlists of a subtune that can be played

stands : (song : Song) (k : ℕ) → k < length (playable_subtunes song) →
    Contains (playable_subtunes song) (subtune_at song k)
unfolding playable_subtune
stands song k h =
    rw (unwrap_or-slice_get (playable_subtunes song) k void_subtune)
    (Contains-get_or (playable_subtunes song) k void_subtune h)

pub is_played : (song : Song) (k channel : ℕ) → k < length (playable_subtunes song) → IsChannel channel →
    IsPlayedOrder song (order_of channel (subtune_at song k))
is_played song k channel h is = record {
  subtune = subtune_at song k;
  playable = stands song k h;
  channel = channel;
  is_channel = is;
  order_is = refl;
}

-- ---- the pattern of a play

play_used : (song : Song) (order : Order) (i : ℕ) → CanBePlayed song → IsPlayedOrder song order →
    IsUsedPattern song (played order i).pattern
play_used song order i play o =
    let plays = plays_are_patterns_lem order i ((whole_lem song play.playable).order order o) in
    record { byte = record { order = order; played = o; entry = plays.entry }; is_pattern = plays.pattern }

stored_length : (song : Song) (n : ℕ) → KeepsLimits song → n < length song.patterns →
    IsPatternLength (length (pattern_at song n))
unfolding pattern_at
stored_length song n limits stored = (All-get_or IsPattern song.patterns n [] stored limits.patterns.each).count

pub play_length : (song : Song) (order : Order) (i : ℕ) → CanBePlayed song → IsPlayedOrder song order →
    IsPatternLength (length (pattern_at song (played order i).pattern))
play_length song order i play o =
    stored_length song (played order i).pattern play.limits
    ((whole_lem song play.playable).pattern (played order i).pattern (play_used song order i play o))

-- the entries of an orderlist that is played are entries
played_limits : (song : Song) (order : Order) → KeepsLimits song → IsPlayedOrder song order → IsOrder order
played_limits song order limits o =
    let subtune = All-contains IsSubtune (playable_subtunes song) o.subtune
    (All-filter is_playable_subtune IsSubtune song.subtunes limits.subtunes.each) o.playable in
    rw o.order_is (by_channel (o.channel == 1) (o.channel == 2) subtune)
  where
    by_channel : (first second : Bool) → IsSubtune o.subtune →
        IsOrder (cond first o.subtune.one (cond second o.subtune.two o.subtune.three))
    by_channel true second limits = limits.one
    by_channel false true limits = limits.two
    by_channel false false limits = limits.three

play_transpose : (song : Song) (order : Order) (i : ℕ) → CanBePlayed song → IsPlayedOrder song order →
    IsTranspose (played order i).transpose
play_transpose song order i play o =
    transposes_in_range_lem order i (played_limits song order play.limits o).entries.each

play_row : (song : Song) (order : Order) (v : Voice) → CanBePlayed song → IsPlayedOrder song order →
    v.row < length (pattern_at song (played order v.plays).pattern) →
    IsUsedRow song (pattern_row (pattern_at song (played order v.plays).pattern) v.row)
play_row song order v play o inside = record {
  pattern = (played order v.plays).pattern;
  used = play_used song order v.plays play o;
  has = Contains-get_or (pattern_at song (played order v.plays).pattern) v.row zero_row inside;
}

-- ---- what the row leaves

-- a voice that is safe, in the same play as before
record InPlay (song : Song) (order : Order) (plays : ℕ) (v : Voice) : Type 0 where
  safe : IsSafeVoice song order v
  same : v.plays ≡ plays

taken_keeps : (song : Song) (order : Order) (row : Row) (v : Voice) → IsUsedRow song row → IsSafeVoice song order v →
    IsSafeVoice song order (row_taken row v)
taken_keeps song order row v used q = record {
  instrument =
      cond_both (row.instrument == 0) v.instrument row.instrument (IsUsedInstrument song) (λ h. q.instrument)
      (λ h. inr (record { row = row; used = used; names = refl; some = eqb-false row.instrument 0 h }));
  note = q.note;
  new_note = q.new_note;
  wave = q.wave;
  wave_time = q.wave_time;
  pulse = q.pulse;
  pulse_time = q.pulse_time;
  waiting = of_row (record { row = row; used = used; command_is = refl; param_is = refl });
  running = q.running;
  delay = q.delay;
  row = q.row;
}

envelope_keeps : (song : Song) (order : Order) (plays : ℕ) (v : Voice) (gate ad sr : ℕ) →
    InPlay song order plays v → InPlay song order plays (record v { gate = gate; ad = ad; sr = sr })
envelope_keeps song order plays v gate ad sr p = assumption p

note_waits_safe : (song : Song) (order : Order) (plays : ℕ) (v : Voice) (note : ℕ) → IsSafeNewNote note →
    InPlay song order plays v → InPlay song order plays (record v { new_note = note })
note_waits_safe song order plays v note h p = assumption (h, p)

-- a row's note, with a transpose
note_within : (note : ℕ) (transpose : ℤ) → is_note note ≡ true → IsTranspose transpose →
    IsSafeNewNote (transposed note transpose)
note_within note (pos up) is range =
    let least = leb-true 0x60 note (and_parts _ _ is).0 in
    let most = leb-true note 0xBC (and_parts _ _ is).1 in
    let few : up ≤ 14 = (let h = range.most in omega (arith, ints, h)) in
    inr (omega (arith, least, most, few), omega (arith, least, most, few))
note_within note (negsuc down) is range =
    let least = leb-true 0x60 note (and_parts _ _ is).0 in
    let most = leb-true note 0xBC (and_parts _ _ is).1 in
    let few : down ≤ 15 = (let h = range.least in omega (arith, ints, h)) in
    let sum : (pos note +ℤ negsuc down) +ℤ pos (1 * 256) ≡ pos (note + (256 - suc down)) = omega (arith, ints) in
    let same : transposed note (negsuc down) ≡ (note + (256 - suc down)) % 256 =
    ap unsigned_abs
    (int_rem_euclid_is (pos note +ℤ negsuc down) (pos 256) 256 1 (note + (256 - suc down)) (omega arith) refl sum) in
    rw same (inr (omega (arith, least, most, few), omega (arith, least, most, few)))

keyed_keeps : (song : Song) (order : Order) (plays note : ℕ) (v : Voice) → InPlay song order plays v →
    InPlay song order plays (gate_keyed note v)
keyed_keeps song order plays note v p =
    cond_both (note == 0xBE) _ _ (InPlay song order plays)
    (λ h. envelope_keeps song order plays v 0xFE v.ad v.sr p)
    (λ h. cond_both (note == 0xBF) _ v (InPlay song order plays)
    (λ h. envelope_keeps song order plays v 0xFF v.ad v.sr p) (λ h. p))

shut_keeps : (song : Song) (order : Order) (plays timer : ℕ) (v : Voice) → InPlay song order plays v →
    InPlay song order plays (gate_shut timer v)
shut_keeps song order plays timer v p =
    cond_both ((v.new_command == 3) || not (bit_and timer 0x40 == 0)) v _ (InPlay song order plays) (λ h. p)
    (λ h. cond_both (bit_and timer 0x80 == 0) _ _ (InPlay song order plays)
    (λ h. envelope_keeps song order plays v 0xFE 0x0F 0 p)
    (λ h. envelope_keeps song order plays v 0xFE v.ad v.sr p))

waits_keeps : (song : Song) (order : Order) (plays : ℕ) (look : LookUps) (note : ℕ) (transpose : ℤ) (v : Voice) →
    IsTranspose transpose → InPlay song order plays v → InPlay song order plays (note_waits look note transpose v)
waits_keeps song order plays look note transpose v range p =
    cond_both (is_note note) _ v (InPlay song order plays)
    (λ h. shut_keeps song order plays (look.instrument v.instrument).gate_timer
    (record v { new_note = transposed note transpose })
    (note_waits_safe song order plays v (transposed note transpose) (note_within note transpose h range) p))
    (λ h. p)

row_done_keeps : (song : Song) (order : Order) (look : LookUps) (row : Row) (transpose : ℤ) (v : Voice) →
    IsUsedRow song row → IsTranspose transpose → IsSafeVoice song order v →
    InPlay song order v.plays (row_done look row transpose v)
row_done_keeps song order look row transpose v used range q =
    waits_keeps song order v.plays look row.note transpose (gate_keyed row.note (row_taken row v)) range
    (keyed_keeps song order v.plays row.note (row_taken row v)
    (record { safe = taken_keeps song order row v used q; same = refl }))

-- ---- the next row

at_row : (song : Song) (order : Order) (v : Voice) (row plays : ℕ) →
    row < length (pattern_at song (played order plays).pattern) → IsSafeVoice song order v →
    IsSafeVoice song order (record v { row = row; plays = plays })
at_row song order v row plays inside q = assumption (inside, q)

next_inside : (row rows : ℕ) → row < rows → rows ≤ 128 → byte_plus row 1 ≢ rows → byte_plus row 1 < rows
next_inside row rows inside most other = omega arith

moved_keeps : (song : Song) (order : Order) (rows : ℕ) (v : Voice) → CanBePlayed song → IsPlayedOrder song order →
    length (pattern_at song (played order v.plays).pattern) ≡ rows → IsSafeVoice song order v →
    IsSafeVoice song order (row_moved rows v)
moved_keeps song order rows v play o is q =
    cond_both (byte_plus v.row 1 == rows) _ _ (IsSafeVoice song order)
    (λ h. at_row song order v 0 (v.plays + 1) (play_length song order (v.plays + 1) play o).least q)
    (λ h. at_row song order v (byte_plus v.row 1) v.plays
    (next_inside v.row (length (pattern_at song (played order v.plays).pattern)) q.row
    (play_length song order v.plays play o).most (rw is (eqb-false (byte_plus v.row 1) rows h))) q)

pub fetch_keeps : (song : Song) (order : Order) (v : Voice) → CanBePlayed song → IsPlayedOrder song order →
    IsSafeVoice song order v → IsSafeVoice song order (fetch_row (look_ups_of song) order v)
unfolding fetch_row
fetch_keeps song order v play o q =
    let rows = pattern_at song (played order v.plays).pattern in
    let done =
    row_done_keeps song order (look_ups_of song) (pattern_row rows v.row) (played order v.plays).transpose v
    (play_row song order v play o q.row) (play_transpose song order v.plays play o) q in
    moved_keeps song order (length rows)
    (row_done (look_ups_of song) (pattern_row rows v.row) (played order v.plays).transpose v) play o
    (ap (λ (plays : ℕ). length (pattern_at song (played order plays).pattern)) done.same) done.safe
