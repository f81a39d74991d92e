-- Fetching a row that has no note and no command leaves a voice mute.
use Rattle.std.specs.Prelude.{ℤ, nat_le, ◌==◌}
use Rattle.std.proofs.Common.{◌≡◌, ℕ, ◌+◌, ◌<◌, true, List, Contains, length, refl, inl, inr, arith}
use Rattle.std.proofs.lemmas.Bool.{cond_both, cases_eq, cases_lt, and_parts, leb-true}
use Rattle.std.proofs.lemmas.List.{get_or_past}
use Rattle.std.proofs.lemmas.Option.{unwrap_or-slice_get}
use Rattle.std.proofs.lemmas.List.Elements.{Contains-get_or}
use Rattle.song_model.specs.declared.rows.Row.{Row}
use Rattle.song_model.specs.declared.orders.Order.{Order}
use Rattle.song_model.specs.declared.songs.Song.{Song}
use Rattle.song_model.specs.LookUp.{zero_row, pattern_row, pattern_at, order_of, playable_subtune, playable_subtunes}
use Rattle.song_model.specs.LookUp.{void_subtune}
use Rattle.song_model.specs.Walk.{played}
use Rattle.song_model.specs.WalkLaws.{PlaysAPattern}
use Rattle.song_model.proofs.Laws.{plays_are_patterns_lem}
use Rattle.play_model.specs.LookUps.{LookUps, look_ups_of}
use Rattle.play_model.specs.Wrap.{byte_plus}
use Rattle.play_model.specs.State.{Voice, Playing}
use Rattle.play_model.specs.FetchRow.{row_taken, gate_keyed, is_note, row_moved, row_done, fetch_row}
use Rattle.play_model.specs.Frame.{is_at_fetch, row_fetched, subtune_at}
use Rattle.play_model.specs.Used.{IsChannel}
use Rattle.play_model.specs.Playable.{IsPlayable}
use Rattle.play_model.proofs.Laws.{whole_lem}
use Rattle.song_facts.specs.Facts.{IsHeard}
use Rattle.silent_voices.specs.Mute.{IsMute, IsSilentChannel}

-- ---- the rows of a channel with nothing to play

subtune_there : (song : Song) (k : ℕ) → k < length (playable_subtunes song) →
    Contains (playable_subtunes song) (subtune_at song k)
unfolding playable_subtune
subtune_there song k h =
    rw (unwrap_or-slice_get (playable_subtunes song) k void_subtune)
    (Contains-get_or (playable_subtunes song) k void_subtune h)

zero_unheard : ¬ IsHeard zero_row
zero_unheard (inl note) = (let low = note.0 in omega (arith, low))
zero_unheard (inr command) = command refl

-- what an orderlist plays: no row has a note or a command
abbrev pub PlaysUnheard : LookUps → Order → Type 0
PlaysUnheard look order = (i n : ℕ) → ¬ IsHeard (pattern_row (look.rows (played order i).pattern) n)

pub plays_unheard : (song : Song) (k channel : ℕ) → IsPlayable song → k < length (playable_subtunes song) →
    IsChannel channel → IsSilentChannel song channel →
    PlaysUnheard (look_ups_of song) (order_of channel (subtune_at song k))
plays_unheard song k channel playable h is silent i n = elim (cases_lt n (length rows)) [
  | inl inside ↦ λ heard. silent (record {
    subtune = subtune_at song k;
    playable = there;
    pattern = (played order i).pattern;
    entry = names.entry;
    is_pattern = names.pattern;
    row = pattern_row rows n;
    has = Contains-get_or rows n zero_row inside;
    is_such = heard;
  })
  | inr past ↦ rw (get_or_past rows n zero_row past) zero_unheard
]
  where
    order : Order
    order = order_of channel (subtune_at song k)

    rows : List Row
    rows = pattern_at song (played order i).pattern

    there : Contains (playable_subtunes song) (subtune_at song k)
    there = subtune_there song k h

    names : PlaysAPattern order (played order i)
    names =
        plays_are_patterns_lem order i
        ((whole_lem song playable).order order (record {
          subtune = subtune_at song k;
          playable = there;
          channel = channel;
          is_channel = is;
          order_is = refl;
        }))

-- ---- fetching

no_command : (row : Row) → ¬ IsHeard row → row.command ≡ 0
no_command row unheard = elim (cases_eq row.command 0) [ inl none ↦ none | inr some ↦ absurd (unheard (inr some)) ]

heard_note : (row : Row) → is_note row.note ≡ true → IsHeard row
heard_note row plays =
    let parts = and_parts (nat_le 0x60 row.note) (nat_le row.note 0xBC) plays in
    inl (leb-true 0x60 row.note parts.0, leb-true row.note 0xBC parts.1)

taken_mute : (row : Row) (v : Voice) → row.command ≡ 0 → IsMute v → IsMute (row_taken row v)
taken_mute row v none q = assumption (none, q)

gate_mute : (v : Voice) (gate : ℕ) → IsMute v → IsMute (record v { gate = gate })
gate_mute v gate q = assumption q

keyed_mute : (note : ℕ) (v : Voice) → IsMute v → IsMute (gate_keyed note v)
keyed_mute note v q =
    cond_both (note == 0xBE) _ _ IsMute (λ h. gate_mute v 0xFE q)
    (λ h. cond_both (note == 0xBF) _ v IsMute (λ h. gate_mute v 0xFF q) (λ h. q))

done_mute : (look : LookUps) (row : Row) (transpose : ℤ) (v : Voice) → ¬ IsHeard row → IsMute v →
    IsMute (row_done look row transpose v)
done_mute look row transpose v unheard q =
    cond_both (is_note row.note) _ (gate_keyed row.note (row_taken row v)) IsMute
    (λ plays. absurd (unheard (heard_note row plays)))
    (λ rests. keyed_mute row.note (row_taken row v) (taken_mute row v (no_command row unheard) q))

place_mute : (v : Voice) (row plays : ℕ) → IsMute v → IsMute (record v { row = row; plays = plays })
place_mute v row plays q = assumption q

moved_mute : (rows : ℕ) (v : Voice) → IsMute v → IsMute (row_moved rows v)
moved_mute rows v q =
    cond_both (byte_plus v.row 1 == rows) _ _ IsMute (λ h. place_mute v 0 (v.plays + 1) q)
    (λ h. place_mute v (byte_plus v.row 1) v.plays q)

fetch_mute : (look : LookUps) (order : Order) (v : Voice) → PlaysUnheard look order → IsMute v →
    IsMute (fetch_row look order v)
unfolding fetch_row
fetch_mute look order v unheard q =
    let play = played order v.plays in
    let rows = look.rows play.pattern in
    moved_mute (length rows) (row_done look (pattern_row rows v.row) play.transpose v)
    (done_mute look (pattern_row rows v.row) play.transpose v (unheard v.plays v.row) q)

pub fetched_mute : (look : LookUps) (order : Order) (s : Playing) → PlaysUnheard look order → IsMute s.voice →
    IsMute (row_fetched look order s).voice
fetched_mute look order s unheard q =
    cond_both (is_at_fetch s.voice) (record s { voice = fetch_row look order s.voice }) s
    (λ (left : Playing). IsMute left.voice) (λ h. fetch_mute look order s.voice unheard q) (λ h. q)

pub fetched_common : (look : LookUps) (order : Order) (s : Playing) → (row_fetched look order s).common ≡ s.common
fetched_common look order s =
    cond_both (is_at_fetch s.voice) (record s { voice = fetch_row look order s.voice }) s
    (λ (left : Playing). left.common ≡ s.common) (λ h. refl) (λ h. refl)
