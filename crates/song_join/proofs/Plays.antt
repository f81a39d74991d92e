-- The joined song plays what both songs play.
use Rattle.std.proofs.Common.{◌≡◌, ℕ, ◌+◌, ◌<◌, true, List, [], ◌∷◌, ◌++◌, map, length}
use Rattle.std.proofs.Common.{get_or, All, refl, sym, ap, ◌∙◌, subst, arith}
use Rattle.std.specs.List.{filter}
use Rattle.std.proofs.lemmas.List.{length-map, get_or_append_left, get_or-append-add, get_or-map}
use Rattle.std.proofs.lemmas.List.Elements.{All-head, All-tail, filter-append, filter_passes}
use Rattle.std.proofs.lemmas.Option.{unwrap_or-slice_get}
use Rattle.song_model.specs.declared.orders.Subtune.{Subtune}
use Rattle.song_model.specs.declared.songs.Song.{Song}
use Rattle.song_model.specs.Endless.{IsPatternByte}
use Rattle.song_model.specs.LookUp.{order_of, void_subtune, is_playable_subtune, playable_subtunes, playable_subtune}
use Rattle.play_model.specs.declared.options.Options.{Options}
use Rattle.play_model.specs.Speeds.{IsSpeed}
use Rattle.play_model.specs.LookUps.{look_ups_of}
use Rattle.play_model.specs.Frame.{trace_with, subtune_at}
use Rattle.play_model.proofs.Laws.{whole_lem}
use Rattle.safe_states.proofs.Laws.{is_played}
use Rattle.same_frames.specs.Maps.{Maps, same_numbers}
use Rattle.same_frames.specs.Agreement.{SubtunePlaysFor}
use Rattle.same_frames.specs.FrameLaws.{trace_of}
use Rattle.same_frames.specs.OrderLaws.{moved_byte, moved_subtune, CanBeMoved}
use Rattle.same_frames.proofs.Laws.{frames_same_lem, traces_of_songs_lem, trace_from_start, moved_subtunes_lem}
use Rattle.same_frames.proofs.Laws.{first_instruments_lem}
use Rattle.song_join.specs.declared.faults.JoinPart.TheVariants.{Patterns}
use Rattle.song_join.specs.Numbers.{new_numbers}
use Rattle.song_join.specs.Joined.{joined}
use Rattle.song_join.specs.JoinLaws.{PlaysBoth, AreJoinable}
use Rattle.song_join.proofs.FirstPart.{first_agrees}
use Rattle.song_join.proofs.SecondPart.{second_agrees}
use Rattle.song_join.proofs.SecondBegins.{may_begin}

-- ---- subtunes

moved_plays : (maps : Maps) (subtune : Subtune) →
    is_playable_subtune (moved_subtune maps subtune) ≡ is_playable_subtune subtune
moved_plays maps subtune =
    let one = length-map subtune.one.entries (moved_byte maps) in
    let two = length-map subtune.two.entries (moved_byte maps) in
    let three = length-map subtune.three.entries (moved_byte maps) in
    rw (one, two, three) refl

all_kept : (maps : Maps) (subtunes : List Subtune) → All (λ x. is_playable_subtune x ≡ true) subtunes →
    filter is_playable_subtune (map (moved_subtune maps) subtunes) ≡ map (moved_subtune maps) subtunes
all_kept maps [] all = refl
all_kept maps (x ∷ subtunes) all =
    let pass : is_playable_subtune (moved_subtune maps x) ≡ true =
    moved_plays maps x ∙ All-head (λ y. is_playable_subtune y ≡ true) x subtunes all in
    rw pass
    (ap (λ (rest : List Subtune). moved_subtune maps x ∷ rest)
    (all_kept maps subtunes (All-tail (λ y. is_playable_subtune y ≡ true) x subtunes all)))

pub both_playable : (first second : Song) →
    playable_subtunes (joined first second)
    ≡ playable_subtunes first ++ map (moved_subtune (new_numbers first second)) (playable_subtunes second)
unfolding joined
both_playable first second =
    filter-append is_playable_subtune first.subtunes
    (map (moved_subtune (new_numbers first second)) (playable_subtunes second))
    ∙ ap (λ (rest : List Subtune). playable_subtunes first ++ rest)
    (all_kept (new_numbers first second) (playable_subtunes second)
    (filter_passes is_playable_subtune second.subtunes))

subtune_is : (song : Song) (k : ℕ) → subtune_at song k ≡ get_or (playable_subtunes song) k void_subtune
unfolding playable_subtune
subtune_is song k = unwrap_or-slice_get (playable_subtunes song) k void_subtune

first_subtune : (first second : Song) (k : ℕ) → k < length (playable_subtunes first) →
    subtune_at (joined first second) k ≡ subtune_at first k
first_subtune first second k low =
    subtune_is (joined first second) k
    ∙ ap (λ (all : List Subtune). get_or all k void_subtune) (both_playable first second)
    ∙ get_or_append_left (playable_subtunes first) _ void_subtune k low
    ∙ sym (subtune_is first k)

second_subtune : (first second : Song) (k : ℕ) → k < length (playable_subtunes second) →
    subtune_at (joined first second) (length (playable_subtunes first) + k)
    ≡ moved_subtune (new_numbers first second) (subtune_at second k)
second_subtune first second k low =
    let move = moved_subtune (new_numbers first second) in
    subtune_is (joined first second) (length (playable_subtunes first) + k)
    ∙ ap (λ (all : List Subtune). get_or all (length (playable_subtunes first) + k) void_subtune)
    (both_playable first second)
    ∙ get_or-append-add (playable_subtunes first) (map move (playable_subtunes second)) k void_subtune
    ∙ get_or-map move (playable_subtunes second) k void_subtune void_subtune low
    ∙ ap move (sym (subtune_is second k))

module _ (first second : Song) (j : AreJoinable first second) where
  -- ---- the first song

  first_plays_for : (k : ℕ) → k < length (playable_subtunes first) →
      SubtunePlaysFor same_numbers (subtune_at first k) (subtune_at (joined first second) k)
  first_plays_for k low =
      subst (SubtunePlaysFor same_numbers (subtune_at first k)) (sym (first_subtune first second k low))
      (λ channel c i. refl)

  first_trace : (o : Options) (k i : ℕ) → IsSpeed o.speed → k < length (playable_subtunes first) →
      trace_with o (joined first second) k i ≡ trace_with o first k i
  first_trace o k i speed low =
      sym (traces_of_songs_lem o (joined first second) k i)
      ∙ (frames_same_lem o same_numbers first k (look_ups_of (joined first second)) (subtune_at (joined first second) k)
      speed j.first_limits j.first_plays low (first_agrees first second j) (first_plays_for k low)).trace refl i

  -- ---- the second song

  keeps_bytes : (n : ℕ) → n < length second.patterns → IsPatternByte ((new_numbers first second).pattern n)
  unfolding new_numbers
  keeps_bytes n low = let few = j.can.within.part Patterns in omega arith

  can_be_moved : (k : ℕ) → k < length (playable_subtunes second) →
      CanBeMoved (new_numbers first second) (subtune_at second k)
  can_be_moved k low = record {
    endless = λ channel c. (whole_lem second j.second_plays).order (order_of channel (subtune_at second k))
        (is_played second k channel low c);
    keeps = λ channel c byte has named.
        keeps_bytes byte
        ((whole_lem second j.second_plays).pattern byte (record {
          byte = record {
            order = order_of channel (subtune_at second k);
            played = is_played second k channel low c;
            entry = has;
          };
          is_pattern = named;
        }));
  }

  moved_plays_for : (k : ℕ) → k < length (playable_subtunes second) →
      SubtunePlaysFor (new_numbers first second) (subtune_at second k)
      (moved_subtune (new_numbers first second) (subtune_at second k))
  moved_plays_for k low =
      (moved_subtunes_lem (new_numbers first second) (subtune_at second k) (can_be_moved k low)).plays

  second_trace : (o : Options) (k i : ℕ) → IsSpeed o.speed → k < length (playable_subtunes second) →
      trace_with o (joined first second) (length (playable_subtunes first) + k) i ≡ trace_with o second k i
  second_trace o k i speed low =
      let maps = new_numbers first second in
      let look = look_ups_of (joined first second) in
      let sub = moved_subtune maps (subtune_at second k) in
      sym (traces_of_songs_lem o (joined first second) (length (playable_subtunes first) + k) i)
      ∙ ap (λ (x : Subtune). trace_of o look x i) (second_subtune first second k low)
      ∙ sym (trace_from_start o look sub i)
      ∙ first_instruments_lem o look sub (maps.instrument 1) 1 i
      (may_begin first second j k low (moved_plays_for k low))
      ∙ (frames_same_lem o maps second k look sub speed j.second_limits j.second_plays low
      (second_agrees first second j) (moved_plays_for k low)).moved_trace i

  pub plays_both : PlaysBoth (joined first second) first second
  plays_both = record {
    subtunes = both_playable first second;
    first_song = first_trace;
    second_song = second_trace;
  }
