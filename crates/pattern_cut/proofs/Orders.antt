-- The orderlists of a song whose patterns are cut.
use Rattle.std.proofs.Common.{◌≡◌, ℕ, zero, suc, ◌<◌, ◌≤◌, inl, inr, List, [], ◌∷◌, ◌++◌}
use Rattle.std.proofs.Common.{length, get_or, take, drop, Contains, refl, sym, ap, ◌∙◌, arith, subst}
use Rattle.std.specs.List.{flat_map, Any}
use Rattle.std.proofs.lemmas.Bool.{cases_lt}
use Rattle.std.proofs.lemmas.Grind.{flat_map-append}
use Rattle.std.proofs.lemmas.List.{length-append, take-append-drop}
use Rattle.std.proofs.lemmas.List.Elements.{All-get_or, All-contains, Contains-get_or, Contains-append_right}
use Rattle.song_model.specs.declared.rows.Row.{Row}
use Rattle.song_model.specs.declared.orders.Order.{Order}
use Rattle.song_model.specs.declared.orders.Subtune.{Subtune}
use Rattle.song_model.specs.declared.songs.Song.{Song}
use Rattle.song_model.specs.declared.patterns.TheConstants.{MOST_PATTERNS}
use Rattle.song_model.specs.Endless.{IsPatternByte, IsEndless}
use Rattle.song_model.specs.Limits.{KeepsLimits}
use Rattle.song_model.specs.PatternLimits.{IsPattern}
use Rattle.song_model.specs.Walk.{played}
use Rattle.song_model.specs.LookUp.{pattern_at, order_of, playable_subtunes}
use Rattle.song_model.proofs.Laws.{plays_are_patterns_lem}
use Rattle.play_model.specs.LookUps.{look_ups_of}
use Rattle.play_model.specs.Used.{IsChannel, IsPlayedOrder}
use Rattle.play_model.specs.Playable.{IsPlayable}
use Rattle.play_model.proofs.Laws.{whole_lem}
use Rattle.same_frames.specs.SameRows.{HasPatternLengths, PlaysSameRows}
use Rattle.same_frames.proofs.Laws.{is_low, is_high, row_lists_lem}
use Rattle.pattern_cut.specs.Cuts.{in_pieces, cut_order, ArePieces, IsCutFor}
use Rattle.pattern_cut.specs.Pieces.{orders_of, played_orders}
use Rattle.pattern_cut.specs.CutSongs.{Ways, pieces_of, all_pieces, piece_numbers, cut_with}
use Rattle.pattern_cut.proofs.Lists.{within, comes_from, each_item, only}
use Rattle.pattern_cut.proofs.Numbers.{named_there, pieces_are, are_pieces, place_of}
use Rattle.pattern_cut.proofs.Numbers.{number_of_piece, piece_of_number}
use Rattle.pattern_cut.proofs.Repeats.{stays_whole}
use Rattle.pattern_cut.proofs.Cuts.{restarted, cut_orders_lem}

-- ---- orderlists that are played

channel_there : (subtune : Subtune) (channel : ℕ) → IsChannel channel → Contains (orders_of subtune) (order_of channel subtune)
channel_there subtune zero is = let first = is.first in absurd (omega (arith, first))
channel_there subtune (suc zero) is = (0, omega arith, refl)
channel_there subtune (suc (suc zero)) is = (1, omega arith, refl)
channel_there subtune (suc (suc (suc zero))) is = (2, omega arith, refl)
channel_there subtune (suc (suc (suc (suc n)))) is = let last = is.last in absurd (omega (arith, last))

pub played_there : (song : Song) (subtune : Subtune) (channel : ℕ) → Contains (playable_subtunes song) subtune →
    IsChannel channel → Contains (played_orders song) (order_of channel subtune)
played_there song subtune channel playable is =
    within orders_of (playable_subtunes song) subtune (order_of channel subtune) playable (channel_there subtune channel is)

channel_of : (subtune : Subtune) (order : Order) → Contains (orders_of subtune) order →
    (channel : ℕ) × (IsChannel channel) × (order ≡ order_of channel subtune)
channel_of subtune order (zero, inside, is) = (1, record { first = omega arith; last = omega arith }, sym is)
channel_of subtune order (suc zero, inside, is) = (2, record { first = omega arith; last = omega arith }, sym is)
channel_of subtune order (suc (suc zero), inside, is) = (3, record { first = omega arith; last = omega arith }, sym is)
channel_of subtune order (suc (suc (suc k)), inside, is) = absurd (omega arith)

pub is_played : (song : Song) (order : Order) → Contains (played_orders song) order → IsPlayedOrder song order
is_played song order has =
    let from = comes_from orders_of (playable_subtunes song) order has in
    let channel = channel_of from.item order from.has in
    record {
      subtune = from.item;
      playable = from.there;
      channel = channel.0;
      is_channel = channel.1;
      order_is = channel.2;
    }

endless : (song : Song) → IsPlayable song → (order : Order) → Contains (played_orders song) order → IsEndless order
endless song playable order played = (whole_lem song playable).order order (is_played song order played)

-- a pattern that is played
pub record IsPlayedIn (song : Song) (order : Order) (n : ℕ) : Type 0 where
  pub played : Contains (played_orders song) order
  pub entry : Contains order.entries n
  pub low : IsPatternByte n

pub stored : (song : Song) → KeepsLimits song → IsPlayable song → (order : Order) (n : ℕ) → IsPlayedIn song order n →
    IsPattern (pattern_at song n)
unfolding pattern_at
stored song limits playable order n is =
    All-get_or IsPattern song.patterns n []
    ((whole_lem song playable).pattern n
    (record { byte = record { order = order; played = is_played song order is.played; entry = is.entry }; is_pattern = is.low }))
    limits.patterns.each

-- the pattern of a play
abbrev played_step : Order → ℕ → ℕ
played_step order i = (played order i).pattern

-- a song that can be played, whose pieces are few enough
pub record Cut (song : Song) (ways : Ways) : Type 0 where
  pub limits : KeepsLimits song
  pub playable : IsPlayable song
  pub few : length (all_pieces song ways) ≤ MOST_PATTERNS

module _ (song : Song) (ways : Ways) (c : Cut song ways) where
  abbrev numbers : ℕ → List ℕ
  numbers = piece_numbers song ways

  abbrev cut : Song
  cut = cut_with song ways

  abbrev bytes_of : Order → List ℕ
  bytes_of order = flat_map (in_pieces numbers) order.entries

  -- ---- patterns

  pub are_pieces_there : (order : Order) (n : ℕ) → Contains (played_orders song) order → Contains order.entries n →
      IsPatternByte n → ArePieces (look_ups_of song) (look_ups_of cut) n (numbers n)
  are_pieces_there order n played has low =
      are_pieces song ways n (named_there song order n played has low)
      (stored song c.limits c.playable order n (record { played = played; entry = has; low = low })) c.few

  is_cut : (order : Order) → Contains (played_orders song) order →
      IsCutFor (look_ups_of song) (look_ups_of cut) numbers order
  is_cut order played =
      let whole = stays_whole song ways order played in
      record {
        pieces_of = each_item
            (λ byte. IsPatternByte byte → ArePieces (look_ups_of song) (look_ups_of cut) byte (numbers byte)) order.entries
            (λ byte has low. are_pieces_there order byte played has low);
        prefix = whole.prefix;
        cycle = whole.cycle;
      }

  -- ---- entries

  pub alone : (byte : ℕ) → 0xD0 ≤ byte → in_pieces numbers byte ≡ byte ∷ []
  alone byte high = rw (is_high byte high) refl

  pub several : (byte : ℕ) → IsPatternByte byte → in_pieces numbers byte ≡ numbers byte
  several byte low = rw (is_low byte low) refl

  -- a pattern of the other song is a piece of one of the song's
  pub record IsPieceOf (order : Order) (m : ℕ) : Type 0 where
    pub pattern : ℕ
    pub entry : Contains order.entries pattern
    pub is_pattern : IsPatternByte pattern
    pub piece : Contains (pieces_of song ways pattern) (pattern_at cut m)

  pub piece_from : (order : Order) (m : ℕ) → Contains (played_orders song) order → Contains (bytes_of order) m →
      IsPatternByte m → IsPieceOf order m
  piece_from order m played has low =
      let from = comes_from (in_pieces numbers) order.entries m has in
      elim (cases_lt from.item 0xD0) [
        | inl below ↦ record {
          pattern = from.item;
          entry = from.there;
          is_pattern = below;
          piece = piece_of_number song ways from.item m (named_there song order from.item played from.there below)
              (subst (λ xs. Contains xs m) (several from.item below) from.has);
        }
        | inr high ↦
            let is = only from.item m (subst (λ xs. Contains xs m) (alone from.item high) from.has) in
            absurd (omega (arith, is))
      ]

  -- and each piece of a pattern that is played has a number there
  pub number_there : (order : Order) (n : ℕ) (rows : List Row) → Contains order.entries n → IsPatternByte n →
      Contains (pieces_of song ways n) rows → Contains (bytes_of order) (place_of song ways rows)
  number_there order n rows has low piece =
      within (in_pieces numbers) order.entries n (place_of song ways rows) has
      (subst (λ xs. Contains xs (place_of song ways rows)) (sym (several n low)) (number_of_piece song ways n rows piece))

  -- repeats and transposes stay
  pub high_stays : (order : Order) (byte : ℕ) → 0xD0 ≤ byte → Contains order.entries byte → Contains (bytes_of order) byte
  high_stays order byte high has =
      within (in_pieces numbers) order.entries byte byte has
      (subst (λ xs. Contains xs byte) (sym (alone byte high)) (0, omega arith, refl))

  pub high_from : (order : Order) (byte : ℕ) → Contains (played_orders song) order → 0xD0 ≤ byte →
      Contains (bytes_of order) byte → Contains order.entries byte
  high_from order byte played high has =
      let from = comes_from (in_pieces numbers) order.entries byte has in
      elim (cases_lt from.item 0xD0) [
        | inl below ↦
            let pieces = are_pieces_there order from.item played from.there below in
            let small = All-contains IsPatternByte (numbers from.item) byte pieces.numbers
            (subst (λ xs. Contains xs byte) (several from.item below) from.has) in
            absurd (omega (arith, small))
        | inr above ↦
            subst (λ b. Contains order.entries b)
            (only from.item byte (subst (λ xs. Contains xs byte) (alone from.item above) from.has)) from.there
      ]

  -- ---- plays

  some_before : (xs ys : List ℕ) → 0 < length ys → length xs < length (xs ++ ys)
  some_before xs ys some = let count = length-append xs ys in omega (arith, count)

  not_empty : (xs : List ℕ) (x : ℕ) → Contains xs x → 0 < length xs
  not_empty xs x (k, inside, is) = omega (arith, inside)

  -- what stands from the restart position on has a piece
  pieces_behind : (order : Order) → Contains (played_orders song) order → Any IsPatternByte (drop order.restart order.entries) →
      (m : ℕ) × Contains (flat_map (in_pieces numbers) (drop order.restart order.entries)) m × IsPatternByte m
  pieces_behind order played (k, n, inside, is, low) =
      let rest = drop order.restart order.entries in
      let has = subst (λ xs. Contains xs n) (take-append-drop order.restart order.entries)
      (Contains-append_right (take order.restart order.entries) rest n (k, inside, is)) in
      let pieces = are_pieces_there order n played has low in
      let m = get_or (numbers n) 0 0 in
      let there : Contains (numbers n) m = Contains-get_or (numbers n) 0 0 pieces.some in (
        m,
        within (in_pieces numbers) rest n m (k, inside, is) (subst (λ xs. Contains xs m) (sym (several n low)) there),
        All-contains IsPatternByte (numbers n) m pieces.numbers there,
      )

  pub cut_endless : (order : Order) → Contains (played_orders song) order → IsEndless (cut_order numbers order)
  cut_endless order played =
      let first = take order.restart order.entries in
      let rest = drop order.restart order.entries in
      let behind = pieces_behind order played (endless song c.playable order played).pattern in
      let both = sym (flat_map-append (in_pieces numbers) first rest)
      ∙ ap (flat_map (in_pieces numbers)) (take-append-drop order.restart order.entries) in
      record {
        restart = subst (λ xs. length (flat_map (in_pieces numbers) first) < length xs) both
            (some_before (flat_map (in_pieces numbers) first) (flat_map (in_pieces numbers) rest)
            (not_empty (flat_map (in_pieces numbers) rest) behind.0 behind.1));
        pattern = subst (Any IsPatternByte) (sym (restarted (look_ups_of song) (look_ups_of cut) numbers order))
            (any_such (flat_map (in_pieces numbers) rest) behind.0 behind.1 behind.2);
      }
    where
      any_such : (xs : List ℕ) (m : ℕ) → Contains xs m → IsPatternByte m → Any IsPatternByte xs
      any_such xs m (k, inside, is) low = (k, m, inside, is, low)

  -- ---- rows

  lengths : (order : Order) → Contains (played_orders song) order → HasPatternLengths (look_ups_of song) order
  lengths order played i =
      let play = plays_are_patterns_lem order i (endless song c.playable order played) in
      (stored song c.limits c.playable order (played_step order i)
      (record { played = played; entry = play.entry; low = play.pattern })).count

  cut_lengths : (order : Order) → Contains (played_orders song) order →
      HasPatternLengths (look_ups_of cut) (cut_order numbers order)
  cut_lengths order played i =
      let m = played_step (cut_order numbers order) i in
      let play = plays_are_patterns_lem (cut_order numbers order) i (cut_endless order played) in
      let from = piece_from order m played play.entry play.pattern in
      (All-contains IsPattern (pieces_of song ways from.pattern) (pattern_at cut m)
      (pieces_are song ways from.pattern (stored song c.limits c.playable order from.pattern
      (record { played = played; entry = from.entry; low = from.is_pattern }))) from.piece).count

  pub same_rows_played : (order : Order) → Contains (played_orders song) order →
      PlaysSameRows (look_ups_of song) (look_ups_of cut) order (cut_order numbers order)
  same_rows_played order played =
      row_lists_lem (look_ups_of song) (look_ups_of cut) order (cut_order numbers order) (endless song c.playable order played)
      (cut_endless order played) (lengths order played) (cut_lengths order played)
      (cut_orders_lem (look_ups_of song) (look_ups_of cut) numbers order (is_cut order played))
