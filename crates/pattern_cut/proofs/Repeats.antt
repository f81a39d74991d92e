-- A pattern that an orderlist repeats stays whole.
use Rattle.std.proofs.Common.{◌≡◌, ℕ, ◌<◌, true, List, [], ◌∷◌, length, drop, Contains}
use Rattle.std.proofs.Common.{refl, arith}
use Rattle.std.specs.List.{flat_map}
use Rattle.std.proofs.lemmas.Bool.{lt-ltb}
use Rattle.std.proofs.lemmas.List.Elements.{Contains-append_left, Contains-append_right}
use Rattle.song_model.specs.declared.orders.Order.{Order}
use Rattle.song_model.specs.declared.songs.Song.{Song}
use Rattle.song_model.specs.Endless.{IsPatternByte}
use Rattle.song_model.specs.Walk.{repeat_after, end_repeat}
use Rattle.pattern_cut.specs.Cuts.{RepeatsWhole}
use Rattle.pattern_cut.specs.Pieces.{played_orders, repeated_in, repeated_of, is_repeated}
use Rattle.pattern_cut.specs.CutSongs.{Ways, pieces_of, piece_numbers}
use Rattle.pattern_cut.proofs.Lists.{within}
use Rattle.pattern_cut.proofs.Numbers.{is_in}

-- where each pattern that a walk repeats stands in one piece
repeats_whole : (pieces : ℕ → List ℕ) (bytes : List ℕ) (repeat : ℕ) →
    ((n : ℕ) → Contains (repeated_in bytes repeat) n → length (pieces n) ≡ 1) → RepeatsWhole pieces bytes repeat
repeats_whole pieces [] repeat one = tt
repeats_whole pieces (byte ∷ bytes) repeat one = (
  λ low some. one byte (first low some),
  repeats_whole pieces bytes (repeat_after byte repeat)
      (λ n has. one n (Contains-append_right _ (repeated_in bytes (repeat_after byte repeat)) n has)),
)
  where
    first : IsPatternByte byte → 0 < repeat → Contains (repeated_in (byte ∷ bytes) repeat) byte
    first low some = rw (lt-ltb byte 0xD0 low) (rw (lt-ltb 0 repeat some) (0, omega arith, refl))

one_piece : (song : Song) (ways : Ways) (n : ℕ) → is_repeated song n ≡ true → length (piece_numbers song ways n) ≡ 1
unfolding piece_numbers pieces_of
one_piece song ways n repeated = rw repeated refl

pub repeated_stay : (song : Song) (ways : Ways) (order : Order) (n : ℕ) → Contains (played_orders song) order →
    Contains (repeated_of order) n → length (piece_numbers song ways n) ≡ 1
unfolding is_repeated
repeated_stay song ways order n played has =
    one_piece song ways n
    (is_in n (flat_map repeated_of (played_orders song)) (within repeated_of (played_orders song) order n played has))

pub record StaysWhole (pieces : ℕ → List ℕ) (order : Order) : Type 0 where
  pub prefix : RepeatsWhole pieces order.entries 0
  pub cycle : RepeatsWhole pieces (drop order.restart order.entries) (end_repeat order.entries 0)

pub stays_whole : (song : Song) (ways : Ways) (order : Order) → Contains (played_orders song) order →
    StaysWhole (piece_numbers song ways) order
stays_whole song ways order played =
    let prefix = repeated_in order.entries 0 in
    let cycle = repeated_in (drop order.restart order.entries) (end_repeat order.entries 0) in
    record {
      prefix = repeats_whole (piece_numbers song ways) order.entries 0
          (λ n has. repeated_stay song ways order n played (Contains-append_left prefix cycle n has));
      cycle = repeats_whole (piece_numbers song ways) (drop order.restart order.entries) (end_repeat order.entries 0)
          (λ n has. repeated_stay song ways order n played (Contains-append_right prefix cycle n has));
    }
