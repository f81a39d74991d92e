-- What an orderlist plays: patterns that it names, with transposes that a byte of it can set.
use Rattle.std.proofs.Common.{◌≡◌, ℕ, ℤ, pos, ◌+◌, ◌-ℤ◌, ◌<◌, ◌≤◌, true, false, ltb, List}
use Rattle.std.proofs.Common.{[], ◌∷◌, drop, replicate, All, arith}
use Rattle.std.proofs.lemmas.Int.{ints}
use Rattle.std.proofs.lemmas.Bool.{cond_both}
use Rattle.std.proofs.lemmas.Bool.Decides.{nat_tests}
use Rattle.std.proofs.lemmas.List.Elements.{All-nil, All-head, All-tail, All-append, All-replicate, All-drop}
use Rattle.song_model.specs.declared.orders.Order.{Order}
use Rattle.song_model.specs.declared.orders.Step.{Step}
use Rattle.song_model.specs.OrderLimits.{IsEntry}
use Rattle.song_model.specs.Endless.{IsPatternByte}
use Rattle.song_model.specs.Walk.{transpose_after, repeat_after, plays_of, walk_plays, end_transpose, end_repeat}
use Rattle.song_model.specs.Walk.{prefix_of, cycle_of}
use Rattle.song_model.specs.WalkLaws.{PlaysArePatterns, IsTranspose, TransposesAreInRange}
use Rattle.song_model.proofs.Walks.{each_play, any_play, plays_are_entries_lem}
use Rattle.song_model.proofs.Rests.{endless_cycle}

-- ---- pattern bytes

abbrev IsPatternPlay : Step → Type 0
IsPatternPlay step = IsPatternByte step.pattern

low : (byte : ℕ) → ltb byte 0xD0 ≡ true → byte < 0xD0
low byte h = grind (arith, nat_tests)

byte_patterns : (byte : ℕ) (t : ℤ) (r : ℕ) → All IsPatternPlay (plays_of byte t r)
byte_patterns byte t r =
    cond_both (ltb byte 0xD0) (replicate (r + 1) (record { pattern = byte; transpose = t })) []
    (λ plays. All IsPatternPlay plays)
    (λ h. All-replicate IsPatternPlay (r + 1) (record { pattern = byte; transpose = t }) (low byte h))
    (λ h. All-nil IsPatternPlay)

walk_patterns : (bytes : List ℕ) (t : ℤ) (r : ℕ) → All IsPatternPlay (walk_plays bytes t r)
walk_patterns [] t r = All-nil IsPatternPlay
walk_patterns (byte ∷ bytes) t r =
    All-append IsPatternPlay (plays_of byte t r) (walk_plays bytes (transpose_after byte t) (repeat_after byte r))
    (byte_patterns byte t r) (walk_patterns bytes (transpose_after byte t) (repeat_after byte r))

prefix_patterns : (order : Order) → All IsPatternPlay (prefix_of order)
unfolding prefix_of
prefix_patterns order = walk_patterns order.entries (pos 0) 0

cycle_patterns : (order : Order) → All IsPatternPlay (cycle_of order)
unfolding cycle_of
cycle_patterns order =
    walk_patterns (drop order.restart order.entries) (end_transpose order.entries (pos 0)) (end_repeat order.entries 0)

pub plays_are_patterns_lem : PlaysArePatterns
plays_are_patterns_lem order i endless = record {
  entry = plays_are_entries_lem order i (endless_cycle order endless);
  pattern =
      each_play IsPatternPlay order i (endless_cycle order endless) (prefix_patterns order) (cycle_patterns order);
}

-- ---- transposes

abbrev HasTranspose : Step → Type 0
HasTranspose step = IsTranspose step.transpose

no_transpose : IsTranspose (pos 0)
no_transpose = record { least = omega (arith, ints); most = omega (arith, ints) }

set_transpose : (byte : ℕ) → 0xE0 ≤ byte → byte < 0xFF → IsTranspose (pos byte -ℤ pos 0xF0)
set_transpose byte h k = record { least = omega (arith, ints); most = omega (arith, ints) }

high : (byte : ℕ) → ltb byte 0xE0 ≡ false → 0xE0 ≤ byte
high byte h = grind (arith, nat_tests)

after_byte : (byte : ℕ) (t : ℤ) → IsEntry byte → IsTranspose t → IsTranspose (transpose_after byte t)
after_byte byte t e h =
    cond_both (ltb byte 0xE0) t (pos byte -ℤ pos 0xF0) IsTranspose (λ z. h) (λ z. set_transpose byte (high byte z) e)

byte_transposes : (byte : ℕ) (t : ℤ) (r : ℕ) → IsTranspose t → All HasTranspose (plays_of byte t r)
byte_transposes byte t r h =
    cond_both (ltb byte 0xD0) (replicate (r + 1) (record { pattern = byte; transpose = t })) []
    (λ plays. All HasTranspose plays)
    (λ z. All-replicate HasTranspose (r + 1) (record { pattern = byte; transpose = t }) h)
    (λ z. All-nil HasTranspose)

walk_transposes : (bytes : List ℕ) (t : ℤ) (r : ℕ) → All IsEntry bytes → IsTranspose t →
    All HasTranspose (walk_plays bytes t r)
walk_transposes [] t r e h = All-nil HasTranspose
walk_transposes (byte ∷ bytes) t r e h =
    All-append HasTranspose (plays_of byte t r) (walk_plays bytes (transpose_after byte t) (repeat_after byte r))
    (byte_transposes byte t r h)
    (walk_transposes bytes (transpose_after byte t) (repeat_after byte r) (All-tail IsEntry byte bytes e)
    (after_byte byte t (All-head IsEntry byte bytes e) h))

end_in_range : (bytes : List ℕ) (t : ℤ) → All IsEntry bytes → IsTranspose t → IsTranspose (end_transpose bytes t)
end_in_range [] t e h = h
end_in_range (byte ∷ bytes) t e h =
    end_in_range bytes (transpose_after byte t) (All-tail IsEntry byte bytes e)
    (after_byte byte t (All-head IsEntry byte bytes e) h)

prefix_transposes : (order : Order) → All IsEntry order.entries → All HasTranspose (prefix_of order)
unfolding prefix_of
prefix_transposes order e = walk_transposes order.entries (pos 0) 0 e no_transpose

cycle_transposes : (order : Order) → All IsEntry order.entries → All HasTranspose (cycle_of order)
unfolding cycle_of
cycle_transposes order e =
    walk_transposes (drop order.restart order.entries) (end_transpose order.entries (pos 0))
    (end_repeat order.entries 0)
    (All-drop IsEntry order.restart order.entries e) (end_in_range order.entries (pos 0) e no_transpose)

pub transposes_in_range_lem : TransposesAreInRange
transposes_in_range_lem order i e =
    any_play HasTranspose order i no_transpose (prefix_transposes order e) (cycle_transposes order e)
