-- An orderlist without a transpose plays none.
use Rattle.std.proofs.Common.{◌≡◌, ℕ, ℤ, pos, ◌+◌, ◌-◌, ◌%◌, ◌<◌, true, nat_lt, List, [], ◌∷◌}
use Rattle.std.proofs.Common.{length, drop, replicate, All, refl}
use Rattle.std.proofs.Common.{slice_index_or}
use Rattle.std.proofs.lemmas.Bool.{cond_both, lt-ltb}
use Rattle.std.proofs.lemmas.List.Elements.{All-nil, All-head, All-tail, All-append, All-replicate, All-drop}
use Rattle.song_model.specs.declared.orders.Order.{Order}
use Rattle.song_model.specs.declared.orders.Step.{Step}
use Rattle.song_model.specs.Walk.{transpose_after, repeat_after, plays_of, walk_plays, end_transpose, end_repeat}
use Rattle.song_model.specs.Walk.{prefix_of, cycle_of, played, no_step}
use Rattle.base.proofs.Laws.{All-get_or_any}

-- no transpose
abbrev pub IsNone : ℕ → Type 0
IsNone byte = byte < 0xE0

abbrev IsPlain : Step → Type 0
IsPlain step = step.transpose ≡ pos 0

after_byte : (byte : ℕ) (t : ℤ) → IsNone byte → t ≡ pos 0 → transpose_after byte t ≡ pos 0
after_byte byte t none plain = let low : nat_lt byte 0xE0 ≡ true = lt-ltb byte 0xE0 none in rw low plain

byte_plays : (byte : ℕ) (t : ℤ) (r : ℕ) → t ≡ pos 0 → All IsPlain (plays_of byte t r)
byte_plays byte t r plain =
    cond_both (nat_lt byte 0xD0) (replicate (r + 1) (record { pattern = byte; transpose = t })) [] (All IsPlain)
    (λ z. All-replicate IsPlain (r + 1) (record { pattern = byte; transpose = t }) plain) (λ z. All-nil IsPlain)

plays : (bytes : List ℕ) (t : ℤ) (r : ℕ) → All IsNone bytes → t ≡ pos 0 → All IsPlain (walk_plays bytes t r)
plays [] t r none plain = All-nil IsPlain
plays (byte ∷ bytes) t r none plain =
    All-append IsPlain (plays_of byte t r) (walk_plays bytes (transpose_after byte t) (repeat_after byte r))
    (byte_plays byte t r plain)
    (plays bytes (transpose_after byte t) (repeat_after byte r) (All-tail IsNone byte bytes none)
    (after_byte byte t (All-head IsNone byte bytes none) plain))

ends : (bytes : List ℕ) (t : ℤ) → All IsNone bytes → t ≡ pos 0 → end_transpose bytes t ≡ pos 0
ends [] t none plain = plain
ends (byte ∷ bytes) t none plain =
    ends bytes (transpose_after byte t) (All-tail IsNone byte bytes none)
    (after_byte byte t (All-head IsNone byte bytes none) plain)

prefix_plays : (order : Order) → All IsNone order.entries → All IsPlain (prefix_of order)
unfolding prefix_of
prefix_plays order none = plays order.entries (pos 0) 0 none refl

cycle_plays : (order : Order) → All IsNone order.entries → All IsPlain (cycle_of order)
unfolding cycle_of
cycle_plays order none =
    plays (drop order.restart order.entries) (end_transpose order.entries (pos 0)) (end_repeat order.entries 0)
    (All-drop IsNone order.restart order.entries none) (ends order.entries (pos 0) none refl)

pub none_played : (order : Order) → All IsNone order.entries → (n : ℕ) → (played order n).transpose ≡ pos 0
unfolding played
none_played order none n =
    cond_both (nat_lt n (length (prefix_of order))) (slice_index_or (prefix_of order) n no_step)
    (slice_index_or (cycle_of order) ((n - length (prefix_of order)) % length (cycle_of order)) no_step) IsPlain
    (λ z. All-get_or_any IsPlain (prefix_of order) n no_step refl (prefix_plays order none))
    (λ z. All-get_or_any IsPlain (cycle_of order) _ no_step refl (cycle_plays order none))
