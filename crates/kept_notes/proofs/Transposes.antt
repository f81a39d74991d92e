-- The transpose of each play is one of its orderlist's.
use Rattle.std.proofs.Common.{ℕ, ℤ, pos, ◌+◌, ◌-◌, ◌-ℤ◌, ◌%◌, ltb, List, [], ◌∷◌, length, get_or, drop, replicate}
use Rattle.std.proofs.Common.{All, Contains, inl, inr, refl}
use Rattle.std.proofs.lemmas.Bool.{cond_both, ltb-false}
use Rattle.std.proofs.lemmas.List.Elements.{All-nil, All-head, All-tail, All-append, All-replicate, All-drop}
use Rattle.std.proofs.lemmas.List.Elements.{All-contains_itself}
use Rattle.base.proofs.Laws.{All-get_or_any}
use Rattle.song_model.specs.declared.orders.Order.{Order}
use Rattle.song_model.specs.declared.orders.Step.{Step}
use Rattle.song_model.specs.Walk.{transpose_after, repeat_after, plays_of, walk_plays, end_transpose, end_repeat}
use Rattle.song_model.specs.Walk.{prefix_of, cycle_of, played, no_step}
use Rattle.asked_numbers.specs.Numbers.{IsTransposeOf}

abbrev HasTranspose : Order → Step → Type 0
HasTranspose order step = IsTransposeOf order step.transpose

after_byte : (order : Order) (byte : ℕ) (t : ℤ) → Contains order.entries byte → IsTransposeOf order t →
    IsTransposeOf order (transpose_after byte t)
after_byte order byte t entry h =
    cond_both (ltb byte 0xE0) t (pos byte -ℤ pos 0xF0) (IsTransposeOf order) (λ z. h)
    (λ z. inr (record { byte = byte; entry = entry; from = ltb-false byte 0xE0 z; sets = refl }))

byte_plays : (order : Order) (byte : ℕ) (t : ℤ) (r : ℕ) → IsTransposeOf order t →
    All (HasTranspose order) (plays_of byte t r)
byte_plays order byte t r h =
    cond_both (ltb byte 0xD0) (replicate (r + 1) (record { pattern = byte; transpose = t })) []
    (λ plays. All (HasTranspose order) plays)
    (λ z. All-replicate (HasTranspose order) (r + 1) (record { pattern = byte; transpose = t }) h)
    (λ z. All-nil (HasTranspose order))

walk_along : (order : Order) (bytes : List ℕ) (t : ℤ) (r : ℕ) → All (Contains order.entries) bytes →
    IsTransposeOf order t → All (HasTranspose order) (walk_plays bytes t r)
walk_along order [] t r all h = All-nil (HasTranspose order)
walk_along order (byte ∷ bytes) t r all h =
    All-append (HasTranspose order) (plays_of byte t r)
    (walk_plays bytes (transpose_after byte t) (repeat_after byte r)) (byte_plays order byte t r h)
    (walk_along order bytes (transpose_after byte t) (repeat_after byte r)
    (All-tail (Contains order.entries) byte bytes all)
    (after_byte order byte t (All-head (Contains order.entries) byte bytes all) h))

end_of : (order : Order) (bytes : List ℕ) (t : ℤ) → All (Contains order.entries) bytes → IsTransposeOf order t →
    IsTransposeOf order (end_transpose bytes t)
end_of order [] t all h = h
end_of order (byte ∷ bytes) t all h =
    end_of order bytes (transpose_after byte t) (All-tail (Contains order.entries) byte bytes all)
    (after_byte order byte t (All-head (Contains order.entries) byte bytes all) h)

no_transpose : (order : Order) → IsTransposeOf order (pos 0)
no_transpose order = inl refl

in_prefix : (order : Order) → All (HasTranspose order) (prefix_of order)
unfolding prefix_of
in_prefix order = walk_along order order.entries (pos 0) 0 (All-contains_itself order.entries) (no_transpose order)

in_cycle : (order : Order) → All (HasTranspose order) (cycle_of order)
unfolding cycle_of
in_cycle order =
    walk_along order (drop order.restart order.entries) (end_transpose order.entries (pos 0))
    (end_repeat order.entries 0)
    (All-drop (Contains order.entries) order.restart order.entries (All-contains_itself order.entries))
    (end_of order order.entries (pos 0) (All-contains_itself order.entries) (no_transpose order))

pub play_transpose : (order : Order) (i : ℕ) → IsTransposeOf order (played order i).transpose
unfolding played
play_transpose order i =
    cond_both (ltb i (length (prefix_of order))) (get_or (prefix_of order) i no_step)
    (get_or (cycle_of order) ((i - length (prefix_of order)) % length (cycle_of order)) no_step) (HasTranspose order)
    (λ z. All-get_or_any (HasTranspose order) (prefix_of order) i no_step (no_transpose order) (in_prefix order))
    (λ z. All-get_or_any (HasTranspose order) (cycle_of order)
    ((i - length (prefix_of order)) % length (cycle_of order)) no_step (no_transpose order) (in_cycle order))
