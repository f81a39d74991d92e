-- An orderlist with new numbers for its patterns plays these patterns.
use Rattle.std.specs.Prelude.{◌==◌, if◌then◌else◌}
use Rattle.std.proofs.Common.{◌≡◌, ℕ, ℤ, zero, suc, pos, ◌+◌, ◌-◌, ◌%◌, ◌<◌, true, false}
use Rattle.std.proofs.Common.{◌≤◌, ltb, List, [], ◌∷◌, map, length, get_or, drop, replicate, All, Contains}
use Rattle.std.proofs.Common.{inl, inr, refl, sym, ap, ◌∙◌, arith}
use Rattle.std.proofs.lemmas.Bool.{cases_lt, lt-ltb, ltb-true}
use Rattle.std.proofs.lemmas.Bool.Decides.{nat_tests}
use Rattle.std.proofs.lemmas.List.{map-append, length-map, get_or-map, drop-map}
use Rattle.std.proofs.lemmas.List.Elements.{All-head, All-tail, All-drop, All-map, All-weaker, All-contains, All-contains_itself}
use Rattle.song_model.specs.declared.orders.Order.{Order}
use Rattle.song_model.specs.declared.orders.Step.{Step}
use Rattle.song_model.specs.declared.orders.Subtune.{Subtune}
use Rattle.song_model.specs.LookUp.{order_of}
use Rattle.song_model.specs.Endless.{IsPatternByte}
use Rattle.song_model.specs.Walk.{transpose_after, repeat_after, plays_of, walk_plays, end_transpose, end_repeat}
use Rattle.song_model.specs.Walk.{prefix_of, cycle_of, no_step, unrolled, played}
use Rattle.song_model.proofs.Laws.{endless_cycle}
use Rattle.same_frames.specs.Maps.{Maps, moved_step}
use Rattle.same_frames.specs.OrderLaws.{moved_byte, moved_order, KeepsPatternBytes, MovedOrdersPlayFor, moved_subtune}
use Rattle.same_frames.specs.OrderLaws.{MovedSubtunesPlayFor}
use Rattle.same_frames.proofs.Choices.{same_choice}

map_replicate : {X Y : Type 0} (f : X → Y) (n : ℕ) (x : X) → map f (replicate n x) ≡ replicate n (f x)
map_replicate f zero x = refl
map_replicate f (suc n) x = ap (λ xs. f x ∷ xs) (map_replicate f n x)

pub is_low : (byte : ℕ) → byte < 0xD0 → ltb byte 0xD0 ≡ true
is_low byte h = lt-ltb byte 0xD0 h

pub is_lower : (byte : ℕ) → byte < 0xD0 → ltb byte 0xE0 ≡ true
is_lower byte h = lt-ltb byte 0xE0 (omega arith)

pub is_high : (byte : ℕ) → 0xD0 ≤ byte → ltb byte 0xD0 ≡ false
is_high byte h = grind (arith, nat_tests)

module _ (maps : Maps) where
  -- the new number of a pattern is a pattern's number
  abbrev Keeps : ℕ → Type 0
  Keeps byte = IsPatternByte byte → IsPatternByte (maps.pattern byte)

  -- ---- a byte

  byte_plays : (byte : ℕ) (t : ℤ) (r : ℕ) → Keeps byte →
      plays_of (moved_byte maps byte) t r ≡ map (moved_step maps) (plays_of byte t r)
  byte_plays byte t r keeps = elim (cases_lt byte 0xD0) [
    | inl low ↦ rw (is_low byte low) (rw (is_low (maps.pattern byte) (keeps low))
        (sym (map_replicate (moved_step maps) (r + 1) (record { pattern = byte; transpose = t }))))
    | inr high ↦ rw (is_high byte high) (rw (is_high byte high) refl)
  ]

  byte_transpose : (byte : ℕ) (t : ℤ) → Keeps byte → transpose_after (moved_byte maps byte) t ≡ transpose_after byte t
  byte_transpose byte t keeps = elim (cases_lt byte 0xD0) [
    | inl low ↦ rw (is_low byte low) (rw (is_lower byte low) (rw (is_lower (maps.pattern byte) (keeps low)) refl))
    | inr high ↦ rw (is_high byte high) refl
  ]

  byte_repeat : (byte : ℕ) (r : ℕ) → Keeps byte → repeat_after (moved_byte maps byte) r ≡ repeat_after byte r
  byte_repeat byte r keeps = elim (cases_lt byte 0xD0) [
    | inl low ↦ rw (is_low byte low) (rw (is_low (maps.pattern byte) (keeps low)) refl)
    | inr high ↦ rw (is_high byte high) (rw (is_high byte high) refl)
  ]

  -- ---- a walk

  walk_moved : (bytes : List ℕ) (t : ℤ) (r : ℕ) → All Keeps bytes →
      walk_plays (map (moved_byte maps) bytes) t r ≡ map (moved_step maps) (walk_plays bytes t r)
  walk_moved [] t r all = refl
  walk_moved (byte ∷ bytes) t r all =
      let keeps = All-head Keeps byte bytes all in
      rw (byte_plays byte t r keeps)
      (rw (byte_transpose byte t keeps)
      (rw (byte_repeat byte r keeps)
      (rw (walk_moved bytes (transpose_after byte t) (repeat_after byte r) (All-tail Keeps byte bytes all))
      (sym (map-append (moved_step maps) (plays_of byte t r)
      (walk_plays bytes (transpose_after byte t) (repeat_after byte r)))))))

  transpose_moved : (bytes : List ℕ) (t : ℤ) → All Keeps bytes →
      end_transpose (map (moved_byte maps) bytes) t ≡ end_transpose bytes t
  transpose_moved [] t all = refl
  transpose_moved (byte ∷ bytes) t all =
      ap (end_transpose (map (moved_byte maps) bytes)) (byte_transpose byte t (All-head Keeps byte bytes all))
      ∙ transpose_moved bytes (transpose_after byte t) (All-tail Keeps byte bytes all)

  repeat_moved : (bytes : List ℕ) (r : ℕ) → All Keeps bytes →
      end_repeat (map (moved_byte maps) bytes) r ≡ end_repeat bytes r
  repeat_moved [] r all = refl
  repeat_moved (byte ∷ bytes) r all =
      ap (end_repeat (map (moved_byte maps) bytes)) (byte_repeat byte r (All-head Keeps byte bytes all))
      ∙ repeat_moved bytes (repeat_after byte r) (All-tail Keeps byte bytes all)

  -- ---- an orderlist

  prefix_moved : (order : Order) → All Keeps order.entries →
      prefix_of (moved_order maps order) ≡ map (moved_step maps) (prefix_of order)
  unfolding prefix_of
  prefix_moved order all = walk_moved order.entries (pos 0) 0 all

  cycle_moved : (order : Order) → All Keeps order.entries →
      cycle_of (moved_order maps order) ≡ map (moved_step maps) (cycle_of order)
  unfolding cycle_of
  cycle_moved order all =
      rw (transpose_moved order.entries (pos 0) all)
      (rw (repeat_moved order.entries 0 all)
      (rw (drop-map (moved_byte maps) order.restart order.entries)
      (walk_moved (drop order.restart order.entries) (end_transpose order.entries (pos 0))
      (end_repeat order.entries 0) (All-drop Keeps order.restart order.entries all))))

unrolled_moved : (f : Step → Step) (prefix cycle : List Step) (i : ℕ) → 0 < length cycle →
    unrolled (map f prefix) (map f cycle) no_step i ≡ f (unrolled prefix cycle no_step i)
unrolled_moved f prefix cycle i some =
    let later : (i - length prefix) % length cycle < length cycle = omega arith in
    rw (length-map prefix f)
    (rw (length-map cycle f)
    (same_choice f (ltb i (length prefix)) (get_or prefix i no_step)
    (get_or cycle ((i - length prefix) % length cycle) no_step) (get_or (map f prefix) i no_step)
    (get_or (map f cycle) ((i - length prefix) % length cycle) no_step)
    (λ z. get_or-map f prefix i no_step no_step (ltb-true i (length prefix) z))
    (λ z. get_or-map f cycle ((i - length prefix) % length cycle) no_step no_step later)))

pub moved_orders_lem : MovedOrdersPlayFor
unfolding played
moved_orders_lem maps order endless keeps i =
    let all = All-weaker (Contains order.entries) (Keeps maps) (λ byte has. keeps byte has) order.entries
    (All-contains_itself order.entries) in
    rw (prefix_moved maps order all)
    (rw (cycle_moved maps order all)
    (unrolled_moved (moved_step maps) (prefix_of order) (cycle_of order) i (endless_cycle order endless)))

-- ---- a subtune

channel_moved : (maps : Maps) (subtune : Subtune) (channel : ℕ) →
    order_of channel (moved_subtune maps subtune) ≡ moved_order maps (order_of channel subtune)
channel_moved maps subtune channel =
    same_choice (moved_order maps) (channel == 1) subtune.one (if channel == 2 then subtune.two else subtune.three)
    (moved_order maps subtune.one) _ (λ z. refl)
    (λ z. same_choice (moved_order maps) (channel == 2) subtune.two subtune.three (moved_order maps subtune.two)
    (moved_order maps subtune.three) (λ z. refl) (λ z. refl))

-- a byte from $D0 on is one of these, and so is what it becomes
abbrev WasThere : List ℕ → ℕ → Type 0
WasThere entries byte = 0xD0 ≤ byte → Contains entries byte

byte_was_there : (maps : Maps) (entries : List ℕ) (byte : ℕ) → Keeps maps byte → Contains entries byte →
    WasThere entries (moved_byte maps byte)
byte_was_there maps entries byte keeps has = elim (cases_lt byte 0xD0) [
  | inl low ↦ rw (is_low byte low) (λ high. let below = keeps low in absurd (omega arith))
  | inr high ↦ rw (is_high byte high) (λ above. has)
]

bytes_were_there : (maps : Maps) (order : Order) → KeepsPatternBytes maps order →
    All (WasThere order.entries) (moved_order maps order).entries
bytes_were_there maps order keeps =
    All-map (WasThere order.entries) (moved_byte maps) order.entries
    (All-weaker (Contains order.entries) (λ (byte : ℕ). WasThere order.entries (moved_byte maps byte))
    (λ byte has. byte_was_there maps order.entries byte (keeps byte has) has) order.entries
    (All-contains_itself order.entries))

pub moved_subtunes_lem : MovedSubtunesPlayFor
moved_subtunes_lem maps subtune can = record {
  plays = λ channel is i.
      rw (channel_moved maps subtune channel)
      (moved_orders_lem maps (order_of channel subtune) (can.endless channel is) (can.keeps channel is) i);
  bytes = λ channel byte is high has.
      All-contains (WasThere (order_of channel subtune).entries)
      (moved_order maps (order_of channel subtune)).entries byte
      (bytes_were_there maps (order_of channel subtune) (can.keeps channel is))
      (rw (channel_moved maps subtune channel) at has) high;
}
