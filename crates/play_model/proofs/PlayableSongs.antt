-- What a playable song comes to is there, and its programs stay in their tables.
use Rattle.std.proofs.Common.{◌≡◌, ◌≢◌, ℕ, zero, suc, ◌+◌, ◌-◌, ◌<◌, ◌≤◌, ◌⊎◌}
use Rattle.std.proofs.Common.{true, false, List, [], ◌∷◌, length, drop, get_or, Some, slice_get, refl, ◌∙◌}
use Rattle.std.proofs.Common.{ap, inl, inr, arith}
use Rattle.std.specs.List.{Any, Contains}
use Rattle.std.proofs.lemmas.Bool.{cases_lt, cases_eq, cases_Bool}
use Rattle.std.proofs.lemmas.Bool.Decides.{nat_tests}
use Rattle.std.proofs.lemmas.Option.{slice_get-get_or}
use Rattle.base.proofs.Laws.{none_of_nil, filter_of}
use Rattle.song_model.specs.declared.orders.Order.{Order}
use Rattle.song_model.specs.declared.tables.TableRow.{TableRow}
use Rattle.song_model.specs.declared.tables.TableName.{TableName}
use Rattle.song_model.specs.declared.tables.TableName.TheVariants.{Wave, Pulse, Filter, Speed}
use Rattle.song_model.specs.declared.songs.Song.{Song}
use Rattle.song_model.specs.Endless.{IsPatternByte, IsEndless}
use Rattle.song_model.specs.Limits.{KeepsLimits}
use Rattle.song_model.specs.LookUp.{IsNumbered, table_of, table_row, is_playable_subtune}
use Rattle.play_model.specs.declared.unplayable.Unplayable.TheVariants.{NoSubtune, MissingPattern, BadRestart}
use Rattle.play_model.specs.declared.unplayable.Unplayable.TheVariants.{TableOverflow, PointerToJump}
use Rattle.play_model.specs.Helpers.{row_after, next_row}
use Rattle.play_model.specs.Used.{IsPlayedOrder, IsUsedPattern}
use Rattle.play_model.specs.Reached.{is_jump, is_last, row_led_to, IsReached, led, IsPointer, IsStep}
use Rattle.play_model.specs.Playable.{HasOrder, StopsAtRestart, HasPrograms, IsJumpTarget, IsPlayable}
use Rattle.play_model.specs.UseLaws.{IsWhole, GoesOnOrStops}
use Rattle.play_model.proofs.ReachedRows.{jump_left, led_by, reached_some, pointer_reached, target_reached}

-- ---- the places of orderlists

-- an orderlist that is played has a place in the file
record HasPlace (song : Song) (order : Order) : Type 0 where
  subtune : ℕ
  channel : ℕ
  has : HasOrder song subtune channel order

at_place : {X : Type 0} (xs : List X) (k : ℕ) (x : X) → k < length xs → get_or xs k x ≡ x → slice_get xs k ≡ Some x
at_place {X} xs k x inside is = slice_get-get_or xs k x inside ∙ ap (λ (y : X). Some y) is

place_of : (song : Song) (order : Order) → IsPlayedOrder song order → HasPlace song order
place_of song order o =
    let kept = filter_of is_playable_subtune song.subtunes o.subtune o.playable in
    stored_at kept.0 kept.1
  where
    stored_at : Contains song.subtunes o.subtune → is_playable_subtune o.subtune ≡ true → HasPlace song order
    stored_at (k, inside, is) plays =
        let e : k + 1 - 1 ≡ k = omega arith in
        record {
          subtune = k + 1;
          channel = o.channel;
          has = record {
            subtune = o.subtune;
            stored = record { first = omega arith; last = omega arith };
            subtune_is = rw e (at_place song.subtunes k o.subtune inside is);
            playable = plays;
            is_channel = o.is_channel;
            order_is = o.order_is;
          };
        }

pattern_stored : (song : Song) → IsPlayable song → (n : ℕ) → IsUsedPattern song n → n < length song.patterns
pattern_stored song play n u = named u.byte.entry
  where
    place : HasPlace song u.byte.order
    place = place_of song u.byte.order u.byte.played

    named : Contains u.byte.order.entries n → n < length song.patterns
    named (k, inside, is) = elim (cases_lt n (length song.patterns)) [
      | inl stored ↦ stored
      | inr past ↦ absurd (play (MissingPattern place.subtune place.channel k n) (record {
        order = u.byte.order;
        has = place.has;
        names = at_place u.byte.order.entries k n inside is;
        is_pattern = u.is_pattern;
        missing = past;
      }))
    ]

-- ---- restarts

some_pattern : (entries : List ℕ) → Any IsPatternByte entries ⊎ (Any IsPatternByte entries → ⊥)
some_pattern [] = inr (none_of_nil IsPatternByte)
some_pattern (byte ∷ entries) = elim (cases_lt byte 0xD0) [
  | inl here ↦ inl (0, byte, omega arith, refl, here)
  | inr other ↦ elim (some_pattern entries) [ inl any ↦ inl (later any) | inr none ↦ inr (neither other none) ]
]
  where
    later : Any IsPatternByte entries → Any IsPatternByte (byte ∷ entries)
    later (k, x, inside, is, holds) = (suc k, x, omega arith, is, holds)

    neither : 0xD0 ≤ byte → (Any IsPatternByte entries → ⊥) → Any IsPatternByte (byte ∷ entries) → ⊥
    neither other none (zero, x, inside, is, holds) = (let e : byte ≡ x = is in omega arith)
    neither other none (suc k, x, inside, is, holds) = none (k, x, omega arith, is, holds)

ends_or_not : (order : Order) → IsEndless order ⊎ (IsEndless order → ⊥)
ends_or_not order = elim (cases_lt order.restart (length order.entries)) [
  | inl inside ↦ elim (some_pattern (drop order.restart order.entries)) [
    | inl any ↦ inl (record { restart = inside; pattern = any })
    | inr none ↦ inr (λ e. none e.pattern)
  ]
  | inr past ↦ inr (λ e. (let low = e.restart in absurd (omega arith)))
]

order_endless : (song : Song) → IsPlayable song → (order : Order) → IsPlayedOrder song order → IsEndless order
order_endless song play order o =
    let place = place_of song order o in
    elim (ends_or_not order) [
      | inl goes_on ↦ goes_on
      | inr stops ↦
          let fails : StopsAtRestart song place.subtune place.channel =
          record { order = order; has = place.has; stops = stops } in
          absurd (play (BadRestart place.subtune place.channel) fails)
    ]

-- ---- rows

row_stored : (song : Song) → IsPlayable song → (name : TableName) (p : ℕ) → HasPrograms name → IsReached song name p →
    IsNumbered (table_of song name) p
row_stored song play name p programs h =
    let some = reached_some song name p h in
    elim (cases_lt (length (table_of song name)) p) [
      | inl past ↦ absurd (play (TableOverflow name p) (record { programs = programs; reached = h; above = past }))
      | inr stored ↦ record { first = omega arith; last = stored }
    ]

named_step : (song : Song) → IsPlayable song → (name : TableName) (p : ℕ) → IsReached song name p →
    IsPointer song name p ⊎ IsJumpTarget song name p → IsStep song name p
named_step song play name p h named = elim (cases_Bool (is_jump name (table_row song name p))) [
  | inl jump ↦ absurd (play (PointerToJump name p) (record { named = named; jump = jump }))
  | inr other ↦ record { reached = h; no_jump = other }
]

target_step : (song : Song) → IsPlayable song → (name : TableName) (p : ℕ) → IsJumpTarget song name p →
    IsStep song name p
target_step song play name p t = named_step song play name p (target_reached song name p t) (inr t)

pub whole_lem : (song : Song) → IsPlayable song → IsWhole song
whole_lem song play = record {
  subtune = play NoSubtune;
  pattern = pattern_stored song play;
  order = order_endless song play;
  row = row_stored song play;
  pointer = λ name p x. named_step song play name p (pointer_reached song name p x) (inl x);
  target = target_step song play;
}

-- ---- within the limits

few_rows : (song : Song) (name : TableName) → KeepsLimits song → length (table_of song name) ≤ 255
few_rows song Wave limits = limits.wave.count
few_rows song Pulse limits = limits.pulse.count
few_rows song Filter limits = limits.filter.count
few_rows song Speed limits = limits.speed.count

pub reached_byte_lem : (song : Song) (name : TableName) (p : ℕ) → KeepsLimits song → IsPlayable song →
    HasPrograms name → IsReached song name p → p < 256
reached_byte_lem song name p limits play programs h =
    let few = few_rows song name limits in
    let last = (row_stored song play name p programs h).last in
    omega arith

-- ---- the next row

goes_to_next : (name : TableName) (row : TableRow) (p : ℕ) → is_jump name row ≡ false → is_last name row ≡ false →
    row_led_to name row p ≡ Some (p + 1)
goes_to_next name row p no_jump more = rw (no_jump, more) refl

left_jumps : (name : TableName) (left right : ℕ) → HasPrograms name → left ≡ 0xFF →
    is_jump name (record { left = left; right = right }) ≡ true
left_jumps Wave left right programs e = rw e refl
left_jumps Pulse left right programs e = rw e refl
left_jumps Filter left right programs e = rw e refl
left_jumps Speed left right programs e = absurd (programs refl)

after_jump : (row : TableRow) (p : ℕ) → row.left ≡ 0xFF → row_after row p ≡ row.right
after_jump row p e = rw e refl

after_other : (row : TableRow) (p : ℕ) → row.left ≢ 0xFF → p + 1 < 256 → row_after row p ≡ p + 1
after_other row p e small = grind (arith, nat_tests)

-- the row after p is reached: it isn't a jump, or it jumps to one that isn't, or to 0
goes_on : (song : Song) (name : TableName) (p : ℕ) → IsPlayable song → HasPrograms name → IsReached song name (p + 1) →
    p + 1 < 256 → GoesOnOrStops song name p
unfolding next_row
goes_on song name p play programs h small =
    let following = table_row song name (p + 1) in
    elim (cases_Bool (is_jump name following)) [
      | inl jump ↦
          let is = after_jump following p (jump_left name following.left following.right jump) in
          elim (cases_eq following.right 0) [
            | inl stops ↦ inl (is ∙ stops)
            | inr some ↦ inr (rw is (target_step song play name following.right (target jump some)))
          ]
      | inr other ↦
          let no_left : following.left ≢ 0xFF =
          (λ e. (let jump = left_jumps name following.left following.right programs e in absurd (cc))) in
          inr (rw (after_other following p no_left small) (record { reached = h; no_jump = other }))
    ]
  where
    target : is_jump name (table_row song name (p + 1)) ≡ true → (table_row song name (p + 1)).right ≢ 0 →
        IsJumpTarget song name (table_row song name (p + 1)).right
    target jump some = record { p = p + 1; reached = h; jump = jump; target = refl; some = some }

pub stays_lem : (song : Song) (name : TableName) (p : ℕ) → KeepsLimits song → IsPlayable song → HasPrograms name →
    IsStep song name p → is_last name (table_row song name p) ≡ false →
    GoesOnOrStops song name p
stays_lem song name p limits play programs s more =
    let here = row_stored song play name p programs s.reached in
    let leads = led_by song name p here.first here.last ∙ goes_to_next name (table_row song name p) p s.no_jump more in
    let following = led p s.reached leads in
    goes_on song name p play programs following (reached_byte_lem song name (p + 1) limits play programs following)
