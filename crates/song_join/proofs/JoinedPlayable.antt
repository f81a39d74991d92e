-- The joined song can be played: what it comes to is of the first song or of the second one, under its new number.
use Rattle.std.proofs.Common.{◌≡◌, ℕ, ◌+◌, ◌-◌, ◌<◌, ◌⊎◌, true, false, List, [], ◌∷◌}
use Rattle.std.proofs.Common.{◌++◌, map, length, Contains, refl, sym, ◌∙◌, ap, subst, inl, inr, arith}
use Rattle.std.proofs.Common.{length-append}
use Rattle.std.specs.Prelude.{Option, Some, None}
use Rattle.std.proofs.lemmas.Bool.{cases_lt}
use Rattle.std.proofs.lemmas.List.{length-map, get_or_append_left}
use Rattle.std.proofs.Math.Seq.{get_or-append_right}
use Rattle.song_model.specs.declared.rows.Row.{Row}
use Rattle.song_model.specs.declared.orders.Order.{Order}
use Rattle.song_model.specs.declared.orders.Subtune.{Subtune}
use Rattle.song_model.specs.declared.tables.TableName.{TableName}
use Rattle.song_model.specs.declared.tables.TableName.TheVariants.{Wave}
use Rattle.song_model.specs.declared.songs.Song.{Song}
use Rattle.song_model.specs.Endless.{IsPatternByte, IsEndless}
use Rattle.song_model.specs.LookUp.{IsNumbered, table_of, table_row, pattern_at, order_of, playable_subtunes}
use Rattle.song_model.specs.Pointers.{command_table}
use Rattle.play_model.specs.declared.unplayable.Unplayable.TheVariants.{NoSubtune, MissingPattern, BadRestart}
use Rattle.play_model.specs.declared.unplayable.Unplayable.TheVariants.{TableOverflow, PointerToJump}
use Rattle.play_model.specs.Used.{IsPlayedOrder, IsUsedPattern, IsUsedRow, IsUsedInstrument}
use Rattle.play_model.specs.Reached.{is_jump, IsPlayedPointer, of_instrument, of_row, IsReached, played, pointed, led}
use Rattle.play_model.specs.Reached.{IsPointer, of_played, of_wave_row, IsStep}
use Rattle.play_model.specs.Playable.{IsJumpTarget, IsPlayable}
use Rattle.play_model.proofs.Laws.{whole_lem}
use Rattle.same_frames.specs.Maps.{Maps, same_numbers, moved_pointer}
use Rattle.same_frames.specs.OrderLaws.{moved_byte, moved_order, moved_subtune}
use Rattle.same_frames.proofs.Laws.{StandsForOne, image_of, endless_moved, channel_moved, low_byte, high_byte, is_there}
use Rattle.same_frames.proofs.Laws.{stored_is_played, wave_pointer_from, led_from, target_from, step_from}
use Rattle.same_frames.proofs.Laws.{no_jump_there, row_there}
use Rattle.song_join.specs.declared.faults.JoinPart.TheVariants.{Patterns}
use Rattle.song_join.specs.Numbers.{new_numbers}
use Rattle.song_join.specs.Joined.{moved_pattern_row, joined}
use Rattle.song_join.specs.JoinLaws.{AreJoinable}
use Rattle.song_join.proofs.FoundParts.{table_is, first_instrument, first_pattern}
use Rattle.song_join.proofs.FirstPart.{instrument_stored, row_stored, first_agrees}
use Rattle.song_join.proofs.SecondPart.{second_agrees, stored, row_is, pattern_is, instrument_is}
use Rattle.song_join.proofs.Plays.{both_playable}
use Rattle.song_join.proofs.MovedParts.{IsPart, IsMovedRow, row_from, instrument_from, from_instrument, from_row}

-- ---- lists

in_either : {X : Type 0} (xs ys : List X) (x : X) → Contains (xs ++ ys) x → Contains xs x ⊎ Contains ys x
in_either xs ys x (k, inside, is) =
    let sum = length-append xs ys in
    elim (cases_lt k (length xs)) [
      | inl low ↦ inl (k, low, sym (get_or_append_left xs ys x k low) ∙ is)
      | inr high ↦ inr (k - length xs, omega arith, sym (get_or-append_right xs ys k x high) ∙ is)
    ]

no_append : {X : Type 0} (xs ys : List X) → xs ++ ys ≡ [] → xs ≡ []
no_append [] ys e = refl
no_append (x ∷ xs) ys e = absurd cc

-- ---- the first song under its own numbers

same_pointer : (table : Option TableName) (p : ℕ) → moved_pointer same_numbers table p ≡ p
same_pointer (Some name) p = refl
same_pointer None p = refl

same_row : (row : Row) → moved_pattern_row same_numbers row ≡ row
same_row row = ap (λ (p : ℕ). record row { param = p }) (same_pointer (command_table row.command) row.param)

same_rows : (rows : List Row) → rows ≡ map (moved_pattern_row same_numbers) rows
same_rows [] = refl
same_rows (row ∷ rows) =
    ap (λ (r : Row). r ∷ rows) (sym (same_row row))
    ∙ ap (λ (rs : List Row). moved_pattern_row same_numbers row ∷ rs) (same_rows rows)

-- an orderlist of the joined song was one of the second song's
record IsMovedOrder (maps : Maps) (song : Song) (order : Order) : Type 0 where
  from : Order
  played : IsPlayedOrder song from
  is : moved_order maps from ≡ order

module _ (first second : Song) (j : AreJoinable first second) where
  abbrev maps : Maps
  maps = new_numbers first second

  abbrev whole : Song
  whole = joined first second

  -- ---- both parts

  pattern_count : length whole.patterns ≡ length first.patterns + length second.patterns
  unfolding joined
  pattern_count =
      length-append first.patterns (map (map (moved_pattern_row maps)) second.patterns)
      ∙ ap (λ (n : ℕ). length first.patterns + n) (length-map second.patterns (map (moved_pattern_row maps)))

  row_count : (name : TableName) →
      length (table_of whole name) ≡ length (table_of first name) + length (table_of second name)
  row_count name =
      ap length (table_is first second name)
      ∙ length-append (table_of first name) _
      ∙ ap (λ (n : ℕ). length (table_of first name) + n) (length-map (table_of second name) _)

  first_part : IsPart same_numbers first whole
  first_part = record {
    under = record {
      playable = j.first_plays;
      agrees = first_agrees first second j;
      row =
          λ name p reached.
          let there = row_stored first j.first_plays j.can.speeds.first_song name p reached in
          let least = there.first in
          let most = there.last in
          let count = row_count name in
          record { first = omega arith; last = omega arith };
    };
    number = λ n used. used.is_pattern;
    pattern =
        λ n used.
        let there = (whole_lem first j.first_plays).pattern n used in
        let count = pattern_count in
        omega arith;
    rows = λ n used.
        first_pattern first second n ((whole_lem first j.first_plays).pattern n used) ∙ same_rows (pattern_at first n);
    instrument = λ i used. first_instrument first second i (instrument_stored first j.can.instruments.first_song i used);
  }

  pattern_low : (n : ℕ) → n < length second.patterns →
      IsPatternByte (maps.pattern n) × (maps.pattern n < length whole.patterns)
  unfolding new_numbers
  pattern_low n low =
      let few = j.can.within.part Patterns in
      let count = pattern_count in
      (omega arith, omega arith)

  second_part : IsPart maps second whole
  second_part = record {
    under = record {
      playable = j.second_plays;
      agrees = second_agrees first second j;
      row =
          λ name p reached.
          let there = stored first second j name p reached in
          let least = there.first in
          let most = there.last in
          let count = row_count name in
          let is = row_is first second j name p reached in
          record { first = omega arith; last = omega arith };
    };
    number = λ n used. (pattern_low n ((whole_lem second j.second_plays).pattern n used)).0;
    pattern = λ n used. (pattern_low n ((whole_lem second j.second_plays).pattern n used)).1;
    rows = pattern_is first second j;
    instrument = instrument_is first second j;
  }

  -- of the first song, or of the second one under its new number
  InEither : (Maps → ℕ → ℕ) → (Song → ℕ → Type 0) → ℕ → Type 0
  InEither map IsSuch n =
      StandsForOne (map same_numbers) (IsSuch first) n ⊎ StandsForOne (map maps) (IsSuch second) n

  -- ---- orderlists and patterns

  order_from : (order : Order) → IsPlayedOrder whole order →
      IsPlayedOrder first order ⊎ IsMovedOrder maps second order
  order_from order o =
      let has : Contains (playable_subtunes first ++ map (moved_subtune maps) (playable_subtunes second)) o.subtune =
      subst (λ (all : List Subtune). Contains all o.subtune) (both_playable first second) o.playable in
      elim (in_either (playable_subtunes first) (map (moved_subtune maps) (playable_subtunes second)) o.subtune has) [
        | inl own ↦ inl (record {
          subtune = o.subtune;
          playable = own;
          channel = o.channel;
          is_channel = o.is_channel;
          order_is = o.order_is;
        })
        | inr moved ↦ (
            let image = image_of (moved_subtune maps) (playable_subtunes second) o.subtune moved in
            inr (record {
              from = order_of o.channel image.from;
              played = record {
                subtune = image.from;
                playable = image.has;
                channel = o.channel;
                is_channel = o.is_channel;
                order_is = refl;
              };
              is = sym (channel_moved maps image.from o.channel) ∙ ap (order_of o.channel) image.is ∙ sym o.order_is;
            }))
      ]

  pattern_from : (n : ℕ) → IsUsedPattern whole n → InEither (λ m. m.pattern) IsUsedPattern n
  unfolding InEither
  pattern_from n used = elim (order_from used.byte.order used.byte.played) [
    | inl own ↦ inl (record {
      old = n;
      is_such = record {
        byte = record { order = used.byte.order; played = own; entry = used.byte.entry };
        is_pattern = used.is_pattern;
      };
      new = refl;
    })
    | inr moved ↦ (
        let image =
        image_of (moved_byte maps) moved.from.entries n
        (subst (λ (o : Order). Contains o.entries n) (sym moved.is) used.byte.entry) in
        elim (cases_lt image.from 0xD0) [
          | inl low ↦ inr (record {
            old = image.from;
            is_such = record {
              byte = record { order = moved.from; played = moved.played; entry = image.has };
              is_pattern = low;
            };
            new = sym (low_byte maps image.from low) ∙ image.is;
          })
          | inr high ↦ (
              let same : image.from ≡ n = sym (high_byte maps image.from high) ∙ image.is in
              let small = used.is_pattern in
              absurd (omega arith))
        ])
  ]

  used_row_from : (row : Row) → IsUsedRow whole row → IsMovedRow same_numbers first row ⊎ IsMovedRow maps second row
  unfolding InEither
  used_row_from row used = elim (pattern_from used.pattern used.used) [
    | inl own ↦ inl (row_from same_numbers first whole first_part used.pattern own row used.has)
    | inr moved ↦ inr (row_from maps second whole second_part used.pattern moved row used.has)
  ]

  -- ---- instruments and pointers

  used_instrument_from : (i : ℕ) → IsUsedInstrument whole i → InEither (λ m. m.instrument) IsUsedInstrument i
  unfolding InEither
  used_instrument_from i (inl one) = inl (record { old = i; is_such = inl one; new = refl })
  used_instrument_from i (inr named) = elim (used_row_from named.row named.used) [
    | inl own ↦ inl (instrument_from same_numbers first whole first_part i named.row named.names named.some own)
    | inr moved ↦ inr (instrument_from maps second whole second_part i named.row named.names named.some moved)
  ]

  played_from : (name : TableName) (p : ℕ) → IsPlayedPointer whole name p →
      InEither (λ m. m.row name) (λ song. IsPlayedPointer song name) p
  unfolding InEither
  played_from name p (of_instrument i used is some) = elim (used_instrument_from i used) [
    | inl own ↦ inl (from_instrument same_numbers first whole first_part name i p own is some)
    | inr moved ↦ inr (from_instrument maps second whole second_part name i p moved is some)
  ]
  played_from name p (of_row row used command is some) = elim (used_row_from row used) [
    | inl own ↦ inl (from_row same_numbers first whole first_part name p row own command is some)
    | inr moved ↦ inr (from_row maps second whole second_part name p row moved command is some)
  ]

  reached_from : (name : TableName) (p : ℕ) → IsReached whole name p →
      InEither (λ m. m.row name) (λ song. IsReached song name) p
  unfolding InEither
  reached_from name p (played pointer) = elim (played_from name p pointer) [
    | inl own ↦ inl (record { old = own.old; is_such = played own.is_such; new = own.new })
    | inr moved ↦ inr (record { old = moved.old; is_such = played moved.is_such; new = moved.new })
  ]
  reached_from name p (pointed r reached pointer) = elim (reached_from Wave r reached) [
    | inl at ↦ (
        let from = wave_pointer_from same_numbers first whole first_part.under name r p at pointer in
        inl (record { old = from.old; is_such = pointed at.old at.is_such from.is_such; new = from.new }))
    | inr at ↦ (
        let from = wave_pointer_from maps second whole second_part.under name r p at pointer in
        inr (record { old = from.old; is_such = pointed at.old at.is_such from.is_such; new = from.new }))
  ]
  reached_from name p (led r reached goes) = elim (reached_from name r reached) [
    | inl at ↦ inl (led_from same_numbers first whole first_part.under name r p at goes)
    | inr at ↦ inr (led_from maps second whole second_part.under name r p at goes)
  ]

  pointer_from : (name : TableName) (p : ℕ) → IsPointer whole name p →
      InEither (λ m. m.row name) (λ song. IsPointer song name) p
  unfolding InEither
  pointer_from name p (of_played pointer) = elim (played_from name p pointer) [
    | inl own ↦ inl (record { old = own.old; is_such = of_played own.is_such; new = own.new })
    | inr moved ↦ inr (record { old = moved.old; is_such = of_played moved.is_such; new = moved.new })
  ]
  pointer_from name p (of_wave_row r reached pointer) = elim (reached_from Wave r reached) [
    | inl at ↦ (
        let from = wave_pointer_from same_numbers first whole first_part.under name r p at pointer in
        inl (record { old = from.old; is_such = of_wave_row at.old at.is_such from.is_such; new = from.new }))
    | inr at ↦ (
        let from = wave_pointer_from maps second whole second_part.under name r p at pointer in
        inr (record { old = from.old; is_such = of_wave_row at.old at.is_such from.is_such; new = from.new }))
  ]

  -- what a pointer or a jump names is no jump
  step_named : (name : TableName) (row : ℕ) → IsPointer whole name row ⊎ IsJumpTarget whole name row →
      InEither (λ m. m.row name) (λ song. IsStep song name) row
  unfolding InEither
  step_named name row (inl pointer) = elim (pointer_from name row pointer) [
    | inl own ↦ inl (step_from same_numbers first whole first_part.under name row own)
    | inr moved ↦ inr (step_from maps second whole second_part.under name row moved)
  ]
  step_named name row (inr target) = elim (reached_from name target.p target.reached) [
    | inl own ↦ inl (target_from same_numbers first whole first_part.under name row target own)
    | inr moved ↦ inr (target_from maps second whole second_part.under name row target moved)
  ]

  stays_no_jump : (name : TableName) (row : ℕ) → InEither (λ m. m.row name) (λ song. IsStep song name) row →
      is_jump name (table_row whole name row) ≡ false
  unfolding InEither
  stays_no_jump name row (inl own) = no_jump_there same_numbers first whole first_part.under name row own
  stays_no_jump name row (inr moved) = no_jump_there maps second whole second_part.under name row moved

  is_stored : (name : TableName) (row : ℕ) → InEither (λ m. m.row name) (λ song. IsReached song name) row →
      IsNumbered (table_of whole name) row
  unfolding InEither
  is_stored name row (inl own) = row_there same_numbers first whole first_part.under name row own
  is_stored name row (inr moved) = row_there maps second whole second_part.under name row moved

  pattern_there : (n : ℕ) → InEither (λ m. m.pattern) IsUsedPattern n → n < length whole.patterns
  unfolding InEither
  pattern_there n (inl own) = subst (λ (k : ℕ). k < length whole.patterns) own.new (first_part.pattern own.old own.is_such)
  pattern_there n (inr moved) =
      subst (λ (k : ℕ). k < length whole.patterns) moved.new (second_part.pattern moved.old moved.is_such)

  endless : (order : Order) → IsPlayedOrder first order ⊎ IsMovedOrder maps second order → IsEndless order
  endless order (inl own) = (whole_lem first j.first_plays).order order own
  endless order (inr moved) =
      subst IsEndless moved.is
      (endless_moved maps moved.from ((whole_lem second j.second_plays).order moved.from moved.played)
      (λ byte has low. second_part.number byte
      (record { byte = record { order = moved.from; played = moved.played; entry = has }; is_pattern = low })))

  -- ---- the joined song

  pub can_be_played : IsPlayable whole
  can_be_played NoSubtune none =
      (whole_lem first j.first_plays).subtune
      (no_append (playable_subtunes first) _ (sym (both_playable first second) ∙ none))
  can_be_played (MissingPattern s c place pattern) misses =
      let used : IsUsedPattern whole pattern = record {
        byte = record {
          order = misses.order;
          played = stored_is_played whole s c misses.order misses.has;
          entry = is_there misses.order.entries place pattern misses.names;
        };
        is_pattern = misses.is_pattern;
      } in
      let there = pattern_there pattern (pattern_from pattern used) in
      let missing = misses.missing in
      absurd (omega arith)
  can_be_played (BadRestart s c) stops =
      stops.stops (endless stops.order (order_from stops.order (stored_is_played whole s c stops.order stops.has)))
  can_be_played (TableOverflow name row) runs =
      let there = is_stored name row (reached_from name row runs.reached) in
      let above = runs.above in
      let last = there.last in
      absurd (omega arith)
  can_be_played (PointerToJump name row) points =
      let stays = stays_no_jump name row (step_named name row points.named) in
      let jump : true ≡ false = sym points.jump ∙ stays in
      absurd cc
