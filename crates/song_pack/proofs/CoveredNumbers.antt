-- A song under new numbers asks for no number that the song that it was made of doesn't ask for.
use Rattle.std.specs.Prelude.{◌&&◌, nat_le, Option}
use Rattle.std.proofs.Common.{◌≡◌, ℕ, ℤ, ◌≤◌, false, true, Contains, None, inl, inr, sym, ◌∙◌, ap, subst, arith}
use Rattle.std.proofs.lemmas.Bool.{cases_lt}
use Rattle.std.proofs.lemmas.Bool.Decides.{nat_tests}
use Rattle.song_model.specs.declared.orders.Order.{Order}
use Rattle.song_model.specs.declared.tables.TableRow.{TableRow}
use Rattle.song_model.specs.declared.tables.TableName.{TableName}
use Rattle.song_model.specs.declared.tables.TableName.TheVariants.{Wave, Speed}
use Rattle.song_model.specs.declared.songs.Song.{Song}
use Rattle.song_model.specs.LookUp.{table_row}
use Rattle.song_model.specs.Pointers.{wave_row_table}
use Rattle.play_model.specs.Wrap.{byte_minus}
use Rattle.play_model.specs.WaveStep.{is_wave_command, wave_note}
use Rattle.play_model.specs.FetchRow.{is_note, transposed}
use Rattle.play_model.specs.Used.{IsPlayedOrder}
use Rattle.play_model.specs.Reached.{is_jump}
use Rattle.play_model.specs.Features.{HasRow, HasWaveRow, IsAny, HasNoteSpeed}
use Rattle.play_model.proofs.Laws.{closed_lem}
use Rattle.asked_numbers.specs.Numbers.{IsTransposeOf, IsPlayedNote, AsksBeforeNotes, IsSoundingNote, of_pattern}
use Rattle.asked_numbers.specs.Numbers.{of_start, SetsNumber, SlidesToNote, IsSoundedNumber, of_wave_row, of_slide}
use Rattle.asked_numbers.specs.Numbers.{IsLastNumber, sounded, half_tone_from, half_tone_to}
use Rattle.asked_numbers.specs.Range.{AddsNoNumber}
use Rattle.same_frames.specs.Maps.{Maps, moved_pointer, moved_row}
use Rattle.same_frames.specs.OrderLaws.{moved_byte, moved_order}
use Rattle.same_frames.proofs.Laws.{image_of, low_byte, high_byte, row_under}
use Rattle.song_pack.proofs.UsedParts.{IsMoved, under, order_from, named_used, order_row_from}
use Rattle.song_pack.proofs.UsedParts.{used_row_from, reached_from, pointer_from}

-- ---- rows of the wave table

no_table : (left : ℕ) → (nat_le 0xF0 left && nat_le left 0xFE) ≡ false → wave_row_table left ≡ None
no_table left plain = grind (arith, nat_tests)

-- a row that is no jump and no command keeps its right side
right_stays : (maps : Maps) (row : TableRow) → is_jump Wave row ≡ false → is_wave_command row ≡ false →
    (moved_row maps Wave row).right ≡ row.right
right_stays maps row goes plain =
    rw goes (ap (λ (table : Option TableName). moved_pointer maps table row.right) (no_table row.left plain))

module _ (maps : Maps) (song other : Song) (m : IsMoved maps song other) where
  -- ---- notes

  -- an orderlist under new numbers keeps its transposes
  transpose_covered : (order : Order) (t : ℤ) → IsPlayedOrder song order → IsTransposeOf (moved_order maps order) t →
      IsTransposeOf order t
  transpose_covered order t played (inl none) = inl none
  transpose_covered order t played (inr set) =
      let image = image_of (moved_byte maps) order.entries set.byte set.entry in
      elim (cases_lt image.from 0xD0) [
        | inl low ↦ (
            let small = m.number image.from (named_used song order image.from played (image.has, low)) in
            let is = sym (low_byte maps image.from low) ∙ image.is in
            let from = set.from in absurd (omega (arith, small, is, from)))
        | inr high ↦ (
            let same : image.from ≡ set.byte = sym (high_byte maps image.from high) ∙ image.is in
            inr (record {
              byte = set.byte;
              entry = subst (Contains order.entries) same image.has;
              from = set.from;
              sets = set.sets;
            }))
      ]

  played_covered : (note : ℕ) → IsPlayedNote other note → IsPlayedNote song note
  played_covered note p =
      let order = order_from maps song other m p.order p.played in
      let found = order_row_from maps song other m order.from order.played p.pattern
      (subst (λ (o : Order). Contains o.entries p.pattern) (sym order.is) p.entry) p.is_pattern p.row p.has in
      let row = found.row in
      record {
        order = order.from;
        played = order.played;
        pattern = found.pattern;
        entry = found.names.0;
        is_pattern = found.names.1;
        row = row.from;
        has = row.has;
        plays = subst (λ (n : ℕ). is_note n ≡ true) row.is_for.note p.plays;
        transpose = p.transpose;
        by = transpose_covered order.from p.transpose order.played
            (subst (λ (o : Order). IsTransposeOf o p.transpose) (sym order.is) p.by);
        note_is = p.note_is ∙ ap (λ (n : ℕ). byte_minus (transposed n p.transpose) 0x60) row.is_for.note;
      }

  -- a command of a row
  command_covered : (command : ℕ) → HasRow other command IsAny → HasRow song command IsAny
  command_covered command has =
      let from = used_row_from maps song other m has.row has.used in
      record {
        row = from.from;
        used = from.used;
        command_is = sym from.is_for.command ∙ has.command_is;
        is_meant = tt;
      }

  asks_covered : AsksBeforeNotes other → AsksBeforeNotes song
  asks_covered (inl slide) = inl (command_covered 3 slide)
  asks_covered (inr wave) = inr (command_covered 8 wave)

  sounding_covered : (note : ℕ) → IsSoundingNote other note → IsSoundingNote song note
  sounding_covered note (of_pattern p) = of_pattern (played_covered note p)
  sounding_covered note (of_start none asks) = of_start none (asks_covered asks)

  -- ---- numbers

  -- a row of the song sets the number that the other song's row does
  record IsSetBy (p : ℕ) : Type 0 where
    old : ℕ
    sets : SetsNumber song old
    right : (table_row other Wave p).right ≡ (table_row song Wave old).right

  sets_covered : (p : ℕ) → SetsNumber other p → IsSetBy p
  sets_covered p set =
      let from = reached_from maps song other m Wave p set.step.reached in
      let row : TableRow = table_row song Wave from.old in
      let is : table_row other Wave p ≡ moved_row maps Wave row =
      row_under maps song other (under maps song other m) Wave p from in
      let goes : is_jump Wave row ≡ false = ap (is_jump Wave) (sym is) ∙ set.step.no_jump in
      let plain : is_wave_command row ≡ false = ap is_wave_command (sym is) ∙ set.no_command in
      let right : (table_row other Wave p).right ≡ row.right =
      ap (λ (r : TableRow). r.right) is ∙ right_stays maps row goes plain in
      record {
        old = from.old;
        sets = record {
          step = record { reached = from.is_such; no_jump = goes };
          no_command = plain;
          sets = λ keeps. set.sets (right ∙ keeps);
        };
        right = right;
      }

  wave_slide_covered : HasWaveRow other 3 IsAny → HasWaveRow song 3 IsAny
  wave_slide_covered has =
      let from = reached_from maps song other m Wave has.p has.reached in
      let is = row_under maps song other (under maps song other m) Wave has.p from in
      record {
        p = from.old;
        reached = from.is_such;
        command_is = ap (λ (r : TableRow). r.left) (sym is) ∙ has.command_is;
        is_meant = tt;
      }

  slides_covered : SlidesToNote other → SlidesToNote song
  slides_covered (inl has) = inl (command_covered 3 has)
  slides_covered (inr has) = inr (wave_slide_covered has)

  sounded_covered : (n : ℕ) → IsSoundedNumber other n → IsSoundedNumber song n
  sounded_covered n (of_wave_row p note sets sounds is) =
      let by = sets_covered p sets in
      of_wave_row by.old note by.sets (sounding_covered note sounds)
      (is ∙ ap (λ (right : ℕ). wave_note right note) by.right)
  sounded_covered n (of_slide note slides sounds is) =
      of_slide note (slides_covered slides) (sounding_covered note sounds) is

  last_covered : (n : ℕ) → IsLastNumber other n → IsLastNumber song n
  last_covered n (inl none) = inl none
  last_covered n (inr h) = inr (sounded_covered n h)

  -- a speed that is taken from a half tone
  depends_covered : HasNoteSpeed other → HasNoteSpeed song
  depends_covered has =
      let from = pointer_from maps song other m Speed has.p has.pointer in
      let reached = (closed_lem song).pointer Speed from.old from.is_such in
      let is = row_under maps song other (under maps song other m) Speed has.p
      (record { old = from.old; is_such = reached; new = from.new }) in
      record {
        p = from.old;
        pointer = from.is_such;
        from_note = subst (λ (row : TableRow). 0x80 ≤ row.left) is has.from_note;
      }

  pub numbers_covered : AddsNoNumber song other
  numbers_covered n (sounded h) = sounded (sounded_covered n h)
  numbers_covered n (half_tone_from depends h) = half_tone_from (depends_covered depends) (last_covered n h)
  numbers_covered n (half_tone_to last depends h is) =
      half_tone_to last (depends_covered depends) (last_covered last h) is
