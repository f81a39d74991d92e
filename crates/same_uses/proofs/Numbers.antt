-- A song that adds no row asks for no number that the song doesn't ask for.
use Rattle.std.proofs.Common.{◌≡◌, ◌≢◌, ℕ, ℤ, false, inl, inr, ◌∙◌, ap, subst, arith}
use Rattle.song_model.specs.declared.orders.Order.{Order}
use Rattle.song_model.specs.declared.features.Feature.TheVariants.{NoteDependent}
use Rattle.song_model.specs.declared.tables.TableRow.{TableRow}
use Rattle.song_model.specs.declared.tables.TableName.TheVariants.{Wave}
use Rattle.song_model.specs.declared.songs.Song.{Song}
use Rattle.play_model.specs.WaveStep.{is_wave_command, wave_note}
use Rattle.play_model.specs.Features.{IsAny}
use Rattle.asked_numbers.specs.Numbers.{IsTransposeOf, IsPlayedNote, AsksBeforeNotes, IsSoundingNote, of_pattern}
use Rattle.asked_numbers.specs.Numbers.{of_start, SetsNumber, IsSoundedNumber, of_wave_row, of_slide}
use Rattle.asked_numbers.specs.Numbers.{IsLastNumber, sounded, half_tone_from, half_tone_to}
use Rattle.asked_numbers.specs.Range.{AddsNoNumber}
use Rattle.same_uses.specs.SameUses.{NamesNoMore, AddsNoRow}
use Rattle.same_uses.proofs.Parts.{same_row, order_for}
use Rattle.same_uses.proofs.Reached.{is_step}
use Rattle.same_uses.proofs.Features.{has_row, uses_command, has_feature}

module _ (song other : Song) (adds : AddsNoRow song other) where
  -- ---- notes

  -- a transpose is a byte from $E0 on
  transpose_of : (order beyond : Order) (t : ℤ) → NamesNoMore song other order beyond → IsTransposeOf beyond t →
      IsTransposeOf order t
  transpose_of order beyond t names (inl none) = inl none
  transpose_of order beyond t names (inr set) =
      let from = set.from in
      inr (record {
        byte = set.byte;
        entry = names.byte set.byte (omega arith) set.entry;
        from = set.from;
        sets = set.sets;
      })

  note_played : (note : ℕ) → IsPlayedNote other note → IsPlayedNote song note
  note_played note p =
      let from = order_for song other adds p.order p.played in
      let there = from.names.row p.row
      (record { pattern = p.pattern; entry = p.entry; is_pattern = p.is_pattern; has = p.has }) in
      record {
        order = from.order;
        played = from.is_played;
        pattern = there.pattern;
        entry = there.entry;
        is_pattern = there.is_pattern;
        row = p.row;
        has = there.has;
        plays = p.plays;
        transpose = p.transpose;
        by = transpose_of from.order p.order p.transpose from.names p.by;
        note_is = p.note_is;
      }

  asks_before : AsksBeforeNotes other → AsksBeforeNotes song
  asks_before (inl slide) = inl (has_row song other adds 3 IsAny slide)
  asks_before (inr wave) = inr (has_row song other adds 8 IsAny wave)

  note_sounds : (note : ℕ) → IsSoundingNote other note → IsSoundingNote song note
  note_sounds note (of_pattern p) = of_pattern (note_played note p)
  note_sounds note (of_start none asks) = of_start none (asks_before asks)

  -- ---- numbers

  sets_number : (p : ℕ) → SetsNumber other p → SetsNumber song p
  sets_number p set =
      let same = same_row song other adds Wave p in
      record {
        step = is_step song other adds Wave p set.step;
        no_command = subst (λ (row : TableRow). is_wave_command row ≡ false) same set.no_command;
        sets = subst (λ (row : TableRow). row.right ≢ 0x80) same set.sets;
      }

  number_sounds : (n : ℕ) → IsSoundedNumber other n → IsSoundedNumber song n
  number_sounds n (of_wave_row p note sets sounds is) =
      of_wave_row p note (sets_number p sets) (note_sounds note sounds)
      (is ∙ ap (λ (row : TableRow). wave_note row.right note) (same_row song other adds Wave p))
  number_sounds n (of_slide note slides sounds is) =
      of_slide note (uses_command song other adds 3 IsAny slides) (note_sounds note sounds) is

  is_last : (n : ℕ) → IsLastNumber other n → IsLastNumber song n
  is_last n (inl none) = inl none
  is_last n (inr sounds) = inr (number_sounds n sounds)

  pub asks_number : AddsNoNumber song other
  asks_number n (sounded h) = sounded (number_sounds n h)
  asks_number n (half_tone_from depends last) =
      half_tone_from (has_feature song other adds NoteDependent depends) (is_last n last)
  asks_number n (half_tone_to from depends last is) =
      half_tone_to from (has_feature song other adds NoteDependent depends) (is_last from last) is
