-- The joined song keeps the limits of the format.
use Rattle.std.proofs.Common.{ℕ, ◌+◌, ◌≤◌, List, ◌++◌, map, length, All, Contains, arith, length-append}
use Rattle.std.proofs.lemmas.List.{length-map}
use Rattle.std.proofs.lemmas.List.Elements.{All-append, All-map, All-contains, Contains-get_or}
use Rattle.base.specs.Limits.{KeepsLimit}
use Rattle.base.specs.Bytes.{IsByte}
use Rattle.base.proofs.Laws.{filter_of}
use Rattle.song_model.specs.declared.orders.Order.{Order}
use Rattle.song_model.specs.declared.orders.Subtune.{Subtune}
use Rattle.song_model.specs.declared.instruments.Instrument.{Instrument}
use Rattle.song_model.specs.declared.tables.TableRow.{TableRow}
use Rattle.song_model.specs.declared.tables.TableName.{TableName}
use Rattle.song_model.specs.declared.tables.TableName.TheVariants.{Wave, Pulse, Filter, Speed}
use Rattle.song_model.specs.declared.songs.Song.{Song}
use Rattle.song_model.specs.PatternLimits.{IsPattern}
use Rattle.song_model.specs.Limits.{IsOrder, IsSubtune, IsInstrument, IsTableRow, IsTable, KeepsLimits}
use Rattle.song_model.specs.LookUp.{table_of, is_playable_subtune, playable_subtunes}
use Rattle.same_frames.specs.Maps.{right_table, moved_row, moved_instrument}
use Rattle.same_frames.specs.OrderLaws.{moved_order, moved_subtune}
use Rattle.song_join.specs.declared.faults.JoinPart.TheVariants.{Subtunes, Instruments, Patterns}
use Rattle.song_join.specs.Numbers.{new_numbers}
use Rattle.song_join.specs.Joined.{moved_pattern_row, joined_rows, joined}
use Rattle.song_join.specs.Parts.{NamesStored}
use Rattle.song_join.specs.JoinLaws.{AreJoinable}
use Rattle.song_join.proofs.Ranges.{raised_small, rows_within, pointer_small, moved_is_pattern, moved_are_entries}
use Rattle.song_join.proofs.Named.{has_stored}

-- two lists within one limit
both_keep : {X : Type 0} (most : ℕ) (P : X → Type 0) (f : X → X) (xs ys : List X) → length xs + length ys ≤ most →
    All P xs → All (λ y. P (f y)) ys → KeepsLimit most P (xs ++ map f ys)
both_keep most P f xs ys few first second =
    let sum = length-append xs (map f ys) in
    let count = length-map ys f in
    record {
      count = omega arith;
      each = All-append P xs (map f ys) first (All-map P f ys second);
    }

module _ (first second : Song) (j : AreJoinable first second) where
  -- ---- instruments and tables

  row_byte : (name : TableName) (p : ℕ) → IsByte ((new_numbers first second).row name p)
  unfolding new_numbers
  row_byte name p =
      let low =
      raised_small (length (table_of second name)) (length (table_of first name)) p 255
      (rows_within first second name j.can.within) in
      omega arith

  instrument_kept : (i : Instrument) → IsInstrument i → IsInstrument (moved_instrument (new_numbers first second) i)
  instrument_kept i is = record {
    ad = is.ad;
    sr = is.sr;
    wave = row_byte Wave i.wave;
    pulse = row_byte Pulse i.pulse;
    filter = row_byte Filter i.filter;
    vibrato = row_byte Speed i.vibrato;
    vibrato_delay = is.vibrato_delay;
    gate_timer = is.gate_timer;
    first_wave = is.first_wave;
    name = is.name;
  }

  table_row_kept : (name : TableName) (row : TableRow) → IsTableRow row →
      IsTableRow (moved_row (new_numbers first second) name row)
  table_row_kept name row is = record {
    left = is.left;
    right = pointer_small first second (right_table name row) row.right j.can.within is.right;
  }

  table_kept : (name : TableName) → IsTable (table_of first name) → IsTable (table_of second name) →
      IsTable (joined_rows first second name)
  table_kept name own other =
      let few = rows_within first second name j.can.within in
      both_keep 255 IsTableRow (moved_row (new_numbers first second) name) (table_of first name) (table_of second name)
      (omega arith) own.each (λ k d there. table_row_kept name _ (other.each k d there))

  -- ---- subtunes

  order_kept : (order : Order) → IsOrder order → NamesStored (length second.patterns) order.entries →
      IsOrder (moved_order (new_numbers first second) order)
  order_kept order is stored = record {
    entries = moved_are_entries first second j.can.within order.entries is.entries stored;
    restart = is.restart;
  }

  subtune_kept : (subtune : Subtune) → Contains (playable_subtunes second) subtune →
      IsSubtune (moved_subtune (new_numbers first second) subtune)
  subtune_kept subtune has =
      let kept = filter_of is_playable_subtune second.subtunes subtune has in
      let is = All-contains IsSubtune second.subtunes subtune j.second_limits.subtunes.each kept.0 in
      let stored = has_stored second subtune j.second_plays kept.0 kept.1 in
      record {
        one = order_kept subtune.one is.one stored.one;
        two = order_kept subtune.two is.two stored.two;
        three = order_kept subtune.three is.three stored.three;
      }

  pub keeps_limits : KeepsLimits (joined first second)
  unfolding joined
  keeps_limits = record {
    name = j.first_limits.name;
    author = j.first_limits.author;
    copyright = j.first_limits.copyright;
    subtunes =
        both_keep 32 IsSubtune (moved_subtune (new_numbers first second)) first.subtunes (playable_subtunes second)
        (j.can.within.part Subtunes) j.first_limits.subtunes.each
        (λ k d there. subtune_kept _ (Contains-get_or (playable_subtunes second) k d there));
    instruments =
        both_keep 63 IsInstrument (moved_instrument (new_numbers first second)) first.instruments second.instruments
        (j.can.within.part Instruments) j.first_limits.instruments.each
        (λ k d there. instrument_kept _ (j.second_limits.instruments.each k d there));
    wave = table_kept Wave j.first_limits.wave j.second_limits.wave;
    pulse = table_kept Pulse j.first_limits.pulse j.second_limits.pulse;
    filter = table_kept Filter j.first_limits.filter j.second_limits.filter;
    speed = table_kept Speed j.first_limits.speed j.second_limits.speed;
    patterns =
        both_keep 208 IsPattern (map (moved_pattern_row (new_numbers first second))) first.patterns second.patterns
        (j.can.within.part Patterns) j.first_limits.patterns.each
        (λ k d there. moved_is_pattern first second j.can.within _ (j.second_limits.patterns.each k d there));
  }
