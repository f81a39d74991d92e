-- What a song within its limits has under a number is within its ranges, stored or not.
use Rattle.std.proofs.Common.{◌≡◌, ℕ, ◌-◌, ◌<◌, true, List, [], length, get_or, All, lit<, inl, inr, refl, arith}
use Rattle.std.specs.Prelude.{◌==◌}
use Rattle.std.proofs.lemmas.Bool.{cond_both, cases_lt}
use Rattle.std.proofs.lemmas.Bool.Decides.{nat_tests}
use Rattle.std.proofs.lemmas.List.{get_or_past}
use Rattle.std.proofs.lemmas.List.Elements.{All-nil, All-replicate, All-get_or}
use Rattle.base.proofs.Laws.{All-get_or_any}
use Rattle.song_model.specs.declared.rows.Row.{Row}
use Rattle.song_model.specs.declared.orders.Order.{Order}
use Rattle.song_model.specs.declared.orders.Subtune.{Subtune}
use Rattle.song_model.specs.declared.tables.TableName.{TableName}
use Rattle.song_model.specs.declared.tables.TableName.TheVariants.{Wave, Pulse, Filter, Speed}
use Rattle.song_model.specs.declared.songs.Song.{Song}
use Rattle.song_model.specs.Basics.{IsByte}
use Rattle.song_model.specs.PatternLimits.{IsRow, IsPattern}
use Rattle.song_model.specs.Limits.{IsInstrument, IsTableRow, KeepsLimits}
use Rattle.song_model.specs.Silent.{IsSilentSubtune}
use Rattle.song_model.specs.LookUp.{numbered, zero_instrument, instrument_at, zero_table_row, table_of, table_row}
use Rattle.song_model.specs.LookUp.{pattern_at, has_entries, is_playable_subtune}

zero_instrument_in_range : IsInstrument zero_instrument
zero_instrument_in_range = record {
  ad = lit< tt;
  sr = lit< tt;
  wave = lit< tt;
  pulse = lit< tt;
  filter = lit< tt;
  vibrato = lit< tt;
  vibrato_delay = lit< tt;
  gate_timer = lit< tt;
  first_wave = lit< tt;
  name = record { count = refl; each = All-replicate IsByte 16 0 (lit< tt) };
}

zero_table_row_in_range : IsTableRow zero_table_row
zero_table_row_in_range = record { left = lit< tt; right = lit< tt }

numbered_or_zero : {X : Type 0} (P : X → Type 0) (items : List X) (n : ℕ) (d : X) → P d → All P items →
    P (numbered items n d)
numbered_or_zero P items n d zero_one each =
    cond_both (n == 0) d (get_or items (n - 1) d) P (λ z. zero_one)
    (λ z. All-get_or_any P items (n - 1) d zero_one each)

pub instrument_in_range : (song : Song) (n : ℕ) → KeepsLimits song → IsInstrument (instrument_at song n)
unfolding instrument_at
instrument_in_range song n limits =
    numbered_or_zero IsInstrument song.instruments n zero_instrument zero_instrument_in_range limits.instruments.each

rows_of_table : (song : Song) (name : TableName) → KeepsLimits song → All IsTableRow (table_of song name)
rows_of_table song Wave limits = limits.wave.each
rows_of_table song Pulse limits = limits.pulse.each
rows_of_table song Filter limits = limits.filter.each
rows_of_table song Speed limits = limits.speed.each

pub table_row_in_range : (song : Song) (name : TableName) (p : ℕ) → KeepsLimits song →
    IsTableRow (table_row song name p)
unfolding table_row
table_row_in_range song name p limits =
    numbered_or_zero IsTableRow (table_of song name) p zero_table_row zero_table_row_in_range
    (rows_of_table song name limits)

pub pattern_rows_in_range : (song : Song) (n : ℕ) → KeepsLimits song → All IsRow (pattern_at song n)
unfolding pattern_at
pattern_rows_in_range song n limits =
    elim (cases_lt n (length song.patterns)) [
      | inl inside ↦ (All-get_or IsPattern song.patterns n [] inside limits.patterns.each).each
      | inr past ↦ rw (get_or_past song.patterns n [] past) (All-nil IsRow)
    ]

entries_there : (order : Order) → 0 < length order.entries → has_entries order ≡ true
entries_there order h = grind (arith, nat_tests)

-- a silent subtune can be played
pub silent_is_playable : (patterns : List (List Row)) (subtune : Subtune) → IsSilentSubtune patterns subtune →
    is_playable_subtune subtune ≡ true
silent_is_playable patterns subtune s =
    rw (
      entries_there subtune.one s.one.entry,
      entries_there subtune.two s.two.entry,
      entries_there subtune.three s.three.entry,
    )
