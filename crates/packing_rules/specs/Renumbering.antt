-- The numbers that the used parts of a song get in its packed song, from this project's own packed form. Tables come in
-- the order speed, filter, pulse, wave, then patterns. 0, which names nothing, stays 0. The number of what isn't used
-- means nothing.
use Rattle.std.specs.Prelude.{ℕ, ◌+◌, ◌-◌, nat_eq, Bool, not, ◌&&◌, ◌==◌, true, false, if◌then◌else◌, List, []}
use Rattle.std.specs.Prelude.{◌∷◌, ◌++◌, length, map, filter, count_by, Option, Some, None}
use Rattle.std.specs.List.{list_any, position_or_len, range_with_len}
use Rattle.std.specs.Str.{bytes_eq}
use Rattle.song_model.specs.declared.rows.Row.{Row}
use Rattle.song_model.specs.declared.tables.TableRow.{TableRow}
use Rattle.song_model.specs.declared.tables.TableName.{TableName}
use Rattle.song_model.specs.declared.tables.TableName.TheVariants.{Wave, Pulse, Filter, Speed}
use Rattle.song_model.specs.declared.tables.TheConstants.{MOST_TABLE_ROWS}
use Rattle.song_model.specs.declared.patterns.TheConstants.{MOST_PATTERNS}
use Rattle.song_model.specs.declared.instruments.TheConstants.{MOST_INSTRUMENTS}
use Rattle.song_model.specs.declared.songs.Song.{Song}
use Rattle.song_model.specs.LookUp.{speed_row, pattern_at, instrument_at}
use Rattle.song_model.specs.Pointers.{command_table, wave_row_table}
use Rattle.song_facts.specs.declared.hold.Hold.{Hold}
use Rattle.song_facts.specs.declared.hold.Hold.TheVariants.{Nothing, Envelope, Gate}
use Rattle.song_facts.specs.Hold.{hold_of, how_much}
use Rattle.packed_form.specs.PackedText.{packed_text}
use Rattle.packing_rules.specs.Segments.{ProgramTable, numbers, row_of, keeps, stand_in}
use Rattle.packing_rules.specs.ProgramMaps.{retargeted}
use Rattle.packing_rules.specs.UsedSets.{UsedSets}

-- ---- words

-- the items with no equal one before them
abbrev pub first_seen : {X : Type 0} → (X → X → Bool) → List X → List X
first_seen same [] = []
first_seen same (x ∷ xs) = x ∷ filter (λ y. not (same y x)) (first_seen same xs)

-- how many of the numbers from 1 to n are kept: the new number of a kept number n
abbrev pub rank : (ℕ → Bool) → ℕ → ℕ
rank keep n = count_by keep (numbers n)

abbrev pub same_row : TableRow → TableRow → Bool
same_row x y = (x.left == y.left) && (x.right == y.right)

-- ---- the speed table

-- the used rows in ascending order of their numbers, each row once; rows past the table are zero
unfoldable pub speed_rows : Song → (ℕ → Bool) → List TableRow
speed_rows song used = first_seen same_row (map (speed_row song) (filter used (numbers MOST_TABLE_ROWS)))

-- one that isn't used gets 0
unfoldable pub speed_number : Song → (ℕ → Bool) → ℕ → ℕ
speed_number song used p =
    if used p then position_or_len (same_row (speed_row song p)) (speed_rows song used) + 1 else 0

-- ---- the filter, the pulse and the wave table

abbrev pub filter_programs : Song → UsedSets → ProgramTable
filter_programs song used = record {
  rows = song.filter;
  reached = used.reached Filter;
  entries = used.pointers Filter;
  pulse = false;
}

abbrev pub pulse_programs : Song → UsedSets → ProgramTable
pulse_programs song used = record {
  rows = song.pulse;
  reached = used.reached Pulse;
  entries = used.pointers Pulse;
  pulse = true;
}

-- the number of the row that stands for row p, among those that stay
abbrev pub program_number : ProgramTable → ℕ → ℕ
program_number table p = rank (keeps table) (stand_in table p)

-- the rows that stay, in order; each jump goes to the number of what stands for its target
unfoldable pub program_rows : ProgramTable → List TableRow
program_rows table =
    map (λ p. retargeted (program_number table) (row_of table p)) (filter (keeps table) (numbers (length table.rows)))

-- the new number of a row of a table that the wave table points into
abbrev pub foreign_number : Song → UsedSets → TableName → ℕ → ℕ
foreign_number song used Wave p = p
foreign_number song used Pulse p = program_number (pulse_programs song used) p
foreign_number song used Filter p = program_number (filter_programs song used) p
foreign_number song used Speed p = speed_number song (used.pointers Speed) p

-- the new number of what is pointed at, where this is a pointer into a table
abbrev pub pointer_number : (TableName → ℕ → ℕ) → Option TableName → ℕ → ℕ
pointer_number number (Some name) p = number name p
pointer_number number None p = p

-- a row of the wave table that points into another table has its new number
abbrev pub wave_row : Song → UsedSets → TableRow → TableRow
wave_row song used row =
    record row { right = pointer_number (foreign_number song used) (wave_row_table row.left) row.right }

abbrev pub wave_programs : Song → UsedSets → ProgramTable
wave_programs song used = record {
  rows = map (wave_row song used) song.wave;
  reached = used.reached Wave;
  entries = used.pointers Wave;
  pulse = false;
}

-- the new number of a row of any table
unfoldable pub table_number : Song → UsedSets → TableName → ℕ → ℕ
table_number song used Wave p = program_number (wave_programs song used) p
table_number song used Pulse p = foreign_number song used Pulse p
table_number song used Filter p = foreign_number song used Filter p
table_number song used Speed p = foreign_number song used Speed p

-- ---- instruments and patterns

-- the used instruments behind the first that hold this before their notes, in ascending order
abbrev pub holders : Song → UsedSets → Hold → List ℕ
holders song used hold =
    filter (λ n. used.instruments n && (how_much (hold_of (instrument_at song n)) == how_much hold))
    (range_with_len 2 (MOST_INSTRUMENTS - 1))

-- Each voice begins with instrument 1, which stays the first. Behind it stand those that hold nothing, those that hold
-- the envelope, and those that hold the gate.
unfoldable pub instruments_in_order : Song → UsedSets → List ℕ
instruments_in_order song used =
    1 ∷ (holders song used Nothing ++ (holders song used Envelope ++ holders song used Gate))

-- the place of a number among others, from 1 on; 0 where it isn't there
abbrev pub place_in : List ℕ → ℕ → ℕ
place_in items n = if list_any (nat_eq n) items then position_or_len (nat_eq n) items + 1 else 0

unfoldable pub instrument_number : Song → UsedSets → ℕ → ℕ
instrument_number song used n = place_in (instruments_in_order song used) n

-- a row with its instrument and its pointer renumbered
abbrev pub renumbered_row : Song → UsedSets → Row → Row
renumbered_row song used row = record row {
  instrument = instrument_number song used row.instrument;
  param = pointer_number (table_number song used) (command_table row.command) row.param;
}

-- what a pattern is packed to
unfoldable pub pattern_text : Song → UsedSets → ℕ → List ℕ
pattern_text song used p = packed_text (map (renumbered_row song used) (pattern_at song p))

-- the texts of the used patterns, in ascending order of their numbers
unfoldable pub pattern_texts : Song → UsedSets → List (List ℕ)
pattern_texts song used = map (pattern_text song used) (filter used.patterns (range_with_len 0 MOST_PATTERNS))

-- patterns with the same text share one number, counted from 0
unfoldable pub pattern_number : Song → UsedSets → ℕ → ℕ
pattern_number song used p =
    position_or_len (bytes_eq (pattern_text song used p)) (first_seen bytes_eq (pattern_texts song used))
