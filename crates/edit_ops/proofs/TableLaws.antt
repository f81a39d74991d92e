-- What the tests of a table's rows tell.
use Rattle.std.proofs.Common.{◌≡◌, ℕ, ◌+◌, ◌<◌, ◌≤◌, ◌≢◌, ◌||◌, ◌==◌, true, false}
use Rattle.std.proofs.Common.{nat_lt, nat_eq, eq-eqb, arith}
use Rattle.std.proofs.lemmas.Bool.{or_parts}
use Rattle.std.proofs.lemmas.Bool.Decides.{nat_tests}
use Rattle.song_model.specs.declared.songs.Song.{Song}
use Rattle.edit_ops.specs.Tables.{rows_of, lacks_table, lacks_table_row, lacks_table_gap, has_table_rows}

pub table_row_stands : (song : Song) (table number : ℕ) → lacks_table_row song table number ≡ false →
    (0 < number) × (number ≤ rows_of song table)
table_row_stands song table number h =
    let outer = or_parts (lacks_table table || number == 0) (nat_lt (rows_of song table) number) h in
    let first = (or_parts (lacks_table table) (number == 0) outer.0).1 in
    let last = outer.1 in
    (grind (arith, nat_tests), grind (arith, nat_tests))

pub table_gap_stands : (song : Song) (table number : ℕ) → lacks_table_gap song table number ≡ false →
    (0 < number) × (number ≤ rows_of song table + 1)
table_gap_stands song table number h =
    let outer = or_parts (lacks_table table || number == 0) (nat_lt (rows_of song table + 1) number) h in
    let first = (or_parts (lacks_table table) (number == 0) outer.0).1 in
    let last = outer.1 in
    (grind (arith, nat_tests), grind (arith, nat_tests))

pub other_rows : (song : Song) (table n : ℕ) → has_table_rows song table n ≡ false → rows_of song table ≢ n
other_rows song table n h e = let t : nat_eq (rows_of song table) n ≡ true = eq-eqb _ _ e in cc
