-- The new numbers that were worked out by hand.
use Rattle.std.proofs.Common.{◌≡◌, sym, ◌∙◌, ap, refl, arith}
use Rattle.song_model.specs.LookUp.{table_row}
use Rattle.packing_rules.specs.ProgramMaps.{row_at}
use Rattle.packing_rules.specs.Renumbering.{speed_rows, speed_number}
use Rattle.table_pack.specs.WorkedTables.{LastFourAreKept, ZeroSpeedsAreOne}

pub last_four_are_kept : LastFourAreKept
last_four_are_kept rows to is =
    let three : to 3 ≡ 1 = is.number 3 refl in
    let six : to 6 ≡ 4 = is.number 6 refl in (
      is.count,
      is.none 2 refl,
      three,
      six,
      ap (row_at rows) (sym three) ∙ is.row 3 refl,
      ap (row_at rows) (sym six) ∙ is.row 6 refl,
    )

pub zero_speeds_are_one : ZeroSpeedsAreOne
unfolding speed_rows speed_number table_row
zero_speeds_are_one rows to is = (is.rows_are, is.number 7 refl (omega arith), is.number 255 refl (omega arith))
