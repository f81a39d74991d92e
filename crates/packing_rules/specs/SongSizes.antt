-- How many bytes a song's packed data have, by this project's own packed form.
use Rattle.std.specs.Prelude.{ℕ, ◌+◌, ◌*◌, Bool, length, sum_by, count_by}
use Rattle.std.specs.Str.{bytes_eq}
use Rattle.song_model.specs.declared.orders.Order.{Order}
use Rattle.song_model.specs.declared.orders.Subtune.{Subtune}
use Rattle.song_model.specs.declared.instruments.TheConstants.{MOST_INSTRUMENTS}
use Rattle.song_model.specs.declared.songs.Song.{Song}
use Rattle.song_model.specs.declared.tables.TableName.TheVariants.{Speed}
use Rattle.song_model.specs.LookUp.{playable_subtunes}
use Rattle.packed_form.specs.Sizes.{list_size}
use Rattle.packing_rules.specs.Segments.{ProgramTable, numbers, keeps}
use Rattle.packing_rules.specs.UsedSets.{UsedSets}
use Rattle.packing_rules.specs.Renumbering.{first_seen, speed_rows, filter_programs, pulse_programs, wave_programs, pattern_texts}

-- an orderlist's entries, its endmark, its restart position, and two bytes for its address
abbrev pub order_size : Order → ℕ
order_size order = length order.entries + 4

abbrev pub orders_size : Subtune → ℕ
orders_size subtune = order_size subtune.one + order_size subtune.two + order_size subtune.three

-- what is the same whether patterns and programs are stored once or not
abbrev pub common_size : Song → UsedSets → ℕ
common_size song used =
    sum_by orders_size (playable_subtunes song) + 9 * count_by used.instruments (numbers MOST_INSTRUMENTS)
    + 2 * length (speed_rows song (used.pointers Speed))

-- two bytes for each row of such a program table
abbrev pub rows_size : (ProgramTable → ℕ → Bool) → ProgramTable → ℕ
rows_size stays table = 2 * count_by (stays table) (numbers (length table.rows))

abbrev pub programs_size : (ProgramTable → ℕ → Bool) → Song → UsedSets → ℕ
programs_size stays song used =
    rows_size stays (wave_programs song used) + rows_size stays (pulse_programs song used)
    + rows_size stays (filter_programs song used)

-- each used pattern and each reached row is counted
unfoldable pub data_size : Song → UsedSets → ℕ
data_size song used =
    common_size song used + sum_by list_size (pattern_texts song used)
    + programs_size (λ table. table.reached) song used

-- patterns that share a number are counted once, and dropped rows aren't counted
unfoldable pub packed_size : Song → UsedSets → ℕ
packed_size song used =
    common_size song used + sum_by list_size (first_seen bytes_eq (pattern_texts song used))
    + programs_size keeps song used
