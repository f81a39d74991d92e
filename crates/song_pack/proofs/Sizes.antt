-- A packed song has the size that its song has.
use Rattle.std.proofs.Common.{◌≡◌, ℕ, List, [], ◌∷◌, map, length, refl, ◌∙◌, ap, inl, arith}
use Rattle.std.specs.List.{sum_by, count_by}
use Rattle.std.proofs.lemmas.List.{length-map, length-append}
use Rattle.std.proofs.lemmas.List.Sums.{sum_by-cons}
use Rattle.song_model.specs.declared.orders.Order.{Order}
use Rattle.song_model.specs.declared.orders.Subtune.{Subtune}
use Rattle.song_model.specs.declared.instruments.TheConstants.{MOST_INSTRUMENTS}
use Rattle.song_model.specs.declared.tables.TableRow.{TableRow}
use Rattle.song_model.specs.declared.songs.Song.{Song}
use Rattle.song_model.specs.LookUp.{instrument_at, playable_subtunes}
use Rattle.packed_form.specs.declared.packed_songs.PackedSong.{PackedSong}
use Rattle.packed_form.specs.Sizes.{list_size, subtune_size, packed_song_size}
use Rattle.packing_rules.specs.Segments.{ProgramTable, numbers, keeps}
use Rattle.packing_rules.specs.UsedSets.{UsedSets, AreUsedSets}
use Rattle.packing_rules.specs.Renumbering.{program_rows, table_number, instruments_in_order, pattern_number}
use Rattle.packing_rules.specs.SongSizes.{order_size, orders_size, packed_size}
use Rattle.packing_rules.proofs.Laws.{instruments_count}
use Rattle.song_pack.proofs.StoredTables.{program_count}
use Rattle.song_pack.specs.Packed.{order_byte, order_bytes, packed_subtune, packed_instrument, IsPacked}

order_length : (number : ℕ → ℕ) (order : Order) → list_size (order_bytes number order) ≡ order_size order
order_length number order =
    let all = length-append (map (order_byte number) order.entries) (0xFF ∷ order.restart ∷ []) in
    let entries = length-map order.entries (order_byte number) in
    omega arith

subtune_length : (number : ℕ → ℕ) (subtune : Subtune) → subtune_size (packed_subtune number subtune) ≡ orders_size
    subtune
subtune_length number subtune =
    let one = order_length number subtune.one in
    let two = order_length number subtune.two in
    let three = order_length number subtune.three in
    omega arith

subtunes_length : (number : ℕ → ℕ) (subtunes : List Subtune) →
    sum_by subtune_size (map (packed_subtune number) subtunes) ≡ sum_by orders_size subtunes
subtunes_length number [] = refl
subtunes_length number (subtune ∷ subtunes) =
    let one = sum_by-cons subtune_size (packed_subtune number subtune) (map (packed_subtune number) subtunes) in
    let other = sum_by-cons orders_size subtune subtunes in
    let here = subtune_length number subtune in
    let rest = subtunes_length number subtunes in
    omega arith

rows_length : (table : ProgramTable) (rows : List TableRow) → rows ≡ program_rows table →
    length rows ≡ count_by (keeps table) (numbers (length table.rows))
rows_length table rows are = ap length are ∙ program_count table

-- as many instruments as are used
pub instruments_are_counted : (song : Song) (used : UsedSets) (packed : PackedSong) → AreUsedSets song used →
    IsPacked song used packed → length packed.instruments ≡ count_by used.instruments (numbers MOST_INSTRUMENTS)
instruments_are_counted song used packed are is =
    ap length is.instruments
    ∙ length-map (instruments_in_order song used)
    (λ n. packed_instrument (table_number song used) (instrument_at song n))
    ∙ instruments_count song used ((are.instruments 1).1 (inl refl))

pub size_is : (song : Song) (used : UsedSets) (packed : PackedSong) → AreUsedSets song used →
    IsPacked song used packed → packed_song_size packed ≡ packed_size song used
unfolding packed_size
size_is song used packed are is =
    let subtunes : sum_by subtune_size packed.subtunes ≡ sum_by orders_size (playable_subtunes song) =
    ap (sum_by subtune_size) is.subtunes ∙ subtunes_length (pattern_number song used) (playable_subtunes song) in
    let patterns = ap (sum_by list_size) is.patterns in
    let instruments = instruments_are_counted song used packed are is in
    let wave = rows_length _ packed.wave is.wave in
    let pulse = rows_length _ packed.pulse is.pulse in
    let filter_rows = rows_length _ packed.filter is.filter in
    let speed = ap length is.speed.rows_are in
    omega arith
