-- The lemmas that upper crates may cite.

-- one map of rows that keeps programs after another is one, and what is read from stand-ins is what is read from the rows
pub use Rattle.packing_rules.proofs.ProgramMaps.{retargeted_twice, end_stays, maps_compose, programs_read_the_same}
-- the wave table with new pointers into the other tables is read as the wave table is
pub use Rattle.packing_rules.proofs.NewPointers.{new_pointers_are_read}
-- tests of the numbers of a stretch
pub use Rattle.packing_rules.proofs.Numbers.{all_at, all_from, range_more}
-- the rows of a segment, and where two segments are equal
pub use Rattle.packing_rules.proofs.Segments.{segment_of, row_of_segment, is_in_from, not_behind}
pub use Rattle.packing_rules.proofs.EqualSegments.{alike_parts, alike_from, SameAt, AreEqual, equal_parts, equal_from}
pub use Rattle.packing_rules.proofs.EqualSegments.{equal_back, equal_on, such_from, open_stays, first_is}
pub use Rattle.packing_rules.proofs.EqualSegments.{first_of_first}
-- what stands for a row
pub use Rattle.packing_rules.proofs.StandIns.{stands_at, stands_for, stands_for_none, kept_parts, stand_in_stays}
pub use Rattle.packing_rules.proofs.StandIns.{kept_stands, next_stays, numbered_map, numbered_length, stand_ins_keep}
-- items with no equal one before them, one item more at a time
pub use Rattle.packing_rules.proofs.FirstSeen.{with_new, first_seen_push, same_row_is}
-- where an item stands among others, and among those with no equal one before them
pub use Rattle.packing_rules.proofs.FirstPlaces.{place_there, place_of_map, any_of_map, new_place, old_place}
pub use Rattle.packing_rules.proofs.FirstPlaces.{with_new_length, first_seen_has, first_seen_length, first_seen_all}
-- the used instruments in the order of what they hold before their notes: how many they are, where each stands, and
-- where what they hold doesn't fall
pub use Rattle.packing_rules.proofs.InstrumentOrder.{instruments_count, instruments_few, IsPlaced, place_most}
pub use Rattle.packing_rules.proofs.InstrumentOrder.{IsOfOrder, all_of_order, instrument_placed, no_instrument}
pub use Rattle.packing_rules.proofs.InstrumentOrder.{first_stays_first, order_rises}
-- a song has one size of each kind, and storing things once makes nothing longer
pub use Rattle.packing_rules.proofs.SizesOfSongs.{same_sets, sizes_are_the_songs, packed_size_is_within}
-- the tables of a song that can be played are whole
pub use Rattle.packing_rules.proofs.PlayablePrograms.{playable_programs_are_whole}
