-- The lemmas that upper crates may cite.

-- the bytes are as many as the packed song and the flag say, and the lines take them
pub use Rattle.song_lists.proofs.Lists.{data_takes_size}
pub use Rattle.song_lists.proofs.DataLines.{lines_take_size}
-- the lines are labels and bytes that are always kept, at home in any listing, and few
pub use Rattle.song_lists.proofs.DataLines.{lines_are_plain, lines_are_kept, lines_are_at_home, lines_are_few}
-- their labels: each once, no other than these, those that the player reads by, and where each is
pub use Rattle.song_lists.proofs.DataLines.{no_label_is_named_twice, own_labels_are_named, list_labels_are_named}
pub use Rattle.song_lists.proofs.DataLines.{labels_have_places}
pub use Rattle.song_lists.proofs.DataMarks.{are_data_labels}
-- among them those of the first subtune's orderlists
pub use Rattle.song_lists.proofs.Standing.{first_orders_are_marked}
-- the lists in memory, among these bytes and beside the slides
pub use Rattle.song_lists.proofs.Inside.{data_stands, lists_stand_inside, orders_stand_inside, patterns_stand_inside}
pub use Rattle.song_lists.proofs.Inside.{slides_are_inside, next_bytes_are_next}
-- so the player has its lists, and the layout is what it asks for
pub use Rattle.song_lists.proofs.Laying.{song_lists_stand, lists_are_laid}
-- bytes with labels among them stand where their lines do
pub use Rattle.song_lists.proofs.Cutting.{marked_stand}
