-- The lemmas that upper crates may cite.
-- the columns are the calls, none of them is empty, and there are at most 800
pub use Rattle.song_chart.proofs.ColumnLaws.{columns_are_the_calls, columns_are_filled, columns_are_few}
-- how long the text of a picture is
pub use Rattle.song_chart.proofs.Lengths.{chart_is_short}
