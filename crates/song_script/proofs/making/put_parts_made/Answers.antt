use Rattle.std.proofs.Common.{◌++◌, length}
use Rattle.song_model.specs.declared.songs.Song.{Song}
use Rattle.song_script.specs.Parts.{subtunes_made, instruments_made, table_made, patterns_made, parts_made}
use Rattle.song_script.proofs.PutLaws.{join_more, join_last, counted_more, counted_last}
use Rattle.song_script.proofs.making.put_parts_made.Goals as goal

pub returns : goal.returns
unfolding parts_made
returns c =
    let song : Song = c.args.song.now in
    let one = subtunes_made (length song.subtunes) in
    let two = one ++ instruments_made (length song.instruments) in
    let three = two ++ table_made 0 (length song.wave) in
    let four = three ++ table_made 1 (length song.pulse) in
    let five = four ++ table_made 2 (length song.filter) in
    let six = five ++ table_made 3 (length song.speed) in
    join_last _ six (patterns_made (length song.patterns)) _ _ _
    (join_more five (table_made 3 (length song.speed)) _ _ _
    (join_more four (table_made 2 (length song.filter)) _ _ _
    (join_more three (table_made 1 (length song.pulse)) _ _ _
    (join_more two (table_made 0 (length song.wave)) _ _ _
    (join_more one (instruments_made (length song.instruments)) _ _ _
    (counted_more subtunes_made _ _ c.as_slice-subtunes.ensures.items _ _ c.in_ok-put_subtunes_made.ensures)
    (counted_more instruments_made _ _ c.as_slice-instruments.ensures.items _ _
    c.in_ok-put_instruments_made.ensures))
    (counted_more (table_made 0) _ _ c.as_slice-wave.ensures.items _ _ c.in_ok-put_table_made.ensures))
    (counted_more (table_made 1) _ _ c.as_slice-pulse.ensures.items _ _ c.in_ok-put_table_made-2.ensures))
    (counted_more (table_made 2) _ _ c.as_slice-filter.ensures.items _ _ c.in_ok-put_table_made-3.ensures))
    (counted_more (table_made 3) _ _ c.as_slice-speed.ensures.items _ _ c.in_ok-put_table_made-4.ensures))
    (counted_last _ patterns_made _ _ c.as_slice-patterns.ensures.items _ _ c.put_patterns_made.ensures)
