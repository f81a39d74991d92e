use Rattle.std.proofs.Common.{length}
use Rattle.song_script.specs.Statements.{each_from}
use Rattle.song_script.specs.Parts.{pattern_words, length_said, row_said}
use Rattle.song_script.proofs.PutLaws.{comment_join, counted_more}
use Rattle.song_script.proofs.patterns.put_pattern.Goals as goal

pub returns : goal.returns
returns c =
    let n = c.args.number in
    let rows = c.args.pattern.now in
    comment_join _ (pattern_words n) (length_said n (length rows)) (each_from 0 (row_said n) rows) _ _ _ _
    c.in_ok-put_title.ensures
    (counted_more (length_said n) _ _ c.as_slice-rows.ensures.rows _ _ c.in_ok-put_length.ensures) c.put_rows.ensures
