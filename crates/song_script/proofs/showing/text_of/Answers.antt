use Rattle.std.proofs.Common.{[], ◌∷◌, ◌++◌, ap, ◌∙◌}
use Rattle.song_script.specs.Statements.{Comment, text_of, each_from}
use Rattle.song_script.specs.Parts.{parts_made, texts_said, subtune_said, instrument_said, tables_said, pattern_said}
use Rattle.song_script.specs.Shown.{title_words, statements_of}
use Rattle.song_script.proofs.PutLaws.{join_more}
use Rattle.song_script.proofs.showing.text_of.Goals as goal

pub returns : goal.returns
unfolding statements_of
returns c =
    let song = c.args.song.now in
    let one = Comment title_words ∷ [] in
    let two = one ++ parts_made song in
    let three = two ++ texts_said song in
    let four = three ++ each_from 1 subtune_said song.subtunes in
    let five = four ++ each_from 1 instrument_said song.instruments in
    let six = five ++ tables_said song in
    join_more six (each_from 0 pattern_said song.patterns) [] _ _
    (join_more five (tables_said song) [] _ _
    (join_more four (each_from 1 instrument_said song.instruments) [] _ _
    (join_more three (each_from 1 subtune_said song.subtunes) [] _ _
    (join_more two (texts_said song) [] _ _
    (join_more one (parts_made song) [] _ _
    (c.in_ok-extend.ensures.ok ∙ ap (λ text. text ++ text_of (Comment title_words ∷ [])) c.new-out.ensures)
    c.in_ok-put_parts_made.ensures)
    c.in_ok-put_texts.ensures)
    c.in_ok-put_subtunes.ensures)
    c.in_ok-put_instruments.ensures)
    c.in_ok-put_tables.ensures)
    c.in_ok-put_patterns.ensures
