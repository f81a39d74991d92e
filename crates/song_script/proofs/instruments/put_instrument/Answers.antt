use Rattle.song_script.specs.Statements.{each_from}
use Rattle.song_script.specs.Parts.{instrument_words, fields_of, field_said, name_said}
use Rattle.song_script.proofs.PutLaws.{comment_join}
use Rattle.song_script.proofs.instruments.put_instrument.Goals as goal

pub returns : goal.returns
returns c =
    let n = c.args.number in
    let i = c.args.instrument.now in
    comment_join _ (instrument_words n i.name) (each_from 0 (field_said n) (fields_of i)) (name_said n i.name) _ _ _ _
    c.in_ok-put_title.ensures c.in_ok-put_fields.ensures c.put_name.ensures
