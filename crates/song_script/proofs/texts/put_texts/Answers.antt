use Rattle.song_script.specs.Parts.{texts_said}
use Rattle.song_script.proofs.PutLaws.{join_more, join_last}
use Rattle.song_script.proofs.texts.put_texts.Goals as goal

pub returns : goal.returns
unfolding texts_said
returns c =
    join_last _ _ _ _ _ _
    (join_more _ _ _ _ _ c.in_ok-put_text.ensures c.in_ok-put_text-2.ensures) c.put_text-3.ensures
