use Rattle.song_join.proofs.Whole.{whole_join}
use Rattle.song_join.proofs.joining.join.Goals as goal

pub returns-in-Ok-clause-whole : goal.returns-in-Ok-clause-whole
returns-in-Ok-clause-whole c =
    whole_join c.in-Ok.song c.args.first.now c.args.second.now c.requires.first_plays c.requires.second_plays
    c.in_ok-check.ensures.none c.in-Ok.ensures
