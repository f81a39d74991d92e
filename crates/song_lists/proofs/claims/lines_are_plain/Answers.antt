-- What the lines are.
use Rattle.song_lists.proofs.DataLines.{lines_are_plain, lines_are_kept, lines_are_at_home, lines_are_few}
use Rattle.song_lists.proofs.claims.lines_are_plain.Goals as goal

pub returns-clause-plain : goal.returns-clause-plain
returns-clause-plain c = lines_are_plain

pub returns-clause-kept : goal.returns-clause-kept
returns-clause-kept c = lines_are_kept

pub returns-clause-at_home : goal.returns-clause-at_home
returns-clause-at_home c = lines_are_at_home

pub returns-clause-few : goal.returns-clause-few
returns-clause-few c = lines_are_few
