-- The layouts of a small song's lists.
use Rattle.song_lists.proofs.WorkedLayouts.{small_layouts_are_worked, other_layouts_are_not, others_are_not_laid}
use Rattle.song_lists.proofs.WorkedLayouts.{small_places_are, labels_are_worked}
use Rattle.song_lists.proofs.claims.worked_layouts.Goals as goal

pub returns-clause-small : goal.returns-clause-small
returns-clause-small c = small_layouts_are_worked

pub returns-clause-others : goal.returns-clause-others
returns-clause-others c packed is =
    (other_layouts_are_not packed is, others_are_not_laid packed is)

pub returns-clause-places : goal.returns-clause-places
returns-clause-places c = small_places_are

pub returns-clause-labels : goal.returns-clause-labels
returns-clause-labels c = labels_are_worked
