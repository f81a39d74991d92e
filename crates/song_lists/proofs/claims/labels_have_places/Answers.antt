-- The labels of the lines.
use Rattle.song_lists.proofs.DataLines.{no_label_is_named_twice, own_labels_are_named, list_labels_are_named}
use Rattle.song_lists.proofs.DataLines.{labels_have_places}
use Rattle.song_lists.proofs.claims.labels_have_places.Goals as goal

pub returns-clause-once : goal.returns-clause-once
returns-clause-once c = no_label_is_named_twice

pub returns-clause-own : goal.returns-clause-own
returns-clause-own c = own_labels_are_named

pub returns-clause-named : goal.returns-clause-named
returns-clause-named c = list_labels_are_named

pub returns-clause-places : goal.returns-clause-places
returns-clause-places c = labels_have_places
