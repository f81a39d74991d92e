-- Where they are among the bytes.
use Rattle.song_lists.proofs.Inside.{lists_stand_inside, orders_stand_inside, patterns_stand_inside}
use Rattle.song_lists.proofs.Inside.{slides_are_inside, next_bytes_are_next}
use Rattle.song_lists.proofs.claims.lists_stand_inside.Goals as goal

pub returns-clause-lists : goal.returns-clause-lists
returns-clause-lists c = lists_stand_inside

pub returns-clause-orders : goal.returns-clause-orders
returns-clause-orders c = orders_stand_inside

pub returns-clause-patterns : goal.returns-clause-patterns
returns-clause-patterns c = patterns_stand_inside

pub returns-clause-slides : goal.returns-clause-slides
returns-clause-slides c = slides_are_inside

pub returns-clause-next : goal.returns-clause-next
returns-clause-next c = next_bytes_are_next
