-- The lists of a small song.
use Rattle.song_lists.proofs.WorkedLists.{frequencies_are_worked, small_lists_are_worked, few_fields_are_worked}
use Rattle.song_lists.proofs.WorkedLists.{holders_are, one_subtune_is}
use Rattle.song_lists.proofs.WorkedOrders.{first_orders_are_worked}
use Rattle.song_lists.proofs.WorkedDenials.{other_listings_are}
use Rattle.song_lists.proofs.claims.worked_lists.Goals as goal

pub returns-clause-frequencies : goal.returns-clause-frequencies
returns-clause-frequencies c = frequencies_are_worked

pub returns-clause-small : goal.returns-clause-small
returns-clause-small c = small_lists_are_worked

pub returns-clause-fields : goal.returns-clause-fields
returns-clause-fields c = few_fields_are_worked

pub returns-clause-holders : goal.returns-clause-holders
returns-clause-holders c = holders_are

pub returns-clause-subtune : goal.returns-clause-subtune
returns-clause-subtune c = one_subtune_is

pub returns-clause-orders : goal.returns-clause-orders
returns-clause-orders c = first_orders_are_worked

pub returns-clause-others : goal.returns-clause-others
returns-clause-others c = other_listings_are
