-- The lines of bytes that are kept under a condition alone.
use Rattle.idle_parts.proofs.claims.bytes_can_be_left_out.Goals as goal
use Rattle.idle_parts.proofs.KeptBytes.{filter_loads, voice_loads, read_where_kept, pairs_are_kept}
use Rattle.idle_parts.proofs.KeptStores.{stores_idle}
use Rattle.idle_parts.proofs.KeptOrders.{orders_idle}

pub returns-clause-filter : goal.returns-clause-filter
returns-clause-filter c = filter_loads

pub returns-clause-voice : goal.returns-clause-voice
returns-clause-voice c = voice_loads

pub returns-clause-stores : goal.returns-clause-stores
returns-clause-stores c = stores_idle

pub returns-clause-orders : goal.returns-clause-orders
returns-clause-orders c = orders_idle

pub returns-clause-reads : goal.returns-clause-reads
returns-clause-reads c = read_where_kept

pub returns-clause-pairs : goal.returns-clause-pairs
returns-clause-pairs c = pairs_are_kept
