use Rattle.packed_form.proofs.SongWalks.{walk_counts_are_bytes, endmarks_count, plain_walks_are_two}
use Rattle.packed_form.proofs.claims.walk_counts_are_bytes.Goals as goal

pub returns-clause-bytes : goal.returns-clause-bytes
returns-clause-bytes c = walk_counts_are_bytes

pub returns-clause-endmarks : goal.returns-clause-endmarks
returns-clause-endmarks c = endmarks_count

pub returns-clause-plain : goal.returns-clause-plain
returns-clause-plain c = plain_walks_are_two
