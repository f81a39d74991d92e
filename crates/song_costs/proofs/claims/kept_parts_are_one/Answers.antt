use Rattle.song_costs.proofs.Laws as laws
use Rattle.song_costs.proofs.claims.kept_parts_are_one.Goals as goal

pub returns : goal.returns
returns c = laws.kept_parts_are_one
