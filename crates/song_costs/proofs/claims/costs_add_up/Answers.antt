use Rattle.song_costs.proofs.Laws as laws
use Rattle.song_costs.proofs.claims.costs_add_up.Goals as goal

pub returns : goal.returns
returns c = record { costs = laws.costs_add_up; parts = laws.parts_add_up; told = laws.kept_parts_add_up }
