use Rattle.packing_rules.proofs.ProgramMaps.{maps_compose}
use Rattle.packing_rules.proofs.claims.maps_compose.Goals as goal

pub returns : goal.returns
returns c = maps_compose
