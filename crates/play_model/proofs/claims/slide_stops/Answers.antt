use Rattle.play_model.proofs.Computed.{slide_stops_lem}
use Rattle.play_model.proofs.claims.slide_stops.Goals as goal

pub returns : goal.returns
returns c = slide_stops_lem
