use Rattle.psid.proofs.HeaderPieces.{fields_stand}
use Rattle.psid.proofs.claims.fields_stand_at_their_offsets.Goals as goal

pub returns : goal.returns
returns c = fields_stand
