use Rattle.play_model.proofs.Computed.{wave_program_waits_lem}
use Rattle.play_model.proofs.claims.wave_program_waits.Goals as goal

pub returns : goal.returns
returns c = wave_program_waits_lem
