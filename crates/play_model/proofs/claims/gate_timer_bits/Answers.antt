use Rattle.play_model.proofs.Computed.{gate_timer_bits_lem}
use Rattle.play_model.proofs.claims.gate_timer_bits.Goals as goal

pub returns : goal.returns
returns c = gate_timer_bits_lem
