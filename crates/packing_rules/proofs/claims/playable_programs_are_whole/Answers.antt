use Rattle.packing_rules.proofs.PlayablePrograms.{playable_programs_are_whole}
use Rattle.packing_rules.proofs.claims.playable_programs_are_whole.Goals as goal

pub returns : goal.returns
returns c = playable_programs_are_whole
