use Rattle.code_runs.proofs.Modes.{standing_has_effect}
use Rattle.code_runs.proofs.Standing.{stand_alone, stand_by_byte, stand_by_word, stands_relative, code_stays}
use Rattle.code_runs.proofs.claims.instructions_that_stand.Goals as goal

pub returns : goal.returns
returns c = record {
  alone = stand_alone;
  bytes = stand_by_byte;
  words = stand_by_word;
  branches = stands_relative;
  effects = standing_has_effect;
  stay = code_stays;
}
