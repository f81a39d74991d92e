use Rattle.packing_rules.proofs.WorkedNumbers.{speeds, tables, instruments, patterns, sizes}
use Rattle.packing_rules.proofs.CrowdedSets.{crowded_sets_are_used}
use Rattle.packing_rules.proofs.CrowdedSong.{crowded_song_can_be_played}
use Rattle.packing_rules.proofs.claims.worked_numbers.Goals as goal

pub returns-clause-tables : goal.returns-clause-tables
returns-clause-tables c = tables

pub returns-clause-instruments : goal.returns-clause-instruments
returns-clause-instruments c = instruments

pub returns-clause-patterns : goal.returns-clause-patterns
returns-clause-patterns c = patterns

pub returns-clause-sizes : goal.returns-clause-sizes
returns-clause-sizes c = sizes

pub returns-clause-sets : goal.returns-clause-sets
returns-clause-sets c = crowded_sets_are_used

pub returns-clause-speeds : goal.returns-clause-speeds
returns-clause-speeds c = speeds

pub returns-clause-playable : goal.returns-clause-playable
returns-clause-playable c = crowded_song_can_be_played
