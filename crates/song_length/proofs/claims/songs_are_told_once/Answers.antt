use Rattle.song_length.proofs.Once.{songs_are_told_once, songs_stop_once, songs_cost_once}
use Rattle.song_length.proofs.claims.songs_are_told_once.Goals as goal

pub returns-clause-told : goal.returns-clause-told
returns-clause-told c = songs_are_told_once

pub returns-clause-stops : goal.returns-clause-stops
returns-clause-stops c = songs_stop_once

pub returns-clause-costs : goal.returns-clause-costs
returns-clause-costs c = songs_cost_once
