-- A voice in a frame.
use Rattle.voice_code.proofs.claims.voice_block_plays.Goals as goal
use Rattle.voice_code.proofs.Whole.{voice_block_plays, voice_block_rests}

pub returns-clause-plays : goal.returns-clause-plays
returns-clause-plays c = voice_block_plays

pub returns-clause-rests : goal.returns-clause-rests
returns-clause-rests c = voice_block_rests
