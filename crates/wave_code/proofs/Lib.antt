-- What upper crates may cite.
pub mod Laws
-- The cases of the rule, and of the rows in the lists.
mod WaveRows
mod StoredRows
-- What the code stands on, and where its ways lead.
mod WaveGrounds
-- The code on the desk of a voice.
mod Waves
-- The code in memory.
mod Stepping
-- Worked by hand.
mod WorkedWave
mod WorkedEffect
-- Which effect runs.
mod Effects
mod Beginning
-- A command of the wave table.
mod Pieces
mod Once
mod CommandRows
mod Commanding
