-- To believe: the code of the wave step, and that which tells which effect runs.
pub mod WaveBlock
pub mod EffectBlock
pub mod CommandBlock
-- Claimed: worked by hand.
pub mod WorkedWave
pub mod WorkedEffect
