-- The labels of the player's bytes and lists, and whose bytes they are.
use Rattle.std.specs.Prelude.{ℕ, ◌+◌, ◌%◌, ◌&&◌, ◌||◌, Bool, ◌==◌, nat_lt, nat_le}
use Rattle.player_memory.specs.declared.labels.TheConstants.{VARIABLES, TEMPO}

-- a label of the first voice's bytes: five groups of 21, the last of which has 6 of each voice
abbrev pub is_own : ℕ → Bool
is_own label = nat_lt label 90 && nat_lt (label % 21) 7

-- a label of a byte that is no voice's
abbrev pub is_shared : ℕ → Bool
is_shared label = nat_lt label VARIABLES && (nat_le 105 label || label == 90 || label == 97 || label == 104)

-- the labels of the three tempos, each of which is a voice's own
abbrev pub is_tempo : ℕ → Bool
is_tempo label = label == TEMPO || label == TEMPO + 7 || label == TEMPO + 14
