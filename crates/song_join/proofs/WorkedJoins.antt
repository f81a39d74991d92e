-- The worked song, computed.
use Rattle.std.proofs.Common.{refl}
use Rattle.song_join.specs.Numbers.{new_numbers}
use Rattle.song_join.specs.Joined.{joined}
use Rattle.song_join.specs.WorkedJoins.{NumbersRise, SongsAreJoined}

pub numbers_rise_lem : NumbersRise
numbers_rise_lem = record { none = refl; first = refl; last = refl; beyond = refl }

pub songs_are_joined_lem : SongsAreJoined
unfolding joined new_numbers
songs_are_joined_lem = refl
