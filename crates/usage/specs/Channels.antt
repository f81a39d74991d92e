-- The channels that have something to play, told by marks of patterns.
use Rattle.std.specs.Prelude.{◌≡◌, ℕ, Bool, true, List, Any}
use Rattle.song_model.specs.declared.orders.Subtune.{Subtune}
use Rattle.song_model.specs.declared.songs.Song.{Song}
use Rattle.song_model.specs.Endless.{IsPatternByte}
use Rattle.song_model.specs.LookUp.{pattern_at, order_of, is_playable_subtune}
use Rattle.song_facts.specs.Facts.{IsHeard}
use Rattle.usage.specs.Marks.{IsMarked}

-- a row of the pattern is one that its voice has to play
abbrev pub IsHeardPattern : Song → ℕ → Type 0
IsHeardPattern song n = Any IsHeard (pattern_at song n)

-- the byte of an orderlist names a marked pattern
pub record NamesMarked (patterns : List Bool) (byte : ℕ) : Type 0 where
  pub is_pattern : IsPatternByte byte
  pub marked : IsMarked patterns byte

-- the subtune can be played, and this channel's orderlist names a marked pattern
pub record PlaysMarked (patterns : List Bool) (channel : ℕ) (subtune : Subtune) : Type 0 where
  pub playable : is_playable_subtune subtune ≡ true
  pub named : Any (NamesMarked patterns) (order_of channel subtune).entries
