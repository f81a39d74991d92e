-- What the code says of parts of the songs that are joined.
use Rattle.std.specs.Prelude.{◌≡◌, ℕ, ◌-◌, ◌<◌, ◌≤◌, Bool, List, All, Option, None, length, slice_index_or}
use Rattle.song_model.specs.declared.rows.Row.{Row}
use Rattle.song_model.specs.declared.orders.Order.{Order}
use Rattle.song_model.specs.declared.orders.Subtune.{Subtune}
use Rattle.song_model.specs.declared.songs.Song.{Song}
use Rattle.song_model.specs.Endless.{IsPatternByte, IsEndless}
use Rattle.song_model.specs.LookUp.{pattern_at, order_of, playable_subtunes}
use Rattle.play_model.specs.Frame.{subtune_at}
use Rattle.play_model.specs.Used.{IsChannel}
use Rattle.usage.specs.Marks.{IsMarked}
use Rattle.song_join.specs.declared.faults.JoinFault.{JoinFault}
use Rattle.song_join.specs.declared.faults.JoinFault.TheVariants.{NoteBeforeInstrument}
use Rattle.song_join.specs.Loose.{IsFirstPlace}
use Rattle.song_join.specs.Openings.{opening, IsUnnamedAt}

-- ---- what isn't stored

-- marks above the last stored number: this is the least one
pub record IsFirstAbove (marks : List Bool) (stored n : ℕ) : Type 0 where
  pub marked : IsMarked marks n
  pub above : stored < n
  pub first : (k : ℕ) → k < n → stored < k → ¬ IsMarked marks k

-- there is none
abbrev pub NoneAbove : List Bool → ℕ → Type 0
NoneAbove marks stored = (n : ℕ) → stored < n → ¬ IsMarked marks n

-- ---- notes before instruments

-- the opening row of each pattern, by its number
pub record AreOpenings (song : Song) (openings : List (Option Row)) : Type 0 where
  pub each : (n : ℕ) → slice_index_or openings n None ≡ opening (pattern_at song n)

-- playable subtune s, counted from 1
pub record IsPlayableSubtune (song : Song) (s : ℕ) (subtune : Subtune) : Type 0 where
  pub first : 1 ≤ s
  pub last : s ≤ length (playable_subtunes song)
  pub is : subtune ≡ subtune_at song (s - 1)

-- a channel of it
pub record IsChannelOf (song : Song) (s channel : ℕ) (order : Order) : Type 0 where
  pub first : 1 ≤ s
  pub last : s ≤ length (playable_subtunes song)
  pub is_channel : IsChannel channel
  pub order_is : order ≡ order_of channel (subtune_at song (s - 1))
  pub endless : IsEndless order

-- the refusal of this channel, in which a note comes first
pub record IsUnnamedFault (song : Song) (s channel : ℕ) (fault : JoinFault) : Type 0 where
  pub fault_is : fault ≡ NoteBeforeInstrument s channel
  pub unnamed : IsUnnamedAt song s channel

-- that of the first such channel of a subtune
pub record IsFirstUnnamedIn (song : Song) (s : ℕ) (fault : JoinFault) : Type 0 where
  pub channel : ℕ
  pub fault_is : fault ≡ NoteBeforeInstrument s channel
  pub unnamed : IsUnnamedAt song s channel
  pub earlier : (d : ℕ) → d < channel → ¬ IsUnnamedAt song s d

abbrev pub NoneUnnamedIn : Song → ℕ → Type 0
NoneUnnamedIn song s = (channel : ℕ) → ¬ IsUnnamedAt song s channel

-- that of the first such channel of all subtunes
pub record IsFirstUnnamed (song : Song) (fault : JoinFault) : Type 0 where
  pub subtune : ℕ
  pub channel : ℕ
  pub fault_is : fault ≡ NoteBeforeInstrument subtune channel
  pub first : IsFirstPlace (IsUnnamedAt song) subtune channel

-- ---- patterns that orderlists name

-- each pattern that the entries of an orderlist name is one of these many
abbrev pub NamesStored : ℕ → List ℕ → Type 0
NamesStored patterns entries = All (λ byte. IsPatternByte byte → byte < patterns) entries

-- so does each orderlist of a subtune
pub record SubtuneNamesStored (patterns : ℕ) (subtune : Subtune) : Type 0 where
  pub one : NamesStored patterns subtune.one.entries
  pub two : NamesStored patterns subtune.two.entries
  pub three : NamesStored patterns subtune.three.entries
