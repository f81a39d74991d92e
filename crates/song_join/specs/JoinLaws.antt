-- What the joined song plays: what the first song plays, and then what the second one plays.
use Rattle.std.specs.Prelude.{◌≡◌, ℕ, ◌+◌, ◌<◌, take, map, ◌++◌, length}
use Rattle.song_model.specs.declared.songs.Song.{Song}
use Rattle.song_model.specs.declared.tables.TableName.{TableName}
use Rattle.song_model.specs.Limits.{KeepsLimits}
use Rattle.song_model.specs.LookUp.{table_of, playable_subtunes}
use Rattle.play_model.specs.declared.options.Options.{Options}
use Rattle.play_model.specs.Speeds.{IsSpeed}
use Rattle.play_model.specs.Frame.{trace_with}
use Rattle.play_model.specs.Playable.{IsPlayable}
use Rattle.same_frames.specs.OrderLaws.{moved_subtune}
use Rattle.song_join.specs.declared.faults.JoinPart.{JoinPart}
use Rattle.song_join.specs.declared.faults.JoinPart.TheVariants.{Subtunes, Instruments, Wave, Pulse, Filter, Speed, Patterns}
use Rattle.song_join.specs.Limits.{sum_of}
use Rattle.song_join.specs.Numbers.{new_numbers}
use Rattle.song_join.specs.Joined.{joined}
use Rattle.song_join.specs.Refusals.{CanBeJoined}

-- with any options: under number k subtune k of the first song, and behind the first song's those of the second,
-- counted from 0
pub record PlaysBoth (song first second : Song) : Type 0 where
  pub subtunes : playable_subtunes song
      ≡ playable_subtunes first ++ map (moved_subtune (new_numbers first second)) (playable_subtunes second)
  pub first_song : (o : Options) (k i : ℕ) → IsSpeed o.speed → k < length (playable_subtunes first) →
      trace_with o song k i ≡ trace_with o first k i
  pub second_song : (o : Options) (k i : ℕ) → IsSpeed o.speed → k < length (playable_subtunes second) →
      trace_with o song (length (playable_subtunes first) + k) i ≡ trace_with o second k i

-- the song begins with the first song's parts: each keeps its place
pub record BeginsWith (song first : Song) : Type 0 where
  pub name : song.name ≡ first.name
  pub author : song.author ≡ first.author
  pub copyright : song.copyright ≡ first.copyright
  pub subtunes : take (length first.subtunes) song.subtunes ≡ first.subtunes
  pub instruments : take (length first.instruments) song.instruments ≡ first.instruments
  pub rows : (table : TableName) →
      take (length (table_of first table)) (table_of song table) ≡ table_of first table
  pub patterns : take (length first.patterns) song.patterns ≡ first.patterns

-- a song that begins with the first one, keeps the limits of the format, can be played, and plays both songs
pub record IsWholeJoin (song first second : Song) : Type 0 where
  pub begins : BeginsWith song first
  pub limits : KeepsLimits song
  pub playable : IsPlayable song
  pub plays : PlaysBoth song first second

-- two songs within the limits of the format that can be played, and that can be joined
pub record AreJoinable (first second : Song) : Type 0 where
  pub first_limits : KeepsLimits first
  pub second_limits : KeepsLimits second
  pub first_plays : IsPlayable first
  pub second_plays : IsPlayable second
  pub can : CanBeJoined first second

abbrev pub JoinedSongsAreWhole : Type 0
JoinedSongsAreWhole = (first second : Song) → AreJoinable first second → IsWholeJoin (joined first second) first second

-- how many of a part a song brings as the second of two: of its subtunes those that can be played
abbrev pub brought : Song → JoinPart → ℕ
brought song Subtunes = length (playable_subtunes song)
brought song Instruments = length song.instruments
brought song Wave = length song.wave
brought song Pulse = length song.pulse
brought song Filter = length song.filter
brought song Speed = length song.speed
brought song Patterns = length song.patterns

-- a third song behind a joined one: of each part there are as many as all three have
abbrev pub SumsAdd : Type 0
SumsAdd =
    (first second third : Song) (part : JoinPart) →
    sum_of (joined first second) third part ≡ sum_of first second part + brought third part
