-- Songs that begin with another one, play two songs or are a whole join, and others that don't, worked out by hand.
use Rattle.std.specs.Prelude.{[], ◌∷◌, replicate}
use Rattle.song_model.specs.declared.songs.Song.{Song}
use Rattle.song_model.specs.LookUp.{zero_instrument}
use Rattle.play_model.specs.WorkedSongs.{sides, plucked, rests, one_note, with_instrument}
use Rattle.song_join.specs.Joined.{joined}
use Rattle.song_join.specs.JoinLaws.{PlaysBoth, BeginsWith, IsWholeJoin, AreJoinable}
use Rattle.song_join.specs.WorkedJoins.{first_song, both_songs}
use Rattle.song_join.specs.WorkedJoinable.{still, still_song}

-- each part is looked at
pub record BeginningsAreKept : Type 0 where
  pub both : BeginsWith both_songs first_song
  pub name : ¬ BeginsWith (record both_songs { name = replicate 32 0x44 }) first_song
  pub author : ¬ BeginsWith (record both_songs { author = replicate 32 0x44 }) first_song
  pub copyright : ¬ BeginsWith (record both_songs { copyright = replicate 32 0x44 }) first_song
  pub subtunes : ¬ BeginsWith (record both_songs { subtunes = [] }) first_song
  pub instruments : ¬ BeginsWith (record both_songs { instruments = zero_instrument ∷ plucked ∷ [] }) first_song
  pub wave : ¬ BeginsWith (record both_songs { wave = sides 0x41 1 ∷ sides 0xFF 0 ∷ [] }) first_song
  pub pulse : ¬ BeginsWith (record both_songs { pulse = [] }) first_song
  pub filter : ¬ BeginsWith (record both_songs { filter = [] }) first_song
  pub speed : ¬ BeginsWith (record both_songs { speed = [] }) first_song
  pub patterns : ¬ BeginsWith (record both_songs { patterns = rests 1 ∷ [] }) first_song

-- its note has another envelope
abbrev pub loud_note : Song
loud_note = with_instrument (record plucked { ad = 0x12 }) one_note

-- the join of two still songs plays both; neither song's frames may be another's, and no subtune is left out
pub record BothArePlayed : Type 0 where
  pub both : PlaysBoth (joined still_song still_song) still_song still_song
  pub first_song : ¬ PlaysBoth (joined loud_note one_note) one_note one_note
  pub second_song : ¬ PlaysBoth (joined one_note loud_note) one_note one_note
  pub subtunes : ¬ PlaysBoth one_note one_note one_note

abbrev pub nameless_song : Song
nameless_song = record still_song { name = [] }

abbrev pub void_song : Song
void_song = record still_song { subtunes = [] }

-- two still songs make a whole join; none is whole without any one of the four
pub record JoinsAreWhole : Type 0 where
  pub whole : IsWholeJoin (joined still_song still_song) still_song still_song
  pub begins : ¬ IsWholeJoin (record (joined still_song still_song) { name = replicate 32 1 }) still_song still_song
  pub limits : ¬ IsWholeJoin (joined nameless_song still_song) nameless_song still_song
  pub playable : ¬ IsWholeJoin (joined void_song void_song) void_song void_song
  pub plays : ¬ IsWholeJoin still_song still_song still_song

-- two still songs can be joined as they should, and others not where any one of these fails
pub record SongsAreJoinable : Type 0 where
  pub all : AreJoinable still_song still_song
  pub first_limits : ¬ AreJoinable nameless_song still_song
  pub second_limits : ¬ AreJoinable still_song nameless_song
  pub first_plays : ¬ AreJoinable void_song still_song
  pub second_plays : ¬ AreJoinable still_song void_song
  pub can : ¬ AreJoinable still_song (still (rests 1) 0 1)
