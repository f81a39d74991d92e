-- Two small songs and the song that they make, worked out by hand.
use Rattle.std.specs.Prelude.{◌≡◌, ℕ, List, [], ◌∷◌, ◌++◌, replicate}
use Rattle.song_model.specs.declared.orders.Order.{Order}
use Rattle.song_model.specs.declared.instruments.Instrument.{Instrument}
use Rattle.song_model.specs.declared.songs.Song.{Song}
use Rattle.song_model.specs.LookUp.{zero_instrument, void_order}
use Rattle.song_model.specs.Silence.{empty_song}
use Rattle.play_model.specs.WorkedSongs.{order, row, sides, plucked, rests, one_note}
use Rattle.song_join.specs.Numbers.{raised}
use Rattle.song_join.specs.Joined.{joined}

-- of three parts behind five: 1 to 3 rise, 0 and 4 become 0
pub record NumbersRise : Type 0 where
  pub none : raised 3 5 0 ≡ 0
  pub first : raised 3 5 1 ≡ 6
  pub last : raised 3 5 3 ≡ 8
  pub beyond : raised 3 5 4 ≡ 0

-- an instrument with these pointers into the wave, pulse, filter and speed table
abbrev pub pointing : ℕ → ℕ → ℕ → ℕ → Instrument
pointing wave pulse filter vibrato =
    record zero_instrument { wave = wave; pulse = pulse; filter = filter; vibrato = vibrato }

abbrev pub restarting : List ℕ → ℕ → Order
restarting entries restart = record { entries = entries; restart = restart }

-- two patterns, one instrument, two rows in each of the first three tables and one in the last, and a void subtune
abbrev pub first_song : Song
first_song = record one_note {
  name = replicate 32 0x41;
  author = replicate 32 0x42;
  copyright = replicate 32 0x43;
  subtunes = record { one = void_order; two = void_order; three = void_order } ∷ one_note.subtunes;
  filter = sides 0x90 0xF1 ∷ sides 0xFF 0 ∷ [];
  speed = sides 4 0x30 ∷ [];
}

-- Other texts; three subtunes, of which the second is void; a pointer of each kind, some of them to rows that aren't
-- stored; jumps to 0, to a row and to one that isn't stored; and commands that don't point.
abbrev pub second_song : Song
second_song = record empty_song {
  name = replicate 32 0x44;
  author = replicate 32 0x45;
  copyright = replicate 32 0x46;
  subtunes =
      (record { one = restarting (0xF2 ∷ 1 ∷ []) 1; two = order (0 ∷ []); three = order (0xD1 ∷ 0 ∷ 1 ∷ []) })
      ∷ (record { one = order (1 ∷ []); two = order []; three = order (1 ∷ []) })
      ∷ (record { one = order (1 ∷ []); two = order (1 ∷ []); three = order (1 ∷ []) }) ∷ [];
  instruments = pointing 2 1 3 1 ∷ [];
  wave =
      sides 0xF9 1 ∷ sides 0xFA 2 ∷ sides 0xF1 1 ∷ sides 0xF8 1 ∷ sides 0x21 1 ∷ sides 0xFF 0 ∷ sides 0xFF 3
      ∷ sides 0xF4 9 ∷ sides 0xFF 9 ∷ [];
  pulse = sides 0x88 1 ∷ sides 0x20 1 ∷ sides 0xFF 2 ∷ sides 0xFF 5 ∷ [];
  filter = sides 0xF1 1 ∷ sides 0xFF 1 ∷ [];
  speed = sides 0xFF 1 ∷ sides 0xF1 2 ∷ [];
  patterns =
      (row 0x90 1 0 1 ∷ row 0xBD 0 8 2 ∷ row 0xBD 2 9 1 ∷ row 0xBD 0 0xA 9 ∷ row 0xBD 0 1 2 ∷ row 0xBD 0 0xE 0
      ∷ row 0xBD 0 5 1 ∷ row 0xBD 0 0xF 1 ∷ [])
      ∷ rests 1 ∷ [];
}

-- the first song's texts and parts, and then the second's parts
abbrev pub both_songs : Song
both_songs = record first_song {
  subtunes =
      first_song.subtunes
      ++ (record { one = restarting (0xF2 ∷ 3 ∷ []) 1; two = order (2 ∷ []); three = order (0xD1 ∷ 2 ∷ 3 ∷ []) })
      ∷ (record { one = order (3 ∷ []); two = order (3 ∷ []); three = order (3 ∷ []) }) ∷ [];
  instruments = plucked ∷ pointing 4 3 0 2 ∷ [];
  wave =
      sides 0x41 0 ∷ sides 0xFF 0
      ∷ sides 0xF9 3 ∷ sides 0xFA 4 ∷ sides 0xF1 2 ∷ sides 0xF8 1 ∷ sides 0x21 1 ∷ sides 0xFF 0 ∷ sides 0xFF 5
      ∷ sides 0xF4 0 ∷ sides 0xFF 11 ∷ [];
  pulse = sides 0x88 0 ∷ sides 0xFF 0 ∷ sides 0x88 1 ∷ sides 0x20 1 ∷ sides 0xFF 4 ∷ sides 0xFF 0 ∷ [];
  filter = sides 0x90 0xF1 ∷ sides 0xFF 0 ∷ sides 0xF1 1 ∷ sides 0xFF 3 ∷ [];
  speed = sides 4 0x30 ∷ sides 0xFF 1 ∷ sides 0xF1 2 ∷ [];
  patterns =
      one_note.patterns
      ++ (row 0x90 2 0 1 ∷ row 0xBD 0 8 4 ∷ row 0xBD 0 9 3 ∷ row 0xBD 0 0xA 0 ∷ row 0xBD 0 1 3 ∷ row 0xBD 0 0xE 0
      ∷ row 0xBD 0 5 1 ∷ row 0xBD 0 0xF 1 ∷ [])
      ∷ rests 1 ∷ [];
}

abbrev pub SongsAreJoined : Type 0
SongsAreJoined = joined first_song second_song ≡ both_songs
