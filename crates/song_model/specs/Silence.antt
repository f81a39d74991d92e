-- The song with nothing in it, and a silent song, worked out by hand.
use Rattle.std.specs.Prelude.{ℕ, List, [], ◌∷◌, ◌++◌, replicate, codes}
use Rattle.song_model.specs.declared.rows.Row.{Row}
use Rattle.song_model.specs.declared.orders.Order.{Order}
use Rattle.song_model.specs.declared.songs.Song.{Song}

-- zero texts and empty lists
abbrev pub empty_song : Song
empty_song = record {
  name = replicate 32 0;
  author = replicate 32 0;
  copyright = replicate 32 0;
  subtunes = [];
  instruments = [];
  wave = [];
  pulse = [];
  filter = [];
  speed = [];
  patterns = [];
}

abbrev pub rest_row : Row
rest_row = record { note = 0xBD; instrument = 0; command = 0; param = 0 }

-- pattern 0, again and again
abbrev pub order_of_zero : Order
order_of_zero = record { entries = 0 ∷ []; restart = 0 }

-- one subtune whose channels play pattern 0, which is one rest
abbrev pub silence : Song
silence = record empty_song {
  subtunes = (record { one = order_of_zero; two = order_of_zero; three = order_of_zero }) ∷ [];
  patterns = (rest_row ∷ []) ∷ [];
}

-- its 128 bytes: magic and texts, one subtune of three orderlists, no instrument, four empty tables,
-- one pattern
abbrev pub silence_bytes : List ℕ
silence_bytes = codes "GTS5" ++ replicate 96 0
    ++ 1 ∷ 2 ∷ 0 ∷ 0xFF ∷ 0 ∷ 2 ∷ 0 ∷ 0xFF ∷ 0 ∷ 2 ∷ 0 ∷ 0xFF ∷ 0 ∷ []
    ++ 0 ∷ []
    ++ 0 ∷ 0 ∷ 0 ∷ 0 ∷ []
    ++ 1 ∷ 2 ∷ 0xBD ∷ 0 ∷ 0 ∷ 0 ∷ 0xFF ∷ 0 ∷ 0 ∷ 0 ∷ []
