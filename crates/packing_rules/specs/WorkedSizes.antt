-- Sizes that were worked out by hand.
use Rattle.std.specs.Prelude.{◌≡◌, ℕ, Bool, ◌==◌, List, [], ◌∷◌, ◌++◌}
use Rattle.std.specs.List.{list_any}
use Rattle.song_model.specs.declared.tables.TableName.{TableName}
use Rattle.song_model.specs.declared.tables.TableName.TheVariants.{Wave, Pulse, Filter, Speed}
use Rattle.song_model.specs.declared.songs.Song.{Song}
use Rattle.play_model.specs.WorkedSongs.{one_note, subtune, rests}
use Rattle.packing_rules.specs.UsedSets.{UsedSets}
use Rattle.packing_rules.specs.SongSizes.{data_size, packed_size}

-- the numbers of a list
abbrev pub among : List ℕ → ℕ → Bool
among numbers n = list_any (λ m. m == n) numbers

-- rows 1 and 2 of the wave and of the pulse table are come to from row 1
abbrev pub note_rows : TableName → ℕ → Bool
note_rows Wave = among (1 ∷ 2 ∷ [])
note_rows Pulse = among (1 ∷ 2 ∷ [])
note_rows Filter = among []
note_rows Speed = among []

abbrev pub note_pointers : TableName → ℕ → Bool
note_pointers Wave = among (1 ∷ [])
note_pointers Pulse = among (1 ∷ [])
note_pointers Filter = among []
note_pointers Speed = among []

-- what a song of one note with a wave and a pulse program uses, if these are its patterns
abbrev pub note_sets : List ℕ → UsedSets
note_sets patterns = record {
  patterns = among patterns;
  instruments = among (1 ∷ []);
  reached = note_rows;
  pointers = note_pointers;
}

-- three orderlists of one entry, the patterns 01 90 BE 00 and C0 00, one instrument, two rows in each of two tables
abbrev pub NoteHas42Bytes : Type 0
NoteHas42Bytes = (data_size one_note (note_sets (0 ∷ 1 ∷ [])) ≡ 42) × (packed_size one_note (note_sets (0 ∷ 1
    ∷ [])) ≡ 42)

-- the same song where channel 3 plays another pattern with one rest
abbrev pub two_rests : Song
two_rests = record one_note {
  subtunes = subtune (0 ∷ []) (1 ∷ []) (2 ∷ []) ∷ [];
  patterns = one_note.patterns ++ rests 1 ∷ [];
}

-- the pattern C0 00, with two bytes for its address, is stored once
abbrev pub EqualPatternsAreStoredOnce : Type 0
EqualPatternsAreStoredOnce =
    (data_size two_rests (note_sets (0 ∷ 1 ∷ 2 ∷ [])) ≡ 46)
    × (packed_size two_rests (note_sets (0 ∷ 1 ∷ 2 ∷ [])) ≡ 42)
