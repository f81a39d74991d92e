-- Small songs, which song is packed for each of them, and what packing them answers, worked out by hand.
use Rattle.std.specs.Prelude.{◌≡◌, ℕ, ◌+◌, ◌%◌, true, List, [], ◌∷◌, ◌++◌, map, None, Some}
use Rattle.std.specs.List.{range_with_len}
use Rattle.song_model.specs.declared.rows.Row.{Row}
use Rattle.song_model.specs.declared.songs.Song.{Song}
use Rattle.play_model.specs.declared.options.Options.{Options}
use Rattle.play_model.specs.declared.options.System.TheVariants.{Ntsc}
use Rattle.play_model.specs.State.{no_options}
use Rattle.play_model.specs.WorkedSongs.{row, sides, rests, one_note}
use Rattle.play_model.specs.WorkedRuns.{left_out, first_left_out, all_left_out}
use Rattle.same_frames.specs.WorkedRows.{whole_song, cut_song as two_pieces}
use Rattle.packed_form.specs.declared.packed_songs.PackedSong.{PackedSong}
use Rattle.packed_form.specs.Sizes.{packed_song_size}
use Rattle.packed_form.specs.StandsFor.{StandsFor}
use Rattle.packed_form.specs.WorkedUnpacked.{IsPackedNote}
use Rattle.packing_rules.specs.UsedSets.{UsedSets, AreUsedSets}
use Rattle.packing_rules.specs.SongSizes.{packed_size}
use Rattle.packing_rules.specs.WorkedSizes.{note_sets}
use Rattle.pattern_cut.specs.declared.lengths.PieceLength.TheVariants.{Rows8}
use Rattle.pattern_cut.specs.CutSongs.{cut_with}
use Rattle.pattern_cut.specs.Choice.{cut_song}
use Rattle.pattern_cut.specs.WorkedChoice.{voiced, once_song, twice_song}
use Rattle.pattern_cut.specs.WorkedStandIns.{repeated_note, quiet_song, later_note}
use Rattle.song_pack.specs.Packed.{IsPacked}
use Rattle.cut_pack.specs.Chosen.{IsShorter, IsPackedFor}
use Rattle.cut_pack.specs.ChosenLaws.{Serves}
use Rattle.cut_pack.specs.Answers.{IsPackedOf, shorter_of, IsPackedCut, Packs}

-- ---- songs

-- a bar whose command 0 has this parameter, which is not packed
abbrev pub marked : ℕ → List Row
marked param = row 0x90 1 0 param ∷ rests 7

abbrev pub marked_twice : ℕ → List Row
marked_twice param = marked param ++ marked param

-- two patterns, and three, that pack to the same bytes; each is two equal bars
abbrev pub alike_song : Song
alike_song = voiced (1 ∷ 2 ∷ []) (marked_twice 0 ∷ marked_twice 1 ∷ [])

abbrev pub three_alike : Song
three_alike = voiced (1 ∷ 2 ∷ 3 ∷ []) (marked_twice 0 ∷ marked_twice 1 ∷ marked_twice 2 ∷ [])

-- so many notes, each with a command whose parameters take turns: 45 01 90, 45 02 90
abbrev pub commanded : ℕ → List Row
commanded n = map (λ k. row 0x90 0 5 (k % 2 + 1)) (range_with_len 0 n)

-- a pattern of so many of them
abbrev pub long_song : ℕ → List ℕ → Song
long_song n entries = voiced entries (commanded n ∷ [])

-- ---- sizes

-- what the song uses whose voice 1 plays these entries, while the others play pattern 0
abbrev pub sets_naming : List ℕ → UsedSets
sets_naming entries = note_sets (0 ∷ entries)

abbrev pub SizeIs : Song → List ℕ → ℕ → Type 0
SizeIs song entries size = packed_size song (sets_naming entries) ≡ size

-- Beside its other patterns each of these songs has 35 bytes, and one for each entry of voice 1: three orderlists of
-- four bytes more than they have entries, the entries of the other two voices, an instrument, two rows in each of two
-- tables, and the pattern C0 00 with its address. Two equal bars are the pattern 01 90 C6 90 C6 00, and one of them is
-- 01 90 C6 00. Patterns that pack to the same bytes are stored once, so that their cut saves two bytes once, and costs
-- an entry for each of them. A long pattern is 45 01 90 45 02 90 and so on, and 00.
pub record SizesAreAsWorked : Type 0 where
  pub once : SizeIs once_song (1 ∷ []) 44
  pub once_cut : SizeIs (cut_song once_song) (1 ∷ 1 ∷ []) 43
  pub twice : SizeIs twice_song (1 ∷ 1 ∷ []) 45
  pub alike : SizeIs alike_song (1 ∷ 2 ∷ []) 45
  pub alike_cut : SizeIs (cut_song alike_song) (1 ∷ 1 ∷ 2 ∷ 2 ∷ []) 45
  pub three : SizeIs three_alike (1 ∷ 2 ∷ 3 ∷ []) 46
  pub three_cut : SizeIs (cut_song three_alike) (1 ∷ 1 ∷ 2 ∷ 2 ∷ 3 ∷ 3 ∷ []) 47
  pub short : SizeIs (long_song 85 (1 ∷ [])) (1 ∷ []) 294
  pub short_twice : SizeIs (long_song 85 (1 ∷ 1 ∷ [])) (1 ∷ 1 ∷ []) 295
  pub long : SizeIs (long_song 86 (1 ∷ [])) (1 ∷ []) 297
  pub long_twice : SizeIs (long_song 86 (1 ∷ 1 ∷ [])) (1 ∷ 1 ∷ []) 298

-- these sets are what the songs use
abbrev pub UsesAre : Song → List ℕ → Type 0
UsesAre song entries = AreUsedSets song (sets_naming entries)

pub record UsesAreAsWorked : Type 0 where
  pub once : UsesAre once_song (1 ∷ [])
  pub once_cut : UsesAre (cut_song once_song) (1 ∷ 1 ∷ [])
  pub twice : UsesAre twice_song (1 ∷ 1 ∷ [])
  pub alike : UsesAre alike_song (1 ∷ 2 ∷ [])
  pub alike_cut : UsesAre (cut_song alike_song) (1 ∷ 1 ∷ 2 ∷ 2 ∷ [])
  pub three : UsesAre three_alike (1 ∷ 2 ∷ 3 ∷ [])
  pub three_cut : UsesAre (cut_song three_alike) (1 ∷ 1 ∷ 2 ∷ 2 ∷ 3 ∷ 3 ∷ [])
  pub short : UsesAre (long_song 85 (1 ∷ [])) (1 ∷ [])
  pub short_twice : UsesAre (long_song 85 (1 ∷ 1 ∷ [])) (1 ∷ 1 ∷ [])
  pub long : UsesAre (long_song 86 (1 ∷ [])) (1 ∷ [])
  pub long_twice : UsesAre (long_song 86 (1 ∷ 1 ∷ [])) (1 ∷ 1 ∷ [])

-- ---- shorter songs

-- one byte less is shorter; as many bytes aren't, whether the song is another one or not, nor is a byte more
pub record CutsAreShorter : Type 0 where
  pub once : IsShorter once_song (cut_song once_song)
  pub twice_is : cut_song twice_song ≡ twice_song
  pub twice : ¬ IsShorter twice_song (cut_song twice_song)
  pub alike_is : cut_song alike_song ≡ voiced (1 ∷ 1 ∷ 2 ∷ 2 ∷ []) (marked 0 ∷ marked 1 ∷ [])
  pub alike : ¬ IsShorter alike_song (cut_song alike_song)
  pub three : ¬ IsShorter three_alike (cut_song three_alike)

-- A text of 256 bytes can be packed, and one of 259 can't: a byte less makes the one song shorter and not the other.
-- The longer song itself may have such a text.
pub record LongOnesAreNot : Type 0 where
  pub short : IsShorter (long_song 85 (1 ∷ 1 ∷ [])) (long_song 85 (1 ∷ []))
  pub long : ¬ IsShorter (long_song 86 (1 ∷ 1 ∷ [])) (long_song 86 (1 ∷ []))
  pub from_long : IsShorter (long_song 86 (1 ∷ [])) once_song

-- ---- the song that is packed

pub record IsPackedInPieces (o : Options) (song : Song) : Type 0 where
  pub cut : IsPackedFor o song (cut_song song)
  pub whole : ¬ IsPackedFor o song song

pub record IsPackedAsItIs (o : Options) (song : Song) : Type 0 where
  pub whole : IsPackedFor o song song
  pub cut : ¬ IsPackedFor o song (cut_song song)

-- The shorter one, at speeds 1 and 4, on both systems, and where other steps are left out; where the pulse step is left
-- out between two patterns, the song as it is. So, too, where the other one is as long, or longer.
pub record ChosenAreAsWorked : Type 0 where
  pub plain : IsPackedInPieces no_options once_song
  pub others : IsPackedInPieces (left_out true true 4) once_song
  pub ntsc : IsPackedInPieces (record no_options { system = Ntsc }) once_song
  pub first : IsPackedAsItIs (first_left_out 1) once_song
  pub all : IsPackedAsItIs (all_left_out 4) once_song
  pub alike : IsPackedAsItIs no_options alike_song
  pub three : IsPackedAsItIs (left_out true true 4) three_alike
  pub three_first : IsPackedAsItIs (first_left_out 1) three_alike
  pub twice : IsPackedFor no_options twice_song twice_song

-- ---- songs that serve

-- The quiet song serves as itself, with any options, and so does the quiet song in two equal pieces. What doesn't serve
-- as the song of one note: a song with a text of no bytes; one whose pulse program runs off its table; one that has a
-- row more, or less; and one that plays the same, with a repeat that repeats nothing. A song with its pattern in two
-- pieces doesn't serve where the pulse step is left out between two patterns.
pub record ServingIsAsWorked : Type 0 where
  pub cut : Serves no_options quiet_song (cut_with quiet_song (Rows8 ∷ []))
  pub itself : Serves (all_left_out 4) quiet_song quiet_song
  pub limits : ¬ Serves no_options one_note (record one_note { name = [] })
  pub playable : ¬ Serves no_options one_note (record one_note { pulse = sides 0x88 0 ∷ [] })
  pub row_more : ¬ Serves no_options one_note later_note
  pub row_less : ¬ Serves no_options later_note one_note
  pub asks : ¬ Serves no_options one_note repeated_note
  pub between : ¬ Serves (first_left_out 1) whole_song two_pieces

-- ---- answers

-- What stands for the song once_song, and has its packed parts and their size, is its packed song. None is that has
-- another size or other patterns, as the packed song of one note, which has 42 bytes.
pub record PackedOfIsAsWorked : Type 0 where
  pub whole : (packed : PackedSong) → StandsFor packed once_song → IsPacked once_song (sets_naming (1 ∷ [])) packed →
      packed_song_size packed ≡ 44 → IsPackedOf packed once_song
  pub size : (packed : PackedSong) → IsPackedOf packed once_song → packed_song_size packed ≡ 44
  pub cut_size : (packed : PackedSong) → IsPackedOf packed (cut_song once_song) → packed_song_size packed ≡ 43
  pub parts : (packed : PackedSong) → IsPackedOf packed once_song →
      packed.patterns ≡ (0xC0 ∷ 0 ∷ []) ∷ (1 ∷ 0x90 ∷ 0xC6 ∷ 0x90 ∷ 0xC6 ∷ 0 ∷ []) ∷ []
  pub note : (packed : PackedSong) → IsPackedNote packed → ¬ IsPackedOf packed once_song

-- The packed song of the song in pieces is the answer, and that of the song as it is isn't; the other way round where
-- the pulse step is left out between two patterns.
pub record PacksAreAsWorked : Type 0 where
  pub cut : (packed : PackedSong) → IsPackedOf packed (cut_song once_song) → Packs no_options packed once_song
  pub not_whole : (packed : PackedSong) → IsPackedOf packed once_song → ¬ Packs no_options packed once_song
  pub whole : (packed : PackedSong) → IsPackedOf packed once_song → Packs (first_left_out 1) packed once_song
  pub not_cut : (packed : PackedSong) → IsPackedOf packed (cut_song once_song) →
      ¬ Packs (first_left_out 1) packed once_song

-- none is answered exactly where a text is too long
pub record PackedCutsAreAsWorked : Type 0 where
  pub some : ¬ IsPackedCut once_song None
  pub none : IsPackedCut (long_song 86 (1 ∷ [])) None
  pub not_long : (packed : PackedSong) → ¬ IsPackedCut (long_song 86 (1 ∷ [])) (Some packed)

-- of two packed songs with these sizes
abbrev pub OfSizes : ℕ → ℕ → (PackedSong → PackedSong → Type 0) → Type 0
OfSizes one other Holds =
    (whole cut : PackedSong) → packed_song_size whole ≡ one → packed_song_size cut ≡ other → Holds whole cut

-- the first one, where the other has as many bytes or more, or where there is no other; and else the other
pub record ShorterOfIsAsWorked : Type 0 where
  pub none : (whole : PackedSong) → shorter_of whole None ≡ whole
  pub equal : OfSizes 44 44 (λ whole cut. shorter_of whole (Some cut) ≡ whole)
  pub more : OfSizes 44 45 (λ whole cut. shorter_of whole (Some cut) ≡ whole)
  pub less : OfSizes 44 43 (λ whole cut. shorter_of whole (Some cut) ≡ cut)

pub record PackedSongsAreAsWorked : Type 0 where
  pub sizes : SizesAreAsWorked
  pub uses : UsesAreAsWorked
  pub shorter : CutsAreShorter
  pub long : LongOnesAreNot
  pub chosen : ChosenAreAsWorked
  pub serving : ServingIsAsWorked
  pub packed : PackedOfIsAsWorked
  pub answers : PacksAreAsWorked
  pub cuts : PackedCutsAreAsWorked
  pub of_two : ShorterOfIsAsWorked
