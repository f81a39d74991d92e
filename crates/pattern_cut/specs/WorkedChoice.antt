-- Small songs that fit or don't, what they weigh, and how their patterns are cut, worked out by hand.
use Rattle.std.specs.Prelude.{◌≡◌, ℕ, ◌/◌, true, false, List, [], ◌∷◌, ◌++◌, replicate}
use Rattle.std.specs.List.{flat_map}
use Rattle.song_model.specs.declared.rows.Row.{Row}
use Rattle.song_model.specs.declared.songs.Song.{Song}
use Rattle.play_model.specs.WorkedSongs.{subtune, rests, one_note}
use Rattle.pattern_cut.specs.declared.lengths.PieceLength.{PieceLength}
use Rattle.pattern_cut.specs.declared.lengths.PieceLength.TheVariants.{Whole, Rows64, Rows32, Rows16, Rows8}
use Rattle.pattern_cut.specs.CutSongs.{Ways}
use Rattle.pattern_cut.specs.Choice.{fits, pattern_weight, weight, lightest, cut_weight, settled, settled_from}
use Rattle.pattern_cut.specs.Choice.{chosen_ways, cut_song}
use Rattle.pattern_cut.specs.WorkedPieces.{bar, half, bars_song, other_song, eights}

-- ---- songs that fit

-- the song of one note with so many patterns
abbrev pub with_patterns : ℕ → Song
with_patterns n = record one_note { patterns = replicate n (rests 1) }

-- and with so many entries in its three orderlists
abbrev pub with_entries : ℕ → ℕ → ℕ → Song
with_entries one two three = record one_note {
  subtunes = subtune (replicate one 0) (replicate two 1) (replicate three 1) ∷ [];
}

-- 208 patterns fit, and so do 254 entries in each orderlist; one pattern more doesn't, nor an entry more in any of
-- them, be it in a later subtune
pub record FitsAreAsWorked : Type 0 where
  pub patterns : fits (with_patterns 208) ≡ true
  pub entries : fits (with_entries 254 254 254) ≡ true
  pub many : fits (with_patterns 209) ≡ false
  pub one : fits (with_entries 255 1 1) ≡ false
  pub two : fits (with_entries 1 255 1) ≡ false
  pub three : fits (with_entries 1 1 255) ≡ false
  pub later : fits (record one_note {
    subtunes = subtune (0 ∷ []) (1 ∷ []) (1 ∷ []) ∷ subtune (0 ∷ []) (replicate 255 1) (1 ∷ []) ∷ [];
  }) ≡ false

-- ---- weights

-- Voice 1 plays these entries, and the others rest in pattern 0. From 1 on the patterns are these.
abbrev pub voiced : List ℕ → List (List Row) → Song
voiced entries patterns = record one_note {
  subtunes = subtune entries (0 ∷ []) (0 ∷ []) ∷ [];
  patterns = rests 1 ∷ patterns;
}

abbrev pub two_bars : List Row
two_bars = bar 0x90 ++ bar 0x90

-- Two bytes beside what the rows pack to: 01 90 C6 00, 01 90 C6 90 C6 00, 01 92 C2 00, CF 00 and FF FF 00.
pub record PatternWeightsAreAsWorked : Type 0 where
  pub one : pattern_weight (bar 0x90) ≡ 6
  pub two : pattern_weight two_bars ≡ 8
  pub part : pattern_weight (half 0x92) ≡ 6
  pub rest : pattern_weight (rests 16) ≡ 4
  pub longest : pattern_weight (rests 128) ≡ 5

-- The song of one note has 3 entries, and the patterns 01 90 BE 00 and C0 00. The song of bars has 8 entries, two of
-- them in a subtune that isn't played, and patterns of 8, 6, 4 and 8 bytes; where its patterns stay whole, those that
-- are named have 6 entries and 20 bytes, and in pieces of 8 rows 9 entries and 16 bytes. Two pieces that differ in the
-- parameter of no command weigh both, though they pack to the same bytes. What doesn't fit weighs $100000: a pattern
-- more than there may be, an entry more, and 128 entries that would be 256; 127 would be 254, which fit.
pub record WeightsAreAsWorked : Type 0 where
  pub note : weight one_note ≡ 13
  pub bars : weight bars_song ≡ 34
  pub whole : cut_weight bars_song [] ≡ 26
  pub cut : cut_weight bars_song eights ≡ 25
  pub apart : cut_weight other_song eights ≡ 31
  pub many : weight (with_patterns 209) ≡ 0x100000
  pub long : weight (with_entries 255 1 1) ≡ 0x100000
  pub grown : cut_weight (voiced (replicate 128 1) (two_bars ∷ [])) eights ≡ 0x100000
  pub full : cut_weight (voiced (replicate 127 1) (two_bars ∷ [])) eights ≡ 266

-- ---- the lightest

-- numbers weigh so many tens as they have
abbrev pub tens : ℕ → ℕ
tens n = n / 10

-- the lighter one, wherever it stands, and the first of those that weigh the same
pub record LightestAreAsWorked : Type 0 where
  pub alone : lightest tens 23 [] ≡ 23
  pub first : lightest tens 13 (17 ∷ 25 ∷ 12 ∷ []) ≡ 13
  pub second : lightest tens 23 (17 ∷ 12 ∷ 25 ∷ []) ≡ 17
  pub last : lightest tens 23 (25 ∷ 31 ∷ 5 ∷ []) ≡ 5

-- ---- one pattern

-- two equal bars, named once, twice, and three times
abbrev pub once_song : Song
once_song = voiced (1 ∷ []) (two_bars ∷ [])

abbrev pub twice_song : Song
twice_song = voiced (1 ∷ 1 ∷ []) (two_bars ∷ [])

abbrev pub thrice_song : Song
thrice_song = voiced (1 ∷ 1 ∷ 1 ∷ []) (two_bars ∷ [])

-- Two equal bars are one piece, which saves two bytes and costs an entry wherever the pattern is named: named once
-- they are cut, named twice, where that weighs the same, they stay whole, and so with more. Four equal bars are cut in
-- two, since in four they weigh the same, and longer pieces come first. The lengths of the other patterns stay.
pub record SettledAreAsWorked : Type 0 where
  pub cut : settled once_song (Whole ∷ Whole ∷ Rows32 ∷ []) 1 ≡ Whole ∷ Rows8 ∷ Rows32 ∷ []
  pub same : settled twice_song (Rows16 ∷ Rows8 ∷ []) 1 ≡ Rows16 ∷ Whole ∷ []
  pub heavier : settled thrice_song (Rows16 ∷ Rows8 ∷ []) 1 ≡ Rows16 ∷ Whole ∷ []
  pub longer : settled (voiced (1 ∷ []) ((two_bars ++ two_bars) ∷ [])) (Whole ∷ Rows8 ∷ []) 1 ≡ Whole ∷ Rows16 ∷ []
  pub short : settled once_song (Rows16 ∷ Rows8 ∷ []) 0 ≡ Whole ∷ Rows8 ∷ []

-- Pattern 1 is settled before pattern 2: once its equal bars are cut, the other pattern's first bar is there already,
-- and saves more than its second one costs. Where they stand the other way round, it isn't tried again.
pub record OneAfterTheOther : Type 0 where
  pub ascending : settled_from (voiced (1 ∷ 2 ∷ []) (two_bars ∷ (bar 0x90 ++ bar 0x92) ∷ [])) Whole
      ≡ Whole ∷ Rows8 ∷ Rows8 ∷ replicate 205 Whole
  pub not_again : settled_from (voiced (1 ∷ 2 ∷ []) ((bar 0x90 ++ bar 0x92) ∷ two_bars ∷ [])) Whole
      ≡ Whole ∷ Whole ∷ Rows8 ∷ replicate 205 Whole

-- ---- the choice

-- pattern 0 whole, pattern 1 in such pieces, and the others whole
abbrev pub second_in : PieceLength → Ways
second_in length = Whole ∷ length ∷ replicate 206 Whole

-- a pattern of bars with these notes, and then with the same ones again
abbrev pub doubled : List ℕ → Song
doubled notes = voiced (1 ∷ []) (flat_map bar (notes ++ notes) ∷ [])

-- The equal halves of a pattern are its pieces, whether they have one bar, two, four or eight. Bars that differ are no
-- pieces. Nor are equal bars where each is an entry more of an orderlist, or where the pattern is repeated.
pub record ChosenAreAsWorked : Type 0 where
  pub eight : chosen_ways (doubled (0x90 ∷ [])) ≡ second_in Rows8
  pub sixteen : chosen_ways (doubled (0x90 ∷ 0x92 ∷ [])) ≡ second_in Rows16
  pub thirty_two : chosen_ways (doubled (0x90 ∷ 0x92 ∷ 0x94 ∷ 0x96 ∷ [])) ≡ second_in Rows32
  pub sixty_four : chosen_ways (doubled (0x90 ∷ 0x92 ∷ 0x94 ∷ 0x96 ∷ 0x98 ∷ 0x9A ∷ 0x9C ∷ 0x9E ∷ []))
      ≡ second_in Rows64
  pub other : chosen_ways (voiced (1 ∷ []) ((bar 0x90 ++ bar 0x92) ∷ [])) ≡ replicate 208 Whole
  pub twice : chosen_ways twice_song ≡ replicate 208 Whole
  pub repeated : chosen_ways (voiced (0xD1 ∷ 1 ∷ []) (two_bars ∷ [])) ≡ replicate 208 Whole

-- the two bars are named by their one piece, and where that isn't lighter the song stays as it is
pub record CutSongsAreAsWorked : Type 0 where
  pub cut : cut_song once_song ≡ voiced (1 ∷ 1 ∷ []) (bar 0x90 ∷ [])
  pub whole : cut_song twice_song ≡ twice_song

-- bars with these notes and those, and the same ones the other way round
abbrev pub turned : List ℕ → List ℕ → Song
turned one other = voiced (1 ∷ 2 ∷ []) (flat_map bar (one ++ other) ∷ flat_map bar (other ++ one) ∷ [])

-- two bars
abbrev pub turned_bars : Song
turned_bars = turned (0x90 ∷ []) (0x92 ∷ [])

-- To cut one of the patterns alone makes the song heavier, and to cut both makes it lighter. So from whole patterns
-- on both stay whole, and the way is found from pieces of 8 rows on; where the parts have two bars, four or eight,
-- from pieces of 16 rows on, of 32 or of 64.
pub record StartsAreAsWorked : Type 0 where
  pub from_whole : settled_from turned_bars Whole ≡ replicate 208 Whole
  pub whole : cut_weight turned_bars (replicate 208 Whole) ≡ 24
  pub one : cut_weight turned_bars (Whole ∷ Rows8 ∷ []) ≡ 29
  pub both : cut_weight turned_bars (Whole ∷ Rows8 ∷ Rows8 ∷ []) ≡ 22
  pub eight : chosen_ways turned_bars ≡ Whole ∷ replicate 207 Rows8
  pub sixteen : chosen_ways (turned (0x90 ∷ 0x92 ∷ []) (0x94 ∷ 0x96 ∷ [])) ≡ Whole ∷ replicate 207 Rows16
  pub thirty_two : chosen_ways (turned (0x90 ∷ 0x92 ∷ 0x94 ∷ 0x96 ∷ []) (0x98 ∷ 0x9A ∷ 0x9C ∷ 0x9E ∷ []))
      ≡ Whole ∷ replicate 207 Rows32
  pub sixty_four : chosen_ways (turned (0x80 ∷ 0x82 ∷ 0x84 ∷ 0x86 ∷ 0x88 ∷ 0x8A ∷ 0x8C ∷ 0x8E ∷ [])
      (0x90 ∷ 0x92 ∷ 0x94 ∷ 0x96 ∷ 0x98 ∷ 0x9A ∷ 0x9C ∷ 0x9E ∷ [])) ≡ Whole ∷ replicate 207 Rows64
  pub song : cut_song turned_bars
      ≡ record turned_bars {
        subtunes = subtune (1 ∷ 2 ∷ 2 ∷ 1 ∷ []) (0 ∷ []) (0 ∷ []) ∷ [];
        patterns = rests 1 ∷ bar 0x90 ∷ bar 0x92 ∷ [];
      }

-- two bars and the other way round, and four bars whose halves are the other way round
abbrev pub both_turned : Song
both_turned = voiced (1 ∷ 2 ∷ 3 ∷ 4 ∷ []) ((bar 0x90 ++ bar 0x92) ∷ (bar 0x92 ++ bar 0x90)
    ∷ flat_map bar (0x94 ∷ 0x96 ∷ 0x98 ∷ 0x9A ∷ []) ∷ flat_map bar (0x98 ∷ 0x9A ∷ 0x94 ∷ 0x96 ∷ []) ∷ [])

-- The choice isn't always the lightest: two patterns would be lighter in pieces of 8 rows and the other two in pieces
-- of 16, but from no one length on is this found.
pub record ChoiceIsGreedy : Type 0 where
  pub chosen : cut_weight both_turned (chosen_ways both_turned) ≡ 44
  pub lighter : cut_weight both_turned (Whole ∷ Rows8 ∷ Rows8 ∷ Rows16 ∷ Rows16 ∷ []) ≡ 42

-- 128 entries, which are 256 where all their patterns, each of two equal bars, are cut
abbrev pub grown_song : Song
grown_song = voiced (1 ∷ 3 ∷ replicate 126 2)
    (two_bars ∷ flat_map bar (0x92 ∷ 0x92 ∷ []) ∷ flat_map bar (0x94 ∷ 0x94 ∷ []) ∷ [])

-- Where no length for a pattern makes the song fit, the pattern becomes whole, the lowest number first: pattern 1, and
-- then the orderlist still has 255 entries. With pattern 2 whole the song fits, and from there on a pattern stays cut
-- where that is lighter, as pattern 3; from whole patterns on pattern 1 is cut, too.
pub record GrownStartsAreAsWorked : Type 0 where
  pub all : cut_weight grown_song (replicate 208 Rows8) ≡ 0x100000
  pub first : settled grown_song (replicate 208 Rows8) 1 ≡ Rows8 ∷ Whole ∷ replicate 206 Rows8
  pub first_whole : cut_weight grown_song (Rows8 ∷ Whole ∷ replicate 206 Rows8) ≡ 0x100000
  pub from_eight : settled_from grown_song Rows8 ≡ Whole ∷ Whole ∷ Whole ∷ replicate 205 Rows8
  pub from_whole : settled_from grown_song Whole ≡ Whole ∷ Rows8 ∷ Whole ∷ Rows8 ∷ replicate 204 Whole

pub record PatternChoicesAreAsWorked : Type 0 where
  pub fitting : FitsAreAsWorked
  pub patterns : PatternWeightsAreAsWorked
  pub weights : WeightsAreAsWorked
  pub lightest : LightestAreAsWorked
  pub settled : SettledAreAsWorked
  pub in_turn : OneAfterTheOther
  pub chosen : ChosenAreAsWorked
  pub songs : CutSongsAreAsWorked
  pub starts : StartsAreAsWorked
  pub greedy : ChoiceIsGreedy
  pub grown : GrownStartsAreAsWorked
