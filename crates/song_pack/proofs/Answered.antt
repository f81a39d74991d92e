-- A packed song that was made of a song's parts is what packing promises.
use Rattle.std.proofs.Common.{◌≡◌, ℕ, ◌<◌, List, slice_index, subst, arith}
use Rattle.song_model.specs.declared.songs.Song.{Song}
use Rattle.song_model.specs.Limits.{KeepsLimits}
use Rattle.play_model.specs.Playable.{IsPlayable}
use Rattle.usage.specs.declared.parts.UsedParts.{UsedParts}
use Rattle.usage.specs.Parts.{AreUsedParts}
use Rattle.packed_form.specs.declared.packed_songs.PackedSong.{PackedSong}
use Rattle.packing_rules.specs.UsedSets.{UsedSets, AreUsedSets}
use Rattle.packing_rules.specs.Renumbering.{instrument_number}
use Rattle.packed_form.specs.StandsFor.{StandsFor}
use Rattle.packing_rules.proofs.Laws.{same_sets, packed_size_is_within}
use Rattle.table_pack.specs.Marks.{is_marked}
use Rattle.song_pack.specs.declared.faults.PackFault.{PackFault}
use Rattle.song_pack.specs.declared.tables.PackedTables.{PackedTables}
use Rattle.song_pack.specs.Answers.{HasPackedSize, AreShort, IsCause}
use Rattle.song_pack.specs.Numbers.{sets_of}
use Rattle.song_pack.specs.Packed.{IsPacked}
use Rattle.song_pack.specs.Tables.{AreTables}
use Rattle.song_pack.specs.Texts.{text_under, ArePatterns, IsCaused}
use Rattle.song_pack.proofs.MadeTables.{used_sets}
use Rattle.song_pack.proofs.MadeSongs.{IsMadeOf, made_is_packed, made_short, made_cause}
use Rattle.song_pack.proofs.Sizes.{size_is}
use Rattle.song_pack.proofs.Stands.{stands_for}

module _ (song : Song) (parts : UsedParts) (tables : PackedTables) (numbers : List ℕ) (play : IsPlayable song)
    (are : AreUsedParts song parts) (tables_are : AreTables song (sets_of parts) tables)
    (numbers_are : (n : ℕ) → n < 64 → slice_index numbers n ≡ instrument_number song (sets_of parts) n) where
  same : (used : UsedSets) → AreUsedSets song used → sets_of parts ≡ used
  same used is = same_sets song (sets_of parts) used (used_sets song parts are) is

  module _ (to : List ℕ) (packed : PackedSong) (made : IsMadeOf song parts tables numbers to packed) where
    is_packed : KeepsLimits song → IsPacked song (sets_of parts) packed
    is_packed limits = made_is_packed song parts limits are tables numbers tables_are numbers_are to packed made

    pub exact : (used : UsedSets) → AreUsedSets song used → KeepsLimits song → IsPacked song used packed
    exact used is limits = subst (λ (u : UsedSets). IsPacked song u packed) (same used is) (is_packed limits)

    pub stands : KeepsLimits song → StandsFor packed song
    stands limits =
        stands_for song (sets_of parts) packed limits play (used_sets song parts are) (is_packed limits)

    pub size : (used : UsedSets) → AreUsedSets song used → KeepsLimits song → HasPackedSize packed song used
    size used is limits =
        let e = size_is song (sets_of parts) packed (used_sets song parts are) (is_packed limits) in
        let within = packed_size_is_within song (sets_of parts) in
        subst (HasPackedSize packed song) (same used is) (record { is = e; within = omega arith })

  pub short : (to : List ℕ) (patterns : List (List ℕ)) →
      ArePatterns (text_under song tables.numbers numbers) (is_marked parts.patterns) patterns to → (used : UsedSets) →
      AreUsedSets song used → KeepsLimits song → AreShort song used
  short to patterns patterns_are used is limits =
      subst (AreShort song) (same used is)
      (made_short song parts limits are tables numbers tables_are numbers_are patterns to patterns_are)

  pub cause : (fault : PackFault) → IsCaused (text_under song tables.numbers numbers) (is_marked parts.patterns) fault →
      (used : UsedSets) → AreUsedSets song used → KeepsLimits song → IsCause song used fault
  cause fault caused used is limits =
      subst (λ (u : UsedSets). IsCause song u fault) (same used is)
      (made_cause song parts limits are tables numbers tables_are numbers_are fault caused)
