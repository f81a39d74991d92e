-- Which songs are packed, and that no other image is refused than a large one.
use Rattle.std.proofs.Common.{◌≡◌, ℕ, ◌+◌, ◌-◌, ◌≤◌, ◌<◌, Bool, List, [], ◌∷◌, length, map, refl, subst, arith}
use Rattle.goat_io.specs.Files.{Files}
use Rattle.std.specs.List.{filter}
use Rattle.std.proofs.lemmas.List.{length-map}
use Rattle.std.proofs.lemmas.List.FromFn.{length-range_with_len}
use Rattle.std.proofs.lemmas.List.Sums.{length-filter, count_by-le-length}
use Rattle.song_model.specs.declared.tables.TheConstants.{MOST_TABLE_ROWS}
use Rattle.song_model.specs.declared.tables.TableName.TheVariants.{Speed}
use Rattle.song_model.specs.declared.songs.Song.{Song}
use Rattle.song_model.specs.LookUp.{playable_subtunes, speed_row}
use Rattle.play_model.specs.declared.options.Options.{Options}
use Rattle.play_model.specs.declared.unplayable.Unplayable.TheVariants.{NoSubtune}
use Rattle.play_model.specs.Playable.{IsPlayable}
use Rattle.packed_form.specs.CodeBounds.{code_bound}
use Rattle.packing_rules.specs.Segments.{numbers}
use Rattle.packing_rules.specs.Renumbering.{same_row, speed_rows}
use Rattle.packing_rules.specs.SongSizes.{data_size, packed_size}
use Rattle.packing_rules.proofs.Laws.{packed_size_is_within, first_seen_length}
use Rattle.asked_numbers.proofs.Laws.{ranges_lie_in_the_table}
use Rattle.image_parts.specs.CodeParts.{code_length}
use Rattle.image_parts.specs.Lengths.{slide_bytes, shared_bytes, unread_bytes, unlisted_bytes, frequency_bytes}
use Rattle.song_costs.specs.Kinds.{instrument_count, subtune_count, read_data}
use Rattle.image_parts.proofs.Laws.{code_is_bounded}
use Rattle.cut_pack.proofs.Laws.{chosen_no_longer_lem}
use Rattle.jobs.specs.Packed.{IsLengthOf, IsImageLength}
use Rattle.jobs.specs.Stages.{IsThere, Fits, SpellsSong, CanBePlayed, HasShortPatterns, HasRoomForImage, input_limit}
use Rattle.jobs.specs.Stages.{Passes}
use Rattle.jobs.specs.Laws.{ImagesAreBounded, OnlyLargeImagesAreRefused, HoldsSmallSong, SmallSongsArePacked}
use Rattle.jobs.proofs.Passes.{one_song_held, met_passes}

-- a song that can be played has a subtune
no_list : {A : Type 0} (xs : List A) → (xs ≡ [] → ⊥) → 1 ≤ length xs
no_list [] none = absurd (none refl)
no_list (x ∷ xs) none = omega arith

pub has_subtune : (song : Song) → IsPlayable song → 1 ≤ length (playable_subtunes song)
has_subtune song playable = no_list (playable_subtunes song) (playable NoSubtune)

-- ---- how long an image is

-- a song has at most 255 speeds
few_speeds : (song : Song) (used : ℕ → Bool) → length (speed_rows song used) ≤ 255
unfolding speed_rows
few_speeds song used =
    let kept = filter used (numbers MOST_TABLE_ROWS) in
    let seen = first_seen_length same_row (map (speed_row song) kept) in
    let rows = length-map kept (speed_row song) in
    let counted = length-filter used (numbers MOST_TABLE_ROWS) in
    let most = count_by-le-length used (numbers MOST_TABLE_ROWS) in
    let all = length-range_with_len 1 MOST_TABLE_ROWS in
    omega (arith, seen, rows, counted, most, all)

-- so what stands alone for all instruments, the slides, the frequencies and the code together are within the player's
-- bound
player_is_bounded : (song : Song) (o : Options) (features : ℕ) {count : ℕ} (is : IsLengthOf song o count) →
    shared_bytes is.asked + slide_bytes is.asked (length (speed_rows song (is.used.pointers Speed)))
    + frequency_bytes is.numbers (read_data song is.used is.asked) + code_length is.asked o
    ≤ code_bound features o
player_is_bounded song o features is =
    code_is_bounded is.asked features (length (speed_rows song (is.used.pointers Speed)))
    (read_data song is.used is.asked) is.numbers o (few_speeds song (is.used.pointers Speed))
    (ranges_lie_in_the_table song is.numbers is.are_numbers)

adds : (most bound size shared slides frequencies code count : ℕ) → size ≤ most + shared →
    shared + slides + frequencies + code ≤ bound → count ≡ size + slides + frequencies + code → count ≤ most + bound
adds most bound size shared slides frequencies code count p q is = omega (arith, p, q, is)

-- an image is no longer than that of a song with so many bytes of packed data
own_image_is_bounded : (song : Song) (o : Options) (features most : ℕ) {count : ℕ} (is : IsLengthOf song o count) →
    packed_size song is.used ≤ most → count ≤ most + code_bound features o
own_image_is_bounded song o features most {count = count} is within =
    adds most (code_bound features o) (read_data song is.used is.asked) (shared_bytes is.asked) _ _
    (code_length is.asked o) count
    (less (packed_size song is.used) (shared_bytes is.asked) (unread_bytes is.asked (instrument_count is.used))
    (unlisted_bytes is.asked (subtune_count song)) most within)
    (player_is_bounded song o features is) is.count_is
  where
    less : (size shared unread unlisted most : ℕ) → size ≤ most →
        size + shared - (unread + unlisted) ≤ most + shared
    less size shared unread unlisted most within = omega (arith, within)

pub images_are_bounded : ImagesAreBounded
images_are_bounded song o used features count is are_used are_features =
    let size =
    chosen_no_longer_lem o song is.chosen used is.length_is.used is.is_for are_used is.length_is.are_used in
    let within = packed_size_is_within song used in
    own_image_is_bounded is.chosen o features (data_size song used) is.length_is (omega (arith, size, within))

pub only_large_images : OnlyLargeImagesAreRefused
only_large_images files name address o lines song used features ends holds are_used are_features =
    let same = one_song_held files name ends.0 song ends.2 holds in
    let is = subst (λ s. IsImageLength s o ends.1) same ends.3 in
    past address (data_size song used) (code_bound features o) ends.1
    (images_are_bounded song o used features ends.1 is are_used are_features) ends.4
  where
    past : (address most bound count : ℕ) → count ≤ most + bound → 0xD000 < address + count →
        0xD000 < address + most + bound
    past address most bound count within passes = omega (arith, within, passes)

-- ---- small songs

-- so the image of a small song isn't too large
small_fits : (files : Files) (input : List ℕ) (address : ℕ) (o : Options) →
    HoldsSmallSong files input address o → Passes files (HasRoomForImage input address o)
small_fits files input address o small lines ends =
    too_large (address + data_size small.song small.used + code_bound small.features o)
    (only_large_images files input address o lines small.song small.used small.features ends small.holds
    small.are_used small.are_features) small.room
  where
    too_large : (all : ℕ) → 0xD000 < all → all ≤ 0xD000 → ⊥
    too_large all passes fits = omega (arith, passes, fits)

pub small_songs : SmallSongsArePacked
small_songs files input output psid address zero_page o chip small =
    let song = small.song in
    let used = small.used in
    let holds = small.holds in (
      met_passes files (IsThere input) (holds.bytes, holds.found),
      (
        met_passes files (Fits input input_limit) (holds.bytes, holds.found, small.fits),
        (
          met_passes files (SpellsSong input) (song, holds),
          (
            met_passes files (CanBePlayed input) (song, holds, small.playable),
            (
              met_passes files (HasShortPatterns input) (song, used, holds, small.are_used, small.short),
              (small_fits files input address o small, tt),
            ),
          ),
        ),
      ),
    )
