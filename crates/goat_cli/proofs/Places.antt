-- The image of a packed song, and the stage that asks whether it has room.
use Rattle.std.proofs.Common.{◌≡◌, ℕ, ◌+◌, ◌≤◌, Bool, List, length, refl, ap, ◌∙◌, subst, arith}
use Rattle.goat_io.specs.Files.{Files}
use Rattle.song_model.specs.declared.songs.Song.{Song}
use Rattle.play_model.specs.declared.options.Options.{Options}
use Rattle.play_model.specs.State.{no_options}
use Rattle.packed_form.specs.declared.packed_songs.PackedSong.{PackedSong}
use Rattle.packing_rules.specs.UsedSets.{UsedSets}
use Rattle.packing_rules.specs.SongSizes.{packed_size}
use Rattle.kept_lines.specs.Asked.{asked_by}
use Rattle.image_parts.specs.CodeParts.{code_length}
use Rattle.image_parts.specs.Lengths.{slide_bytes, read_bytes, read_of, frequency_bytes, image_length}
use Rattle.song_costs.specs.Kinds.{instrument_count, read_data}
use Rattle.song_costs.proofs.Laws.{instruments_are}
use Rattle.cut_pack.proofs.Laws.{features_of, sets_of_song}
use Rattle.faithful.proofs.Laws.{always_is_faithful, same_songs_lem}
use Rattle.player_build.specs.declared.image.Image.{Image}
use Rattle.player_build.specs.Room.{IsTooLarge}
use Rattle.player_build.specs.Built.{IsBuild}
use Rattle.jobs.specs.Packed.{IsLengthOf, IsImageLength, IsWrittenFile, packed_file}
use Rattle.jobs.specs.Lines.{image_too_large_line}
use Rattle.command_line.specs.declared.chip.Chip.{Chip}
use Rattle.command_line.specs.Last.{Last, Says}
use Rattle.jobs.specs.Stages.{HasRoomForImage, HoldsSong, IsMet}
use Rattle.jobs.specs.Endings as ends
use Rattle.player_bound.specs.Programs.{program_blocks}
use Rattle.player_bound.specs.BoundLaws.{KeepsBounds}
use Rattle.player_bound.proofs.Laws.{kept_for}
use Rattle.jobs.specs.Endings.{Refuses, PacksSong}
use Rattle.jobs.proofs.Laws.{images_are_bounded, one_program}
use Rattle.song_gen.specs.GeneratedLaws.{IsSmall}

module _ (packed : PackedSong) (song : Song) (o : Options) (packs : PacksSong o packed song) where
  abbrev used : UsedSets
  used = packs.is.used

  -- the length of the image of the song that is packed
  own_length : (count : ℕ) → count ≡ image_length packed o → IsLengthOf packs.chosen o count
  own_length count is = record {
    used = used;
    asked = asked_by packed;
    are_used = packs.is.are_used;
    asks = record {
      features = packed.features.0;
      facts = packed.facts;
      are_features = packs.is.stands.features;
      are_facts = packs.is.stands.facts;
      is = refl;
    };
    numbers = packed.numbers;
    are_numbers = packs.is.stands.numbers;
    count_is = is
        ∙ ap (λ read. read + slide_bytes (asked_by packed) (length packed.speed) + frequency_bytes packed.numbers read
        + code_length (asked_by packed) o) read_is
        ∙ ap (λ rows. read_data packs.chosen used (asked_by packed) + slide_bytes (asked_by packed) rows
        + frequency_bytes packed.numbers (read_data packs.chosen used (asked_by packed))
        + code_length (asked_by packed) o) (ap length packs.is.exact.speed.rows_are);
  }
    where
      read_is : read_of packed ≡ read_data packs.chosen used (asked_by packed)
      read_is =
          ap (λ size. read_bytes (asked_by packed) (length packed.instruments) (length packed.subtunes) size) packs.is.size
          ∙ ap (λ count. read_bytes (asked_by packed) count (length packed.subtunes) (packed_size packs.chosen used))
          (instruments_are packs.chosen used packed packs.is.are_used packs.is.exact)
          ∙ ap (λ count. read_bytes (asked_by packed) (instrument_count used) count (packed_size packs.chosen used))
          packs.is.stands.subtunes

  pub length_is : (count : ℕ) → count ≡ image_length packed o → IsImageLength song o count
  length_is count is = record { chosen = packs.chosen; is_for = packs.is_for; length_is = own_length count is }

  module _ (files : Files) (name : List ℕ) (address : ℕ) (holds : HoldsSong files name song) where
    pub has_room : (built : Image) → IsBuild packed built.place o built → built.place.address ≡ address →
        IsMet files (HasRoomForImage name address o)
    has_room built is there = (
      song,
      length built.bytes,
      holds,
      length_is (length built.bytes) is.size,
      subst (λ a. a + length built.bytes ≤ 0xD000) there is.fits,
    )

    pub has_no_room : (count : ℕ) {last : Last} → IsTooLarge packed o address count →
        last ≡ Says 7 (image_too_large_line count) →
        Refuses files (HasRoomForImage name address o) last
    has_no_room count large says =
        ends.ends (image_too_large_line count)
        (song, count, holds, length_is count large.size_is, large.passes, refl) says

  -- the file of its image is one that is written
  pub image_written : (psid : Bool) (address zero_page : ℕ) (chip : Chip) (built : Image) (file : List ℕ) →
      IsBuild packed built.place o built → built.place.address ≡ address → built.place.zero_page ≡ zero_page →
      file ≡ packed_file psid song built.place.address built.bytes o chip →
      IsWrittenFile psid address zero_page song o chip file
  image_written psid address zero_page chip built file is there page holds =
      let plays = is.plays packs.chosen packs.is.stands in
      let served = same_songs_lem built.bytes built.place.address built.place.zero_page o song packs.chosen packs.serves.plays in
      let always = served.always plays.always in
      let written : IsWrittenFile psid built.place.address built.place.zero_page song o chip file = record {
        packed = record {
          image = built.bytes;
          bytes = is.bytes;
          holds = holds;
          below = is.fits;
          faithful = always_is_faithful built.bytes built.place.address built.place.zero_page song o always;
        };
        size = length_is (length built.bytes) is.size;
        always = always;
        isolated = served.isolated plays.isolated;
        bounded = λ b has.
            let same = one_program song o (program_blocks packed o) b
            (record {
              packed = packed;
              packs = record { chosen = packs.chosen; is_for = packs.is_for; is = packs.is };
              are = refl;
            }) has in
            subst (KeepsBounds built.bytes built.place.address song) same
            (kept_for built.bytes built.place.address built.place.zero_page o song packs.chosen (program_blocks packed o)
            packs.serves.plays (is.bounded packs.chosen packs.is.stands));
      } in
      let paged = subst (λ z. IsWrittenFile psid built.place.address z song o chip file) page written in
      subst (λ a. IsWrittenFile psid a zero_page song o chip file) there paged

-- of a small song the image has room at $1000
pub small_has_room : (packed : PackedSong) (song : Song) (size : ℕ) → PacksSong no_options packed song → IsSmall song →
    IsTooLarge packed no_options 0x1000 size → ⊥
small_has_room packed song size packs small large =
    let sets = sets_of_song no_options song packs.chosen packs.is.used packs.is_for packs.is.are_used in
    let features = features_of song packs.chosen packed.features.0 packs.serves.asks packs.is.stands.features in
    let bounds =
    images_are_bounded song no_options sets.used packed.features.0 size
    (length_is packed song no_options packs size large.size_is) sets.are_used features in
    let room = small sets.used packed.features.0 sets.are_used features in
    let passes = large.passes in
    omega (arith, bounds, room, passes)
