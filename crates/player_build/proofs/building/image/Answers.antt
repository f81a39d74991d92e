-- The image is built.
use Rattle.std.proofs.Common.{◌≡◌, ℕ, ◌+◌, ◌≤◌, List, length, refl, sym, ap, ◌∙◌, arith}
use Rattle.base.specs.Bytes.{AreBytes}
use Rattle.play_model.specs.declared.options.Options.{Options}
use Rattle.play_model.specs.Speeds.{IsSpeed}
use Rattle.packed_form.specs.declared.packed_songs.PackedSong.{PackedSong}
use Rattle.packed_form.specs.ImagePlaces.{IsAddress, IsZeroPage}
use Rattle.frame_scenes.specs.FrameScenes.{KeepsPatternLimits}
use Rattle.song_lists.specs.ListLaws.{KeepsCounts}
use Rattle.kept_lines.specs.Asked.{asked_by}
use Rattle.image_parts.specs.CodeParts.{code_parts}
use Rattle.image_parts.specs.Lengths.{image_length}
use Rattle.player_image.specs.Images.{IsImageOf, image_size}
use Rattle.player_image.specs.ImageLaws.{Stands}
use Rattle.player_image.proofs.Laws.{images_play, its_size}
use Rattle.player_bound.proofs.Laws.{images_keep_bounds}
use Rattle.player_build.specs.declared.place.Place.{Place}
use Rattle.player_build.specs.declared.image.PartSpan.{PartSpan}
use Rattle.player_build.specs.Built.{IsBuild}
use Rattle.player_build.specs.Joined.{AreSpansOf}
use Rattle.player_build.proofs.Sized.{size_is_length}
use Rattle.player_build.proofs.Spanned.{is_parts}
use Rattle.player_build.proofs.building.image.Goals as goal

room : (address size length : ℕ) → address + length ≤ 0xD000 → size ≡ length → address + size ≤ 0xD000
room address size length fits is = omega (arith, fits, is)

module _ (packed : PackedSong) (place : Place) (o : Options) (counts : KeepsCounts packed)
    (short : KeepsPatternLimits packed) (address : IsAddress place.address) (page : IsZeroPage place.zero_page)
    (speed : IsSpeed o.speed) (fits : place.address + image_length packed o ≤ 0xD000) where
  has_room : place.address + image_size packed o ≤ 0xD000
  has_room = room place.address (image_size packed o) (image_length packed o) fits (size_is_length packed o)

  stands : (bytes : List ℕ) (image : IsImageOf packed o place.address place.zero_page bytes) →
      length bytes ≡ image_size packed o → Stands packed o place.address place.zero_page bytes image
  stands bytes image size = record {
    counts = counts;
    short = short;
    speed = speed;
    pointer_low = page.least;
    pointer_high = page.most;
    size = size ∙ sym (its_size packed o place.address place.zero_page speed counts page.least page.most has_room image.listing
        image.its);
    begins = address.least;
    ends = room place.address (length bytes) (image_size packed o) has_room size;
  }

  built_so : (code : List ℕ) (speeds : ℕ) (bytes : List ℕ) (parts : List PartSpan) → code ≡ code_parts (asked_by packed) o →
      speeds ≡ length packed.speed → IsImageOf packed o place.address place.zero_page bytes →
      length bytes ≡ image_size packed o → AreBytes bytes → AreSpansOf code speeds parts →
      IsBuild packed place o (record { place = place; bytes = bytes; parts = parts })
  built_so code speeds bytes parts code_is speeds_are image size are_bytes spans =
      let long = size ∙ size_is_length packed o in
      record {
        place_is = refl;
        image = image;
        bytes = are_bytes;
        size = long;
        fits = room place.address (length bytes) (image_length packed o) fits long;
        parts = is_parts packed o (length bytes) speeds code parts code_is long speeds_are spans;
        plays = λ song stand.
            images_play packed song o place.address place.zero_page bytes image (stands bytes image size) stand;
        bounded = λ song stand.
            images_keep_bounds packed song o place.address place.zero_page bytes image (stands bytes image size) stand;
      }

pub image_of-requires-clause-fits : goal.image_of-requires-clause-fits
image_of-requires-clause-fits c =
    room c.args.place.address _ _ c.requires.fits (size_is_length c.args.packed.now c.args.options.now)

pub returns : goal.returns
returns c =
    built_so c.args.packed.now c.args.place c.args.options.now c.keep_limits.ensures.counts
    c.keep_limits.ensures.patterns c.keep_limits.ensures.address c.keep_limits.ensures.page c.keep_limits.ensures.speed
    c.requires.fits c.args.code.now (length c.as_slice.result.now) c.in_ok-bytes.bytes c.in_ok-parts.parts c.requires.code
    (ap length c.as_slice.ensures.items) c.in_ok-bytes.ensures.image c.in_ok-bytes.ensures.size
    c.in_ok-bytes.ensures.are_bytes c.in_ok-parts.ensures
