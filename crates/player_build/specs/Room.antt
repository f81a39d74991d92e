-- When an image is too long for its place. This is the project's own player.
use Rattle.std.specs.Prelude.{◌≡◌, ℕ, ◌+◌, ◌<◌}
use Rattle.play_model.specs.declared.options.Options.{Options}
use Rattle.packed_form.specs.declared.packed_songs.PackedSong.{PackedSong}
use Rattle.image_parts.specs.Lengths.{image_length}

-- the first place behind an image's room
abbrev pub image_end : ℕ
image_end = 0xD000

-- at this address the image, which is so long, would pass $D000
pub record IsTooLarge (packed : PackedSong) (options : Options) (address size : ℕ) : Type 0 where
  pub size_is : size ≡ image_length packed options
  pub passes : image_end < address + size
