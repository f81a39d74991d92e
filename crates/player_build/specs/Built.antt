-- What `build` gives: an image of the packed song, its length and its parts, that it plays each song that the packed song
-- stands for, and what its calls take. This is the project's own player.
use Rattle.std.specs.Prelude.{◌≡◌, ◌+◌, ◌≤◌, length}
use Rattle.base.specs.Bytes.{AreBytes}
use Rattle.song_model.specs.declared.songs.Song.{Song}
use Rattle.play_model.specs.declared.options.Options.{Options}
use Rattle.packed_form.specs.declared.packed_songs.PackedSong.{PackedSong}
use Rattle.packed_form.specs.StandsFor.{StandsFor}
use Rattle.image_parts.specs.Lengths.{image_length}
use Rattle.player_image.specs.Images.{IsImageOf}
use Rattle.player_image.specs.ImageLaws.{ImagePlays}
use Rattle.player_build.specs.declared.place.Place.{Place}
use Rattle.player_build.specs.declared.image.Image.{Image}
use Rattle.player_bound.specs.Programs.{program_blocks}
use Rattle.player_bound.specs.BoundLaws.{KeepsBounds}
use Rattle.player_build.specs.Room.{image_end}
use Rattle.player_build.specs.Spans.{NamesParts}

pub record IsBuild (packed : PackedSong) (place : Place) (options : Options) (built : Image) : Type 0 where
  pub place_is : built.place ≡ place
  pub image : IsImageOf packed options built.place.address built.place.zero_page built.bytes
  pub bytes : AreBytes built.bytes
  pub size : length built.bytes ≡ image_length packed options
  pub fits : place.address + length built.bytes ≤ image_end
  pub parts : NamesParts packed options (length built.bytes) built.parts
  -- any calls in any order play the song, from the first init on each by the image's bytes alone; and it holds the start of
  -- the first subtune, with spare zeros for the variables without a byte
  pub plays : (song : Song) → StandsFor packed song →
      ImagePlays packed song options built.place.address built.place.zero_page built.bytes image
  -- and no call takes more clock cycles than the numbers say that are admitted for the packed song's program
  pub bounded : (song : Song) → StandsFor packed song →
      KeepsBounds built.bytes built.place.address song (program_blocks packed options)
