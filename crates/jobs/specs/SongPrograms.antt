-- The program of a song's images.
use Rattle.std.specs.Prelude.{◌≡◌}
use Rattle.song_model.specs.declared.songs.Song.{Song}
use Rattle.play_model.specs.declared.options.Options.{Options}
use Rattle.packed_form.specs.declared.packed_songs.PackedSong.{PackedSong}
use Rattle.cut_pack.specs.Answers.{Packs}
use Rattle.player_bound.specs.Programs.{Blocks, program_blocks}

-- what begins a subtune, and what a frame does, in each image that is packed of the song with these options
pub record HasProgram (song : Song) (options : Options) (b : Blocks) : Type 0 where
  pub packed : PackedSong
  pub packs : Packs options packed song
  pub are : b ≡ program_blocks packed options
