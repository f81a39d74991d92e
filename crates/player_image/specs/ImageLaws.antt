-- What holds of images: each is a player, and so plays its song. This is the project's own player.
use Rattle.std.specs.Prelude.{◌≡◌, ℕ, ◌+◌, ◌≤◌, Bool, List, length}
use Rattle.song_model.specs.declared.songs.Song.{Song}
use Rattle.play_model.specs.declared.options.Options.{Options}
use Rattle.play_model.specs.Speeds.{IsSpeed}
use Rattle.play_model.specs.State.{start_state}
use Rattle.packed_form.specs.declared.packed_songs.PackedSong.{PackedSong}
use Rattle.packed_form.specs.StandsFor.{StandsFor}
use Rattle.asm6502.specs.Standing.{BytesStand}
use Rattle.faithful.specs.Histories.{PlaysAlways}
use Rattle.faithful.specs.Isolation.{IsIsolated}
use Rattle.player_memory.specs.Holds.{Holds}
use Rattle.frame_scenes.specs.FrameScenes.{KeepsPatternLimits}
use Rattle.song_lists.specs.ListLaws.{KeepsCounts}
use Rattle.player_code.specs.Plans.{plan_size}
use Rattle.player_calls.specs.WideLayouts.{wide_layout, with_zeros}
use Rattle.player_calls.specs.Players.{IsPlayer}
use Rattle.player_image.specs.Images.{IsImageOf, plan_of}

-- The packed song is within its limits, the pointer is behind the processor's port in page 0, and the image stands from
-- $0800 up to $D000.
pub record Stands (packed : PackedSong) (o : Options) (origin pointer : ℕ) (bytes : List ℕ)
    (image : IsImageOf packed o origin pointer bytes) : Type 0 where
  pub counts : KeepsCounts packed
  pub short : KeepsPatternLimits packed
  pub speed : IsSpeed o.speed
  pub pointer_low : 2 ≤ pointer
  pub pointer_high : pointer ≤ 254
  pub size : length bytes ≡ plan_size (plan_of packed o origin pointer image.its.variables image.its.lists)
  pub begins : 0x0800 ≤ origin
  pub ends : origin + length bytes ≤ 0xD000

abbrev pub ImagesArePlayers : Type 0
ImagesArePlayers =
    (packed : PackedSong) (song : Song) (o : Options) (origin pointer : ℕ) (bytes : List ℕ)
    (image : IsImageOf packed o origin pointer bytes) → Stands packed o origin pointer bytes image →
    StandsFor packed song →
    IsPlayer (plan_of packed o origin pointer image.its.variables image.its.lists) packed song o bytes

-- so it plays each song that the packed song stands for, and in any memory with its bytes the start of the first subtune
-- stands, where each variable without a byte has a spare zero, from $0200 on or from $0300 on
pub record ImagePlays (packed : PackedSong) (song : Song) (o : Options) (origin pointer : ℕ) (bytes : List ℕ)
    (image : IsImageOf packed o origin pointer bytes) : Type 0 where
  pub always : PlaysAlways bytes origin pointer song o
  pub isolated : IsIsolated bytes origin song
  pub start : (which : Bool) (at : ℕ → ℕ) → BytesStand at origin bytes →
      Holds (wide_layout (plan_of packed o origin pointer image.its.variables image.its.lists) which) packed 0
      (start_state o) (with_zeros which at)

abbrev pub ImagesPlay : Type 0
ImagesPlay =
    (packed : PackedSong) (song : Song) (o : Options) (origin pointer : ℕ) (bytes : List ℕ)
    (image : IsImageOf packed o origin pointer bytes) → Stands packed o origin pointer bytes image →
    StandsFor packed song → ImagePlays packed song o origin pointer bytes image
