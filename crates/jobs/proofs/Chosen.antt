-- The song that is packed for a song, and its packed song.
use Rattle.song_model.specs.declared.songs.Song.{Song}
use Rattle.song_model.specs.Limits.{KeepsLimits}
use Rattle.play_model.specs.declared.options.Options.{Options}
use Rattle.play_model.specs.Playable.{IsPlayable}
use Rattle.packed_form.specs.declared.packed_songs.PackedSong.{PackedSong}
use Rattle.cut_pack.specs.Answers.{Packs}
use Rattle.cut_pack.proofs.Laws.{chosen_serves_lem}
use Rattle.jobs.specs.Endings.{PacksSong}

pub packs_song : (o : Options) (song : Song) (packed : PackedSong) → KeepsLimits song → IsPlayable song →
    Packs o packed song → PacksSong o packed song
packs_song o song packed limits playable packs = record {
  chosen = packs.chosen;
  is_for = packs.is_for;
  serves = chosen_serves_lem o song packs.chosen limits playable packs.is_for;
  is = packs.is;
}
