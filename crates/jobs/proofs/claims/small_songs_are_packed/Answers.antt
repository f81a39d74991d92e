use Rattle.jobs.proofs.Longer.{no_image_is_longer}
use Rattle.jobs.proofs.SmallSongs.{images_are_bounded, only_large_images, small_songs}
use Rattle.jobs.proofs.claims.small_songs_are_packed.Goals as goal

pub returns : goal.returns
returns c = record { bounded = images_are_bounded; longer = no_image_is_longer; images = only_large_images; songs = small_songs }
