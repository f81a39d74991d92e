use Rattle.std.proofs.Common.{◌≡◌, ◌≤◌, length, take}
use Rattle.std.specs.List.{filter}
use Rattle.song_model.specs.LookUp.{is_playable_subtune}
use Rattle.song_model.proofs.songs.Song.playable_count.Given as goal

abbrev pub invariant-loop-subtune : goal.invariant-loop-subtune
invariant-loop-subtune l = record {
  counted : l.count ≡ length (filter is_playable_subtune (take l.subtune-index l.stored));
  few : l.count ≤ l.subtune-index;
}
