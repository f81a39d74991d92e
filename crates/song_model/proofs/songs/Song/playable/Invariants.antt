use Rattle.std.proofs.Common.{◌≡◌, ◌+◌, length, drop}
use Rattle.std.specs.List.{filter, slice_get}
use Rattle.song_model.specs.LookUp.{is_playable_subtune}
use Rattle.song_model.proofs.songs.Song.playable.Given as goal

-- the one that is wanted is item `left` of those from here on
abbrev pub invariant-loop-subtune : goal.invariant-loop-subtune
invariant-loop-subtune l = record {
  same : slice_get (filter is_playable_subtune (drop l.subtune-index l.stored)) l.left ≡ slice_get
      (filter is_playable_subtune l.stored) l.k;
  many : length (filter is_playable_subtune (drop l.subtune-index l.stored)) + l.k ≡ length
      (filter is_playable_subtune l.stored) + l.left;
}
