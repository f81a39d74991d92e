use Rattle.std.proofs.Common.{◌≡◌, map, take}
use Rattle.std.specs.List.{filter}
use Rattle.song_model.specs.LookUp.{is_playable_subtune}
use Rattle.pattern_cut.specs.CutSongs.{cut_subtune}
use Rattle.song_cut.specs.Tables.{list_at}
use Rattle.song_cut.proofs.cutting.cut_subtunes.Given as goal

abbrev pub invariant-loop-subtune : goal.invariant-loop-subtune
invariant-loop-subtune l =
    l.list.items ≡ map (cut_subtune (list_at l.places)) (filter is_playable_subtune (take l.subtune-index l.stored))
