use Rattle.std.proofs.Common.{length, take, ap, sym, ◌∙◌, arith}
use Rattle.std.specs.List.{filter}
use Rattle.std.proofs.lemmas.List.{length-map, length-take}
use Rattle.song_model.specs.LookUp.{is_playable_subtune}
use Rattle.pattern_cut.specs.CutSongs.{cut_subtune}
use Rattle.song_cut.specs.Tables.{list_at}
use Rattle.song_cut.specs.Cutting.{IsCuttableSubtune}
use Rattle.song_cut.proofs.Lists.{kept_holds, filter_few}
use Rattle.song_cut.proofs.cutting.cut_subtunes.Goals as goal

pub cut_subtune-requires-clause-subtune : goal.cut_subtune-requires-clause-subtune
cut_subtune-requires-clause-subtune c =
    kept_holds (IsCuttableSubtune c.args.places.now) is_playable_subtune c.args.song.now.subtunes
    c.as_slice-stored.result.now c.loop-subtune.subtune-index c.subtune-item.result c.as_slice-stored.ensures.items
    c.loop-subtune-test.true c.subtune-item.is (sym c.is_playable.ensures ∙ c.if-is_playable.true) c.requires.subtunes

pub from_vec-requires : goal.from_vec-requires
from_vec-requires c =
    let taken = take c.loop-subtune.subtune-index c.as_slice-stored.result.now in
    let count = ap length c.loop-subtune.invariant in
    let same = length-map (filter is_playable_subtune taken) (cut_subtune (list_at c.args.places.now)) in
    let few = filter_few is_playable_subtune taken in
    let short = length-take c.loop-subtune.subtune-index c.as_slice-stored.result.now in
    let all = ap length c.as_slice-stored.ensures.items in
    let limit = c.as_slice-stored.ensures.limit in
    (omega arith, omega arith)
