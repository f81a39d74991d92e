use Rattle.std.proofs.Common.{[], length, ap, ◌∙◌, arith}
use Rattle.std.proofs.lemmas.List.{get_or_default}
use Rattle.song_join.specs.Openings.{opening}
use Rattle.song_join.proofs.FoundOpenings.{openings_at_first, openings_more, all_openings}
use Rattle.song_join.proofs.openings.openings.Goals as goal

pub loop-n-init : goal.loop-n-init
loop-n-init c = openings_at_first c.as_slice-stored.result.now

pub loop-n-preserved : goal.loop-n-preserved
loop-n-preserved c =
    let all = ap length c.as_slice-stored.ensures.items in
    let limit = c.as_slice-stored.ensures.limit in
    let inside = c.loop-n-test.true in
    openings_more c.as_slice-stored.result.now c.loop-n.openings c.loop-n.n c.opening.result (omega arith)
    c.loop-n.invariant
    (c.opening.ensures
    ∙ ap opening (c.as_slice.ensures.rows ∙ c.index-stored-n.is
    ∙ get_or_default c.as_slice-stored.result.now c.loop-n.n c.index-stored-n.result [] inside))

pub returns : goal.returns
returns c =
    all_openings c.args.song.now c.loop-n.openings c.loop-n.n (rw c.as_slice-stored.ensures.items at c.loop-n-test.false)
    (rw c.as_slice-stored.ensures.items at c.loop-n.invariant)
