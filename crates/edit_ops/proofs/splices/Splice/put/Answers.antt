use Rattle.std.proofs.Common.{List, take, drop, length, ap, ◌∙◌, refl, arith}
use Rattle.edit_ops.specs.declared.splices.Splice.{Splice}
use Rattle.edit_ops.specs.Splices.{spliced}
use Rattle.edit_ops.proofs.SpliceLaws.{leads_back}
use Rattle.edit_ops.proofs.splices.Splice.put.Goals as goal

pub returns-clause-and_back : goal.returns-clause-and_back
returns-clause-and_back g c =
    let s = c.args.self in
    let taken = c.take-gone.ensures.taken in
    let other : Splice g.row.T.Denot =
    record { at = s.at; count = c.len-coming.result; items = c.put_in_place.new.list } in
    leads_back g.row.LIMIT c.args.list.now c.from_vec.result s other c.requires
    (c.from_vec.ensures ∙ c.put_in_place.ensures.whole
    ∙ ap (λ (xs : List g.row.T.Denot). spliced s.at s.count s.items.items xs) taken)
    refl (c.len-coming.ensures ∙ s.items.ok.0)
    (c.put_in_place.ensures.gone ∙ ap (λ (xs : List g.row.T.Denot). take s.count (drop s.at xs)) taken)
    (omega (arith, ap length taken, c.take-gone.ensures.limit))
    (omega (arith, ap length taken, c.take-gone.ensures.room, c.put_in_place.ensures.same_room))
