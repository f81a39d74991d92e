use Rattle.usage.proofs.OrderRules.{missing_found, none_found}
use Rattle.usage.proofs.orders.check_names.Goals as goal

pub returns-in-Some-clause-found : goal.returns-in-Some-clause-found
returns-in-Some-clause-found c =
    rw c.from.ensures
    (missing_found c.args.song.now c.args.subtune c.args.channel c.in-Some.place c.args.order.now
    c.as_slice-entries.result.now c.as_slice.result.now
    c.requires c.as_slice-entries.ensures.bytes c.as_slice.ensures.items c.in-Some.ensures.found)

pub returns-in-None-clause-none : goal.returns-in-None-clause-none
returns-in-None-clause-none c =
    none_found c.args.song.now c.args.subtune c.args.channel c.args.order.now c.as_slice-entries.result.now
    c.as_slice.result.now
    c.requires c.as_slice-entries.ensures.bytes c.as_slice.ensures.items c.in-None.ensures.none
