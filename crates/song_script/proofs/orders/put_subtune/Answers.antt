use Rattle.std.proofs.Common.{◌++◌}
use Rattle.song_script.specs.Parts.{order_said}
use Rattle.song_script.proofs.PutLaws.{join_more, join_last}
use Rattle.song_script.proofs.orders.put_subtune.Goals as goal

pub returns : goal.returns
returns c =
    let s = c.args.subtune.now in
    let n = c.args.number in
    join_last _ (order_said n 1 s.one ++ order_said n 2 s.two) (order_said n 3 s.three) _ _ _
    (join_more (order_said n 1 s.one) (order_said n 2 s.two) _ _ _ c.in_ok-put_order.ensures
    c.in_ok-put_order-2.ensures)
    c.put_order-3.ensures
