use Rattle.std.proofs.Common.{ap, ◌∙◌}
use Rattle.song_model.specs.declared.songs.Song.{Song}
use Rattle.edit_ops.specs.declared.inverses.Inverse.TheVariants.{OneOrder}
use Rattle.edit_ops.specs.Back.{back}
use Rattle.edit_ops.proofs.BackLaws.{order_back}
use Rattle.edit_ops.proofs.orders.put_order.Goals as goal

pub returns-clause-back : goal.returns-clause-back
returns-clause-back c =
    let was = c.exchange_order-order.result in
    ap (λ (s : Song). back s (OneOrder c.args.subtune c.args.channel was)) c.exchange_order-order.ensures.after
    ∙ order_back c.args.song.now c.args.subtune c.args.channel c.args.order was c.requires
    c.exchange_order-order.ensures.before
