use Rattle.std.proofs.Common.{rules}
use Rattle.std.proofs.lemmas.Int.{to_z-of_z}
use Rattle.song_model.proofs.Rests.{first_step}
use Rattle.song_model.proofs.orders.Order.play_at.Goals as goal

pub returns : goal.returns
returns c =
    let entries = c.as_slice.ensures.bytes in
    let from = c.from.ensures in
    let first =
    first_step c.args.self.now.entries c.args.here.place c.args.here.transpose c.args.here.repeat c.requires.inside
    c.requires.pattern in
    rw first (search (rules, to_z-of_z))
