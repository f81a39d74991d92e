use Rattle.std.proofs.Common.{List, refl, ap, arith}
use Rattle.song_model.specs.declared.orders.Subtune.{Subtune}
use Rattle.edit_ops.specs.Back.{back}
use Rattle.edit_ops.proofs.SpliceLaws.{can_put, whole_put}
use Rattle.edit_ops.proofs.others.splice_subtunes.Goals as goal

pub put-requires : goal.put-requires
put-requires c = (
  omega arith,
  can_put 32 c.args.song.now.subtunes c.args.splice c.requires.places c.requires.limit c.requires.room,
)

pub returns : goal.returns
unfolding back
returns c = record {
  after = ap (λ (list : List Subtune). record c.args.song.now { subtunes = list })
      (whole_put 32 c.args.song.now.subtunes c.put.new.list c.args.splice c.put.ensures.there);
  back = rw c.put.ensures.and_back refl;
}
