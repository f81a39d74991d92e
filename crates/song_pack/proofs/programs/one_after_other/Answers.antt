use Rattle.std.proofs.Common.{ℕ, replicate, slice_index, slice_index_or, ap, arith}
use Rattle.std.proofs.lemmas.List.{length-replicate}
use Rattle.song_pack.proofs.FilledLists.{filled_none, filled_more}
use Rattle.song_pack.proofs.programs.one_after_other.Goals as goal

pub loop-p-init : goal.loop-p-init
loop-p-init c =
    filled_none (λ (p : ℕ). slice_index c.args.second.now (slice_index c.args.first.now p)) 256 (replicate 256 0)
    (length-replicate {A = ℕ} 256 0)

pub loop-p-preserved : goal.loop-p-preserved
loop-p-preserved c =
    filled_more (λ (p : ℕ). slice_index c.args.second.now (slice_index c.args.first.now p)) 256 c.loop-p.p
    (slice_index_or c.args.second.now c.from.result 0) c.loop-p.both c.loop-p.invariant c.loop-p-test.true
    (ap (slice_index c.args.second.now) c.from.ensures)

pub returns-clause-both : goal.returns-clause-both
returns-clause-both c p low =
    let end = c.loop-p-test.false in
    c.loop-p.invariant.is p (omega arith)

pub returns-clause-long : goal.returns-clause-long
returns-clause-long c = c.loop-p.invariant.long
