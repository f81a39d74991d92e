use Rattle.std.proofs.Common.{◌≡◌, ◌+◌, List, ℕ, ap, ◌∙◌, slice_set, get_or, length, arith}
use Rattle.sid_run.proofs.Images.{partly_loaded, partly_loaded-more, partly_loaded-all}
use Rattle.sid_run.proofs.memory.put_image.Goals as goal

pub loop-i-preserved : goal.loop-i-preserved
loop-i-preserved c =
    c.write.ensures
    ∙ ap (λ (xs : List ℕ). slice_set xs (c.args.load + c.loop-i.i) (get_or c.args.image.now c.loop-i.i 0))
    c.loop-i.invariant
    ∙ partly_loaded-more c.args.load c.args.image.now c.loop-i.i (omega arith) (omega arith)

pub returns : goal.returns
returns c =
    let end : c.loop-i.i ≡ length c.args.image.now = omega arith in
    c.loop-i.invariant
    ∙ ap (λ (i : ℕ). partly_loaded c.args.load c.args.image.now i) end
    ∙ partly_loaded-all c.args.load c.args.image.now
