-- A line more may stand there, or may not.
use Rattle.std.proofs.Common.{◌+◌, ◌-◌, ◌≤◌, ◌&&◌, IfSome, sym, ap, subst, ◌∙◌, arith}
use Rattle.scopes.specs.Trees.{opened}
use Rattle.scope_lines.specs.Reach.{has_lines, behind_bytes}
use Rattle.scope_lines.specs.Readings.{first_of}
use Rattle.block_cases.specs.Reaches.{reach_of}
use Rattle.block_cases.proofs.Going.{gone, near_goes}
use Rattle.block_cases.proofs.reach.+reach.Goals as goal

pub all_reach-returns-then-not-reaches : goal.all_reach-returns-then-not-reaches
all_reach-returns-then-not-reaches t c =
    let inv = c.loop-line.invariant in
    let around = reach_of (record c.args.around { head = c.loop-line.head }) in
    let size = c.extent-size.result.0 in
    let left = c.extent-size.result.1.now in
    let on = gone around _ _ _ left size _ _ c.in-Some.ensures.cases.0 (sym c.is_end.ensures ∙ c.if-is_end.false)
    inv.is_open c.extent-size.ensures.behind c.extent-size.ensures.size inv.sized c.reaches.ensures in
    sym (sym inv.so_far ∙ (on.both
    ∙ ap (λ fits. fits && has_lines (behind_bytes size around) (first_of (opened left))) c.if-not-reaches.true))

pub all_reach-loop-line-preserved : goal.all_reach-loop-line-preserved
all_reach-loop-line-preserved t c =
    let inv = c.loop-line.invariant in
    let around = reach_of (record c.args.around { head = c.loop-line.head }) in
    let size = c.extent-size.result.0 in
    let left = c.extent-size.result.1.now in
    let on = gone around _ _ _ left size _ _ c.in-Some.ensures.cases.0 (sym c.is_end.ensures ∙ c.if-is_end.false)
    inv.is_open c.extent-size.ensures.behind c.extent-size.ensures.size inv.sized c.reaches.ensures in
    let short = c.extent-size.ensures.shorter in
    let shorter = inv.shorter in
    let less = c.in-Some.ensures.cases.1 in
    let further = c.further-head.ensures in
    record {
      is_open = on.is_open;
      sized = on.sized;
      so_far =
          ap (λ head. has_lines (reach_of (record c.args.around { head = head })) (first_of (opened left))) further
          ∙ (sym (on.both
          ∙ ap (λ fits. fits && has_lines (behind_bytes size around) (first_of (opened left))) c.if-not-reaches.false)
          ∙ inv.so_far);
      shorter = omega (arith, short, shorter, less);
      near =
          subst (λ head. IfSome head (λ far. far + (c.loop-line.more - size) ≤ 65000)) (sym further)
          (near_goes c.loop-line.head c.loop-line.more size 65000 on.within inv.near);
    }
