-- One subtune more.
use Rattle.std.proofs.Common.{ℕ, ◌++◌, List, ap, ◌∙◌, rules}
use Rattle.song_lists.proofs.ByteSteps.{more_order_bytes}
use Rattle.song_lists.proofs.bytes.push_orders.Goals as goal

pub loop-subtune-preserved : goal.loop-subtune-preserved
loop-subtune-preserved c =
    more_order_bytes c.args.bytes.now c.loop-subtune.bytes c.extend.new.self c.extend-in-loop-subtune.new.self
    c.extend-in-loop-subtune-2.new.self c.args.subtunes.now c.loop-subtune.subtune-index c.subtune-item.result
    (search rules) c.subtune-item.is c.loop-subtune.invariant
    (c.in_ok-extend.ensures.ok ∙ ap (λ (bytes : List ℕ). c.loop-subtune.bytes ++ bytes) c.as_slice.ensures.items)
    (c.in_ok-extend-2.ensures.ok
    ∙ ap (λ (bytes : List ℕ). c.extend.new.self ++ bytes) c.as_slice-in-loop-subtune.ensures.items)
    (c.in_ok-extend-3.ensures.ok
    ∙ ap (λ (bytes : List ℕ). c.extend-in-loop-subtune.new.self ++ bytes) c.as_slice-in-loop-subtune-2.ensures.items)
