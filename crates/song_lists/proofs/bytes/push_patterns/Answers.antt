-- One pattern more.
use Rattle.std.proofs.Common.{ℕ, ◌++◌, List, ap, ◌∙◌, rules}
use Rattle.song_lists.proofs.ByteSteps.{more_list_bytes}
use Rattle.song_lists.proofs.bytes.push_patterns.Goals as goal

pub loop-pattern-preserved : goal.loop-pattern-preserved
loop-pattern-preserved c =
    more_list_bytes c.args.bytes.now c.loop-pattern.bytes c.extend.new.self c.args.patterns.now
    c.loop-pattern.pattern-index c.pattern-item.result (search rules) c.pattern-item.is c.loop-pattern.invariant
    (c.in_ok-extend.ensures.ok ∙ ap (λ (bytes : List ℕ). c.loop-pattern.bytes ++ bytes) c.as_slice.ensures.bytes)
