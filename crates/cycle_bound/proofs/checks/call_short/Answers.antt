-- The numbers of the first block, and those of the voices'.
use Rattle.std.proofs.Common.{rules, take, drop}
use Rattle.std.specs.Option.{option_copied, option_map}
use Rattle.scopes.specs.Trees.{tree_of}
use Rattle.cycle_bound.specs.Rules.{asked, nodes, nowhere}
use Rattle.cycle_bound.specs.EntranceRules.{voice_asked}
use Rattle.cycle_bound.specs.Lines.{kept_setting}
use Rattle.cycle_bound.proofs.Bounds.{asked_count}
use Rattle.cycle_bound.proofs.Shorts.{short_both}
use Rattle.cycle_bound.proofs.checks.call_short.Goals as goal

pub returns-in-Some : goal.returns-in-Some
returns-in-Some c =
    let tree = tree_of c.args.first.now in
    let inner = c.in_ok-number.inner.now in
    let both = short_both 1 (nodes tree) (asked (kept_setting c.args.kept) nowhere 0 tree (take (nodes tree) inner))
    (voice_asked (kept_setting c.args.kept) (option_map tree_of (option_copied c.args.voice)) (drop (nodes tree) inner))
    inner (asked_count (kept_setting c.args.kept) nowhere 0 tree (take (nodes tree) inner)) in
    search (rules, both)

pub returns : goal.returns
returns c =
    let tree = tree_of c.args.first.now in
    let inner = c.in_ok-number.inner.now in
    let both = short_both 1 (nodes tree) (asked (kept_setting c.args.kept) nowhere 0 tree (take (nodes tree) inner))
    (voice_asked (kept_setting c.args.kept) (option_map tree_of (option_copied c.args.voice)) (drop (nodes tree) inner))
    inner (asked_count (kept_setting c.args.kept) nowhere 0 tree (take (nodes tree) inner)) in
    search (rules, both)
