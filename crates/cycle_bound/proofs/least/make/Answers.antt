-- The number of a call in front of its blocks' numbers.
use Rattle.std.proofs.Common.{rules, ◌+◌}
use Rattle.std.specs.Option.{option_copied, option_map}
use Rattle.scopes.specs.Trees.{tree_of}
use Rattle.cycle_bound.specs.Rules.{entry}
use Rattle.cycle_bound.specs.EntranceRules.{voice_most}
use Rattle.cycle_bound.specs.Least.{least_of, least_voice}
use Rattle.cycle_bound.specs.Lines.{kept_setting}
use Rattle.cycle_bound.proofs.Fits.{fit_parts}
use Rattle.cycle_bound.proofs.Pushing.{all_pushed}
use Rattle.cycle_bound.proofs.least.make.Goals as goal

pub push_voice-requires-clause-fit : goal.push_voice-requires-clause-fit
push_voice-requires-clause-fit c =
    let parts = fit_parts (least_of (kept_setting c.args.kept) (tree_of c.args.first.now))
    (least_voice (kept_setting c.args.kept) (option_map tree_of (option_copied c.args.voice))) c.requires.fit.1 in
    parts.1

pub push_block-requires-clause-fit : goal.push_block-requires-clause-fit
push_block-requires-clause-fit c =
    let parts = fit_parts (least_of (kept_setting c.args.kept) (tree_of c.args.first.now))
    (least_voice (kept_setting c.args.kept) (option_map tree_of (option_copied c.args.voice))) c.requires.fit.1 in
    parts.0

pub returns : goal.returns
returns c =
    let once = least_of (kept_setting c.args.kept) (tree_of c.args.first.now) in
    let voice = option_map tree_of (option_copied c.args.voice) in
    let voices = least_voice (kept_setting c.args.kept) voice in
    let few = c.requires.fit.0 in
    let all = all_pushed once voices (entry once 0 + voice_most voice voices) in
    search (rules, few, all)
