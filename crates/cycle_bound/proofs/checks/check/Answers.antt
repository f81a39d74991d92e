-- There are as many, and one is too small, or none.
use Rattle.std.proofs.Common.{◌≡◌, ◌∙◌, length, sym, rules}
use Rattle.std.specs.Option.{option_copied, option_map}
use Rattle.scopes.specs.Trees.{tree_of}
use Rattle.cycle_bound.specs.EntranceRules.{call_asked}
use Rattle.cycle_bound.specs.Faults.{call_nodes}
use Rattle.cycle_bound.specs.Lines.{kept_setting}
use Rattle.cycle_bound.proofs.Shorts.{call_count, first_short_is, none_reaches}
use Rattle.cycle_bound.proofs.checks.check.Goals as goal

pub returns-in-Some : goal.returns-in-Some
returns-in-Some c =
    let setting = kept_setting c.args.kept in
    let first = tree_of c.args.first.now in
    let voice = option_map tree_of (option_copied c.args.voice) in
    let numbers = c.args.numbers.now in
    let as_many : length numbers ≡ call_nodes first voice = search rules in
    let some = sym c.call_short.ensures ∙ c.in-Some.is in (
      as_many,
      first_short_is (call_asked setting first voice numbers) numbers c.in-Some.place
          (call_count setting first voice numbers ∙ sym as_many) some,
    )

pub returns : goal.returns
returns c =
    let setting = kept_setting c.args.kept in
    let first = tree_of c.args.first.now in
    let voice = option_map tree_of (option_copied c.args.voice) in
    let numbers = c.args.numbers.now in
    let as_many : length numbers ≡ call_nodes first voice = search rules in
    let none = sym c.call_short.ensures ∙ c.in_default.is in (
      none_reaches 0 (call_asked setting first voice numbers) numbers
          (call_count setting first voice numbers ∙ sym as_many) none,
      c.first_number.ensures,
    )
