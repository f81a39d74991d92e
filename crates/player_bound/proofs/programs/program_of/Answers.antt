-- There are variables to clear, and the lines are blocks.
use Rattle.std.proofs.Common.{rules, ◌≡◌, true, subst, sym, arith}
use Rattle.scope_lines.specs.Readings.{is_block, holds_in}
use Rattle.variable_places.proofs.Laws.{counts_are_no_fewer}
use Rattle.player_text.proofs.Laws.{are_blocks}
use Rattle.player_code.proofs.Laws.{init_is_block}
use Rattle.player_bound.proofs.programs.program_of.Goals as goal

pub overflow_sub-count : goal.overflow_sub-count
overflow_sub-count c =
    let few = counts_are_no_fewer (holds_in c.conditions-conditions.result.0) in
    let is = c.variable_places-count.ensures.count in
    omega (arith, few, is)

pub init-requires : goal.init-requires
init-requires c =
    let few = counts_are_no_fewer (holds_in c.conditions-conditions.result.0) in
    let is = c.variable_places-count.ensures.count in
    omega (arith, few, is)

pub returns-clause-are : goal.returns-clause-are
returns-clause-are c = record {
  init = init_is_block c.start_of.result _ _ c.in_ok-init.ensures (search rules) (search rules) (search rules)
      (search rules) (search rules);
  filter = subst (λ l. is_block l ≡ true) (sym c.in_ok-filter.ensures) are_blocks.filter;
  voice = subst (λ l. is_block l ≡ true) (sym c.in_ok-voice.ensures) are_blocks.voice;
}
