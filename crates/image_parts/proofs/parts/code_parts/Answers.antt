-- The parts for what a song asks for and options.
use Rattle.std.proofs.Common.{◌≡◌, ℕ, ◌≤◌, List, Result, Ok, Err, ap, ◌∙◌, arith, rules}
use Rattle.std.specs.Prelude.{IfOk}
use Rattle.scopes.specs.declared.line.Line.{Line}
use Rattle.scopes.specs.Trees.{tree_of}
use Rattle.scope_lines.specs.Readings.{holds_in}
use Rattle.player_text.specs.declared.texts.Start.{Start}
use Rattle.player_text.specs.Texts.{init_lines}
use Rattle.kept_lines.specs.Starts.{start_of}
use Rattle.kept_lines.specs.KeptLines.{kept_set}
use Rattle.variable_places.specs.Places.{variable_count}
use Rattle.variable_places.proofs.Laws.{counts_are_few, counts_are_no_fewer}
use Rattle.player_code.specs.CodeLines.{cleared_of}
use Rattle.player_code.proofs.Laws.{init_is_block}
use Rattle.image_parts.specs.CodeParts.{parts_around}
use Rattle.image_parts.proofs.parts.code_parts.Goals as goal

-- what comes of the value, where there is one
if_ok : {X E : Type 0} {P Q : X → Type 0} (result : Result X E) → ((x : X) → P x → Q x) → IfOk result P → IfOk result Q
if_ok (Ok x) more holds = more x holds
if_ok (Err e) more holds = tt

-- there are more variables than those that aren't cleared
enough : (set count : ℕ) → count ≡ variable_count (holds_in set) → 61 ≤ count
enough set count counted =
    let least = counts_are_no_fewer (holds_in set) in
    omega (arith, counted, least)

pub overflow_sub-cleared : goal.overflow_sub-cleared
overflow_sub-cleared c =
    let some = enough c.conditions-conditions.result.0 c.variable_places-variables.result.count
    c.variable_places-variables.ensures.count in
    omega (arith, some)

pub init-requires : goal.init-requires
init-requires c =
    let some = enough c.conditions-conditions.result.0 c.variable_places-variables.result.count
    c.variable_places-variables.ensures.count in
    omega (arith, some)

pub parts_around-requires-clause-init : goal.parts_around-requires-clause-init
parts_around-requires-clause-init c =
    let few = (counts_are_few (holds_in c.conditions-conditions.result.0)).1 in
    let count = c.variable_places-variables.ensures.count in
    init_is_block c.start_of.result (cleared_of c.variable_places-variables.result.count) c.as_slice-3.result.now
    (c.as_slice-3.ensures ∙ c.in_ok-init.ensures) (search rules) (search rules) (search rules) (search rules)
    (omega (arith, few, count))

pub returns : goal.returns
returns c =
    let set : ℕ = kept_set c.args.asked.0 c.args.options.now in
    let variables : ℕ = c.variable_places-variables.result.count in
    let count : variables ≡ variable_count (holds_in set) =
    c.variable_places-variables.ensures.count
    ∙ ap (λ (s : ℕ). variable_count (holds_in s)) c.conditions-conditions.ensures
    in
    let lines : c.as_slice-3.result.now ≡ init_lines c.start_of.result (cleared_of variables) =
    c.as_slice-3.ensures ∙ c.in_ok-init.ensures in
    if_ok c.parts_around.result
    (λ list is.
    is
    ∙ ap (λ (s : ℕ). parts_around (holds_in s) (tree_of c.as_slice-3.result.now)) c.conditions-conditions.ensures
    ∙ ap (λ (ls : List Line). parts_around (holds_in set) (tree_of ls)) lines
    ∙ ap (λ (start : Start). parts_around (holds_in set) (tree_of (init_lines start (cleared_of variables)))) c.start_of.ensures
    ∙ ap (λ (n : ℕ). parts_around (holds_in set) (tree_of (init_lines (start_of c.args.options.now) (cleared_of n)))) count)
    c.parts_around.ensures
