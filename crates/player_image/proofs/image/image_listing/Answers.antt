-- The lines that come are an image's.
use Rattle.std.proofs.Common.{◌≡◌, ℕ, ◌+◌, ◌<◌, ◌≤◌, List, length, slice_index, ap, ◌∙◌, arith}
use Rattle.scope_lines.specs.Readings.{holds_in}
use Rattle.player_memory.specs.declared.labels.TheConstants.{VARIABLES, FIRST_CLEARED}
use Rattle.kept_lines.specs.KeptLines.{kept_set}
use Rattle.variable_places.specs.Places.{variable_count}
use Rattle.variable_places.proofs.Laws.{counts_are_few, counts_are_no_fewer}
use Rattle.player_image.specs.Images.{placed}
use Rattle.player_image.proofs.Placed.{placed_length}
use Rattle.player_image.proofs.Made.{listing_is}
use Rattle.player_image.proofs.image.image_listing.Goals as goal

-- there are as many bytes as places
few_bytes : (bytes made variables : List ℕ) (places : ℕ → ℕ) (set count : ℕ) →
    count ≡ variable_count (holds_in set) → bytes ≡ made → made ≡ placed places count variables →
    (FIRST_CLEARED < length bytes) × (length bytes ≤ VARIABLES)
few_bytes bytes made variables places set count counted same are =
    let all = ap length (same ∙ are) ∙ placed_length places count variables in
    let few = counts_are_few (holds_in set) in
    let least = counts_are_no_fewer (holds_in set) in
    (omega (arith, least, counted, all), omega (arith, few.1, counted, all))

pub code_size-requires : goal.code_size-requires
code_size-requires c =
    let some = counts_are_no_fewer (holds_in c.conditions-conditions.result.0) in
    let counted = c.variable_places-stand.ensures.count in
    omega (arith, some, counted)

pub code_listing-requires-clause-some : goal.code_listing-requires-clause-some
code_listing-requires-clause-some c =
    (few_bytes c.as_slice.result.now c.in_ok-variables.variables c.start_variables-labelled.result
    (slice_index c.variable_places-stand.result.places) c.conditions-conditions.result.0
    c.variable_places-stand.result.count c.variable_places-stand.ensures.count c.as_slice.ensures
    c.in_ok-variables.ensures).0

pub code_listing-requires-clause-most : goal.code_listing-requires-clause-most
code_listing-requires-clause-most c =
    (few_bytes c.as_slice.result.now c.in_ok-variables.variables c.start_variables-labelled.result
    (slice_index c.variable_places-stand.result.places) c.conditions-conditions.result.0
    c.variable_places-stand.result.count c.variable_places-stand.ensures.count c.as_slice.ensures
    c.in_ok-variables.ensures).1

pub returns : goal.returns
returns c =
    listing_is c.args.packed.now c.args.options.now c.args.origin c.args.zero_page c.keep_limits.ensures.speed
    c.keep_limits.ensures.counts c.requires.low c.requires.high c.start_variables-labelled.result
    c.in_ok-orders.orders c.as_slice.result.now (slice_index c.variable_places-stand.result.places)
    c.conditions-conditions.result.0 (c.args.origin + c.in_ok-first.field-0) c.variable_places-stand.result.count
    c.start_of-start.result c.hold-dependent.result c.in_ok-listing.listing c.in_ok-lists.lists c.append.new.self
    c.start_variables-labelled.ensures.size
    (c.conditions-conditions.ensures ∙ ap (λ (set : ℕ). kept_set set c.args.options.now) c.asked_by.ensures)
    c.start_of-start.ensures c.hold-dependent.ensures c.variable_places-stand.ensures.places
    c.variable_places-stand.ensures.count (ap (λ n. c.args.origin + n) c.in_ok-first.ensures) c.in_ok-orders.ensures
    c.start_variables-labelled.ensures.begin c.start_variables-labelled.ensures.unplayed (c.as_slice.ensures ∙ c.in_ok-variables.ensures)
    c.in_ok-listing.ensures c.in_ok-lists.ensures c.in_ok-append.ensures.ok
