-- All lists.
use Rattle.std.proofs.Common.{◌++◌, ℕ, List, [], if◌then◌else◌, ap, ◌∙◌}
use Rattle.std.specs.List.{concat, flat_map}
use Rattle.packed_form.specs.declared.packed_songs.PackedSubtune.{PackedSubtune}
use Rattle.song_lists.specs.DataLists.{speed_lists, kept_lists, table_lists, instrument_lists, shared_lists}
use Rattle.song_lists.specs.DataLists.{address_lists, all_orders, orders_of, listed_places, pattern_places, frequency_lists, lows}
use Rattle.song_lists.specs.DataLists.{highs}
use Rattle.song_lists.proofs.ByteSteps.{all_lists, four_address_lists}
use Rattle.song_lists.proofs.bytes.data_bytes.Goals as goal

pub returns : goal.returns
returns c =
    let packed = c.args.packed.now in
    let dependent = c.args.dependent in
    let start = c.args.start in
    let orders = c.listed.result.now in
    let patterns = c.args.places.1.now in
    all_lists (speed_lists packed) (kept_lists dependent packed) (table_lists packed) (instrument_lists packed)
    (shared_lists packed) (address_lists dependent packed start) (all_orders packed) packed.patterns
    (frequency_lists packed) c.push_speed_lists.new.bytes
    c.push_kept_lists.new.bytes c.push_table_lists.new.bytes c.push_instrument_lists.new.bytes
    c.push_shared_lists.new.bytes c.push_address_lists.new.bytes c.push_orders.new.bytes c.push_patterns.new.bytes c.push_frequency_lists.new.bytes
    (lows start 0 orders ++ (highs start 0 orders ++ (lows start 1 patterns ++ highs start 1 patterns)))
    (c.in_ok-push_speed_lists.ensures
    ∙ ap (λ (bytes : List ℕ). bytes ++ concat (speed_lists packed)) c.new-bytes.ensures)
    c.in_ok-push_kept_lists.ensures c.in_ok-push_table_lists.ensures c.in_ok-push_instrument_lists.ensures
    c.in_ok-push_shared_lists.ensures
    (four_address_lists start orders (listed_places dependent packed) patterns (pattern_places dependent packed)
    (c.listed.ensures ∙ ap (λ (places : List ℕ). if packed.facts.subtunes then places else []) c.requires.orders)
    c.requires.patterns)
    c.in_ok-push_address_lists.ensures
    (c.in_ok-push_orders.ensures
    ∙ ap (λ (subtunes : List PackedSubtune). c.push_address_lists.new.bytes ++ concat (flat_map orders_of subtunes))
    c.as_slice.ensures.items)
    (c.in_ok-push_patterns.ensures
    ∙ ap (λ (texts : List (List ℕ)). c.push_orders.new.bytes ++ concat texts) c.as_slice-2.ensures.items)
    c.in_ok-push_frequency_lists.ensures
