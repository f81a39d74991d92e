use Rattle.std.proofs.Common.{◌<◌, ℕ, List, All, ◌∙◌, ap, arith}
use Rattle.std.specs.List.{flat_map}
use Rattle.song_model.specs.declared.orders.Order.{Order}
use Rattle.song_model.specs.OrderLimits.{AreEntries}
use Rattle.pattern_cut.specs.Cuts.{in_pieces}
use Rattle.song_cut.specs.Tables.{list_at}
use Rattle.song_cut.proofs.Placing.{restart_is, restart_low}
use Rattle.song_cut.proofs.cutting.cut_order.Goals as goal

are_bytes : (bytes : List ℕ) → AreEntries bytes → All (λ (b : ℕ). b < 256) bytes
are_bytes bytes are = λ k d inside. let low = are.each k d inside in omega arith

pub overflow_cast-result : goal.overflow_cast-result
overflow_cast-result c =
    let is = c.counted.ensures.length
    ∙ restart_is c.args.places.now c.args.counts.now c.as_slice-entries.result.now c.args.order.now c.min-first.result
    c.requires.counts (are_bytes c.args.order.now.entries c.as_slice-entries.ensures.limits)
    c.as_slice-entries.ensures.bytes
    (let first = c.min-first.ensures in let from = c.from.ensures in omega arith) in
    let low = restart_low (in_pieces (list_at c.args.places.now)) c.args.order.now.entries c.args.order.now.restart in
    let most = c.requires.order.entries.count in
    omega arith

pub returns : goal.returns
returns c =
    let entries = c.from_vec.ensures ∙ c.in_ok-cut_entries.ensures
    ∙ ap (flat_map (in_pieces (list_at c.args.places.now))) c.as_slice-entries.ensures.bytes in
    let restart = c.counted.ensures.length
    ∙ restart_is c.args.places.now c.args.counts.now c.as_slice-entries.result.now c.args.order.now c.min-first.result
    c.requires.counts (are_bytes c.args.order.now.entries c.as_slice-entries.ensures.limits)
    c.as_slice-entries.ensures.bytes
    (let first = c.min-first.ensures in let from = c.from.ensures in omega arith) in
    let of : List ℕ → ℕ → Order = λ bytes n. record { entries = bytes; restart = n } in
    ap (λ (bytes : List ℕ). of bytes c.counted.result) entries ∙ ap (of _) restart
