use Rattle.std.proofs.Common.{◌≡◌, [], length, drop, ap, ◌∙◌, arith}
use Rattle.std.specs.List.{prefix_len}
use Rattle.std.proofs.lemmas.List.{take_rest, drop_all}
use Rattle.song_model.specs.declared.orders.Order.{Order}
use Rattle.packed_form.specs.WalkCount.{is_passed}
use Rattle.packed_form.proofs.OrderWalks.{looks_behind}
use Rattle.packed_form.proofs.walk_counts.end_looks.Goals as goal

pub returns-then-restart-entries : goal.returns-then-restart-entries
returns-then-restart-entries c =
    let order : Order = record { entries = c.args.entries.now; restart = c.args.restart } in
    let looks : c.front_looks.result ≡ prefix_len is_passed (drop c.args.restart c.args.entries.now) =
    c.front_looks.ensures.looks ∙ ap (prefix_len is_passed)
    (take_rest c.args.entries.now c.from-restart.result ∙ ap (λ restart. drop restart c.args.entries.now)
    c.from-restart.ensures) in
    omega (arith, looks, looks_behind order (length c.args.entries.now) (omega arith))

pub returns-else-restart-entries : goal.returns-else-restart-entries
returns-else-restart-entries c =
    let order : Order = record { entries = c.args.entries.now; restart = c.args.restart } in
    let none : drop c.args.restart c.args.entries.now ≡ [] =
    drop_all c.args.restart c.args.entries.now (omega arith) in
    let looks : prefix_len is_passed (drop c.args.restart c.args.entries.now) ≡ 0 = ap (prefix_len is_passed) none in
    omega (arith, looks, looks_behind order (length c.args.entries.now) (omega arith))
