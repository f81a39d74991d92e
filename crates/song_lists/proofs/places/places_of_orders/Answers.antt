-- One subtune more.
use Rattle.std.proofs.Common.{arith, rules}
use Rattle.song_lists.proofs.PlaceSteps.{more_orders, orders_fit, more_order_places}
use Rattle.song_lists.proofs.places.places_of_orders.Goals as goal

pub overflow_add-second : goal.overflow_add-second
overflow_add-second c =
    let fit = orders_fit c.args.subtunes.now c.loop-subtune.subtune-index c.args.from c.loop-subtune.place
    c.subtune-item.result (search rules) c.subtune-item.is c.loop-subtune.invariant.place c.requires in
    let one = c.order_length.ensures in
    omega arith

pub overflow_add-third : goal.overflow_add-third
overflow_add-third c =
    let fit = orders_fit c.args.subtunes.now c.loop-subtune.subtune-index c.args.from c.loop-subtune.place
    c.subtune-item.result (search rules) c.subtune-item.is c.loop-subtune.invariant.place c.requires in
    let one = c.order_length.ensures in
    let two = c.order_length-in-loop-subtune.ensures in
    omega arith

pub overflow_add-place : goal.overflow_add-place
overflow_add-place c =
    let fit = orders_fit c.args.subtunes.now c.loop-subtune.subtune-index c.args.from c.loop-subtune.place
    c.subtune-item.result (search rules) c.subtune-item.is c.loop-subtune.invariant.place c.requires in
    let one = c.order_length.ensures in
    let two = c.order_length-in-loop-subtune.ensures in
    let three = c.order_length-in-loop-subtune-2.ensures in
    omega arith

pub loop-subtune-preserved : goal.loop-subtune-preserved
loop-subtune-preserved c = record {
  places = more_order_places c.args.from c.args.subtunes.now c.loop-subtune.subtune-index c.loop-subtune.place
      c.order_length.result c.order_length-in-loop-subtune.result c.subtune-item.result c.loop-subtune.places
      c.extend.new.self (search rules) c.subtune-item.is c.loop-subtune.invariant.place c.order_length.ensures
      c.order_length-in-loop-subtune.ensures c.loop-subtune.invariant.places c.in_ok-extend.ensures.ok;
  place =
      let more = more_orders c.args.subtunes.now c.loop-subtune.subtune-index c.subtune-item.result (search rules)
      c.subtune-item.is in
      let before = c.loop-subtune.invariant.place in
      let one = c.order_length.ensures in
      let two = c.order_length-in-loop-subtune.ensures in
      let three = c.order_length-in-loop-subtune-2.ensures in
      omega arith;
}
