use Rattle.std.proofs.Common.{◌≡◌, ℕ, ap, ◌∙◌}
use Rattle.song_model.specs.declared.orders.Order.{Order}
use Rattle.song_model.specs.declared.orders.Subtune.{Subtune}
use Rattle.song_gen.specs.Draws.{after}
use Rattle.song_gen.specs.GeneratedSong.{order_from, subtune_from}
use Rattle.song_gen.proofs.Loops.{after_after}
use Rattle.song_gen.proofs.subtunes.draw_subtune.Goals as goal

-- the number behind the second orderlist, and behind the third
second : (y one two : ℕ) → one ≡ after y 50 → two ≡ after one 50 → two ≡ after y 100
second y one two e is = is ∙ ap (λ (z : ℕ). after z 50) e ∙ after_after y 50 50

third : (y two three : ℕ) → two ≡ after y 100 → three ≡ after two 50 → three ≡ after y 150
third y two three e is = is ∙ ap (λ (z : ℕ). after z 50) e ∙ after_after y 100 50

abbrev subtune_of : Order → Order → Order → Subtune
subtune_of one two three = record { one = one; two = two; three = three }

three_orders : (y a b : ℕ) (one two three : Order) → a ≡ after y 50 → b ≡ after y 100 → one ≡ order_from y →
    two ≡ order_from a → three ≡ order_from b →
    subtune_of one two three ≡ subtune_from y
three_orders y a b one two three e f first then last =
    ap (λ (x : Order). subtune_of x two three) first
    ∙ ap (λ (x : Order). subtune_of (order_from y) x three) (then ∙ ap order_from e)
    ∙ ap (λ (x : Order). subtune_of (order_from y) (order_from (after y 50)) x)
    (last ∙ ap order_from f)

pub returns-clause-subtune : goal.returns-clause-subtune
returns-clause-subtune c =
    let y = c.args.draws.now.number in
    three_orders y c.draw_order.new.draws.number c.draw_order-2.new.draws.number c.in_ok-one.one c.in_ok-two.two
    c.in_ok-three.three c.in_ok-one.ensures.behind
    (second y c.draw_order.new.draws.number c.draw_order-2.new.draws.number c.in_ok-one.ensures.behind
    c.in_ok-two.ensures.behind)
    c.in_ok-one.ensures.order c.in_ok-two.ensures.order c.in_ok-three.ensures.order

pub returns-clause-behind : goal.returns-clause-behind
returns-clause-behind c =
    let y = c.args.draws.now.number in
    third y c.draw_order-2.new.draws.number c.draw_order-3.new.draws.number
    (second y c.draw_order.new.draws.number c.draw_order-2.new.draws.number c.in_ok-one.ensures.behind
    c.in_ok-two.ensures.behind)
    c.in_ok-three.ensures.behind
