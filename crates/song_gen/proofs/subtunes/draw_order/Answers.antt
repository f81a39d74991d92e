use Rattle.std.proofs.Common.{◌≡◌, ℕ, List, ap, ◌∙◌}
use Rattle.song_model.specs.declared.orders.Order.{Order}
use Rattle.song_gen.specs.Draws.{next, after, below, draw}
use Rattle.song_gen.specs.GeneratedSong.{order_from}
use Rattle.song_gen.proofs.subtunes.draw_order.Goals as goal

-- the last draw of fifty
last_draw : (y now : ℕ) → now ≡ after y 49 → draw now 0 49 ≡ draw y 49 49
unfolding draw after
last_draw y now e = ap (λ (z : ℕ). below 49 (next z)) e

abbrev order_of : List ℕ → ℕ → Order
order_of entries restart = record { entries = entries; restart = restart }

pub returns-clause-order : goal.returns-clause-order
unfolding order_from
returns-clause-order c =
    let y = c.args.draws.now.number in
    ap (λ (entries : List ℕ). order_of entries c.below-restart.result) c.in_ok-entries.ensures.entries
    ∙ ap (λ (place : ℕ). order_of (order_from y).entries place)
    (c.below-restart.ensures.drawn ∙ last_draw y c.draw_entries.new.draws.number c.in_ok-entries.ensures.behind)

pub returns-clause-behind : goal.returns-clause-behind
unfolding after
returns-clause-behind c = c.below-restart.ensures.next ∙ ap next c.in_ok-entries.ensures.behind
