use Rattle.std.proofs.Common.{◌≡◌, ℕ, suc, ◌+◌, ◌∷◌, [], ◌++◌, sym, ap, ◌∙◌, refl, subst, arith}
use Rattle.song_model.specs.OrderLimits.{AreEntries}
use Rattle.song_gen.specs.Draws.{next, after, below, draw}
use Rattle.song_gen.specs.GeneratedSong.{order_from}
use Rattle.song_gen.proofs.Loops.{one_more, all_drawn}
use Rattle.song_gen.proofs.Limits.{entries_limits}
use Rattle.song_gen.proofs.subtunes.draw_entries.Goals as goal

pub loop-play-init : goal.loop-play-init
unfolding after
loop-play-init c = record {
  items_are = c.in_ok-push.ensures.items
      ∙ ap (λ (xs : _). xs ++ (0xF0 + c.below.result) ∷ []) c.new-entries.ensures.items
      ∙ ap (λ (b : ℕ). (0xF0 + b) ∷ []) c.below.ensures.drawn;
  number_is = c.below.ensures.next;
}

-- the next draw
drawn_next : (y n now : ℕ) → now ≡ after y (1 + n) → (limit : ℕ) → draw now 0 limit ≡ draw y (1 + n) limit
unfolding after draw
drawn_next y n now e limit = ap (λ (z : ℕ). below limit (next z)) e

next_number : (y n now : ℕ) → now ≡ after y (1 + n) → next now ≡ after y (1 + (n + 1))
unfolding after
next_number y n now e = let k : suc (1 + n) ≡ 1 + (n + 1) = omega arith in ap next e ∙ ap (after y) k

pub loop-play-preserved : goal.loop-play-preserved
loop-play-preserved c =
    let y = c.args.draws.now.number in
    let n = c.loop-play._play in
    let so_far = c.loop-play.invariant in
    let b = c.below-in-loop-play.ensures in
    one_more so_far (1 + n) refl c.in_ok-push-2.ensures.items
    (b.drawn ∙ drawn_next y n c.loop-play.draws.number so_far.number_is 100)
    (b.next ∙ next_number y n c.loop-play.draws.number so_far.number_is)

pub from_vec-requires : goal.from_vec-requires
unfolding order_from
from_vec-requires c =
    subst AreEntries
    (sym (all_drawn c.loop-play.invariant 48 c.loop-play.auto._play-end c.loop-play-test.false).items_are)
    (entries_limits c.args.draws.now.number)

pub returns-clause-entries : goal.returns-clause-entries
unfolding order_from
returns-clause-entries c =
    c.from_vec.ensures ∙ (all_drawn c.loop-play.invariant 48 c.loop-play.auto._play-end c.loop-play-test.false).items_are

pub returns-clause-behind : goal.returns-clause-behind
returns-clause-behind c =
    (all_drawn c.loop-play.invariant 48 c.loop-play.auto._play-end c.loop-play-test.false).number_is
