-- It is behind the fields that are read.
use Rattle.std.proofs.Common.{◌≡◌, ℕ, ◌+◌, ◌-◌, ◌*◌, arith}
use Rattle.song_lists.proofs.Lists.{field_sums}
use Rattle.song_lists.proofs.places.one_timer_place.Goals as goal

behind : (at count less place fields unread instruments : ℕ) → at ≡ place → count ≡ instruments → less ≡ unread →
    fields + unread ≡ 9 * instruments → at + (9 * count - less) + 1 ≡ place + fields + 1
behind at count less place fields unread instruments a b c d = omega (arith, a, b, c, d)

pub returns-clause-place : goal.returns-clause-place
returns-clause-place c =
    behind c.instruments_place.result c.instruments.result c.unread_size.result _ _ _ _
    c.instruments_place.ensures.place
    c.instruments.ensures.count c.unread_size.ensures.size (field_sums c.args.packed.now).all
