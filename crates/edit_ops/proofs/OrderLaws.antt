-- What the tests of an orderlist's places tell.
use Rattle.std.proofs.Common.{◌≡◌, ℕ, ◌<◌, ◌≤◌, ◌||◌, ◌==◌, false, nat_le, nat_lt, length, arith}
use Rattle.std.proofs.lemmas.Bool.{or_parts}
use Rattle.std.proofs.lemmas.Bool.Decides.{nat_tests}
use Rattle.song_model.specs.declared.songs.Song.{Song}
use Rattle.edit_ops.specs.Orders.{lacks_subtune, lacks_order, lacks_entry, order_at}

pub subtune_stands : (song : Song) (subtune : ℕ) → lacks_subtune song subtune ≡ false →
    (0 < subtune) × (subtune ≤ length song.subtunes)
subtune_stands song subtune h =
    let parts = or_parts (subtune == 0) (nat_lt (length song.subtunes) subtune) h in
    (let a = parts.0 in grind (arith, nat_tests), let b = parts.1 in grind (arith, nat_tests))

pub subtune_of_order : (song : Song) (subtune channel : ℕ) → lacks_order song subtune channel ≡ false →
    lacks_subtune song subtune ≡ false
subtune_of_order song subtune channel h =
    (or_parts (lacks_subtune song subtune) (channel == 0)
    (or_parts (lacks_subtune song subtune || channel == 0) (nat_lt 3 channel) h).0).0

pub entry_stands : (song : Song) (subtune channel place : ℕ) → lacks_entry song subtune channel place ≡ false →
    place < length (order_at song subtune channel).entries
entry_stands song subtune channel place h =
    let part = (or_parts (lacks_order song subtune channel) (nat_le (length (order_at song subtune channel).entries)
    place) h).1 in
    grind (arith, nat_tests)
