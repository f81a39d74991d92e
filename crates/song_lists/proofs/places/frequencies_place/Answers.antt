-- They stand behind what is read of the packed song.
use Rattle.std.proofs.Common.{◌≡◌, ℕ, ◌+◌, ◌*◌, arith}
use Rattle.song_lists.proofs.Lists.{frequencies_begin}
use Rattle.song_lists.proofs.places.frequencies_place.Goals as goal

as_many : (place read kept filled front rows gap : ℕ) → place ≡ 2 + front + 3 * rows + gap →
    read ≡ front → kept ≡ rows → filled ≡ gap → 2 + read + 3 * kept + filled ≡ place
as_many place read kept filled front rows gap is one two three = omega (arith, is, one, two, three)

pub returns : goal.returns
returns c =
    as_many _ c.bytes_read.result c.kept_rows.result c.gap_size.result _ _ _
    (frequencies_begin c.args.dependent c.args.packed.now) c.bytes_read.ensures.size c.kept_rows.ensures.count
    c.gap_size.ensures.size
