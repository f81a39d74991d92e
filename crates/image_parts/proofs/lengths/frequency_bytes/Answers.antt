-- They stand behind the zeros and what is read of the packed song.
use Rattle.std.proofs.Common.{◌≡◌, ℕ, ◌+◌, ◌*◌, refl, sym, ap, ◌∙◌}
use Rattle.player_memory.specs.Gaps.{gap_in}
use Rattle.image_parts.proofs.ReadBytes.{front_is}
use Rattle.image_parts.proofs.lengths.frequency_bytes.Goals as goal

sum : {a b c d : ℕ} → a ≡ c → b ≡ d → a + 2 * b ≡ c + 2 * d
sum e f = rw (e, f) refl

pub returns-clause-bytes : goal.returns-clause-bytes
returns-clause-bytes c =
    sum (c.gap_size.ensures.size ∙ ap (gap_in c.args.packed.now.numbers) (sym (front_is c.args.packed.now)))
    c.from.ensures
