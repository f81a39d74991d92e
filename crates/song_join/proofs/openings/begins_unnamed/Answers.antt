use Rattle.std.proofs.Common.{get_or, sym, ap, ◌∙◌, ℕ, arith}
use Rattle.std.specs.Prelude.{None}
use Rattle.song_join.proofs.FirstOpenings.{openless_more, decided, never_unnamed}
use Rattle.song_join.proofs.openings.begins_unnamed.Goals.{then-byte-lt-FIRST_REPEAT+in_default, else-byte-lt-FIRST_REPEAT}
use Rattle.song_join.proofs.openings.begins_unnamed.Goals as goal

pub loop-byte-preserved : goal.loop-byte-preserved
loop-byte-preserved c =
    let byte = get_or c.as_slice-entries.result.now c.loop-byte.byte-index 0 in
    openless_more c.args.song.now c.as_slice-entries.result.now c.loop-byte.byte-index c.loop-byte.invariant
    (λ low. elim c.if-byte-lt-FIRST_REPEAT.branch [
      | then-byte-lt-FIRST_REPEAT+in_default w ↦
          sym (c.requires.openings.each byte)
          ∙ ap (λ (n : ℕ). get_or c.args.openings.now n None) (sym w.from.ensures)
          ∙ w.in_default.is
      | else-byte-lt-FIRST_REPEAT w ↦ (let high = w.if-byte-lt-FIRST_REPEAT.false in absurd (omega arith))
    ])

pub returns-in-Some : goal.returns-in-Some
returns-in-Some c =
    let byte = get_or c.as_slice-entries.result.now c.loop-byte.byte-index 0 in
    decided c.args.song.now c.args.order.now c.as_slice-entries.result.now c.loop-byte.byte-index c.in-Some.row
    c.as_slice-entries.ensures.bytes c.loop-byte-test.true c.if-byte-lt-FIRST_REPEAT.true
    (sym (c.requires.openings.each byte)
    ∙ ap (λ (n : ℕ). get_or c.args.openings.now n None) (sym c.from.ensures)
    ∙ c.in-Some.is)
    c.loop-byte.invariant

pub returns : goal.returns
returns c = (
  λ t. absurd (cc),
  λ b. absurd (never_unnamed c.args.song.now c.args.order.now c.loop-byte.byte-index c.requires.endless
      (rw c.as_slice-entries.ensures.bytes at c.loop-byte-test.false)
      (rw c.as_slice-entries.ensures.bytes at c.loop-byte.invariant) b),
)
