use Rattle.std.proofs.Common.{ℕ, map, replicate, ap}
use Rattle.std.proofs.lemmas.List.{length-replicate}
use Rattle.table_pack.specs.Marks.{is_marked}
use Rattle.song_pack.specs.Texts.{text_under, IsCaused}
use Rattle.song_pack.proofs.HandedOn.{err_caused}
use Rattle.song_pack.proofs.GatheredPatterns.{gathered_none, gathered_left, gathered_more, first_fault}
use Rattle.song_pack.proofs.patterns.packed_patterns.Goals as goal
use Rattle.song_pack.proofs.patterns.packed_patterns.Goals.{then-used-from+in_ok-packed+in_ok-to, else-used-from}

pub loop-p-init : goal.loop-p-init
loop-p-init c =
    rw c.new-list.ensures.items (
      gathered_none (text_under c.args.song.now c.args.numbers.now c.args.instruments.now) (is_marked c.args.used.now)
          (replicate 208 0) (length-replicate {A = ℕ} 208 0),
      ap (map (λ key. key.items)) c.new-seen.ensures.empty,
    )

pub returns-in_err-packed-clause-fault : goal.returns-in_err-packed-clause-fault
returns-in_err-packed-clause-fault c =
    err_caused
    (IsCaused (text_under c.args.song.now c.args.numbers.now c.args.instruments.now) (is_marked c.args.used.now))
    c.in_err-packed.field-0.0 c.from_residual.result c.from_residual.ensures.1
    (first_fault (text_under c.args.song.now c.args.numbers.now c.args.instruments.now) (is_marked c.args.used.now)
    c.loop-p.p c.loop-p.list.items c.loop-p.to c.in_err-packed.field-0.0 c.loop-p.invariant.0
    (rw c.from.ensures at c.if-used-from.true) c.in_err-packed.ensures.fault)

pub loop-p-preserved : goal.loop-p-preserved
loop-p-preserved c =
    let text = text_under c.args.song.now c.args.numbers.now c.args.instruments.now in
    let used = is_marked c.args.used.now in
    elim c.if-used-from.branch [
      | then-used-from+in_ok-packed+in_ok-to w ↦ rw (w.seen-is, w.list-is, w.to-is, w.from-then-used-from.ensures) (
        rw w.in_ok-to.ensures.list
            (gathered_more text used c.loop-p.p w.in_ok-to.field-0 c.loop-p.list.items c.loop-p.to w.in_ok-packed.packed
            c.loop-p.invariant.0 (rw c.from.ensures at w.if-used-from.true) c.loop-p-test.true
            w.in_ok-packed.ensures.packed
            w.in_ok-packed.ensures.short w.in_ok-to.ensures.number),
        w.in_ok-to.ensures.together,
      )
      | else-used-from w ↦ rw (w.seen-is, w.list-is, w.to-is) (
        gathered_left text used c.loop-p.p c.loop-p.list.items c.loop-p.to c.loop-p.invariant.0
            (rw c.from.ensures at w.if-used-from.false),
        c.loop-p.invariant.1,
      )
    ]
