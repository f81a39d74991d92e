-- One label more.
use Rattle.std.proofs.Common.{◌≡◌, ◌+◌, ◌<◌, ◌≤◌, length, get_or, arith, ap, rules}
use Rattle.std.proofs.lemmas.List.{get_or_default}
use Rattle.std.proofs.lemmas.List.Elements.{All-get_or}
use Rattle.song_lists.specs.declared.marks.Mark.{Mark}
use Rattle.song_lists.proofs.Cutting.{cut_more}
use Rattle.song_lists.proofs.Standing.{no_mark}
use Rattle.song_lists.proofs.marks.cut.Goals as goal

pub loop-mark-preserved : goal.loop-mark-preserved
loop-mark-preserved c =
    let i = c.loop-mark.mark-index in
    let inside : c.loop-mark.mark-index < length c.args.marks.now = search rules in
    let is = c.from-place.ensures in record {
      within =
          let h = All-get_or (λ mark. mark.place ≤ length c.args.bytes.now) c.args.marks.now c.loop-mark.mark-index
          no_mark
          inside c.requires.within in omega arith;
      next = λ d next.
          let h = c.requires.rise c.loop-mark.mark-index (c.loop-mark.mark-index + 1) d (omega arith) next in
          let same : (get_or c.args.marks.now c.loop-mark.mark-index d).place
          ≡ (get_or c.args.marks.now c.loop-mark.mark-index no_mark).place =
          ap (λ (mark : Mark). mark.place) (get_or_default c.args.marks.now c.loop-mark.mark-index d no_mark inside) in
          omega arith;
      lines = cut_more _ c.loop-mark.listing c.push_piece.new.listing c.push.new.self c.label_line.result
          c.args.marks.now
          c.args.bytes.now c.loop-mark.mark-index c.loop-mark.from c.from-place.result no_mark inside
          (c.loop-mark.invariant.next no_mark inside) is c.loop-mark.invariant.lines c.in_ok-push_piece.ensures
          c.in_ok-push.ensures.ok c.label_line.ensures;
    }
