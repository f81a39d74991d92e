use Rattle.std.proofs.Common.{◌≡◌, ◌∙◌, ℕ, map, replicate, sym, ap, arith}
use Rattle.std.proofs.lemmas.List.{length-replicate}
use Rattle.base.proofs.Laws.{get_or-replicate_any}
use Rattle.table_pack.specs.Marks.{is_marked}
use Rattle.table_pack.specs.Speeds.{sides_of}
use Rattle.packing_rules.specs.Renumbering.{same_row}
use Rattle.packing_rules.proofs.Laws.{with_new_length}
use Rattle.table_pack.proofs.SpeedRows.{merged_none, merged_left, merged_more, merged_all}
use Rattle.table_pack.proofs.speeds.merge_speed.Goals as goal
use Rattle.table_pack.proofs.speeds.merge_speed.Goals.{then-marks-p+in_ok-to, else-marks-p}

pub loop-index-init : goal.loop-index-init
loop-index-init c = record {
  together = c.new-seen.ensures.empty ∙ sym (ap (map sides_of) c.new-rows.ensures.items);
  few = rw c.new-rows.ensures.items (omega arith);
  merged = rw c.new-rows.ensures.items
      (merged_none c.args.song.now (is_marked c.args.marks.now) (replicate 256 0) c.requires
      (length-replicate {A = ℕ} 256 0) (λ q. get_or-replicate_any 256 q 0));
}

pub loop-index-preserved : goal.loop-index-preserved
loop-index-preserved c = elim c.if-marks-p.branch [
  | then-marks-p+in_ok-to w ↦
      (let few = c.loop-index.invariant.few in
      let small = c.loop-index-test.true in
      let count = with_new_length same_row c.loop-index.rows.items w.speed.result in
      rw (w.seen-is, w.rows-is, w.to-is) (record {
        together = w.in_ok-to.ensures.together;
        few = rw w.in_ok-to.ensures.rows (omega arith);
        merged = rw w.in_ok-to.ensures.rows
            (merged_more c.args.song.now (is_marked c.args.marks.now) c.loop-index.index c.loop-index.rows.items
            c.loop-index.to w.speed.result w.in_ok-to.field-0 c.loop-index.invariant.merged w.if-marks-p.true
            (omega arith) w.speed.ensures w.in_ok-to.ensures.number);
      }))
  | else-marks-p w ↦
      (let few = c.loop-index.invariant.few in
      rw (w.seen-is, w.rows-is, w.to-is) (record {
        together = c.loop-index.invariant.together;
        few = omega arith;
        merged = merged_left c.args.song.now (is_marked c.args.marks.now) c.loop-index.index c.loop-index.rows.items
            c.loop-index.to c.loop-index.invariant.merged w.if-marks-p.false;
      }))
]

pub returns : goal.returns
returns c =
    let low = c.loop-index-test.false in
    let high = c.loop-index.auto.index-end in
    let all : c.loop-index.index ≡ 255 = omega arith in
    rw c.from_vec.ensures
    (merged_all c.args.song.now (is_marked c.args.marks.now) c.loop-index.rows.items c.loop-index.to c.requires
    (rw all at c.loop-index.invariant.merged))
