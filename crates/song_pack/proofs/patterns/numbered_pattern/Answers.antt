use Rattle.std.proofs.Common.{◌≡◌, [], ◌∷◌, map, length, take, slice_index, sym, ◌∙◌, ap, subst}
use Rattle.std.proofs.lemmas.List.{length-map, take_all}
use Rattle.std.proofs.lemmas.List.Elements.{All-nil, All-cons, All-append}
use Rattle.song_model.specs.PatternLimits.{IsRow, IsPatternLength}
use Rattle.song_pack.specs.Numbers.{row_of, numbered_row}
use Rattle.song_pack.proofs.FilledLists.{map_push}
use Rattle.song_pack.proofs.patterns.numbered_pattern.Goals as goal

pub loop-row-init : goal.loop-row-init
loop-row-init c = record {
  are = c.new-rows.ensures.items;
  fit = rw c.new-rows.ensures.items (All-nil IsRow);
}

pub loop-row-preserved : goal.loop-row-preserved
loop-row-preserved c =
    rw c.in_ok-push.ensures.items
    (record {
      are = map_push (numbered_row (row_of c.args.numbers.now) (slice_index c.args.instruments.now))
          c.as_slice-stored.result.now
          c.loop-row.row-index _ c.loop-row.rows.items c.numbered_row.result c.loop-row-test.true
          c.loop-row.invariant.are
          c.numbered_row.ensures.row;
      fit = All-append IsRow c.loop-row.rows.items (c.numbered_row.result ∷ []) c.loop-row.invariant.fit
          (All-cons IsRow c.numbered_row.result [] c.numbered_row.ensures.fits (All-nil IsRow));
    })

pub from_vec-requires : goal.from_vec-requires
from_vec-requires c =
    let low = c.loop-row-test.false in
    let all = take_all c.loop-row.row-index c.as_slice-stored.result.now low in
    let count : length c.loop-row.rows.items ≡ length c.args.pattern.now =
    ap length c.loop-row.invariant.are
    ∙ length-map (take c.loop-row.row-index c.as_slice-stored.result.now)
    (numbered_row (row_of c.args.numbers.now) _)
    ∙ ap length all ∙ ap length c.as_slice-stored.ensures.rows in
    record {
      count = subst IsPatternLength (sym count) c.as_slice-stored.ensures.limits.count;
      each = c.loop-row.invariant.fit;
    }

pub returns : goal.returns
returns c =
    let low = c.loop-row-test.false in
    let all = take_all c.loop-row.row-index c.as_slice-stored.result.now low in
    c.from_vec.ensures ∙ c.loop-row.invariant.are
    ∙ ap (map (numbered_row (row_of c.args.numbers.now) _)) (all ∙ c.as_slice-stored.ensures.rows)
