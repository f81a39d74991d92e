use Rattle.std.proofs.Common.{[], ◌∷◌}
use Rattle.song_places.specs.Search.{meant}
use Rattle.song_places.proofs.Search.{none_more}
use Rattle.song_places.proofs.PatternPlaces.{row_found, row_passed, rows_end}
use Rattle.song_places.proofs.patterns.first_row.Goals as goal

pub returns-then-is_row-clause-found : goal.returns-then-is_row-clause-found
returns-then-is_row-clause-found c =
    row_found c.args.song.now (meant c.args.song.now c.args.wanted) c.args.number c.loop-i.i _ c.args.pattern.now
    c.as_slice-rows.result.now c.requires.used c.requires.is c.as_slice-rows.ensures.rows c.loop-i-test.true
    (c.is_row.ensures.0 c.if-is_row.true) c.loop-i.invariant

pub loop-i-preserved : goal.loop-i-preserved
loop-i-preserved c =
    none_more c.args.song.now (meant c.args.song.now c.args.wanted) (2 ∷ c.args.number ∷ []) c.loop-i.i
    c.loop-i.invariant
    (row_passed c.args.song.now (meant c.args.song.now c.args.wanted) c.args.number c.loop-i.i _ c.args.pattern.now
    c.as_slice-rows.result.now c.requires.is c.as_slice-rows.ensures.rows
    (λ needs. absurd (let e = c.is_row.ensures.1 needs in let f = c.if-is_row.false in cc)))

pub returns-clause-none : goal.returns-clause-none
returns-clause-none c =
    rows_end c.args.song.now (meant c.args.song.now c.args.wanted) c.args.number c.loop-i.i c.args.pattern.now
    c.as_slice-rows.result.now c.requires.is c.as_slice-rows.ensures.rows c.loop-i-test.false c.loop-i.invariant
