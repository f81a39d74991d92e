use Rattle.std.proofs.Common.{[], ◌∷◌, arith}
use Rattle.song_places.specs.Search.{meant}
use Rattle.song_places.proofs.Search.{none_more}
use Rattle.song_places.proofs.MarkedPlaces.{wave_row_found, wave_row_passed, wave_rows_end}
use Rattle.song_places.proofs.wave_rows.first_wave_row.Goals as goal

pub returns-then-is_wanted-clause-found : goal.returns-then-is_wanted-clause-found
returns-then-is_wanted-clause-found c =
    wave_row_found c.args.song.now (meant c.args.song.now c.args.wanted) c.loop-n.n
    (c.is_wanted.ensures.0 c.if-is_wanted.true) c.loop-n.invariant

pub loop-n-preserved : goal.loop-n-preserved
loop-n-preserved c =
    none_more c.args.song.now (meant c.args.song.now c.args.wanted) (4 ∷ []) c.loop-n.n c.loop-n.invariant
    (wave_row_passed c.args.song.now (meant c.args.song.now c.args.wanted) c.loop-n.n
    (λ at. absurd (let e = c.is_wanted.ensures.1 at in let f = c.if-is_wanted.false in cc)))

pub returns-clause-none : goal.returns-clause-none
returns-clause-none c =
    wave_rows_end c.args.song.now (meant c.args.song.now c.args.wanted) c.loop-n.n c.args.reached.now c.requires
    (omega arith) c.loop-n.invariant
