use Rattle.song_pack.proofs.MadeTables.{made_speeds}
use Rattle.song_pack.proofs.programs.packed_speeds.Goals as goal

pub returns : goal.returns
returns c =
    made_speeds c.args.song.now c.args.marks.now c.in_ok-map.map.rows c.in_ok-map.map.to c.told-marks
    c.in_ok-map.ensures
