use Rattle.std.proofs.Common.{◌++◌, codes}
use Rattle.song_script.specs.Parts.{table_said, tables_said}
use Rattle.song_script.proofs.PutLaws.{join_more, join_last}
use Rattle.song_script.proofs.tables.put_tables.Goals as goal

pub returns : goal.returns
unfolding tables_said
returns c =
    let song = c.args.song.now in
    let wave = table_said 0 (codes "wave") song.wave in
    let pulse = table_said 1 (codes "pulse") song.pulse in
    let filter = table_said 2 (codes "filter") song.filter in
    let speed = table_said 3 (codes "speed") song.speed in
    join_last _ (wave ++ pulse ++ filter) speed _ _ _
    (join_more (wave ++ pulse) filter _ _ _
    (join_more wave pulse _ _ _ c.in_ok-put_table.ensures c.in_ok-put_table-2.ensures) c.in_ok-put_table-3.ensures)
    c.put_table-4.ensures
