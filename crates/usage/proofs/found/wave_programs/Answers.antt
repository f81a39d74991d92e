use Rattle.usage.proofs.FoundPrograms.{wave_programs_of}
use Rattle.usage.proofs.found.wave_programs.Goals as goal

pub returns : goal.returns
returns c =
    wave_programs_of c.args.song.now c.as_slice.result.now
    (record { pointers = c.played_pointers-pointers.result; reached = c.reached-reached.result })
    c.as_slice.ensures.items c.played_pointers-pointers.ensures c.reached-reached.ensures
