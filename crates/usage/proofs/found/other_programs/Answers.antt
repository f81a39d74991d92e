use Rattle.std.proofs.Common.{◌∙◌}
use Rattle.usage.proofs.FoundPrograms.{programs_of}
use Rattle.usage.proofs.found.other_programs.Goals as goal

pub returns : goal.returns
returns c =
    programs_of c.args.song.now c.args.name c.as_slice.result.now
    (record { pointers = c.other_pointers-pointers.result; reached = c.reached-reached.result })
    (c.as_slice.ensures.items ∙ c.table.ensures) c.other_pointers-pointers.ensures c.reached-reached.ensures
