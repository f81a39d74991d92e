use Rattle.usage.proofs.FoundPrograms.{pointers_of}
use Rattle.usage.proofs.found.other_pointers.Goals as goal

pub returns : goal.returns
returns c = pointers_of c.args.song.now c.args.name c.args.waves.now c.requires.waves c.played_pointers-pointers.ensures
    c.mark_commands.ensures
