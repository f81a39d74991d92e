use Rattle.usage.proofs.TablePointers.{played_of}
use Rattle.usage.proofs.pointers.played_pointers.Goals as goal

pub returns : goal.returns
returns c = played_of c.args.song.now c.args.name c.args.rows.now c.requires c.mark_instruments.ensures
    c.mark_commands.ensures
