use Rattle.command_line.proofs.Room.{lines_have_room}
use Rattle.command_line.proofs.claims.lines_have_room.Goals as goal

pub returns : goal.returns
returns c = lines_have_room
