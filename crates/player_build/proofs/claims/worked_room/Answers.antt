use Rattle.player_build.proofs.WorkedRoom.{notes_have_room}
use Rattle.player_build.proofs.claims.worked_room.Goals as goal

pub returns : goal.returns
returns c = notes_have_room
