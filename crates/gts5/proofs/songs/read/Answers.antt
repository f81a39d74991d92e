use Rattle.std.proofs.Common.{Ok, Err}
use Rattle.gts5.proofs.Whole.{song_again, is_found, is_answer, is_fault, faults}
use Rattle.gts5.proofs.Within.{bytes_are}
use Rattle.gts5.proofs.songs.read.Goals as goal

pub returns-clause-found : goal.returns-clause-found
returns-clause-found c = is_found c.args.bytes.now c.read_pieces.result (bytes_are c.args.bytes.now c.type_inv.bytes)
    c.read_pieces.ensures

pub returns-clause-only : goal.returns-clause-only
returns-clause-only c = λ song spelled. is_answer c.args.bytes.now c.read_pieces.result (Ok song) c.read_pieces.ensures
    (song_again c.args.bytes.now song spelled)

pub returns-clause-fault : goal.returns-clause-fault
returns-clause-fault c = is_fault c.args.bytes.now c.read_pieces.result c.read_pieces.ensures

pub returns-clause-exact : goal.returns-clause-exact
returns-clause-exact c = λ fault e. is_answer c.args.bytes.now c.read_pieces.result (Err fault) c.read_pieces.ensures
    (faults c.args.bytes.now fault e)
