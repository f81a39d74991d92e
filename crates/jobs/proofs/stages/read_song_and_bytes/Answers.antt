use Rattle.std.proofs.Common.{Some, refl, sym, ap, ◌∙◌}
use Rattle.std.proofs.lemmas.Result.{err_from_is_err_and}
use Rattle.jobs.specs.Endings as ends
use Rattle.jobs.proofs.stages.read_song_and_bytes.Goals as goal

pub returns-in_err-bytes-clause-refused : goal.returns-in_err-bytes-clause-refused
returns-in_err-bytes-clause-refused g c =
    let p = err_from_is_err_and c.from_residual.result c.from_residual.ensures.1 in
    rw (p.1, p.2) (ends.unread c.in_err-bytes.ensures.refused)

pub returns-in_err-song-clause-refused : goal.returns-in_err-song-clause-refused
returns-in_err-song-clause-refused g c =
    let was = c.in_ok-bytes.ensures.read in
    let p = err_from_is_err_and c.from_residual-in_err-song.result c.from_residual-in_err-song.ensures.1 in
    let found = was.found ∙ ap Some (sym c.deref.ensures.value) in
    rw (p.1, p.2)
    (ends.unheld _ was (c.in_err-song.ensures.refused was.files c.args.name.now found))

pub returns-clause-read : goal.returns-clause-read
returns-clause-read g c =
    record {
      read = record {
        bytes = _;
        was = c.in_ok-bytes.ensures.read;
        spells = rw c.deref.ensures.value at c.in_ok-song.ensures.spells;
      };
      bytes_are = refl;
    }
