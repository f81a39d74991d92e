use Rattle.std.proofs.Common.{[], ◌∷◌, refl}
use Rattle.std.proofs.lemmas.Result.{err_from_is_err_and}
use Rattle.song_model.specs.Canonical.{canonical}
use Rattle.command_line.specs.Words.{Edit}
use Rattle.jobs.specs.Stages.{CanBeEdited, script_limit}
use Rattle.jobs.proofs.Laws.{wants_first, written}
use Rattle.jobs.proofs.Laws.{both_fail}
use Rattle.file_jobs.proofs.Edited.{edit_begun, edit_fails, edited_in, all_edited}
use Rattle.file_jobs.proofs.edit.edit_song.Goals as goal

pub returns-in_err-song : goal.returns-in_err-song
returns-in_err-song g c =
    let p = err_from_is_err_and c.from_residual.result c.from_residual.ensures.1 in
    rw (p.1, p.2) (λ sink. both_fail (Edit c.args.input.now c.args.script.now c.args.output.now) c.args.input.now
    c.args.script.now script_limit [] (CanBeEdited c.args.input.now c.args.script.now ∷ []) refl
    (λ files song held. tt) sink c.in_err-song.ensures.refused)

pub returns-in_err-edited : goal.returns-in_err-edited
returns-in_err-edited g c =
    let p = err_from_is_err_and c.from_residual-in_err-edited.result c.from_residual-in_err-edited.ensures.1 in
    let fails = rw c.deref.ensures.value at c.in_err-edited.ensures.refused in
    rw (p.1, p.2) (λ sink. edit_fails c.args.output.now c.in_ok-song.ensures.read sink fails)

pub returns-in_err-file : goal.returns-in_err-file
returns-in_err-file g c =
    let p = err_from_is_err_and c.from_residual-in_err-file.result c.from_residual-in_err-file.ensures.1 in
    let begun = edit_begun c.args.output.now c.in_ok-song.ensures.read in
    rw (p.1, p.2) (λ sink. wants_first sink begun.at.stays)

pub returns : goal.returns
returns g c = λ sink.
    let both = c.in_ok-song.ensures.read in
    let edited = rw c.deref.ensures.value at c.in_ok-edited.ensures.edited in
    let song = c.in_ok-song.song in
    let other = c.in_ok-edited.edited in
    let writes = rw (c.deref-2.ensures.value, c.in_ok-file.ensures) at c.write_file.ensures in
    written sink (all_edited c.args.output.now both edited) (
      canonical other,
      (song, other, edited_in c.args.output.now both edited, refl),
      record { lines_are = refl; write_is = refl },
    ) writes
