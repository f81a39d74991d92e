use Rattle.std.proofs.Common.{ℕ, sym, subst}
use Rattle.std.proofs.lemmas.Result.{err_from_is_err_and}
use Rattle.song_model.specs.Limits.{KeepsLimits}
use Rattle.song_gen.proofs.Laws.{generated_songs_keep_limits}
use Rattle.command_line.specs.Words.{Selftest}
use Rattle.command_line.specs.Last.{Wants}
use Rattle.jobs.specs.Stands.{FolderState, SinkState}
use Rattle.jobs.specs.Endings.{JobEnds}
use Rattle.jobs.specs.Selftest.{FileTakes}
use Rattle.jobs.proofs.Laws.{stays_itself, wants_first, selftest_ends}
use Rattle.goat_cli.proofs.selftest.self_test.Goals as goal

-- the run wants memory before its first line
wanting : {number : ℕ} (folder : FolderState) (sink : SinkState) →
    JobEnds (Selftest number) Wants folder folder sink sink
wanting folder sink = wants_first sink (stays_itself folder)

pub returns-in_err-song : goal.returns-in_err-song
returns-in_err-song c =
    let p = err_from_is_err_and c.from_residual.result c.from_residual.ensures.1 in
    rw (p.1, p.2) wanting

pub generated_file-requires-clause-limits : goal.generated_file-requires-clause-limits
generated_file-requires-clause-limits c =
    subst KeepsLimits (sym c.in_ok-song.ensures.song) (generated_songs_keep_limits c.args.number)

pub returns-in_err-file : goal.returns-in_err-file
returns-in_err-file c =
    let p = err_from_is_err_and c.from_residual-in_err-file.result c.from_residual-in_err-file.ensures.1 in
    rw (p.1, p.2) wanting

pub steps_of-requires-clause-limits : goal.steps_of-requires-clause-limits
steps_of-requires-clause-limits c =
    subst KeepsLimits (sym c.in_ok-song.ensures.song) (generated_songs_keep_limits c.args.number)

pub returns-in_err-steps : goal.returns-in_err-steps
returns-in_err-steps c =
    let p = err_from_is_err_and c.from_residual-in_err-steps.result c.from_residual-in_err-steps.ensures.1 in
    rw (p.1, p.2) wanting

pub returns : goal.returns
returns c = λ folder sink.
    rw c.selftest_report.ensures
    (selftest_ends c.args.number c.playable_count.result c.register_sum.result c.in_ok-steps.steps c.in_ok-song.song
    c.in_ok-song.ensures.song c.playable_count.ensures c.register_sum.ensures
    (record {
      file = c.in_ok-file.file.items;
      is_written = c.in_ok-file.ensures;
      takes = subst (λ bytes. FileTakes c.in_ok-song.song bytes c.in_ok-steps.steps) c.deref.ensures.value
          c.in_ok-steps.ensures.steps;
    })
    folder sink)
