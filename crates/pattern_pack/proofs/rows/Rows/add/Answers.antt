use Rattle.std.proofs.Common.{◌≡◌, ◌++◌, ◌∷◌, [], subst, ◌∙◌, refl}
use Rattle.packed_form.specs.Entries.{no_command, entry_note, command_behind, row_with, rows_from}
use Rattle.pattern_pack.specs.Answers.{RowsAre}
use Rattle.pattern_pack.proofs.Kept.{entry_added, running_added}
use Rattle.pattern_pack.proofs.rows.Rows.add.Goals as goal

pub returns-clause-ok : goal.returns-clause-ok
returns-clause-ok c = λ done is.
    let before = rows_from no_command done in
    let kind = c.args.entry.kind in
    let running = c.args.self.now.running in
    let first = c.in_ok-push.ensures.ok before (record { kept = is.are.kept; count = is.are.count }) in
    let all = c.in_ok-push_rests.ensures.ok (before ++ c.row_with.result ∷ []) first in
    let behind = c.in_ok-push.ensures.running ∙ c.command_behind-self.ensures in
    let row : c.row_with.result
    ≡ row_with (entry_note kind) c.args.entry.instrument (command_behind running kind) =
    rw (c.row_with.ensures, c.note.ensures, c.command_behind-self.ensures) refl in
    record {
      are = subst (RowsAre c.push_rests.new.self)
          (entry_added done c.args.entry running c.push.new.self.running c.row_with.result c.more_rests.result
          is.running row c.more_rests.ensures behind) all;
      running = c.in_ok-push_rests.ensures.running ∙ behind ∙ running_added done c.args.entry running is.running;
    }
