use Rattle.std.proofs.Common.{sym}
use Rattle.std.proofs.lemmas.Bool.Decides.{not_from_Decides}
use Rattle.std.proofs.lemmas.Slice.Eq.{bytes_eq-Decides}
use Rattle.std.proofs.lemmas.Result.{IfOk-weaker, IfErr-weaker}
use Rattle.jobs.specs.Endings as ends
use Rattle.jobs.proofs.second_file.read_other.Goals as goal

pub returns-clause-read : goal.returns-clause-read
returns-clause-read g c =
    let differ =
    not_from_Decides _ (bytes_eq-Decides c.args.other.now c.args.name.now) (sym c.if-eq.ensures) in
    IfOk-weaker c.read_file.result _ _ (λ text was before song spelling. ends.each _ spelling.read differ was)
    c.read_file.ensures.read

pub returns-clause-refused : goal.returns-clause-refused
returns-clause-refused g c =
    let differ =
    not_from_Decides _ (bytes_eq-Decides c.args.other.now c.args.name.now) (sym c.if-eq.ensures) in
    IfErr-weaker c.read_file.result _ _ (λ refusal fails. (differ, fails)) c.read_file.ensures.refused
