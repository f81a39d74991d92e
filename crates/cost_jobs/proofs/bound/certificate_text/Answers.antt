use Rattle.std.proofs.Common.{rules}
use Rattle.bound_text.proofs.Laws.{texts_join}
use Rattle.cost_jobs.proofs.bound.certificate_text.Goals as goal

pub returns : goal.returns
returns c =
    let joined = texts_join c.args.certificate.now.init c.args.certificate.now.play in
    search (rules, joined)
