use Rattle.std.proofs.Common.{ℕ, ◌<◌, List, [], Bor, map, get_or, length, sym, ap, ◌∙◌, arith}
use Rattle.std.proofs.lemmas.List.{get_or-map}
use Rattle.cost_jobs.proofs.cost_lines.name_in.Goals as goal

pub returns : goal.returns
returns c =
    let below : c.from.result < length c.args.names.now = omega (arith, c.requires, c.from.ensures) in
    sym (get_or-map {X = Bor (List ℕ)} (λ name. name.now) c.args.names.now c.from.result _ [] below)
    ∙ ap (λ n. get_or (map {A = Bor (List ℕ)} (λ name. name.now) c.args.names.now) n []) c.from.ensures
