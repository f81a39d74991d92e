use Rattle.std.proofs.Common.{◌==◌, rules, tests}
use Rattle.std.proofs.lemmas.Iterator.{YieldsList-from_slice}
use Rattle.std.proofs.lemmas.Iterator.Search.{position_from_yields_List}
use Rattle.gts5.proofs.Cuts.{endmark_some, endmark_none}
use Rattle.gts5.proofs.orders.endmark.Goals as goal

pub returns-in-Some-clause-place : goal.returns-in-Some-clause-place
returns-in-Some-clause-place c =
    endmark_some c.args.piece.now c.in-Some.place
    (position_from_yields_List (λ byte. byte == 0xFF) _ _ _ c.in-Some.ensures.ran
    (YieldsList-from_slice c.args.piece.now cc) (λ x b q k. search (rules, tests)))

pub returns-in-None-clause-place : goal.returns-in-None-clause-place
returns-in-None-clause-place c =
    endmark_none c.args.piece.now
    (position_from_yields_List (λ byte. byte == 0xFF) _ _ _ c.in-None.ensures.ran
    (YieldsList-from_slice c.args.piece.now cc) (λ x b q k. search (rules, tests)))
