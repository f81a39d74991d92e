use Rattle.pattern_cut.proofs.Cuts.{cut_orders_lem}
use Rattle.pattern_cut.proofs.claims.cut_orders_have_same_row_lists.Goals as goal

-- src/claims.rt:6:1
pub returns : goal.returns
returns c = cut_orders_lem
