use Rattle.std.proofs.Common.{ℕ, inl, inr, arith}
use Rattle.std.proofs.lemmas.Bool.{cases_lt}
use Rattle.std.proofs.lemmas.List.{length-replicate, get_or_past}
use Rattle.packing_rules.specs.Renumbering.{place_in}
use Rattle.packing_rules.proofs.Laws.{place_most}
use Rattle.song_pack.proofs.FilledLists.{filled_none, filled_more}
use Rattle.song_pack.proofs.numbers.instrument_numbers.Goals as goal

pub loop-n-init : goal.loop-n-init
loop-n-init c = filled_none (place_in c.args.order.now) 64 _ (length-replicate {A = ℕ} 64 0)

pub loop-n-preserved : goal.loop-n-preserved
loop-n-preserved c =
    let low = c.loop-n-test.true in
    rw c.from.ensures
    (filled_more (place_in c.args.order.now) 64 c.loop-n.n c.place_in.result c.loop-n.to c.loop-n.invariant
    (omega arith) c.place_in.ensures.place)

pub returns-clause-numbers : goal.returns-clause-numbers
returns-clause-numbers c n low =
    let end = c.loop-n-test.false in
    c.loop-n.invariant.is n (omega arith)

pub returns-clause-small : goal.returns-clause-small
returns-clause-small c n = elim (cases_lt n 64) [
  | inl low ↦ (
      let end = c.loop-n-test.false in
      let e = c.loop-n.invariant.is n (omega arith) in
      let most = place_most c.args.order.now n in
      let few = c.requires in
      omega arith)
  | inr past ↦ (
      let long = c.loop-n.invariant.long in
      let e = get_or_past c.loop-n.to n 0 (omega arith) in
      omega arith)
]
