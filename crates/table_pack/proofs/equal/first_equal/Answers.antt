use Rattle.std.proofs.Common.{◌≡◌, ℕ, List, false, Contains, inl, inr, sym, subst}
use Rattle.std.specs.List.{All}
use Rattle.packing_rules.specs.Segments.{are_equal}
use Rattle.table_pack.specs.Programs.{AreDifferent}
use Rattle.table_pack.proofs.EqualRows.{asked_open, asked_found, asked_none}
use Rattle.table_pack.proofs.equal.first_equal.Goals as goal
use Rattle.table_pack.proofs.equal.first_equal.Goals.{then-not-begun-via-then-not-begun}
use Rattle.table_pack.proofs.equal.first_equal.Goals.{then-not-begun-via-else-not-begun+then-not-closed}

pub returns-then-not-begun-clause-equal : goal.returns-then-not-begun-clause-equal
returns-then-not-begun-clause-equal c = λ table asked. elim c.then-not-begun.branch [
  | then-not-begun-via-then-not-begun w ↦
      (asked_open table c.args.rows.now c.args.marks.now c.args.firsts.now c.args.begun c.args.closed c.args.s
      c.args.different.now.items asked (inl w.if-not-begun.true)).0
  | then-not-begun-via-else-not-begun+then-not-closed w ↦
      (asked_open table c.args.rows.now c.args.marks.now c.args.firsts.now c.args.begun c.args.closed c.args.s
      c.args.different.now.items asked (inr w.if-not-closed.true)).0
]

pub returns-then-not-begun-clause-different : goal.returns-then-not-begun-clause-different
returns-then-not-begun-clause-different c = λ table asked. elim c.then-not-begun.branch [
  | then-not-begun-via-then-not-begun w ↦
      (asked_open table c.args.rows.now c.args.marks.now c.args.firsts.now c.args.begun c.args.closed c.args.s
      c.args.different.now.items asked (inl w.if-not-begun.true)).1
  | then-not-begun-via-else-not-begun+then-not-closed w ↦
      (asked_open table c.args.rows.now c.args.marks.now c.args.firsts.now c.args.begun c.args.closed c.args.s
      c.args.different.now.items asked (inr w.if-not-closed.true)).1
]

pub returns-in-Some-clause-equal : goal.returns-in-Some-clause-equal
returns-in-Some-clause-equal c = λ table asked begun.
    (asked_found table c.args.rows.now c.args.marks.now c.args.firsts.now c.args.begun c.args.closed c.args.s c.in-Some.t
    c.args.different.now.items asked c.if-not-begun.false c.if-not-closed.false
    (subst (λ (list : List ℕ). Contains list c.in-Some.t) c.as_slice.ensures.value c.in-Some.ensures.among)
    (c.in-Some.ensures.equal table asked.segments)).0

pub returns-in-Some-clause-different : goal.returns-in-Some-clause-different
returns-in-Some-clause-different c = λ table asked.
    (asked_found table c.args.rows.now c.args.marks.now c.args.firsts.now c.args.begun c.args.closed c.args.s c.in-Some.t
    c.args.different.now.items asked c.if-not-begun.false c.if-not-closed.false
    (subst (λ (list : List ℕ). Contains list c.in-Some.t) c.as_slice.ensures.value c.in-Some.ensures.among)
    (c.in-Some.ensures.equal table asked.segments)).1

pub returns-in-None-clause-equal : goal.returns-in-None-clause-equal
returns-in-None-clause-equal c = λ table asked begun.
    (asked_none table c.args.rows.now c.args.marks.now c.args.firsts.now c.args.begun c.args.closed c.args.s
    c.args.different.now.items asked c.if-not-begun.false c.if-not-closed.false
    (subst (λ (list : List ℕ). All (λ (t : ℕ). are_equal table c.args.s t ≡ false) list) c.as_slice.ensures.value
    (c.in-None.ensures.none table asked.segments))).0

pub returns-in-None-clause-different : goal.returns-in-None-clause-different
returns-in-None-clause-different c = λ table asked.
    subst (AreDifferent table _) (sym c.push.ensures.items)
    (asked_none table c.args.rows.now c.args.marks.now c.args.firsts.now c.args.begun c.args.closed c.args.s
    c.args.different.now.items asked c.if-not-begun.false c.if-not-closed.false
    (subst (λ (list : List ℕ). All (λ (t : ℕ). are_equal table c.args.s t ≡ false) list) c.as_slice.ensures.value
    (c.in-None.ensures.none table asked.segments))).1
