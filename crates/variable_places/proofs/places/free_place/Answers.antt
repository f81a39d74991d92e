-- A free place is the one that is looked for, where none is left in front, and else one less is left.
use Rattle.std.proofs.Common.{◌+◌, get_or, ap, sym, ◌∙◌, arith}
use Rattle.variable_places.proofs.FreePlaces.{free_from, is_first, is_behind, is_taken, none_free}
use Rattle.variable_places.proofs.places.free_place.Goals.{then-place-fields+else-left-eq0, else-place-fields}
use Rattle.variable_places.proofs.places.free_place.Goals as goal

pub returns-then-left-eq0-clause-place : goal.returns-then-left-eq0-clause-place
returns-then-left-eq0-clause-place c =
    let low = c.loop-place-test.true in
    let free = c.if-place-fields.true in
    let none = c.if-left-eq0.true in
    sym (is_first c.args.fields c.loop-place.place c.loop-place.left (omega (arith, low)) (omega (arith, free))
    (omega (arith, none)))
    ∙ c.loop-place.invariant

pub loop-place-preserved : goal.loop-place-preserved
loop-place-preserved c = let low = c.loop-place-test.true in elim c.if-place-fields.branch [
  | then-place-fields+else-left-eq0 w ↦
      let free = w.if-place-fields.true in
      let some = w.if-left-eq0.false in
      let less = w.left-is in
      sym (is_behind c.args.fields c.loop-place.place c.loop-place.left c.if-place-fields.left (omega (arith, low))
      (omega (arith, free)) (omega (arith, some, less)))
      ∙ c.loop-place.invariant
  | else-place-fields w ↦
      let taken = w.if-place-fields.false in
      ap (λ left. get_or (free_from c.args.fields (c.loop-place.place + 1)) left 0) w.left-is
      ∙ (sym (is_taken c.args.fields c.loop-place.place c.loop-place.left (omega (arith, low)) (omega (arith, taken)))
      ∙ c.loop-place.invariant)
]

pub returns-clause-place : goal.returns-clause-place
returns-clause-place c =
    let high = c.loop-place-test.false in
    sym (none_free c.args.fields c.loop-place.place c.loop-place.left (omega (arith, high))) ∙ c.loop-place.invariant
