use Rattle.std.proofs.Common.{◌∷◌, [], ◌++◌, length, ap, sym, ◌∙◌, arith, refl, length-append, Option}
use Rattle.std.specs.Option.{option_to_list}
use Rattle.edit_history.specs.declared.done.Done.{Done}
use Rattle.edit_history.specs.History.{after_undo}
use Rattle.edit_history.proofs.SessionLaws.{can_undo, kept_undo, step_undo}
use Rattle.edit_history.proofs.session.Session.undo.Goals as goal

pub revert-inverse-requires : goal.revert-inverse-requires
revert-inverse-requires c =
    let kept = c.self.inside in
    let was = c.pop.ensures.items
    ∙ ap (λ (o : Option Done). c.pop.new.self.items ++ option_to_list o) c.in-Some.is in
    can_undo kept.song kept.song kept.standing kept.undone c.pop.new.self kept.undone c.in-Some.field-0
    c.in-Some.field-0
    c.self.invariant was

pub invariant_of-self-2 : goal.invariant_of-self-2
invariant_of-self-2 c =
    let kept = c.self.inside in
    let was = c.pop.ensures.items
    ∙ ap (λ (o : Option Done). c.pop.new.self.items ++ option_to_list o) c.in-Some.is in
    let moved : Done = record { edit = c.in-Some.field-0.edit; inverse = c.revert-inverse.result } in
    let less = ap length was ∙ length-append c.pop.new.self.items (c.in-Some.field-0 ∷ []) in
    kept_undo kept.song c.revert-inverse.new.song kept.standing kept.undone c.pop.new.self c.push_reserved.new.self
    c.in-Some.field-0 moved
    c.self.invariant was c.revert-inverse.ensures.there refl c.revert-inverse.ensures.and_back
    c.push_reserved.ensures.items
    (omega (
      arith,
      less,
      kept.standing.ok.0,
      c.pop.new.self.ok.0,
      c.self.invariant.standing_room,
      c.push_reserved.ensures.len,
      c.push_reserved.ensures.capacity,
      c.pop.ensures.capacity,
    ))
    (omega (
      arith,
      less,
      kept.standing.ok.0,
      c.pop.new.self.ok.0,
      c.self.invariant.undone_room,
      c.push_reserved.ensures.len,
      c.push_reserved.ensures.capacity,
      c.pop.ensures.capacity,
    ))

pub returns-clause-done : goal.returns-clause-done
returns-clause-done c =
    let kept = c.self.inside in
    let was = c.pop.ensures.items
    ∙ ap (λ (o : Option Done). c.pop.new.self.items ++ option_to_list o) c.in-Some.is in
    let moved : Done = record { edit = c.in-Some.field-0.edit; inverse = c.revert-inverse.result } in
    ap after_undo (sym c.self.view_is)
    ∙ step_undo kept.song c.revert-inverse.new.song kept.standing kept.undone c.pop.new.self c.push_reserved.new.self
    c.in-Some.field-0 moved
    c.self.invariant was c.revert-inverse.ensures.there refl c.revert-inverse.ensures.and_back
    c.push_reserved.ensures.items
