use Rattle.std.proofs.Common.{List, [], ◌∷◌, ◌++◌, ap, sym, ◌∙◌, arith}
use Rattle.edit_ops.specs.declared.edits.EditFault.TheVariants.{NoSuchPlace, OutOfLimit, BadValue}
use Rattle.edit_history.specs.declared.done.Done.{Done}
use Rattle.edit_history.specs.History.{History, after_edit}
use Rattle.edit_history.proofs.SessionLaws.{kept_edit, step_edit, same_refusal, no_refusal}
use Rattle.edit_history.proofs.session.Session.edit.Goals as goal

pub invariant_of-self-in-Ok : goal.invariant_of-self-in-Ok
invariant_of-self-in-Ok c =
    let kept = c.self.inside in
    let done : Done = record { edit = c.args.edit.now; inverse = c.in-Ok.inverse } in
    let room = c.in-Ok.ensures in
    kept_edit kept.song c.apply_in_room.new.song kept.standing kept.undone c.push_reserved.new.self c.clear.new.self
    done
    c.self.invariant room.done room.back
    (c.push_reserved.ensures.items ∙ ap (λ (dones : List Done). dones ++ done ∷ []) room.standing)
    c.clear.ensures.items
    (omega (arith, room.standing_room, c.push_reserved.ensures.len, c.push_reserved.ensures.capacity))
    (omega (arith, room.undone_room, c.push_reserved.ensures.len, c.clear.ensures.capacity))

pub returns-in-Ok-clause-done : goal.returns-in-Ok-clause-done
returns-in-Ok-clause-done c =
    let kept = c.self.inside in
    let done : Done = record { edit = c.args.edit.now; inverse = c.in-Ok.inverse } in
    let room = c.in-Ok.ensures in
    ap (λ (history : History). after_edit history c.args.edit.now) (sym c.self.view_is)
    ∙ step_edit kept.song c.apply_in_room.new.song kept.standing kept.undone c.push_reserved.new.self c.clear.new.self
    done
    c.self.invariant room.done room.back
    (c.push_reserved.ensures.items ∙ ap (λ (dones : List Done). dones ++ done ∷ []) room.standing)
    c.clear.ensures.items

pub returns-in-Err-clause-no_such_place : goal.returns-in-Err-clause-no_such_place
returns-in-Err-clause-no_such_place c =
    let kept = c.self.inside in
    same_refusal kept.song kept.standing kept.undone c.args.self.now c.args.edit.now c.in-Err.fault NoSuchPlace
    c.self.invariant
    c.self.view_is c.in-Err.ensures.no_such_place

pub returns-in-Ok-clause-no_such_place : goal.returns-in-Ok-clause-no_such_place
returns-in-Ok-clause-no_such_place c =
    no_refusal c.args.self.now _ c.args.edit.now NoSuchPlace (returns-in-Ok-clause-done c)

pub returns-in-Err-clause-out_of_limit : goal.returns-in-Err-clause-out_of_limit
returns-in-Err-clause-out_of_limit c =
    let kept = c.self.inside in
    same_refusal kept.song kept.standing kept.undone c.args.self.now c.args.edit.now c.in-Err.fault OutOfLimit
    c.self.invariant
    c.self.view_is c.in-Err.ensures.out_of_limit

pub returns-in-Ok-clause-out_of_limit : goal.returns-in-Ok-clause-out_of_limit
returns-in-Ok-clause-out_of_limit c =
    no_refusal c.args.self.now _ c.args.edit.now OutOfLimit (returns-in-Ok-clause-done c)

pub returns-in-Err-clause-bad_value : goal.returns-in-Err-clause-bad_value
returns-in-Err-clause-bad_value c =
    let kept = c.self.inside in
    same_refusal kept.song kept.standing kept.undone c.args.self.now c.args.edit.now c.in-Err.fault BadValue
    c.self.invariant
    c.self.view_is c.in-Err.ensures.bad_value

pub returns-in-Ok-clause-bad_value : goal.returns-in-Ok-clause-bad_value
returns-in-Ok-clause-bad_value c =
    no_refusal c.args.self.now _ c.args.edit.now BadValue (returns-in-Ok-clause-done c)
