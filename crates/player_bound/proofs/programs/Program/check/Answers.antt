-- A fault of one entrance is told of both.
use Rattle.std.proofs.Common.{rules, ◌≡◌, length, subst, Some, None}
use Rattle.scopes.specs.Trees.{tree_of}
use Rattle.cycle_bound.specs.EntranceRules.{AdmitsCall}
use Rattle.cycle_bound.specs.Faults.{IsFault as IsFaultOf}
use Rattle.player_bound.specs.Programs.{blocks_of, init_numbers, play_numbers}
use Rattle.player_bound.specs.Answers.{all_nodes}
use Rattle.player_bound.proofs.Checks.{init_fault, play_fault}
use Rattle.player_bound.proofs.programs.Program.check.Goals as goal

pub returns-in-Err : goal.returns-in-Err
returns-in-Err c =
    let b = blocks_of c.args.self.now in
    let as_many : length c.args.numbers.now ≡ all_nodes b = search rules in
    let front : c.split_at.result.0.now ≡ init_numbers b c.args.numbers.now = search rules in
    init_fault b c.args.numbers.now c.in-Err.fault.kind c.in-Err.fault.place as_many
    (subst
    (λ ls. IsFaultOf b.setting (tree_of ls) None (init_numbers b c.args.numbers.now) c.in-Err.fault.kind
    c.in-Err.fault.place) c.as_slice-init.ensures
    (subst
    (λ l. IsFaultOf b.setting (tree_of c.as_slice-init.result.now) None l c.in-Err.fault.kind c.in-Err.fault.place) front
    c.in-Err.ensures))

pub returns-in-Err-check : goal.returns-in-Err-check
returns-in-Err-check c =
    let b = blocks_of c.args.self.now in
    let as_many : length c.args.numbers.now ≡ all_nodes b = search rules in
    let front : c.split_at.result.0.now ≡ init_numbers b c.args.numbers.now = search rules in
    let back : c.split_at.result.1.now ≡ play_numbers b c.args.numbers.now = search rules in
    play_fault b c.args.numbers.now c.in-Err-check.fault.kind c.call_count-front.result c.in-Err-check.fault.place as_many
    (search rules)
    (subst (λ ls. AdmitsCall b.setting (tree_of ls) None (init_numbers b c.args.numbers.now)) c.as_slice-init.ensures
    (subst (λ l. AdmitsCall b.setting (tree_of c.as_slice-init.result.now) None l) front c.in-Ok.ensures.0))
    (subst
    (λ ls. IsFaultOf b.setting (tree_of ls) (Some b.voice) (play_numbers b c.args.numbers.now)
    c.in-Err-check.fault.kind c.in-Err-check.fault.place) c.as_slice-filter.ensures
    (subst
    (λ ls. IsFaultOf b.setting (tree_of c.as_slice-filter.result.now) (Some (tree_of ls))
    (play_numbers b c.args.numbers.now) c.in-Err-check.fault.kind c.in-Err-check.fault.place) c.as_slice-voice.ensures
    (subst
    (λ l. IsFaultOf b.setting (tree_of c.as_slice-filter.result.now) (Some (tree_of c.as_slice-voice.result.now)) l
    c.in-Err-check.fault.kind c.in-Err-check.fault.place) back c.in-Err-check.ensures)))
