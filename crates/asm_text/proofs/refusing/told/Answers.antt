use Rattle.std.proofs.Common.{subst, ◌∙◌, inl, inr}
use Rattle.asm_text.specs.declared.faults.TextKind.TheVariants.{DoubleLabel, UnknownLabel, PastEnd, BranchTooFar}
use Rattle.asm_text.proofs.Told.{IsToldFor, told_for}
use Rattle.asm_text.proofs.Answered.{told_is, told_some}
use Rattle.asm_text.proofs.refusing.told.Goals as goal

pub first_far-requires-clause-inside : goal.first_far-requires-clause-inside
first_far-requires-clause-inside c =
    let told =
    subst (IsToldFor c.args.origin c.args.script.now) c.in-BranchTooFar.is
    (told_for c.args.origin c.args.script.now c.args.fault c.ranges.origin.fits c.requires.right c.requires.fault) in
    told.0

pub unreachable-requires : goal.unreachable-requires
unreachable-requires c =
    let told =
    told_for c.args.origin c.args.script.now c.args.fault c.ranges.origin.fits c.requires.right c.requires.fault in
    elim c.in-BadLine.is [
      | inl bad ↦ subst (IsToldFor c.args.origin c.args.script.now) bad.1 told
      | inr none ↦ subst (IsToldFor c.args.origin c.args.script.now) none told
    ]

pub fault_at-requires : goal.fault_at-requires
fault_at-requires c =
    let told =
    subst (IsToldFor c.args.origin c.args.script.now) c.in-DoubleLabel.is
    (told_for c.args.origin c.args.script.now c.args.fault c.ranges.origin.fits c.requires.right c.requires.fault) in
    told_some c.args.origin c.args.script.now DoubleLabel _ c.line_of.result told c.line_of.ensures

pub returns-in-DoubleLabel : goal.returns-in-DoubleLabel
returns-in-DoubleLabel c =
    let told =
    subst (IsToldFor c.args.origin c.args.script.now) c.in-DoubleLabel.is
    (told_for c.args.origin c.args.script.now c.args.fault c.ranges.origin.fits c.requires.right c.requires.fault) in
    told_is c.args.origin c.args.script.now DoubleLabel _ c.fault_at.result told
    (c.fault_at.ensures.line ∙ c.line_of.ensures) c.fault_at.ensures.kind

pub fault_at-requires-in-UnknownLabel : goal.fault_at-requires-in-UnknownLabel
fault_at-requires-in-UnknownLabel c =
    let told =
    subst (IsToldFor c.args.origin c.args.script.now) c.in-UnknownLabel.is
    (told_for c.args.origin c.args.script.now c.args.fault c.ranges.origin.fits c.requires.right c.requires.fault) in
    told_some c.args.origin c.args.script.now UnknownLabel _ c.line_of-in-UnknownLabel.result told c.line_of-in-UnknownLabel.ensures

pub returns-in-UnknownLabel : goal.returns-in-UnknownLabel
returns-in-UnknownLabel c =
    let told =
    subst (IsToldFor c.args.origin c.args.script.now) c.in-UnknownLabel.is
    (told_for c.args.origin c.args.script.now c.args.fault c.ranges.origin.fits c.requires.right c.requires.fault) in
    told_is c.args.origin c.args.script.now UnknownLabel _ c.fault_at-in-UnknownLabel.result told
    (c.fault_at-in-UnknownLabel.ensures.line ∙ c.line_of-in-UnknownLabel.ensures) c.fault_at-in-UnknownLabel.ensures.kind

pub fault_at-requires-in-PastEnd : goal.fault_at-requires-in-PastEnd
fault_at-requires-in-PastEnd c =
    let told =
    subst (IsToldFor c.args.origin c.args.script.now) c.in-PastEnd.is
    (told_for c.args.origin c.args.script.now c.args.fault c.ranges.origin.fits c.requires.right c.requires.fault) in
    told_some c.args.origin c.args.script.now PastEnd _ c.line_of-in-PastEnd.result told c.line_of-in-PastEnd.ensures

pub returns-in-PastEnd : goal.returns-in-PastEnd
returns-in-PastEnd c =
    let told =
    subst (IsToldFor c.args.origin c.args.script.now) c.in-PastEnd.is
    (told_for c.args.origin c.args.script.now c.args.fault c.ranges.origin.fits c.requires.right c.requires.fault) in
    told_is c.args.origin c.args.script.now PastEnd _ c.fault_at-in-PastEnd.result told
    (c.fault_at-in-PastEnd.ensures.line ∙ c.line_of-in-PastEnd.ensures) c.fault_at-in-PastEnd.ensures.kind

pub fault_at-requires-in-BranchTooFar : goal.fault_at-requires-in-BranchTooFar
fault_at-requires-in-BranchTooFar c =
    let told =
    subst (IsToldFor c.args.origin c.args.script.now) c.in-BranchTooFar.is
    (told_for c.args.origin c.args.script.now c.args.fault c.ranges.origin.fits c.requires.right c.requires.fault) in
    told_some c.args.origin c.args.script.now BranchTooFar _ c.first_far.result told.1 c.first_far.ensures

pub returns-in-BranchTooFar : goal.returns-in-BranchTooFar
returns-in-BranchTooFar c =
    let told =
    subst (IsToldFor c.args.origin c.args.script.now) c.in-BranchTooFar.is
    (told_for c.args.origin c.args.script.now c.args.fault c.ranges.origin.fits c.requires.right c.requires.fault) in
    told_is c.args.origin c.args.script.now BranchTooFar _ c.fault_at-in-BranchTooFar.result told.1
    (c.fault_at-in-BranchTooFar.ensures.line ∙ c.first_far.ensures) c.fault_at-in-BranchTooFar.ensures.kind
