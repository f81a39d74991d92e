use Rattle.std.proofs.Common.{sym, ◌∙◌, subst}
use Rattle.std.proofs.lemmas.Bool.{true≢false}
use Rattle.song_model.specs.Limits.{KeepsLimits}
use Rattle.play_model.specs.Playable.{IsPlayable}
use Rattle.song_pack.specs.Answers.{IsCause}
use Rattle.song_pack.proofs.Laws.{err_caused}
use Rattle.cut_pack.specs.Answers.{IsPackedCut, Packs}
use Rattle.cut_pack.proofs.Chosen.{cut_stands_in}
use Rattle.cut_pack.proofs.Packed.{packed_of, itself, packs_shorter}
use Rattle.cut_pack.proofs.packing.pack_shorter.Goals as goal

pub returns-in_err-whole-clause-fault : goal.returns-in_err-whole-clause-fault
returns-in_err-whole-clause-fault c used are =
    err_caused (IsCause c.args.song.now used) c.in_err-whole.field-0.0 c.from_residual.result c.from_residual.ensures.1
    (c.in_err-whole.ensures.fault used are c.requires.limits)

pub returns-then-options-clause-packs : goal.returns-then-options-clause-packs
returns-then-options-clause-packs c =
    let limits = c.requires.limits in
    let packs = c.in_ok-whole.ensures in
    itself c.args.options.now c.args.song.now c.in_ok-whole.whole
    (packed_of c.args.song.now c.args.parts.now c.in_ok-whole.whole c.requires.parts (packs.stands limits)
    (λ used is. packs.exact used is limits) (λ used is. packs.size used is limits))
    (λ kept. absurd (true≢false (sym c.if-options.true ∙ kept)))

pub packed_cut-requires-clause-limits : goal.packed_cut-requires-clause-limits
packed_cut-requires-clause-limits c =
    subst KeepsLimits (sym c.in_ok-cut.ensures) (cut_stands_in c.args.song.now c.requires.limits c.requires.playable).limits

pub packed_cut-requires-clause-playable : goal.packed_cut-requires-clause-playable
packed_cut-requires-clause-playable c =
    subst IsPlayable (sym c.in_ok-cut.ensures) (cut_stands_in c.args.song.now c.requires.limits c.requires.playable).playable

pub returns-clause-packs : goal.returns-clause-packs
returns-clause-packs c =
    let limits = c.requires.limits in
    let packs = c.in_ok-whole.ensures in
    subst (λ packed. Packs c.args.options.now packed c.args.song.now) (sym c.shorter_of.ensures)
    (packs_shorter c.args.options.now c.args.song.now c.in_ok-whole.whole c.in_ok-packed.packed c.if-options.false
    (packed_of c.args.song.now c.args.parts.now c.in_ok-whole.whole c.requires.parts (packs.stands limits)
    (λ used is. packs.exact used is limits) (λ used is. packs.size used is limits))
    (subst (λ song. IsPackedCut song c.in_ok-packed.packed) c.in_ok-cut.ensures c.in_ok-packed.ensures))
