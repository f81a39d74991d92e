use Rattle.std.proofs.Common.{ap, sym, ◌∙◌, refl}
use Rattle.std.specs.Prelude.{slice_index}
use Rattle.cpu6502.specs.Shifts.{accumulator_effect}
use Rattle.cpu6502.specs.Effects.{moved, done_by}
use Rattle.cpu6502.proofs.Accumulator.{accumulator_is_shifted, accumulator_is}
use Rattle.cpu6502.proofs.Columns.{has_row}
use Rattle.cpu6502.proofs.Fetch.{is_fetched, fetched_means}
use Rattle.cpu6502.proofs.execute.effect.Goals as goal

pub shift_accumulator-requires : goal.shift_accumulator-requires
shift_accumulator-requires c =
    let row = c.args.instruction.row in
    accumulator_is_shifted (slice_index c.args.memory.now c.args.cpu.pc) c.after-next.result.a c.after-next.result.c
    row.mnemonic row.mode
    (has_row (slice_index c.args.memory.now c.args.cpu.pc) row
    (is_fetched (slice_index c.args.memory.now) c.args.cpu c.args.instruction c.requires).row)
    (fetched_means (slice_index c.args.memory.now) c.args.cpu c.args.instruction c.requires)
    (sym c.is_accumulator.ensures ∙ c.if-is_accumulator.true)

pub returns-then-is_accumulator : goal.returns-then-is_accumulator
returns-then-is_accumulator c =
    let next = c.after-next.ensures ∙ ap (moved c.args.cpu) c.length.ensures in
    let row = c.args.instruction.row in
    sym
    (accumulator_is (slice_index c.args.memory.now) c.args.cpu row.mnemonic row.mode
    (fetched_means (slice_index c.args.memory.now) c.args.cpu c.args.instruction c.requires)
    (sym c.is_accumulator.ensures ∙ c.if-is_accumulator.true)
    ∙ ap (accumulator_effect row.mnemonic c.args.cpu.pc) (sym next)
    ∙ c.shift_accumulator.ensures c.args.cpu.pc)

pub returns-else-is_accumulator : goal.returns-else-is_accumulator
returns-else-is_accumulator c =
    let row = c.args.instruction.row in
    let at = slice_index c.args.memory.now in
    let means = ap (λ meaning. done_by meaning at c.args.cpu) (fetched_means at c.args.cpu c.args.instruction c.requires) in
    let plain = sym c.is_accumulator.ensures ∙ c.if-is_accumulator.false in
    let place = (is_fetched at c.args.cpu c.args.instruction c.requires).place in
    let next = c.after-next.ensures ∙ ap (moved c.args.cpu) c.length.ensures in
    rw (means, plain, c.execute.ensures, place, next) refl
