use Rattle.std.proofs.Common.{◌≡◌, refl}
use Rattle.std.proofs.lemmas.Result.{err_from_is_err_and}
use Rattle.cpu6502.proofs.Laws.{opcodes_have_rows}
use Rattle.asm6502.proofs.Whole.{done_from, far_found, fault_none, stand_as_written, moved_is}
use Rattle.asm6502.proofs.assembling.assemble.Goals as goal

pub returns-in_err-output-clause-faults : goal.returns-in_err-output-clause-faults
returns-in_err-output-clause-faults c =
    let p = err_from_is_err_and c.from_residual-in_err-output.result c.from_residual-in_err-output.ensures.1 in
    let same : p.0 ≡ c.in_err-output.field-0.0 = cc in
    rw p.1 (far_found c.in_ok-labels.labels c.args.set.0 c.args.origin c.size.result c.as_slice-lines.result.now
    c.args.listing.now p.0 c.in_err-output.field-0.0 c.as_slice-lines.ensures c.in_ok-labels.ensures.0
    c.in_ok-check_lines.ensures c.in_ok-labels.ensures.1 c.in_ok-check_operands.ensures c.size.ensures
    c.in_ok-check_end.ensures same c.in_err-output.ensures)

pub invariant_of-result : goal.invariant_of-result
invariant_of-result c =
    let d = done_from c.in_ok-output.output c.in_ok-labels.labels c.args.set.0 c.args.origin c.size.result
    c.as_slice-lines.result.now c.args.listing.now c.as_slice-lines.ensures c.in_ok-labels.ensures.0
    c.in_ok-check_lines.ensures c.in_ok-labels.ensures.1 c.in_ok-check_operands.ensures c.size.ensures
    c.in_ok-check_end.ensures c.in_ok-output.ensures.0 c.in_ok-output.ensures.1 in
    record { fits = d.fits; in_order = d.in_order; numbers_stand = d.stand }

pub returns : goal.returns
returns c =
    let d = done_from c.in_ok-output.output c.in_ok-labels.labels c.args.set.0 c.args.origin c.size.result
    c.as_slice-lines.result.now c.args.listing.now c.as_slice-lines.ensures c.in_ok-labels.ensures.0
    c.in_ok-check_lines.ensures c.in_ok-labels.ensures.1 c.in_ok-check_operands.ensures c.size.ensures
    c.in_ok-check_end.ensures c.in_ok-output.ensures.0 c.in_ok-output.ensures.1 in
    record {
      faults = fault_none c.args.set.0 c.args.origin c.args.listing.now d.nothing;
      assembled = record { origin_is = refl; bytes_are = d.bytes_are; fixes_are = d.fixes_are };
      size = d.size;
      stands =
          stand_as_written opcodes_have_rows c.args.set.0 c.args.origin c.args.listing.now
          c.in_ok-output.output.bytes d.nothing d.bytes_are;
      moves = λ other moved m.
          moved_is c.args.set.0 c.args.origin other c.args.listing.now _ moved d.nothing d.bytes_are d.fixes_are
          d.size m;
    }
