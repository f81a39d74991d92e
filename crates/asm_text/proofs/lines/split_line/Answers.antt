use Rattle.std.proofs.Common.{◌+◌, refl}
use Rattle.std.proofs.lemmas.List.{take_rest}
use Rattle.asm_text.proofs.TextLaws.{some_line, only_line}
use Rattle.asm_text.proofs.lines.split_line.Goals as goal

pub returns-in_err-end-clause-lines : goal.returns-in_err-end-clause-lines
returns-in_err-end-clause-lines c =
    rw c.from_residual.ensures (only_line c.args.text.now c.in_err-end.ensures)

pub returns-clause-lines : goal.returns-clause-lines
returns-clause-lines c =
    some_line c.args.text.now _ _ c.in_ok-end.end c.in_ok-end.ensures refl
    (take_rest c.args.text.now (c.in_ok-end.end + 1))
