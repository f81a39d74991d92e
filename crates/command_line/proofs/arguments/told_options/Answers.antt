use Rattle.std.proofs.lemmas.Result.{err_from_is_err_and}
use Rattle.command_line.specs.Words.{told}
use Rattle.command_line.proofs.Forms.{none_told}
use Rattle.command_line.proofs.arguments.told_options.Goals as goal

pub returns : goal.returns
returns c =
    rw (c.on.ensures, c.in_ok-system.ensures, c.in_ok-chip.ensures)
    (told c.in_ok-options.ensures c.in_ok-system.system c.in_ok-chip.chip)

pub returns-in_err-options : goal.returns-in_err-options
returns-in_err-options c =
    let p = err_from_is_err_and c.from_residual.result c.from_residual.ensures.1 in
    rw p.1 (none_told _ _ _ _ (λ said. c.in_err-options.ensures said.options said.are_options))

pub returns-in_err-system : goal.returns-in_err-system
returns-in_err-system c =
    let p = err_from_is_err_and c.from_residual-in_err-system.result c.from_residual-in_err-system.ensures.1 in
    rw p.1 (none_told _ _ _ _ (λ said. c.in_err-system.ensures said.system said.is_system))

pub returns-in_err-chip : goal.returns-in_err-chip
returns-in_err-chip c =
    let p = err_from_is_err_and c.from_residual-in_err-chip.result c.from_residual-in_err-chip.ensures.1 in
    rw p.1 (none_told _ _ _ _ (λ said. c.in_err-chip.ensures said.chip said.is_chip))
