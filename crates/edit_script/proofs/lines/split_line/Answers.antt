use Rattle.std.proofs.Common.{◌+◌}
use Rattle.std.proofs.lemmas.List.{take_rest}
use Rattle.edit_script.proofs.TextLaws.{some_line, only_line}
use Rattle.edit_script.proofs.lines.split_line.Goals as goal

pub returns-in-Some-clause-lines : goal.returns-in-Some-clause-lines
returns-in-Some-clause-lines c =
    some_line c.args.text.now c.without_carriage_return.result.now _ c.in-Some.end c.in-Some.ensures
    c.without_carriage_return.ensures (take_rest c.args.text.now (c.in-Some.end + 1))

pub returns-in-None-clause-lines : goal.returns-in-None-clause-lines
returns-in-None-clause-lines c = only_line c.args.text.now c.requires c.in-None.ensures
