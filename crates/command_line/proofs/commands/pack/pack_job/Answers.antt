use Rattle.std.proofs.Common.{sym}
use Rattle.std.proofs.lemmas.List.{take_rest}
use Rattle.command_line.proofs.Forms.{behind_five}
use Rattle.command_line.proofs.commands.pack.pack_job.Goals as goal

pub returns-clause-none : goal.returns-clause-none
returns-clause-none c =
    let words =
    behind_five _ _ _ _ _ _ c.in-len5-up.len_at_least c.input-item.is c.output-item.is c.format-item.is
    c.address-item.is c.zero_page-item.is in
    let none =
    rw (
      c.as_str.ensures.value,
      c.as_str-2.ensures.value,
      c.as_str-3.ensures.value,
      c.as_str-4.ensures.value,
      c.as_str-5.ensures.value,
    ) at
    c.pack_of.ensures.none in
    rw (words, sym (take_rest c.args.arguments.now 5)) none
