use Rattle.std.proofs.Common.{Some, None, sym, ap, ◌∙◌, inr, arith}
use Rattle.asm6502.specs.Faults.{fault_of}
use Rattle.asm_text.proofs.Laid.{length-listing, data_small}
use Rattle.asm_text.proofs.Told.{none_for}
use Rattle.asm_text.proofs.Answered.{far_line}
use Rattle.asm_text.proofs.reading.assembled.Goals as goal

pub assemble-requires-clause-lines : goal.assemble-requires-clause-lines
assemble-requires-clause-lines c =
    rw c.in_ok-listing.ensures
    (omega (arith, length-listing c.args.origin c.args.script.now, c.requires.few))

pub assemble-requires-clause-bytes : goal.assemble-requires-clause-bytes
assemble-requires-clause-bytes c =
    rw c.in_ok-listing.ensures (omega (arith, data_small c.args.origin c.args.script.now, c.requires.few))

pub returns-in-Some-clause-fault : goal.returns-in-Some-clause-fault
returns-in-Some-clause-fault c =
    let none = ap (fault_of 0 c.args.origin) (sym c.in_ok-listing.ensures) ∙ c.in-Ok.ensures.faults in
    inr
    (none_for c.args.origin c.args.script.now c.requires.right none
    ∙ far_line c.args.origin c.args.script.now (Some c.in-Some.line) (sym c.in-Some.ensures))

pub returns-in-Ok-clause-sound : goal.returns-in-Ok-clause-sound
returns-in-Ok-clause-sound c =
    let none = ap (fault_of 0 c.args.origin) (sym c.in_ok-listing.ensures) ∙ c.in-Ok.ensures.faults in
    none_for c.args.origin c.args.script.now c.requires.right none
    ∙ far_line c.args.origin c.args.script.now None (sym c.in-None.ensures)
