use Rattle.std.proofs.Common.{sym, ◌∙◌, take, ap}
use Rattle.goat_io.specs.Written.{told_with_piece}
use Rattle.jobs.specs.Endings as ends
use Rattle.jobs.proofs.Told.{tells_then}
use Rattle.goat_io.proofs.Laws.{told_nothing}
use Rattle.jobs.proofs.printing.put_line.Goals as goal

pub returns-in-Err-Failed : goal.returns-in-Err-Failed
returns-in-Err-Failed g c =
    let is = c.in-Err-Failed.field-0-is in
    let part = c.in-Err-Failed.ensures.failed (cc) in
    let counts = rw is at c.in-Err-Failed.ensures.faults in
    let told =
    part.1 ∙ ap (λ line. told_with_piece (g.K.Sink.written c.args.out.now) (take part.0 line)) c.as_slice.ensures in
    ends.failed part.0 c.number.ensures (record { told = told; faults = counts })

pub returns-in-Err-NoMemory : goal.returns-in-Err-NoMemory
returns-in-Err-NoMemory g c =
    let is = c.in-Err-NoMemory.field-0-is in
    let none = c.in-Err-NoMemory.ensures.no_memory (cc) in
    let counts = rw is at c.in-Err-NoMemory.ensures.faults in
    let told = none ∙ sym (told_nothing (g.K.Sink.written c.args.out.now)) in
    ends.wanting (tells_then (record { told = told; faults = counts }) c.want_memory.ensures)
