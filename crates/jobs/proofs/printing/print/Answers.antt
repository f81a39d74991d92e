use Rattle.jobs.proofs.printing.print.Goals as goal

pub returns-in-Ok-Says : goal.returns-in-Ok-Says
returns-in-Ok-Says g c =
    let field = rw c.in-Ok-Says.is at c.in-Ok-Says.field-0-is in
    rw (c.in-Ok-Says.is, field, c.in-Ok-Says.message-is) c.say.ensures

pub returns-in-Err-Says : goal.returns-in-Err-Says
returns-in-Err-Says g c =
    let field = rw c.in-Err-Says.is at c.in-Err-Says.field-0-is in
    rw (c.in-Err-Says.is, field, c.in-Err-Says.message-is) c.say-in-Err-Says.ensures

pub returns-in-Err-NoMemory : goal.returns-in-Err-NoMemory
returns-in-Err-NoMemory g c =
    let field = rw c.in-Err-NoMemory.is at c.in-Err-NoMemory.field-0-is in
    rw (c.in-Err-NoMemory.is, field) c.want_memory.ensures
