use Rattle.std.proofs.Common.{rules, ◌≤◌, length}
use Rattle.jobs.proofs.Reading.{was_read, was_missing, was_too_long, read_counted, miss_counted, excess_counted}
use Rattle.jobs.proofs.stages.read_file.Goals as goal

pub returns-in-Ok-clause-read : goal.returns-in-Ok-clause-read
returns-in-Ok-clause-read g c =
    let e = c.in-Ok.ensures in
    let bytes = c.in-Ok.bytes.items in
    let fits : length bytes ≤ c.args.limit = search rules in
    was_read c.args.name.now c.args.limit e.files_stay bytes e.whole fits (read_counted e.counts)

pub returns-in-Err-Missing-clause-refused : goal.returns-in-Err-Missing-clause-refused
returns-in-Err-Missing-clause-refused g c =
    let e = c.in-Err-Missing.ensures in
    let counts = rw c.in-Err-Missing.field-0-is at e.counts in
    was_missing c.args.name.now c.args.limit e.files_stay (e.missing (cc)) (miss_counted counts) c.says.ensures

pub returns-in-Err-TooLong-clause-refused : goal.returns-in-Err-TooLong-clause-refused
returns-in-Err-TooLong-clause-refused g c =
    let e = c.in-Err-TooLong.ensures in
    let counts = rw c.in-Err-TooLong.field-0-is at e.counts in
    was_too_long c.args.name.now c.args.limit e.files_stay (e.too_long (cc)) (excess_counted counts)
    c.says-in-Err-TooLong.ensures
