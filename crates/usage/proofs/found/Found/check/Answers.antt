use Rattle.usage.proofs.FoundPrograms.{none_at_end}
use Rattle.usage.proofs.found.Found.check.Goals as goal

pub returns-clause-none : goal.returns-clause-none
returns-clause-none c =
    none_at_end c.args.song.now c.check_pointers-3.result c.in_ok-check_rows.ensures.none
    c.in_ok-check_rows-2.ensures.none
    c.in_ok-check_rows-3.ensures.none c.in_ok-check_pointers.ensures.none c.in_ok-check_pointers-2.ensures.none
    c.check_pointers-3.ensures.none
