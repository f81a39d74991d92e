use Rattle.std.proofs.Common.{refl}
use Rattle.jobs.proofs.Laws.{fileless_over}
use Rattle.goat_cli.proofs.help.tell_forms.Goals as goal

pub returns : goal.returns
returns g c = λ folder. fileless_over refl (λ files. (refl, refl)) folder (rw c.lines.ensures at c.print_lines.ensures)
