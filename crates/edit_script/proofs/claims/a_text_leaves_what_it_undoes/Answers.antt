use Rattle.edit_script.proofs.RunLaws.{leaves_what_it_undoes}
use Rattle.edit_script.proofs.claims.a_text_leaves_what_it_undoes.Goals as goal

pub returns : goal.returns
returns c = leaves_what_it_undoes
