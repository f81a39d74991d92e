use Rattle.edit_script.proofs.RunLaws.{edits_in_one_way}
use Rattle.edit_script.proofs.claims.a_text_edits_in_one_way.Goals as goal

pub returns : goal.returns
returns c = edits_in_one_way
