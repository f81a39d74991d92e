use Rattle.edit_script.proofs.ScriptLaws.{script_or_bad_line}
use Rattle.edit_script.proofs.claims.one_script_or_one_bad_line.Goals as goal

pub returns : goal.returns
returns c = script_or_bad_line
