use Rattle.std.proofs.lemmas.List.{get_or_default}
use Rattle.asm_text.specs.declared.names.TheConstants.{NAMES}
use Rattle.asm_text.proofs.names.name_at.Goals as goal

pub returns : goal.returns
returns c = get_or_default NAMES c.args.place _ _ c.requires
