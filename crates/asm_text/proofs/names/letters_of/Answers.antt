use Rattle.std.proofs.Common.{sym, ◌∙◌}
use Rattle.asm_text.proofs.NameLaws.{never_none}
use Rattle.asm_text.proofs.names.letters_of.Goals as goal

pub unreachable-requires : goal.unreachable-requires
unreachable-requires c = never_none c.args.mnemonic (sym c.place_of.ensures.place ∙ c.in_default.is)
