-- The line of the next number.
use Rattle.std.proofs.Common.{rules}
use Rattle.std.proofs.lemmas.List.{append_assoc}
use Rattle.bound_text.specs.Texts.{numbers_text}
use Rattle.bound_text.proofs.Lines.{next_more}
use Rattle.bound_text.proofs.writing.push_text.Goals as goal

pub loop-number-preserved : goal.loop-number-preserved
loop-number-preserved c =
    let more = next_more c.args.numbers.now c.loop-number.number-index in
    search (rules, more, append_assoc)
