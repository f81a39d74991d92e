-- Lines are read from the last one back.
use Rattle.std.proofs.Common.{length}
use Rattle.block_cases.proofs.form.+are_led.Given as goal

abbrev pub decreases-are_led : goal.decreases-are_led
decreases-are_led l = length l.lines.now
