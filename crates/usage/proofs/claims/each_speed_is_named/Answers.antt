use Rattle.usage.proofs.Cases.{each_speed_is_named}
use Rattle.usage.proofs.claims.each_speed_is_named.Goals as goal

pub returns : goal.returns
returns c = each_speed_is_named
