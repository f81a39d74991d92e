-- The code is that of the entrance.
use Rattle.std.proofs.Common.{◌≡◌, ◌++◌, OnOk, Some, ap, subst}
use Rattle.scope_calls.specs.Entrances.{entrance_lines}
use Rattle.player_code.proofs.listing.push_frame.Goals as goal
use Rattle.player_code.proofs.Entrances.{play_is}

pub returns : goal.returns
returns c =
    subst (λ e. OnOk c.push_entrance.result (c.push_entrance.new.listing ≡ c.args.listing.now ++ entrance_lines e))
    (play_is c.args.zero_page c.args.conditions c.args.filter.now (Some c.args.voice.now) c.requires.filter
    (ap Some c.requires.voice))
    c.push_entrance.ensures.lines
