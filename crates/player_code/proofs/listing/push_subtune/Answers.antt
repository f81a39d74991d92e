-- The lines are a block, and the code is that of the entrance.
use Rattle.std.proofs.Common.{rules, ◌≡◌, ◌++◌, OnOk, None, refl, subst}
use Rattle.scope_calls.specs.Entrances.{entrance_lines}
use Rattle.player_code.proofs.listing.push_subtune.Goals as goal
use Rattle.player_code.proofs.Entrances.{init_is}
use Rattle.player_code.proofs.Fits.{init_is_block}

pub push_entrance-requires-clause-first : goal.push_entrance-requires-clause-first
push_entrance-requires-clause-first c =
    init_is_block c.args.start c.args.cleared c.args.init.now c.requires (search rules) (search rules) (search rules)
    (search rules) c.ranges.cleared.fits

pub returns : goal.returns
returns c =
    subst (λ e. OnOk c.push_entrance.result (c.push_entrance.new.listing ≡ c.args.listing.now ++ entrance_lines e))
    (init_is c.args.zero_page c.args.conditions c.args.start c.args.cleared c.args.init.now None c.requires refl)
    c.push_entrance.ensures.lines
