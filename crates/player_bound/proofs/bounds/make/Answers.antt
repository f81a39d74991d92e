-- The least numbers have room.
use Rattle.std.proofs.Common.{◌≡◌, IfOk, subst, sym}
use Rattle.cycle_bound.specs.Least.{Fit}
use Rattle.player_bound.specs.Programs.{least_init, least_play}
use Rattle.player_bound.proofs.Fits.{init_fits, play_fits}
use Rattle.player_bound.proofs.bounds.make.Goals as goal

pub least-requires-clause-init : goal.least-requires-clause-init
least-requires-clause-init c =
    subst (λ b. Fit (least_init b)) (sym c.in_ok-program.ensures.blocks)
    (init_fits c.args.packed.now c.args.options.now)

pub least-requires-clause-play : goal.least-requires-clause-play
least-requires-clause-play c =
    subst (λ b. Fit (least_play b)) (sym c.in_ok-program.ensures.blocks)
    (play_fits c.args.packed.now c.args.options.now)

pub returns-clause-init : goal.returns-clause-init
returns-clause-init c =
    subst (λ b. IfOk c.least.result (λ made. made.init ≡ least_init b)) c.in_ok-program.ensures.blocks
    c.least.ensures.init

pub returns-clause-play : goal.returns-clause-play
returns-clause-play c =
    subst (λ b. IfOk c.least.result (λ made. made.play ≡ least_play b)) c.in_ok-program.ensures.blocks
    c.least.ensures.play
