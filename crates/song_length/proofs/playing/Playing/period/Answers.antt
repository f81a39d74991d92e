use Rattle.std.proofs.Common.{◌≡◌, ◌∙◌, true, false, ap}
use Rattle.std.specs.Option.{is_some}
use Rattle.std.proofs.lemmas.Result.{err_from_is_err_and}
use Rattle.song_length.proofs.Windows.{found_period, stop_found}
use Rattle.song_length.proofs.playing.Playing.period.Goals as goal
use Rattle.song_length.proofs.playing.Playing.period.Goals.{then-is_some-via-then-is_some}
use Rattle.song_length.proofs.playing.Playing.period.Goals.{then-is_some-via-else-is_some+then-window-limit}

pub returns-in_err-found-clause-stops : goal.returns-in_err-found-clause-stops
returns-in_err-found-clause-stops c =
    let i = c.loop-found.invariant in
    let p = err_from_is_err_and c.from_residual.result c.from_residual.ensures.1 in
    rw (p.1, p.2)
    (stop_found c.args.self.now c.loop-found.self c.plays_until.new.self i.on i.address c.least.result _ i.limit
    c.in_err-found.ensures.stops)

pub returns-then-is_some-clause-period : goal.returns-then-is_some-clause-period
returns-then-is_some-clause-period c =
    let i = c.loop-found.invariant in
    found_period c.args.self.now c.loop-found.self c.plays_until.new.self i.on i.address c.copy_from.new.self
    c.least.result c.loop-found.window c.in_ok-found.found (c.copy_from.ensures ∙ c.machine.ensures)
    c.least.ensures
    (λ none. elim c.then-is_some.branch [
      | then-is_some-via-then-is_some w ↦
          let never : true ≡ false = w.if-is_some.ensures ∙ ap is_some none in absurd (cc (never))
      | then-is_some-via-else-is_some+then-window-limit w ↦ w.if-window-limit.true
    ]) i.calls c.in_ok-found.ensures.comes
