-- What the plays of one window tell.
use Rattle.std.proofs.Common.{◌≡◌, ℕ, ◌+◌, ◌-◌, ◌≤◌, min, Option, Some, None, refl, sym, ◌∙◌, subst, arith}
use Rattle.cpu6502.specs.declared.machine.Machine.{Machine}
use Rattle.cpu6502.specs.declared.stop.CallStop.{CallStop}
use Rattle.cpu6502.specs.Call.{FailsBy}
use Rattle.sid_run.specs.State.{most_steps}
use Rattle.song_length.specs.declared.playing.Playing.{Playing}
use Rattle.song_length.specs.Plays.{Lead}
use Rattle.song_length.specs.Coming.{IsAt, ComesTo, StopsOn, ComesAgain, ComesNever, Period, PlayStops}
use Rattle.song_length.proofs.Repeating.{one_machine, shifted}
use Rattle.song_length.proofs.Least.{between}

module _ (old mid new : Playing) (on : (first : Machine) → IsAt first old → IsAt first mid)
    (address : mid.runner.play ≡ old.runner.play) where
  led_to : (first : Machine) → IsAt first old → Lead old.runner.play mid.counts.calls first mid.runner.machine
  led_to first at = subst (λ p. Lead p mid.counts.calls first mid.runner.machine) address (on first at).led

  -- the state came again
  pub again_found : (state : Machine) (most length : ℕ) → state ≡ mid.runner.machine →
      ComesTo mid new state most (Some length) → ComesAgain old new length
  again_found state most length kept (some, within, goes, same, out) = record {
    place = mid.counts.calls;
    calls = goes.calls;
    on = λ first at. goes.on first (on first at);
    repeats = λ first at. record {
      some = some;
      machine = mid.runner.machine;
      here = led_to first at;
      again =
          let there = (goes.on first (on first at)).led in
          let played = subst (λ p. Lead p new.counts.calls first new.runner.machine) (goes.address ∙ address) there in
          subst (λ m. Lead old.runner.play (mid.counts.calls + length) first m) (same ∙ kept)
          (subst (λ n. Lead old.runner.play n first new.runner.machine) goes.calls played);
    };
    fewest = λ first at k machine least few led again.
        let here = one_machine old.runner.play mid.counts.calls first machine mid.runner.machine led (led_to first at) in
        let moved = subst (λ m. Lead old.runner.play (mid.counts.calls + k) first m) (here ∙ sym kept) again in
        out first k (on first at) least (omega (arith, few))
        (subst (λ p. Lead p (mid.counts.calls + k) first state) (sym address) moved);
  }

  -- it didn't, in as many plays as there are to be told of
  pub never_found : (state : Machine) (most window : ℕ) → state ≡ mid.runner.machine →
      most ≡ min window old.counts.limit → old.counts.limit ≤ window → mid.counts.calls + 1 ≡ window →
      ComesTo mid new state most None → ComesNever old new
  never_found state most window kept is wide calls (goes, out) =
      let all : most ≡ old.counts.limit = omega (arith, is, wide) in record {
        on = λ first at. goes.on first (on first at);
        calls = (let told = goes.calls in omega (arith, told, all));
        never = λ first at i j machine less few one other.
            let r = between old.runner.play first i j machine less one other in
            let behind : i ≤ mid.counts.calls = omega (arith, less, few, wide, calls) in
            let again = shifted old.runner.play first i (j - i) r mid.counts.calls mid.runner.machine behind
            (led_to first at) in
            let moved = subst (λ m. Lead old.runner.play (mid.counts.calls + (j - i)) first m) (sym kept) again in
            out first (j - i) (on first at) (omega (arith, less)) (omega (arith, less, few, all))
            (subst (λ p. Lead p (mid.counts.calls + (j - i)) first state) (sym address) moved);
      }

  -- a play doesn't return
  pub stop_found : (most : ℕ) (reason : CallStop) → mid.counts.limit ≡ old.counts.limit →
      StopsOn mid new most reason → PlayStops old new reason
  stop_found most reason limit stops = record {
    between = stops.between;
    on = λ first at. stops.goes.on first (on first at);
    limit = stops.goes.limit ∙ limit;
    address = stops.goes.address ∙ address;
    fails =
        subst (λ p. FailsBy stops.between.runner.machine p stops.between.runner.machine.cpu.a most_steps reason
        new.runner.machine) address stops.fails;
    counts = stops.counts;
  }

  -- so the period is told
  pub found_period : (state : Machine) (most window : ℕ) (found : Option ℕ) → state ≡ mid.runner.machine →
      most ≡ min window old.counts.limit → (found ≡ None → old.counts.limit ≤ window) →
      mid.counts.calls + 1 ≡ window → ComesTo mid new state most found → Period old new found
  found_period state most window (Some length) kept is wide calls comes = again_found state most length kept comes
  found_period state most window None kept is wide calls comes =
      never_found state most window kept is (wide refl) calls comes
