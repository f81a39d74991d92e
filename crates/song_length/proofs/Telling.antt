-- What is found out of a song, told.
use Rattle.std.proofs.Common.{◌≡◌, ℕ, ◌+◌, ◌-◌, ◌<◌, ◌≤◌, min, Option, Some, None, refl, sym, ap, subst, arith}
use Rattle.cpu6502.specs.declared.machine.Machine.{Machine}
use Rattle.cpu6502.specs.declared.stop.CallStop.{CallStop}
use Rattle.sid_run.specs.State.{RunnerState}
use Rattle.song_length.specs.declared.counts.Counts.{Counts}
use Rattle.song_length.specs.declared.playing.Playing.{Playing}
use Rattle.song_length.specs.declared.measuring.MeasureFault.TheVariants.{Stopped}
use Rattle.song_length.specs.Plays.{Lead}
use Rattle.song_length.specs.Measured.{IsDearest}
use Rattle.song_length.specs.Coming.{IsAt, Period, PlayStops, IsSearched, IsPlayFault}
use Rattle.song_length.proofs.Repeating.{way_by}
use Rattle.song_length.proofs.Least.{between}
use Rattle.song_length.proofs.PlayingOn.{never_fails}

-- a song begins
abbrev pub begun : RunnerState → ℕ → Playing
begun runner calls = record { runner = runner; counts = record { calls = 0; limit = calls; dearest = None } }

begin_at : (runner : RunnerState) (calls : ℕ) → runner.stopped ≡ None → IsAt runner.machine (begun runner calls)
begin_at runner calls running = record { led = refl; running = running; dearest = omega arith }

module _ (runner : RunnerState) (calls : ℕ) (running : runner.stopped ≡ None) (new : Playing) where
  dearest_of : (x : Playing) → ((first : Machine) → IsAt first (begun runner calls) → IsAt first x) →
      x.counts.limit ≡ calls → x.runner.play ≡ runner.play →
      IsDearest runner.play runner.machine (min x.counts.calls calls) x.counts.dearest
  dearest_of x on limit address =
      let at = on runner.machine (begin_at runner calls running) in
      subst (λ p. IsDearest p runner.machine (min x.counts.calls calls) x.counts.dearest) address
      (subst (λ n. IsDearest x.runner.play runner.machine (min x.counts.calls n) x.counts.dearest) limit at.dearest)

  led_of : new.runner.play ≡ runner.play → IsAt runner.machine new →
      Lead runner.play new.counts.calls runner.machine new.runner.machine
  led_of address at = subst (λ p. Lead p new.counts.calls runner.machine new.runner.machine) address at.led

  -- its period, or none
  pub searched_period : (found : Option ℕ) → Period (begun runner calls) new found → new.counts.limit ≡ calls →
      new.runner.play ≡ runner.play → IsSearched runner.play runner.machine calls new.counts found
  searched_period (Some length) again limit address = (
    again.place,
    again.calls,
    again.repeats runner.machine (begin_at runner calls running),
    again.fewest runner.machine (begin_at runner calls running),
    dearest_of new again.on limit address,
  )
  searched_period None never limit address =
      let enough = never.calls in
      let all : min new.counts.calls calls ≡ calls = omega (arith, enough) in (
        way_by runner.play calls (new.counts.calls - calls) new.counts.calls runner.machine new.runner.machine
            (omega (arith, enough)) (led_of address (never.on runner.machine (begin_at runner calls running))),
        never.never runner.machine (begin_at runner calls running),
        subst (λ n. IsDearest runner.play runner.machine n new.counts.dearest) all (dearest_of new never.on limit address),
      )

  module _ (reason : CallStop) (stops : PlayStops (begun runner calls) new reason) where
    abbrev last : Playing
    last = stops.between

    led : Lead runner.play last.counts.calls runner.machine last.runner.machine
    led =
        subst (λ p. Lead p last.counts.calls runner.machine last.runner.machine) stops.address
        (stops.on runner.machine (begin_at runner calls running)).led

    -- a play behind those that were asked for doesn't return, so no state comes again
    pub searched_stopped : calls ≤ new.counts.calls → IsSearched runner.play runner.machine calls new.counts None
    searched_stopped enough =
        let same = ap (λ (c : Counts). c.calls) stops.counts in
        let all : min last.counts.calls calls ≡ calls = omega (arith, enough, same) in (
          way_by runner.play calls (last.counts.calls - calls) last.counts.calls runner.machine last.runner.machine
              (omega (arith, enough, same)) led,
          (λ i j machine less few one other.
              never_fails runner.play runner.machine last.counts.calls last.runner.machine new.runner.machine reason
              (record {
                from = i;
                length = j - i;
                repeats = between runner.play runner.machine i j machine less one other;
              }) led stops.fails),
          subst (λ (c : Counts). IsDearest runner.play runner.machine calls c.dearest) (sym stops.counts)
              (subst (λ n. IsDearest runner.play runner.machine n last.counts.dearest) all
              (dearest_of last stops.on stops.limit stops.address)),
        )

    -- or one of these
    pub stop_told : new.counts.calls < calls →
        IsPlayFault runner.play runner.machine calls (Stopped (new.counts.calls + 1) reason)
    stop_told few =
        let same = ap (λ (c : Counts). c.calls) stops.counts in
        let place : last.counts.calls ≡ new.counts.calls + 1 - 1 = omega (arith, same) in (
          omega arith,
          omega (arith, few),
          last.runner.machine,
          new.runner.machine,
          subst (λ n. Lead runner.play n runner.machine last.runner.machine) place led,
          stops.fails,
        )
