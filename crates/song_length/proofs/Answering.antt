-- What is told of a song of a file.
use Rattle.std.proofs.Common.{◌≡◌, ℕ, ◌+◌, ◌-◌, ◌<◌, ◌≤◌, min, Option, Some, None, inl, inr, sym, ap, ◌∙◌, subst, arith}
use Rattle.std.proofs.lemmas.Bool.{cases_lt}
use Rattle.cpu6502.specs.declared.machine.Machine.{Machine}
use Rattle.psid.specs.declared.header.Psid.{Psid}
use Rattle.cpu6502.proofs.Laws.{called_once}
use Rattle.sid_run.specs.State.{RunnerState, loaded, sid_registers}
use Rattle.song_length.specs.declared.counts.Counts.{Counts}
use Rattle.song_length.specs.declared.counts.Dearest.{Dearest}
use Rattle.song_length.specs.declared.measuring.Repeat.{Repeat}
use Rattle.song_length.specs.declared.measuring.MeasureFault.{MeasureFault}
use Rattle.song_length.specs.declared.measuring.MeasureFault.TheVariants.{NoMemory, Stopped}
use Rattle.song_length.specs.Plays.{PlayTakes, PlayTold, Tells}
use Rattle.song_length.specs.Repeats.{Repeats}
use Rattle.song_length.specs.Measured.{IsDearest}
use Rattle.song_length.specs.Coming.{IsSearched, IsPlayFault, IsStarted, ComesNoSooner, IsFoundIn}
use Rattle.song_length.specs.Told.{Begins, AreTold, IsMeasured, init_stops, play_stops, IsFault}
use Rattle.song_length.proofs.Repeating.{one_after, one_machine, way_by, repeating_songs_go_on}
use Rattle.song_length.proofs.Least.{comes_here, no_sooner}
use Rattle.song_length.proofs.OnePlay.{told_cost}

-- what is told of a play takes the same clock cycles
pub told_once : (play : ℕ) (first : Machine) (n : ℕ) (one other : PlayTold) → Tells play first n one →
    Tells play first n other → one.cycles ≡ other.cycles
told_once play first n one other p q =
    told_cost play first n q.before other.steps q.after q.led q.takes one p ∙ sym q.cycles

-- and all that is told of it is one
pub tells_once : (play : ℕ) (first : Machine) (n : ℕ) (one other : PlayTold) → Tells play first n one →
    Tells play first n other →
    (one.steps ≡ other.steps) × (one.cycles ≡ other.cycles) × (one.registers ≡ other.registers)
tells_once play first n one other p q =
    let same = one_machine play n first p.before q.before p.led q.led in
    let takes = subst (λ m. PlayTakes play m one.steps p.after) same p.takes in
    let after = one_after play q.before one.steps other.steps p.after q.after takes q.takes in (
      called_once q.before play q.before.cpu.a one.steps other.steps p.after q.after takes.called q.takes.called,
      told_once play first n one other p q,
      p.registers ∙ ap sid_registers after ∙ sym q.registers,
    )

-- ---- the dearest play is among the first, where the state comes again

module _ (play : ℕ) (first : Machine) (from length : ℕ) (r : Repeats play first from length) where
  early : (n : ℕ) (dearest : Dearest) → IsDearest play first n (Some dearest) → dearest.call ≤ from + length
  early n dearest is = elim (cases_lt (from + length) dearest.call) [
    | inr few ↦ few
    | inl late ↦
        let goes = repeating_songs_go_on play first from length r in
        let before = dearest.call - 1 - length in
        let told = goes.returns before in
        let some = r.some in
        let place : before + length ≡ dearest.call - 1 = omega (arith, late) in
        let here = subst (λ k. Tells play first k told.0) place
        ((goes.again before told.0 (omega (arith, late))).0 told.1) in
        let other = is.2 in
        let same = told_once play first (dearest.call - 1) told.0 other.0 here other.1 ∙ other.2 in
        let less = is.4 before told.0 (omega (arith, late, some)) told.1 in
        absurd (omega (arith, same, less))
  ]

  pub dearest_early : (n : ℕ) (dearest : Dearest) → from + length ≤ n → IsDearest play first n (Some dearest) →
      IsDearest play first (from + length) (Some dearest)
  dearest_early n dearest more is = (
    is.0,
    early n dearest is,
    is.2,
    (λ i told few tells. is.3 i told (omega (arith, few, more)) tells),
    is.4,
  )

-- ---- faults

pub fault_more : (psid : Psid) (song calls : ℕ) (fault : MeasureFault) → IsFault psid song 0 fault →
    IsFault psid song calls fault
fault_more psid song calls NoMemory is = tt
fault_more psid song calls (Stopped call reason) (init_stops after zero fails) = init_stops after zero fails
fault_more psid song calls (Stopped call reason) (play_stops cycles first before after some few begins led fails) =
    absurd (omega (arith, some, few))

module _ (psid : Psid) (song calls : ℕ) (runner : RunnerState) (is : IsStarted psid song runner) where
  pub play_fault : (fault : MeasureFault) → IsPlayFault runner.play runner.machine calls fault →
      IsFault psid song calls fault
  play_fault NoMemory stops = tt
  play_fault (Stopped call reason) stops =
      let here = subst (λ p. IsPlayFault p runner.machine calls (Stopped call reason)) is.address stops in
      play_stops runner.cycles runner.machine here.2 here.3 here.0 here.1 is.begins here.4 here.5

  -- ---- what is told

  module _ (counts : Counts) (found : Option ℕ) (searched : IsSearched runner.play runner.machine calls counts found) where
    here : IsSearched (loaded psid).play runner.machine calls counts found
    here = subst (λ p. IsSearched p runner.machine calls counts found) is.address searched

    told : (cycles : ℕ) (dearest : Dearest) (repeat : Option Repeat) → cycles ≡ runner.cycles →
        AreTold (loaded psid).play runner.machine calls dearest repeat →
        IsMeasured psid song calls (record { init = cycles; dearest = dearest; repeat = repeat })
    told cycles dearest repeat same are = record {
      first = runner.machine;
      begins = subst (λ n. Begins psid song n runner.machine) (sym same) is.begins;
      told = are;
    }

    pub never_told : (cycles : ℕ) (dearest : Dearest) → found ≡ None → counts.dearest ≡ Some dearest →
        cycles ≡ runner.cycles → IsMeasured psid song calls (record { init = cycles; dearest = dearest; repeat = None })
    never_told cycles dearest none there same =
        let both = subst (λ f. IsSearched (loaded psid).play runner.machine calls counts f) none here in
        told cycles dearest None same
        (both.0, both.1, subst (λ d. IsDearest (loaded psid).play runner.machine calls d) there both.2)

    module _ (length : ℕ) (is_found : found ≡ Some length) where
      again : IsSearched (loaded psid).play runner.machine calls counts (Some length)
      again = subst (λ f. IsSearched (loaded psid).play runner.machine calls counts f) is_found here

      -- behind so many plays it comes again, and after no fewer
      module _ (place : ℕ) (is_place : counts.calls ≡ place + length) (r : Repeats (loaded psid).play runner.machine place length)
          (fewest : ComesNoSooner (loaded psid).play runner.machine place length)
          (its : IsDearest (loaded psid).play runner.machine (min counts.calls calls) counts.dearest)
          (cycles : ℕ) (dearest : Dearest) (there : counts.dearest ≡ Some dearest) (same : cycles ≡ runner.cycles) where
        its_dearest : IsDearest (loaded psid).play runner.machine (min counts.calls calls) (Some dearest)
        its_dearest = subst (λ d. IsDearest (loaded psid).play runner.machine (min counts.calls calls) d) there its

        found_told : (repeat : Option Repeat) → IsFoundIn (loaded psid).play runner.machine length calls repeat →
            IsMeasured psid song calls (record { init = cycles; dearest = dearest; repeat = repeat })
        found_told (Some repeat) is =
            let some = r.some in
            let within = is.0 in
            let least = is.1.least place (place + length) r.machine (omega (arith, some)) r.here r.again in
            let low = least.1 in
            told cycles dearest (Some repeat) same (
              within,
              is.1,
              dearest_early (loaded psid).play runner.machine repeat.from repeat.length is.1.repeats (min counts.calls calls)
                  dearest (omega (arith, within, low, is_place)) its_dearest,
            )
        found_told None none =
            let beyond : calls < place + length = late place length r none in
            let most : min counts.calls calls ≡ calls = omega (arith, beyond, is_place) in
            told cycles dearest None same (
              way_by (loaded psid).play calls (place + length - calls) (place + length) runner.machine r.machine
                  (omega (arith, beyond)) r.again,
              (λ i j machine less within one other.
                  let again_here = comes_here (loaded psid).play runner.machine i j machine less one other place length r in
                  let soon = no_sooner (loaded psid).play runner.machine i j machine less one other place length r fewest in
                  none i (omega (arith, soon, within))
                  (record { some = r.some; machine = machine; here = one; again = again_here })),
              subst (λ n. IsDearest (loaded psid).play runner.machine n (Some dearest)) most its_dearest,
            )
          where
            late : (place length : ℕ) → Repeats (loaded psid).play runner.machine place length →
                ((from : ℕ) → from + length ≤ calls → Repeats (loaded psid).play runner.machine from length → ⊥) →
                calls < place + length
            late place length r none = elim (cases_lt calls (place + length)) [
              | inl less ↦ less
              | inr more ↦ absurd (none place more r)
            ]

      pub repeat_told : (repeat : Option Repeat) → ((cycles : ℕ) (first : Machine) → Begins psid song cycles first →
          IsFoundIn (loaded psid).play first length calls repeat) → (cycles : ℕ) (dearest : Dearest) →
          counts.dearest ≡ Some dearest → cycles ≡ runner.cycles →
          IsMeasured psid song calls (record { init = cycles; dearest = dearest; repeat = repeat })
      repeat_told repeat is_in cycles dearest there same =
          found_told again.0 again.1 again.2 again.3 again.4 cycles dearest there same repeat
          (is_in runner.cycles runner.machine is.begins)
