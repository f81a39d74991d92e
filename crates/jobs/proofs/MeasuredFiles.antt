-- What is told of the subtunes of a PSID file: it holds for ever, and a run of one that repeats meets no stop.
use Rattle.std.proofs.Common.{◌≡◌, ℕ, zero, suc, ◌+◌, ◌-◌, List, [], ◌∷◌, ◌++◌, length, Option, Some, inl, inr, refl}
use Rattle.std.proofs.Common.{sym, subst, arith}
use Rattle.goat_io.specs.Files.{Files}
use Rattle.cpu6502.specs.declared.machine.Machine.{Machine}
use Rattle.cpu6502.specs.declared.stop.CallStop.{CallStop}
use Rattle.cpu6502.specs.Call.{FailsBy, call_cycles}
use Rattle.psid.specs.declared.header.Psid.{Psid}
use Rattle.sid_run.specs.State.{loaded, most_steps}
use Rattle.song_length.specs.declared.measuring.Repeat.{Repeat}
use Rattle.song_length.specs.declared.measuring.Measured.{Measured}
use Rattle.song_length.specs.Plays.{Takes, PlayTakes, Lead}
use Rattle.song_length.specs.Told.{Begins}
use Rattle.song_length.specs.Laws.{GoesOnAsTold}
use Rattle.song_length.proofs.Laws.{measured_songs_go_on, begins_once, one_machine, never_both}
use Rattle.command_line.specs.Words.{Run, Measure}
use Rattle.command_line.proofs.Laws.{one_job}
use Rattle.jobs.specs.Calls.{FirstCalls, MeetsStopAt}
use Rattle.jobs.specs.Lengths.{AreMeasured, TellLengths}
use Rattle.jobs.specs.Stages.{CallsReturn, Ends, FirstEnds}
use Rattle.jobs.specs.Jobs.{stages, Done}
use Rattle.jobs.specs.Outcome as outcome
use Rattle.jobs.specs.Outcome.{Outcome}
use Rattle.jobs.specs.Answers.{AsksToMeasure, GoOnAsTold, RunsRepeating}
use Rattle.jobs.proofs.Due.{not_zero}
use Rattle.jobs.proofs.Lengths.{many_told}
use Rattle.jobs.proofs.Passes.{one_psid_held}

-- ---- what was printed

module _ {words : List (List ℕ)} {files : Files} {psid : Psid} {calls : ℕ} (asked : AsksToMeasure words files psid calls)
  where
    pub tells_lengths : {lines : List (List ℕ)} {write : Option (List ℕ × List ℕ)} → Outcome words files 0 lines write →
        TellLengths psid calls psid.header.songs lines
    tells_lengths (outcome.usage none is l w) = absurd (omega (arith, is))
    tells_lengths {lines} (outcome.ended job form first w) = absurd (not_zero files (stages job) lines first)
    tells_lengths {lines} {write} (outcome.done job form pass did is) =
        let mine = subst (λ j. Done j files lines write)
        (one_job words job (Measure asked.input calls) form asked.form) did in
        subst (λ p. TellLengths p calls p.header.songs lines)
        (one_psid_held files asked.input mine.0.0 psid mine.0.1 asked.holds) mine.0.2

go_on_more : (psid : Psid) (first : ℕ) (told : List Measured) (last : Measured) → GoOnAsTold psid first told →
    ((repeat : Repeat) → last.repeat ≡ Some repeat → GoesOnAsTold psid (first + length told) last repeat) →
    GoOnAsTold psid first (told ++ last ∷ [])
go_on_more psid first [] last go on =
    let z : first + 0 ≡ first = omega arith in
    ((λ repeat is. subst (λ s. GoesOnAsTold psid s last repeat) z (on repeat is)), tt)
go_on_more psid first (one ∷ rest) last go on =
    let z : first + suc (length rest) ≡ first + 1 + length rest = omega arith in (
      go.0,
      go_on_more psid (first + 1) rest last go.1
          (λ repeat is. subst (λ s. GoesOnAsTold psid s last repeat) z (on repeat is)),
    )

pub all_go_on : (psid : Psid) (calls subtunes : ℕ) (told : List Measured) → AreMeasured psid calls subtunes told →
    GoOnAsTold psid 0 told
all_go_on psid calls zero told are = subst (GoOnAsTold psid 0) (sym are) tt
all_go_on psid calls (suc subtunes) told are =
    let many = many_told psid calls subtunes are.0 are.2 in
    let number : subtunes ≡ 0 + length are.0 = omega (arith, many) in
    subst (GoOnAsTold psid 0) (sym are.4)
    (go_on_more psid 0 are.0 are.1 (all_go_on psid calls subtunes are.0 are.2)
    (λ repeat is. subst (λ s. GoesOnAsTold psid s are.1 repeat) number
    (measured_songs_go_on psid subtunes calls are.1 repeat are.3 is)))

-- ---- a run of a subtune that repeats

-- the first call of a run is the init from which plays begin, and the others are these plays
pub after_calls : (psid : Psid) (song cycles : ℕ) (first : Machine) → Begins psid song cycles first → (plays : ℕ)
    (registers : List (List ℕ)) (machine : Machine) → FirstCalls (loaded psid) song (suc plays) registers machine →
    Lead (loaded psid).play plays first machine
after_calls psid song cycles first begins zero registers machine (earlier, before, last, loads, returns, are) =
    let takes = subst (λ m. Takes m (loaded psid).init song returns.steps machine) loads.1 returns.takes in
    begins_once psid song (call_cycles (loaded psid).machine (loaded psid).init song returns.steps) cycles
    machine first (record { steps = returns.steps; takes = takes; cycles_are = refl }) begins
after_calls psid song cycles first begins (suc plays) registers machine (earlier, before, last, calls, returns, are) =
    (before, returns.steps, after_calls psid song cycles first begins plays earlier before calls, returns.takes)

module _ (psid : Psid) (song : ℕ) (measured : Measured) (repeat : Repeat) (goes : GoesOnAsTold psid song measured repeat)
  where
    pub meets_no_stop : (call : ℕ) (registers : List (List ℕ)) (reason : CallStop) →
        MeetsStopAt (loaded psid) song call registers reason → ⊥
    meets_no_stop zero registers reason meets =
        let fails = subst (λ m. FailsBy m (loaded psid).init song most_steps reason meets.after) meets.calls.1 meets.fails in
        never_both (loaded psid).machine (loaded psid).init song goes.begins.steps goes.first meets.after reason
        goes.begins.takes fails
    meets_no_stop (suc plays) registers reason meets =
        let led = after_calls psid song measured.init goes.first goes.begins plays registers meets.before meets.calls in
        let told = goes.goes.returns plays in
        let same = one_machine (loaded psid).play plays goes.first told.1.before meets.before told.1.led led in
        let takes = subst (λ m. PlayTakes (loaded psid).play m told.0.steps told.1.after) same told.1.takes in
        never_both meets.before (loaded psid).play meets.before.cpu.a told.0.steps told.1.after meets.after reason takes
        meets.fails

-- the stage at which a run ends with 13
stops_at : (files : Files) (input : List ℕ) (subtune frames : ℕ) (lines : List (List ℕ)) →
    FirstEnds files (stages (Run input subtune frames)) 13 lines →
    Ends files (CallsReturn input subtune frames) lines
stops_at files input subtune frames lines (inl (is, here)) = absurd (cc (is))
stops_at files input subtune frames lines (inr (there, inl (is, here))) = absurd (cc (is))
stops_at files input subtune frames lines (inr (there, inr (fits, inl (is, here)))) = absurd (cc (is))
stops_at files input subtune frames lines (inr (there, inr (fits, inr (psid, inl (is, here))))) = absurd (cc (is))
stops_at files input subtune frames lines (inr (there, inr (fits, inr (psid, inr (has, inl (is, here)))))) = here
stops_at files input subtune frames lines (inr (there, inr (fits, inr (psid, inr (has, inr (calls, never)))))) =
    absurd never

pub run_meets_no_stop : {words : List (List ℕ)} {files : Files} → RunsRepeating words files → {lines : List (List ℕ)}
    {write : Option (List ℕ × List ℕ)} → Outcome words files 13 lines write → ⊥
run_meets_no_stop runs (outcome.usage none is l w) = absurd (omega (arith, is))
run_meets_no_stop {words} {files} runs {lines} (outcome.ended job form first w) =
    let mine = subst (λ j. FirstEnds files (stages j) 13 lines)
    (one_job words job (Run runs.input runs.subtune runs.frames) form runs.form) first in
    let ends = stops_at files runs.input runs.subtune runs.frames lines mine in
    let same = one_psid_held files runs.input ends.0 runs.psid ends.1 runs.holds in
    let stop = ends.2 in
    let meets = subst (λ p. MeetsStopAt (loaded p) (runs.subtune - 1) stop.call stop.registers stop.reason) same stop.meets
    in
    meets_no_stop runs.psid (runs.subtune - 1) runs.measured runs.repeat
    (measured_songs_go_on runs.psid (runs.subtune - 1) runs.calls runs.measured runs.repeat runs.is runs.repeats) stop.call
    stop.registers stop.reason meets
run_meets_no_stop runs (outcome.done job form pass did is) = absurd (omega (arith, is))
