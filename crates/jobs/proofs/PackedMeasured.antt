-- A packed file is measured and drawn, since none of its calls stops; and what is told for ever, where it is asked for.
use Rattle.std.proofs.Common.{◌≡◌, ℕ, zero, suc, ◌+◌, ◌-◌, ◌<◌, ◌≤◌, List, [], ◌∷◌, ◌++◌, Some, Ok, length}
use Rattle.std.proofs.Common.{sym, ◌∙◌, subst, arith}
use Rattle.goat_io.specs.Files.{Files, file_of}
use Rattle.song_model.specs.declared.songs.Song.{Song}
use Rattle.song_model.specs.LookUp.{playable_subtunes}
use Rattle.play_model.specs.declared.options.Options.{Options}
use Rattle.cpu6502.specs.declared.machine.Machine.{Machine}
use Rattle.cpu6502.specs.declared.stop.CallStop.{CallStop}
use Rattle.psid.specs.declared.header.Psid.{Psid}
use Rattle.sid_run.specs.State.{loaded}
use Rattle.song_length.specs.declared.measuring.Measured.{Measured}
use Rattle.song_length.specs.declared.measuring.Repeat.{Repeat}
use Rattle.song_length.specs.Plays.{Takes, PlayTakes, Lead}
use Rattle.song_length.specs.Told as told
use Rattle.song_length.specs.Told.{StopsAt}
use Rattle.song_length.specs.Laws.{GoesOnAsTold}
use Rattle.song_length.proofs.Laws.{one_machine, never_both}
use Rattle.jobs.specs.Calls.{FirstCalls}
use Rattle.jobs.specs.Lengths.{StopsMeasuring}
use Rattle.jobs.specs.Traces.{first_traces}
use Rattle.jobs.specs.Stages.{IsThere, Fits, IsPsid, OffersSubtune, SubtunesReturn, SubtuneReturns, HoldsPsid, Passes}
use Rattle.jobs.specs.Stages.{input_limit}
use Rattle.jobs.specs.Answers.{IsPackedPsid, GoOnAsTold}
use Rattle.jobs.specs.MetPremises.{PackedFilesAreMeasured, ToldForEverIsAsked, ToldForEverSays}
use Rattle.jobs.proofs.Passes.{met_passes, one_psid_held}
use Rattle.jobs.proofs.PlayedFiles.{psid_of, packed_reads, packed_files_play}
use Rattle.jobs.proofs.MetPremises.{packed_is_short}
use Rattle.jobs.proofs.MeasuredFiles.{after_calls}

-- a file whose first calls return, however many, has none that doesn't
abbrev Returning : Psid → ℕ → Type 0
Returning psid song =
    (frames : ℕ) → (registers : List (List ℕ)) × (machine : Machine)
    × FirstCalls (loaded psid) song (suc frames) registers machine

never_stops : (psid : Psid) (song calls call : ℕ) (reason : CallStop) → Returning psid song →
    StopsAt psid song calls call reason → ⊥
never_stops psid song calls call reason returns (told.init_stops after is fails) =
    let calls = (returns 0).2 in
    let takes = subst (λ m. Takes m (loaded psid).init song calls.4.steps (returns 0).1) calls.3.1 calls.4.takes in
    never_both (loaded psid).machine (loaded psid).init song calls.4.steps (returns 0).1 after reason takes fails
never_stops psid song calls zero reason returns (told.play_stops cycles first before after some few begins led fails) =
    omega (arith, some)
never_stops psid song calls (suc plays) reason returns
    (told.play_stops cycles first before after some few begins led fails) =
    let all = (returns (suc plays)).2 in
    let less : suc plays - 1 ≡ plays = omega arith in
    let here = after_calls psid song cycles first begins plays all.0 all.1 all.3 in
    let same = one_machine (loaded psid).play plays first all.1 before here
    (subst (λ n. Lead (loaded psid).play n first before) less led) in
    let takes = subst (λ m. PlayTakes (loaded psid).play m all.4.steps (returns (suc plays)).1) same all.4.takes in
    never_both before (loaded psid).play before.cpu.a all.4.steps (returns (suc plays)).1 after reason takes fails

module _ (files : Files) (song : Song) (o : Options) (input file : List ℕ) (calls : ℕ)
    (found : file_of files input ≡ Some file) (is : IsPackedPsid song o file) where
  abbrev psid : Psid
  psid = psid_of song o file is

  returning : (k : ℕ) → k < length (playable_subtunes song) → Returning psid (k + 1 - 1)
  returning k below frames =
      let first : 1 ≤ k + 1 = omega arith in
      let last : k + 1 ≤ length (playable_subtunes song) = omega (arith, below) in
      let its = packed_files_play song o file (k + 1) frames is first last in
      let both : Ok its.0 ≡ Ok psid = sym its.1 ∙ packed_reads song o file is (k + 1) first last in
      let same : its.0 ≡ psid = cc (both) in
      let traces = first_traces o song (k + 1 - 1) (frames + 1) in
      let calls = subst (λ p. FirstCalls (loaded p) (k + 1 - 1) (frames + 1) traces its.3) same its.4 in
      let more : frames + 1 ≡ suc frames = omega arith in
      (traces, its.3, subst (λ n. FirstCalls (loaded psid) (k + 1 - 1) n traces its.3) more calls)

  no_stop : (k call : ℕ) (reason : CallStop) → k < length (playable_subtunes song) → StopsAt psid k calls call reason → ⊥
  no_stop k call reason below stops =
      let number : k + 1 - 1 ≡ k = omega arith in
      never_stops psid k calls call reason (subst (Returning psid) number (returning k below)) stops

  module _ (held : HoldsPsid files input psid) where
    all_return : Passes files (SubtunesReturn input calls)
    all_return lines ends =
        let stops = subst (λ p. StopsMeasuring p calls lines) (one_psid_held files input ends.0 psid ends.1 held) ends.2 in
        no_stop stops.subtune stops.call stops.reason stops.there stops.stops

    one_returns : (subtune : ℕ) → 1 ≤ subtune → subtune ≤ length (playable_subtunes song) →
        Passes files (SubtuneReturns input subtune calls)
    one_returns subtune first last lines ends =
        no_stop (subtune - 1) ends.1 ends.2 (omega (arith, first, last))
        (subst (λ p. StopsAt p (subtune - 1) calls ends.1 ends.2) (one_psid_held files input ends.0 psid ends.3 held)
        ends.4)

pub packed_files_are_measured : PackedFilesAreMeasured
packed_files_are_measured files song o input output file subtune calls found is first last =
    let psid = psid_of song o file is in
    let reads = packed_reads song o file is subtune first last in
    let held : HoldsPsid files input psid = record { bytes = file; found = found; reads = reads } in
    let there = met_passes files (IsThere input) (file, found) in
    let fits = met_passes files (Fits input input_limit) (file, found, packed_is_short song o file is) in
    let format = met_passes files (IsPsid input) (psid, held) in
    let has = met_passes files (OffersSubtune input subtune) (psid, held, record { first = first; last = last }) in (
      (there, (fits, (format, (all_return files song o input file calls found is held, tt)))),
      (there, (fits, (format, (has, (one_returns files song o input file calls found is held subtune first last, tt))))),
    )

-- ---- what is told for ever

pub told_for_ever_is_asked : ToldForEverIsAsked
told_for_ever_is_asked = record {
  measuring = λ words files input calls psid form holds. record { input = input; form = form; holds = holds };
  running = λ words files input subtune frames calls psid measured repeat form holds is repeats. record {
    input = input;
    subtune = subtune;
    frames = frames;
    form = form;
    psid = psid;
    holds = holds;
    calls = calls;
    measured = measured;
    is = is;
    repeat = repeat;
    repeats = repeats;
  };
  anywhere = λ image address song k n number steps before machine after led is agrees small called. record {
    before = before;
    led = led;
    is = is;
    agrees = agrees;
    small = small;
    called = called;
  };
}

each_goes_on : (psid : Psid) (subtune : ℕ) (earlier later : List Measured) (measured : Measured) (repeat : Repeat) →
    GoOnAsTold psid subtune (earlier ++ measured ∷ later) → measured.repeat ≡ Some repeat →
    GoesOnAsTold psid (subtune + length earlier) measured repeat
each_goes_on psid subtune [] later measured repeat on is =
    let same : subtune ≡ subtune + 0 = omega arith in
    subst (λ s. GoesOnAsTold psid s measured repeat) same (on.0 repeat is)
each_goes_on psid subtune (one ∷ earlier) later measured repeat on is =
    let same : subtune + 1 + length earlier ≡ subtune + suc (length earlier) = omega arith in
    subst (λ s. GoesOnAsTold psid s measured repeat) same
    (each_goes_on psid (subtune + 1) earlier later measured repeat on.1 is)

pub told_for_ever_says : ToldForEverSays
told_for_ever_says = record {
  each = each_goes_on;
  printed = λ psid calls before after tells. tells.go_on;
  states = λ psid song n measured repeat machine goes beyond. goes.goes.state n machine beyond;
  anywhere = λ image address song k n number steps psid measured repeat machine after takes is here.
      takes.most repeat n machine after number steps is here;
}
