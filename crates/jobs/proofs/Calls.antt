-- The calls of a loaded file: one after the other, each in one way.
use Rattle.std.proofs.Common.{◌≡◌, ◌≢◌, ℕ, zero, suc, ◌+◌, ◌≤◌, ◌<◌, inl, inr, List, []}
use Rattle.std.proofs.Common.{◌∷◌, ◌++◌, None, Result, Ok, Err, IfOk, OnOk, length, refl, sym, ap, ◌∙◌}
use Rattle.std.proofs.Common.{subst, arith, add-one}
use Rattle.std.proofs.lemmas.List.{length-append}
use Rattle.std.proofs.lemmas.Bool.{cases_lt}
use Rattle.std.specs.List.{concat}
use Rattle.cpu6502.specs.declared.machine.Machine.{Machine}
use Rattle.cpu6502.specs.declared.stop.CallStop.{CallStop}
use Rattle.cpu6502.specs.Call.{run, entered, Called, FailsBy}
use Rattle.cpu6502.proofs.Laws.{called_once}
use Rattle.sid_run.specs.State.{RunnerState, sid_registers, most_steps}
use Rattle.song_length.specs.Plays.{Takes}
use Rattle.song_length.proofs.Laws.{never_both, fails_once}
use Rattle.jobs.specs.Calls.{entry_of, accumulator_of, ReturnsTo, FirstCalls, MeetsStopAt}
use Rattle.command_line.specs.RegisterText.{register_line, register_lines}
use Rattle.jobs.specs.Lines.{stop_line}
use Rattle.goat_io.specs.declared.fault.SinkFault.{SinkFault}
use Rattle.goat_io.specs.declared.fault.SinkFault.TheVariants as sink
use Rattle.command_line.specs.declared.refusal.Refusal.{Refusal}
use Rattle.command_line.specs.Last.{Last, Says, SaysNothing, last_of, IsOfSink}
use Rattle.jobs.specs.Stands.{SinkState, Appends}
use Rattle.jobs.specs.Endings.{CallsEnd, PutFails, played, stopped, failed, wanting}
use Rattle.jobs.proofs.RegisterLines.{lines_more, text_more}
use Rattle.jobs.proofs.Told.{appends_nothing, appends_both, appends_none, fails_then}

-- ---- one call

-- what the runner says of a call that returned
pub returns_with : (machine after : Machine) (entry number steps : ℕ) (r : Result (List ℕ) CallStop) →
    OnOk r (Called machine entry number steps after) → OnOk r (steps ≤ most_steps) →
    IfOk r (λ registers. registers ≡ sid_registers after) →
    IfOk r (λ registers. ReturnsTo machine entry number registers after)
returns_with machine after entry number steps (Ok registers) called within are = record {
  steps = steps;
  takes = record { called = called; within = within };
  registers_are = sym are;
}
returns_with machine after entry number steps (Err reason) called within are = tt

-- and how many steps it took
pub takes_with : (machine after : Machine) (entry number steps : ℕ) (r : Result (List ℕ) CallStop) →
    OnOk r (Called machine entry number steps after) → OnOk r (steps ≤ most_steps) →
    OnOk r (Takes machine entry number steps after)
takes_with machine after entry number steps (Ok registers) called within = record { called = called; within = within }
takes_with machine after entry number steps (Err reason) called within = tt

-- a call with a number other than 0 is play
pub later_entry : (file : RunnerState) (call : ℕ) → call ≢ 0 → entry_of file call ≡ file.play
later_entry file zero later = absurd (later refl)
later_entry file (suc call) later = refl

pub later_number : (subtune call : ℕ) (machine : Machine) → call ≢ 0 →
    accumulator_of subtune call machine ≡ machine.cpu.a
later_number subtune zero machine later = absurd (later refl)
later_number subtune (suc call) machine later = refl

module _ {m : Machine} {entry number : ℕ} where
  -- a call returns in one machine
  returns_once : {registers registers' : List ℕ} {after after' : Machine} → ReturnsTo m entry number registers after →
      ReturnsTo m entry number registers' after' → after ≡ after'
  returns_once {after} {after'} p q =
      let same = called_once m entry number p.steps q.steps after after' p.takes.called q.takes.called in
      let one = p.takes.called.runs in
      let two = q.takes.called.runs in
      let both : Ok after ≡ Ok after' = sym one ∙ ap (λ n. run n (entered m entry number)) same ∙ two in
      cc (both)

  -- and not at all where it fails
  returns_or_fails : {registers : List ℕ} {after : Machine} (after' : Machine) (reason : CallStop) →
      ReturnsTo m entry number registers after →
      FailsBy m entry number most_steps reason after' → ⊥
  returns_or_fails {after} after' reason p fails =
      never_both m entry number p.steps after after' reason p.takes fails

-- ---- the first calls

module _ (file : RunnerState) (subtune : ℕ) where
  abbrev First : ℕ → List (List ℕ) → Machine → Type 0
  First calls registers machine = FirstCalls file subtune calls registers machine

  -- this call returns, or fails, from a machine
  abbrev Returns : ℕ → Machine → List ℕ → Machine → Type 0
  Returns call before last after = ReturnsTo before (entry_of file call) (accumulator_of subtune call before) last after

  abbrev Fails : ℕ → Machine → CallStop → Machine → Type 0
  Fails call before reason after =
      FailsBy before (entry_of file call) (accumulator_of subtune call before) most_steps reason after

  pub as_many_registers : (calls : ℕ) (registers : List (List ℕ)) (machine : Machine) →
      FirstCalls file subtune calls registers machine →
      length registers ≡ calls
  as_many_registers zero registers machine first = ap length first.0
  as_many_registers (suc calls) registers machine (earlier, before, last, first, returns, are) =
      let more = ap (λ n. n + 1) (as_many_registers calls earlier before first) in
      ap length are ∙ length-append earlier (last ∷ []) ∙ more ∙ add-one calls

  one_machine : (calls : ℕ) (registers registers' : List (List ℕ)) (machine machine' : Machine) →
      First calls registers machine →
      First calls registers' machine' → machine ≡ machine'
  one_machine zero registers registers' machine machine' p q = p.1 ∙ sym q.1
  one_machine (suc calls) registers registers' machine machine' p q =
      let same = one_machine calls p.0 q.0 p.1 q.1 p.3 q.3 in
      returns_once (subst (λ before. Returns calls before p.2 machine) same p.4) q.4

  pub one_list : (calls : ℕ) (registers registers' : List (List ℕ)) (machine machine' : Machine) →
      FirstCalls file subtune calls registers machine → FirstCalls file subtune calls registers' machine' →
      registers ≡ registers'
  one_list zero registers registers' machine machine' p q = p.0 ∙ sym q.0
  one_list (suc calls) registers registers' machine machine' p q =
      let same = one_list calls p.0 q.0 p.1 q.1 p.3 q.3 in
      let after = one_machine (suc calls) registers registers' machine machine' p q in
      let last : p.2 ≡ q.2 = sym p.4.registers_are ∙ ap sid_registers after ∙ q.4.registers_are in
      p.5 ∙ ap (λ e. e ++ p.2 ∷ []) same ∙ ap (λ l. q.0 ++ l ∷ []) last ∙ sym q.5

  -- each of the first calls returned
  record Returned (call : ℕ) : Type 0 where
    registers : List (List ℕ)
    before : Machine
    calls : First call registers before
    last : List ℕ
    after : Machine
    returns : Returns call before last after

  returned_before : (calls call : ℕ) (registers : List (List ℕ)) (machine : Machine) → First calls registers machine →
      call < calls →
      Returned call
  returned_before zero call registers machine first inside = absurd (omega arith)
  returned_before (suc calls) call registers machine (earlier, before, last, first, returns, are) inside =
      let here : Returned calls =
      record { registers = earlier; before = before; calls = first; last = last; after = machine; returns = returns } in
      elim (cases_lt call calls) [
        | inl below ↦ returned_before calls call earlier before first below
        | inr above ↦ let same : calls ≡ call = omega arith in subst Returned same here
      ]

  -- none of them meets a stop
  pub returned_or_stopped : (calls call : ℕ) (registers registers' : List (List ℕ)) (machine : Machine)
      (reason : CallStop) →
      FirstCalls file subtune calls registers machine → call < calls → MeetsStopAt file subtune call registers' reason →
      ⊥
  returned_or_stopped calls call registers registers' machine reason first inside meets =
      let r = returned_before calls call registers machine first inside in
      let same = one_machine call r.registers registers' r.before meets.before r.calls meets.calls in
      let moved = subst (λ before. Returns call before r.last r.after) same r.returns in
      returns_or_fails meets.after reason moved meets.fails

  -- and one of them meets one stop
  pub one_stop_at : {call call' : ℕ} {registers registers' : List (List ℕ)} {reason reason' : CallStop} →
      MeetsStopAt file subtune call registers reason → MeetsStopAt file subtune call' registers' reason' → call ≡ call'
  one_stop_at {call} {call'} {registers} {registers'} {reason} {reason'} p q = elim (cases_lt call call') [
    | inl below ↦ absurd (returned_or_stopped call' call registers' registers q.before reason q.calls below p)
    | inr above ↦ elim (cases_lt call' call) [
      | inl below ↦ absurd (returned_or_stopped call call' registers registers' p.before reason' p.calls below q)
      | inr above' ↦ omega arith
    ]
  ]

  pub one_reason : {call : ℕ} {registers registers' : List (List ℕ)} {reason reason' : CallStop} →
      MeetsStopAt file subtune call registers reason → MeetsStopAt file subtune call registers' reason' →
      reason ≡ reason'
  one_reason {call} {registers} {registers'} {reason} {reason'} p q =
      let same = one_machine call registers registers' p.before q.before p.calls q.calls in
      let moved = subst (λ before. Fails call before reason p.after) same p.fails in
      fails_once q.before (entry_of file call) (accumulator_of subtune call q.before) p.after q.after reason reason'
      moved q.fails

-- ---- their lines

-- the calls so far returned and their lines are printed
pub record CallsSoFar (file : RunnerState) (subtune calls : ℕ) (now : RunnerState)
    (before after : SinkState) : Type 0 where
  pub registers : List (List ℕ)
  pub returned : FirstCalls file subtune calls registers now.machine
  pub running : now.stopped ≡ None
  pub same_init : now.init ≡ file.init
  pub same_play : now.play ≡ file.play
  pub printed : Appends (concat (register_lines registers)) before after

same_entry : (file now : RunnerState) (call : ℕ) → now.init ≡ file.init → now.play ≡ file.play →
    entry_of now call ≡ entry_of file call
same_entry file now zero init play = init
same_entry file now (suc call) init play = play

module _ {file : RunnerState} {subtune calls : ℕ} {now : RunnerState} {before after : SinkState}
    (so_far : CallsSoFar file subtune calls now before after) where
  -- the call that comes next returns
  abbrev NextReturns : List ℕ → Machine → Type 0
  NextReturns last machine =
      ReturnsTo now.machine (entry_of now calls) (accumulator_of subtune calls now.machine) last machine

  -- their lines, with that of the next call
  abbrev lines : List (List ℕ)
  lines = register_lines so_far.registers

  many : length so_far.registers ≡ calls
  many = as_many_registers file subtune calls so_far.registers now.machine so_far.returned

  -- one call more
  calls_on : (last : List ℕ) (machine : Machine) → NextReturns last machine →
      FirstCalls file subtune (suc calls) (so_far.registers ++ last ∷ []) machine
  calls_on last machine returns =
      let same = same_entry file now calls so_far.same_init so_far.same_play in
      let moved =
      subst (λ e. ReturnsTo now.machine e (accumulator_of subtune calls now.machine) last machine) same returns in
      (so_far.registers, now.machine, last, so_far.returned, moved, refl)

  pub so_far_on : (later : RunnerState) (last : List ℕ) {shown : SinkState} →
      ReturnsTo now.machine (entry_of now calls) (accumulator_of subtune calls now.machine) last later.machine →
      later.stopped ≡ None → later.init ≡ now.init → later.play ≡ now.play →
      Appends (register_line calls last) after shown →
      CallsSoFar file subtune (suc calls) later before shown
  so_far_on later last {shown} returns running init play told = record {
    registers = so_far.registers ++ last ∷ [];
    returned = calls_on last later.machine returns;
    running = running;
    same_init = init ∙ so_far.same_init;
    same_play = play ∙ so_far.same_play;
    printed =
        subst (λ text. Appends text before shown) (sym (text_more so_far.registers last many))
        (appends_both so_far.printed told);
  }

  -- the line of a call was not put
  pub line_over : (frames : ℕ) → calls ≤ frames → (machine : Machine) (last : List ℕ) →
      ReturnsTo now.machine (entry_of now calls) (accumulator_of subtune calls now.machine) last machine →
      {shown : SinkState} (fault : SinkFault) (it : Refusal) → IsOfSink fault it →
      (fault ≡ sink.Failed → PutFails (register_line calls last) after shown) →
      (fault ≡ sink.NoMemory → Appends [] after shown) →
      CallsEnd file subtune frames (last_of it) before shown
  line_over frames within machine last returns sink.Failed it is fails none =
      let failing = fails refl in
      rw is (failed (suc calls) failing.kept lines (register_line calls last) (so_far.registers ++ last ∷ []) machine
      (omega (arith, within)) (calls_on last machine returns) (lines_more so_far.registers last many) refl
      (fails_then so_far.printed failing.fails))
  line_over frames within machine last returns sink.NoMemory it is fails none =
      rw is (wanting (suc calls) lines (register_line calls last) (so_far.registers ++ last ∷ []) machine
      (omega (arith, within)) (calls_on last machine returns) (lines_more so_far.registers last many) refl
      (appends_none so_far.printed (none refl)))

  pub stop_met : (frames : ℕ) (machine : Machine) (reason : CallStop) → calls ≤ frames →
      FailsBy now.machine (entry_of now calls) (accumulator_of subtune calls now.machine) most_steps reason machine →
      {last : Last} → last ≡ Says 13 (stop_line reason calls) → CallsEnd file subtune frames last before after
  stop_met frames machine reason within fails says =
      let same = same_entry file now calls so_far.same_init so_far.same_play in
      let moved =
      subst (λ e. FailsBy now.machine e (accumulator_of subtune calls now.machine) most_steps reason machine) same
      fails in
      stopped calls so_far.registers reason within
      (record { before = now.machine; calls = so_far.returned; after = machine; fails = moved }) says so_far.printed

  -- all calls returned
  pub all_played : (frames : ℕ) → calls ≡ frames + 1 → CallsEnd file subtune frames SaysNothing before after
  all_played frames is =
      played so_far.registers now.machine
      (subst (λ n. FirstCalls file subtune n so_far.registers now.machine) is so_far.returned)
      refl so_far.printed

-- no call was made yet
pub none_yet : (file : RunnerState) (subtune : ℕ) (sink : SinkState) → file.stopped ≡ None →
    CallsSoFar file subtune 0 file sink sink
none_yet file subtune sink running = record {
  registers = [];
  returned = (refl, refl);
  running = running;
  same_init = refl;
  same_play = refl;
  printed = appends_nothing sink;
}
