-- A song whose state comes again plays on.
use Rattle.std.proofs.Common.{◌≡◌, ℕ, ◌+◌, ◌<◌, Ok, Err, sym, ◌∙◌, subst, arith, inl, inr}
use Rattle.std.proofs.lemmas.Bool.{cases_lt}
use Rattle.cpu6502.specs.declared.machine.Machine.{Machine}
use Rattle.cpu6502.specs.declared.stop.CallStop.{CallStop}
use Rattle.cpu6502.specs.Call.{FailsBy}
use Rattle.cpu6502.proofs.Laws.{returned_fails}
use Rattle.sid_run.specs.State.{most_steps}
use Rattle.song_length.specs.Plays.{PlayTakes, Lead}
use Rattle.song_length.specs.Coming.{HasRepeat, MeetAt}
use Rattle.song_length.proofs.Repeating.{one_machine, rest_by, shifted, repeating_songs_go_on}

-- a play that returns doesn't fail
pub never_fails : (play : ℕ) (first : Machine) (n : ℕ) (before after : Machine) (reason : CallStop) →
    HasRepeat play first → Lead play n first before →
    FailsBy before play before.cpu.a most_steps reason after → ⊥
never_fails play first n before after reason r led fails =
    let told = (repeating_songs_go_on play first r.from r.length r.repeats).returns n in
    let same = one_machine play n first told.1.before before told.1.led led in
    let takes = subst (λ m. PlayTakes play m told.0.steps told.1.after) same told.1.takes in
    let never : Ok 0 ≡ Err reason =
    returned_fails before play before.cpu.a told.0.steps most_steps told.1.after after reason (Ok 0) takes.called
    takes.within fails in
    cc (never)

-- and behind a play the state comes again too
pub repeat_on : (play : ℕ) (first last : Machine) (n : ℕ) → HasRepeat play first → Lead play n first last →
    HasRepeat play last
repeat_on play first last n r led =
    let goes = repeating_songs_go_on play first r.from r.length r.repeats in
    let told = goes.returns (n + r.from) in
    let machine = told.1.before in
    let some = r.repeats.some in
    record {
      from = r.from;
      length = r.length;
      repeats = record {
        some = some;
        machine = machine;
        here = rest_by play n r.from (n + r.from) first last machine (omega arith) led told.1.led;
        again =
            rest_by play n (r.from + r.length) (n + r.from + r.length) first last machine (omega arith) led
            (shifted play first r.from r.length r.repeats (n + r.from) machine (omega arith) told.1.led);
      };
    }

-- ---- two songs that come to one state

-- they have come so far, and are in two
module _ (play from : ℕ) (one other a b : Machine) (of_one : Lead play from one a) (of_other : Lead play from other b)
    (apart : a ≡ b → ⊥) where
  no_meeting : MeetAt play one other from → ⊥
  no_meeting meet =
      apart
      (one_machine play from one a meet.machine of_one meet.of_one
      ∙ sym (one_machine play from other b meet.machine of_other meet.of_other))

  pub apart_more : ((place : ℕ) → place < from → MeetAt play one other place → ⊥) → (place : ℕ) → place < from + 1 →
      MeetAt play one other place → ⊥
  apart_more before place few meet = elim (cases_lt place from) [
    | inl less ↦ before place less meet
    | inr here ↦
        let same : place ≡ from = omega (arith, few, here) in no_meeting (subst (MeetAt play one other) same meet)
  ]
