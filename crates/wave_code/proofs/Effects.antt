-- What the code leaves that tells which effect runs.
use Rattle.std.proofs.Common.{◌≡◌, ◌≢◌, ◌+◌, ◌-◌, ◌%◌, ◌≤◌, Bool, true, false, not, nat_eq, nat_le}
use Rattle.std.proofs.Common.{inl, inr, refl, sym, ap, ◌∙◌, arith, eq-eqb}
use Rattle.std.proofs.lemmas.Bool.{not-true, not-false, eqb-true, eqb-false, both_ways, ne_eqb, le-leb, cases_lt}
use Rattle.std.proofs.lemmas.Bool.Decides.{eqb_tells}
use Rattle.code_runs.specs.Runs.{put}
use Rattle.play_model.specs.LookUps.{LookUps}
use Rattle.play_model.specs.State.{Voice, Playing}
use Rattle.play_model.specs.EffectStep.{effect_step}
use Rattle.scopes.specs.Meaning.{Left}
use Rattle.player_memory.specs.declared.conditions.TheConstants.{EFFECTS, INSTRUMENT_VIBRATO, SKIP_EFFECTS}
use Rattle.player_memory.specs.declared.labels.TheConstants.{COMMAND, PARAM, VIB_DELAY}
use Rattle.player_text.specs.declared.joints.TheConstants.{RUNNING, EFFECTED}
use Rattle.player_desk.proofs.Laws.{VoiceDesk, Reader, Ways, Leads, Lent, Done, own_done, done_over, done_by}
use Rattle.player_desk.proofs.VoiceDesks.{Either}
use Rattle.wave_code.specs.EffectBlock.{effect_begun_tree, left_out, running, way_of, state_of, HasEffect, KeepsEffect}

-- ---- which command runs

run_own : (v : Voice) → v.command ≢ 0 → running v ≡ v.command
run_own v some = let e : nat_eq v.command 0 ≡ false = ne_eqb v.command 0 some in rw e refl

run_no_param : (v : Voice) → v.command ≡ 0 → v.param ≡ 0 → running v ≡ 0
run_no_param v none zero = rw (none, zero) refl

run_waits : (v : Voice) → v.command ≡ 0 → v.param ≢ 0 → v.vib_delay ≢ 1 → running v ≡ 0
run_waits v none some other =
    let e : nat_eq v.param 0 ≡ false = ne_eqb v.param 0 some in
    let f : nat_eq v.vib_delay 1 ≡ false = ne_eqb v.vib_delay 1 other in
    rw (none, e, f) refl

run_vibrato : (v : Voice) → v.command ≡ 0 → v.param ≢ 0 → v.vib_delay ≡ 1 → running v ≡ 4
run_vibrato v none some same =
    let e : nat_eq v.param 0 ≡ false = ne_eqb v.param 0 some in
    rw (none, e, same) refl

-- ---- the effect step where none runs

rests_param : (look : LookUps) (v : Voice) → v.command ≡ 0 → v.param ≡ 0 → effect_step look v ≡ v
unfolding effect_step
rests_param look v none zero =
    let e : nat_eq v.command 0 ≡ true = eq-eqb v.command 0 none in
    let f : nat_eq v.param 0 ≡ true = eq-eqb v.param 0 zero in
    rw (e, f) refl

rests_delay : (look : LookUps) (v : Voice) → v.command ≡ 0 → v.param ≢ 0 → v.vib_delay ≡ 0 → effect_step look v ≡ v
unfolding effect_step
rests_delay look v none some zero =
    let e : nat_eq v.command 0 ≡ true = eq-eqb v.command 0 none in
    let f : nat_eq v.param 0 ≡ false = ne_eqb v.param 0 some in
    let g : nat_eq v.vib_delay 0 ≡ true = eq-eqb v.vib_delay 0 zero in
    rw (e, f, g) refl

waits_delay : (look : LookUps) (v : Voice) → v.command ≡ 0 → v.param ≢ 0 → 2 ≤ v.vib_delay →
    effect_step look v ≡ record v { vib_delay = v.vib_delay - 1 }
unfolding effect_step
waits_delay look v none some long =
    let e : nat_eq v.command 0 ≡ true = eq-eqb v.command 0 none in
    let f : nat_eq v.param 0 ≡ false = ne_eqb v.param 0 some in
    let g : nat_eq v.vib_delay 0 ≡ false = ne_eqb v.vib_delay 0 (λ z. omega (arith, z, long)) in
    let h : nat_le 2 v.vib_delay ≡ true = le-leb 2 v.vib_delay long in
    rw (e, f, g, h) refl

-- ---- ways

way_out : (skips : Bool) (v : Voice) → left_out skips v ≡ true → way_of skips v ≡ Left EFFECTED
way_out skips v e = rw e refl

way_none : (skips : Bool) (v : Voice) → left_out skips v ≡ false → running v ≡ 0 → way_of skips v ≡ Left EFFECTED
way_none skips v e none = let z : nat_eq (running v) 0 ≡ true = eq-eqb (running v) 0 none in rw (e, z) refl

way_runs : (skips : Bool) (v : Voice) → left_out skips v ≡ false → running v ≢ 0 → way_of skips v ≡ Left RUNNING
way_runs skips v e some = let z : nat_eq (running v) 0 ≡ false = ne_eqb (running v) 0 some in rw (e, z) refl

state_out : (skips : Bool) (look : LookUps) (s : Playing) → left_out skips s.voice ≡ true → state_of skips look s ≡ s
state_out skips look s e = rw e refl

state_none : (skips : Bool) (look : LookUps) (s : Playing) → left_out skips s.voice ≡ false → running s.voice ≡ 0 →
    state_of skips look s ≡ record s { voice = effect_step look s.voice }
state_none skips look s e none =
    let z : nat_eq (running s.voice) 0 ≡ true = eq-eqb (running s.voice) 0 none in rw (e, z) refl

pub state_runs : (skips : Bool) (look : LookUps) (s : Playing) → left_out skips s.voice ≡ false → running s.voice ≢ 0 →
    state_of skips look s ≡ s
state_runs skips look s e some =
    let z : nat_eq (running s.voice) 0 ≡ false = ne_eqb (running s.voice) 0 some in rw (e, z) refl

out_at : (skips : Bool) (v : Voice) → skips ≡ true → nat_eq v.tick 0 ≡ true → left_out skips v ≡ true
out_at skips v e f = rw (e, f) refl

in_at : (skips : Bool) (v : Voice) → skips ≡ true → nat_eq v.tick 0 ≡ false → left_out skips v ≡ false
in_at skips v e f = rw (e, f) refl

in_always : (skips : Bool) (v : Voice) → skips ≡ false → left_out skips v ≡ false
in_always skips v e = rw e refl

-- ---- where its ways lead

-- the effect is done, or left out; and a command runs
pub record AtEffected (r : Reader) (look : LookUps) (s : Playing) (handed : Lent) (d m : VoiceDesk) : Type 0 where
  pub way : way_of (r.layout.holds SKIP_EFFECTS) s.voice ≡ Left EFFECTED
  pub done : Done r.layout.holds r.voice (state_of (r.layout.holds SKIP_EFFECTS) look s) handed d m

pub record AtRunning (r : Reader) (look : LookUps) (s : Playing) (handed : Lent) (d m : VoiceDesk) : Type 0 where
  pub way : way_of (r.layout.holds SKIP_EFFECTS) s.voice ≡ Left RUNNING
  pub a : m.a ≡ running s.voice
  pub done : Done r.layout.holds r.voice (state_of (r.layout.holds SKIP_EFFECTS) look s) handed d m

abbrev pub effect_ways : Reader → LookUps → Playing → Lent → VoiceDesk → Ways
effect_ways r look s handed d = record {
  Done = λ m. ⊥;
  Left = λ name m.
      Either (nat_eq name RUNNING) (AtRunning r look s handed d m)
      (Either (nat_eq name EFFECTED) (AtEffected r look s handed d m) ⊥);
  Again = λ m. ⊥;
}

-- ---- the law

-- On the desk of a voice the code leads to where a command runs, with the command in A, or to where none does.
pub effect_leads : (r : Reader) (look : LookUps) (s : Playing) (handed : Lent) (d m : VoiceDesk) → HasEffect s.voice →
    KeepsEffect r.layout s.voice → Done r.layout.holds r.voice s handed d m →
    Leads r effect_begun_tree (effect_ways r look s handed d) m
effect_leads r look s handed d m has keeps done = (
  λ on. (
    λ some.
        let own : s.voice.command ≢ 0 =
        λ e. eqb-false (m.own COMMAND) 0 (not-true _ some) (done.fields.command on ∙ e) in (
          λ kept. (
            λ later.
                runs _ refl refl refl
                (in_at skips s.voice kept (ap (λ n. nat_eq n 0) (sym done.fields.tick) ∙ not-true _ later))
                (λ z. own (sym (run_own s.voice own) ∙ z)) (done.fields.command on ∙ sym (run_own s.voice own)),
            λ now.
                out _ refl refl refl
                (out_at skips s.voice kept (ap (λ n. nat_eq n 0) (sym done.fields.tick) ∙ not-false _ now)),
          ),
          λ always.
              runs _ refl refl refl (in_always skips s.voice always) (λ z. own (sym (run_own s.voice own) ∙ z))
              (done.fields.command on ∙ sym (run_own s.voice own)),
        ),
    λ zero.
        let none : s.voice.command ≡ 0 =
        sym (done.fields.command on) ∙ eqb-true (m.own COMMAND) 0 (not-false _ zero) in (
          λ kept. (
            λ no_param.
                let zero : s.voice.param ≡ 0 = sym (done.fields.param on) ∙ eqb-true (m.own PARAM) 0 no_param in
                rests _ refl refl refl (run_no_param s.voice none zero) (rests_param look s.voice none zero),
            λ has_param.
                let some : s.voice.param ≢ 0 = λ e. eqb-false (m.own PARAM) 0 has_param (done.fields.param on ∙ e) in (
                  λ skip. (
                    λ now.
                        out _ refl refl refl
                        (out_at skips s.voice skip (ap (λ n. nat_eq n 0) (sym done.fields.tick) ∙ now)),
                    λ later.
                        let goes =
                        in_at skips s.voice skip (ap (λ n. nat_eq n 0) (sym done.fields.tick) ∙ later) in (
                          λ long. (
                            λ never. rests _ refl refl refl (run_waits s.voice none some (at_never kept never))
                                (rests_delay look s.voice none some (no_delay kept never)),
                            λ waiting. waits _ kept refl refl refl goes none some (long_delay kept long waiting),
                          ),
                          λ short. (
                            λ met. runs _ refl refl refl goes
                                (λ z. omega (arith, z, run_vibrato s.voice none some (one_delay kept short)))
                                (sym (run_vibrato s.voice none some (one_delay kept short))),
                            λ never. absurd (both_ways true never refl),
                          ),
                        ),
                  ),
                  λ always.
                      let goes = in_always skips s.voice always in (
                        λ long. (
                          λ never. rests _ refl refl refl (run_waits s.voice none some (at_never kept never))
                              (rests_delay look s.voice none some (no_delay kept never)),
                          λ waiting. waits _ kept refl refl refl goes none some (long_delay kept long waiting),
                        ),
                        λ short. (
                          λ met. runs _ refl refl refl goes
                              (λ z. omega (arith, z, run_vibrato s.voice none some (one_delay kept short)))
                              (sym (run_vibrato s.voice none some (one_delay kept short))),
                          λ never. absurd (both_ways true never refl),
                        ),
                      ),
                ),
          ),
          λ gone. without _ refl refl refl gone (λ goes. none),
        ),
  ),
  λ off. without m refl refl refl (no_vibrato off) (no_command off),
)
  where
    skips : Bool
    skips = r.layout.holds SKIP_EFFECTS

    Vibrato : Type 0
    Vibrato = r.layout.holds INSTRUMENT_VIBRATO ≡ true

    delay : Vibrato → m.own VIB_DELAY ≡ (s.voice.vib_delay + 255) % 256
    delay kept = done.fields.vib_delay kept

    no_delay : Vibrato → nat_eq ((m.own VIB_DELAY + 1) % 256) 0 ≡ true → s.voice.vib_delay ≡ 0
    no_delay kept e = (let z = eqb-true ((m.own VIB_DELAY + 1) % 256) 0 e in let few = has.delay in
        let is = delay kept in omega (arith, z, is, few))

    at_never : Vibrato → nat_eq ((m.own VIB_DELAY + 1) % 256) 0 ≡ true → s.voice.vib_delay ≢ 1
    at_never kept e one = (let z = no_delay kept e in omega (arith, z, one))

    one_delay : Vibrato → not (nat_eq (m.own VIB_DELAY) 0) ≡ false → s.voice.vib_delay ≡ 1
    one_delay kept e = (let z = eqb-true (m.own VIB_DELAY) 0 (not-false _ e) in let few = has.delay in
        let is = delay kept in omega (arith, z, is, few))

    long_delay : Vibrato → not (nat_eq (m.own VIB_DELAY) 0) ≡ true → nat_eq ((m.own VIB_DELAY + 1) % 256) 0 ≡ false →
        2 ≤ s.voice.vib_delay
    long_delay kept e f =
        let is = delay kept in
        elim (cases_lt s.voice.vib_delay 2) [
          | inr long ↦ long
          | inl short ↦
              elim (eqb_tells s.voice.vib_delay 0) [
                | inl none ↦
                    absurd (eqb-false ((m.own VIB_DELAY + 1) % 256) 0 f (let z = none.1 in omega (arith, z, is)))
                | inr some ↦
                    absurd (eqb-false (m.own VIB_DELAY) 0 (not-true _ e)
                    (let z = some.1 in let l = short in omega (arith, z, l, is)))
              ]
        ]

    out : (n : VoiceDesk) → n.own ≡ m.own → n.shared ≡ m.shared → n.sid ≡ m.sid → left_out skips s.voice ≡ true →
        AtEffected r look s handed d n
    out n own shared sid e = record {
      way = way_out skips s.voice e;
      done = done_by r.layout.holds r.voice s _ handed d n (state_out skips look s e)
          (done_over r.layout.holds r.voice s handed d m n own shared sid done);
    }

    runs : (n : VoiceDesk) → n.own ≡ m.own → n.shared ≡ m.shared → n.sid ≡ m.sid → left_out skips s.voice ≡ false →
        running s.voice ≢ 0 → n.a ≡ running s.voice → AtRunning r look s handed d n
    runs n own shared sid e some a = record {
      way = way_runs skips s.voice e some;
      a = a;
      done = done_by r.layout.holds r.voice s _ handed d n (state_runs skips look s e some)
          (done_over r.layout.holds r.voice s handed d m n own shared sid done);
    }

    -- none runs, and the effect step leaves the voice
    rests : (n : VoiceDesk) → n.own ≡ m.own → n.shared ≡ m.shared → n.sid ≡ m.sid → running s.voice ≡ 0 →
        effect_step look s.voice ≡ s.voice → AtEffected r look s handed d n
    rests n own shared sid none same = by_skip (left_out skips s.voice) refl
      where
        by_skip : (b : Bool) → left_out skips s.voice ≡ b → AtEffected r look s handed d n
        by_skip true e = out n own shared sid e
        by_skip false e = record {
          way = way_none skips s.voice e none;
          done =
              done_by r.layout.holds r.voice s _ handed d n
              (state_none skips look s e none ∙ ap (λ v. record s { voice = v }) same)
              (done_over r.layout.holds r.voice s handed d m n own shared sid done);
        }

    -- the vibrato waits
    waits : (n : VoiceDesk) → Vibrato → n.own ≡ put m.own VIB_DELAY ((m.own VIB_DELAY + 255) % 256) →
        n.shared ≡ m.shared → n.sid ≡ m.sid → left_out skips s.voice ≡ false → s.voice.command ≡ 0 → s.voice.param ≢ 0 →
        2 ≤ s.voice.vib_delay → AtEffected r look s handed d n
    waits n kept own shared sid e none some long =
        let still = run_waits s.voice none some (λ one. omega (arith, one, long)) in
        let less : Vibrato → (m.own VIB_DELAY + 255) % 256 ≡ (s.voice.vib_delay - 1 + 255) % 256 =
        λ on. (let few = has.delay in let is = delay kept in omega (arith, is, long, few)) in record {
          way = way_none skips s.voice e still;
          done =
              done_by r.layout.holds r.voice
              (record s { voice = record s.voice { vib_delay = s.voice.vib_delay - 1 } }) _ handed d n
              (state_none skips look s e still
              ∙ ap (λ v. record s { voice = v }) (waits_delay look s.voice none some long))
              (done_over r.layout.holds r.voice _ handed d
              (record m { own = put m.own VIB_DELAY ((m.own VIB_DELAY + 255) % 256) }) n own shared sid
              (own_done r.layout.holds r.voice s _ handed d m _ refl refl refl
              (assumption (less, done.fields))
              (assumption done.song) done));
        }

    -- with the effects that vibrato isn't kept, and no command runs, but where it is left out
    no_vibrato : r.layout.holds EFFECTS ≡ false → r.layout.holds INSTRUMENT_VIBRATO ≡ false
    no_vibrato off = by_kept (r.layout.holds INSTRUMENT_VIBRATO) refl
      where
        by_kept : (kept : Bool) → r.layout.holds INSTRUMENT_VIBRATO ≡ kept → r.layout.holds INSTRUMENT_VIBRATO ≡ false
        by_kept true is = absurd (both_ways (r.layout.holds EFFECTS) off (keeps.shared is))
        by_kept false is = is

    no_command : r.layout.holds EFFECTS ≡ false → left_out skips s.voice ≡ false → s.voice.command ≡ 0
    no_command off goes =
        elim (eqb_tells s.voice.command 0) [
          | inl none ↦ none.1
          | inr some ↦ absurd (both_ways (r.layout.holds EFFECTS) off (keeps.runs goes some.1))
        ]

    -- where its lines aren't kept no vibrato runs or waits
    without : (n : VoiceDesk) → n.own ≡ m.own → n.shared ≡ m.shared → n.sid ≡ m.sid →
        r.layout.holds INSTRUMENT_VIBRATO ≡ false → (left_out skips s.voice ≡ false → s.voice.command ≡ 0) →
        AtEffected r look s handed d n
    without n own shared sid gone none_where = by_skip (left_out skips s.voice) refl
      where
        by_skip : (b : Bool) → left_out skips s.voice ≡ b → AtEffected r look s handed d n
        by_skip true e = out n own shared sid e
        by_skip false e =
            let none = none_where e in
            elim (eqb_tells s.voice.param 0) [
              | inl zero ↦
                  rests n own shared sid (run_no_param s.voice none zero.1) (rests_param look s.voice none zero.1)
              | inr some ↦
                  elim (eqb_tells s.voice.vib_delay 0) [
                    | inl never ↦
                        rests n own shared sid
                        (run_waits s.voice none some.1 (λ one. (let z = never.1 in omega (arith, z, one))))
                        (rests_delay look s.voice none some.1 never.1)
                    | inr long ↦
                        absurd (both_ways (r.layout.holds INSTRUMENT_VIBRATO) gone
                        (keeps.instrument e none some.1 long.1))
                  ]
            ]
