-- Two voices over the same look-ups that may differ in the instrument with which they began, and in a parameter that
-- nothing runs with: the programs and effects keep them so.
use Rattle.std.proofs.Common.{◌≡◌, ℕ, ◌<◌, ◌⊎◌, false, length, refl, sym, ap, ◌∙◌, subst, inl, inr}
use Rattle.std.specs.Prelude.{None}
use Rattle.std.proofs.lemmas.Bool.{cases_eq}
use Rattle.song_model.specs.declared.orders.Order.{Order}
use Rattle.song_model.specs.LookUp.{pattern_row}
use Rattle.play_model.specs.LookUps.{LookUps}
use Rattle.play_model.specs.State.{Voice, Common, Playing}
use Rattle.play_model.specs.WaveStep.{Waved, wave_step}
use Rattle.play_model.specs.EffectStep.{effect_step}
use Rattle.play_model.specs.PulseStep.{pulse_step}
use Rattle.same_frames.specs.Maps.{same_numbers}
use Rattle.same_frames.specs.Begins.{is_opening, rows_of_play, opening_of_play}
use Rattle.same_frames.proofs.Moved.{Held, held_of, put, put_waved, same_pointer}
use Rattle.same_frames.proofs.Slides.{same_speed}
use Rattle.same_frames.proofs.Programs.{pulse_moved_lem}
use Rattle.same_frames.proofs.Waves.{effect_moved, wave_moved}
use Rattle.same_frames.proofs.Rules.{wave_holds, effect_holds, pulse_holds}
use Rattle.same_frames.proofs.Runs.{Runs, runs_of, IsRunning, wave_runs, pulse_runs, effect_still, effect_runs}

-- ---- what may differ

-- a voice with another instrument and another parameter
abbrev pub with_aside : ℕ → ℕ → Voice → Voice
with_aside a p v = record v { instrument = a; param = p }

abbrev pub playing_aside : ℕ → ℕ → Playing → Playing
playing_aside a p s = record s { voice = with_aside a p s.voice }

-- no row has a note or names an instrument before this one, and the voices began with i and j
pub record IsUnnamedYet (look : LookUps) (order : Order) (i j : ℕ) (h : Held) (r : Runs) (a : ℕ) : Type 0 where
  pub mine : h.instrument ≡ i
  pub its : a ≡ j
  pub no_note : r.new_note ≡ 0
  pub no_delay : r.delay ≡ 0
  pub before : (n : ℕ) → n < h.plays → opening_of_play look order n ≡ None
  pub above : (k : ℕ) → k < h.row → is_opening (pattern_row (rows_of_play look order h.plays) k) ≡ false
  pub inside : h.row < length (rows_of_play look order h.plays)

pub record MayDiffer (look : LookUps) (order : Order) (i j : ℕ) (h : Held) (r : Runs) (a p : ℕ) : Type 0 where
  pub runs : IsRunning r → p ≡ r.param
  pub held : (a ≡ h.instrument) ⊎ IsUnnamedYet look order i j h r a

pub record BegunAlike (look : LookUps) (order : Order) (i j : ℕ) (v w : Voice) : Type 0 where
  pub instrument : ℕ
  pub param : ℕ
  pub is : w ≡ with_aside instrument param v
  pub may : MayDiffer look order i j (held_of v) (runs_of v) instrument param

pub record PlayingsBegun (look : LookUps) (order : Order) (i j : ℕ) (s t : Playing) : Type 0 where
  pub voice : BegunAlike look order i j s.voice t.voice
  pub common : t.common ≡ s.common

pub record WavesBegun (look : LookUps) (order : Order) (i j : ℕ) (w u : Waved) : Type 0 where
  pub playing : PlayingsBegun look order i j w.playing u.playing
  pub effect : u.effect ≡ w.effect

-- ---- as voices that hold something else

abbrev pub aside_held : ℕ → ℕ → Held → Held
aside_held a p h = record h { instrument = a; running = λ param. p }

pub aside_again : (a p : ℕ) (v w : Voice) → held_of v ≡ held_of w →
    put same_numbers (aside_held a p (held_of w)) v ≡ with_aside a p v
aside_again a p v w e = subst (λ (h : Held). put same_numbers (aside_held a p h) v ≡ with_aside a p v) e refl

pub still_unnamed : (look : LookUps) (order : Order) (i j : ℕ) (h after : Held) (r then : Runs) (a : ℕ) →
    after ≡ h → then.new_note ≡ 0 → then.delay ≡ 0 → IsUnnamedYet look order i j h r a →
    IsUnnamedYet look order i j after then a
still_unnamed look order i j h after r then a e note delay u =
    subst (λ (x : Held). IsUnnamedYet look order i j x then a) (sym e) (record {
      mine = u.mine;
      its = u.its;
      no_note = note;
      no_delay = delay;
      before = u.before;
      above = u.above;
      inside = u.inside;
    })

-- a rule that changes nothing of what is held and what runs keeps voices alike
pub go_on : (look : LookUps) (order : Order) (i j : ℕ) (v w v1 w1 : Voice) (q : BegunAlike look order i j v w) →
    held_of v1 ≡ held_of v → runs_of v1 ≡ runs_of v → w1 ≡ with_aside q.instrument q.param v1 →
    BegunAlike look order i j v1 w1
go_on look order i j v w v1 w1 q holds runs is = record {
  instrument = q.instrument;
  param = q.param;
  is = is;
  may =
      subst (λ (h : Held). MayDiffer look order i j h (runs_of v1) q.instrument q.param) (sym holds)
      (subst (λ (r : Runs). MayDiffer look order i j (held_of v) r q.instrument q.param) (sym runs) q.may);
}

-- the other playing, written out
pub playing_is : (look : LookUps) (order : Order) (i j : ℕ) (s t : Playing) (q : PlayingsBegun look order i j s t) →
    t ≡ playing_aside q.voice.instrument q.voice.param s
playing_is look order i j s t q =
    ap (λ (v : Voice). record { voice = v; common = t.common }) q.voice.is
    ∙ ap (λ (c : Common). record { voice = with_aside q.voice.instrument q.voice.param s.voice; common = c }) q.common

-- ---- the rules between two fetches, but the tick step

module _ (look : LookUps) (order : Order) (i j : ℕ) where
  pub wave_begun : (s t : Playing) → PlayingsBegun look order i j s t →
      WavesBegun look order i j (wave_step look s) (wave_step look t)
  wave_begun s t q =
      let a = q.voice.instrument in
      let p = q.voice.param in
      let h = aside_held a p (held_of s.voice) in
      let is : wave_step look t ≡ put_waved same_numbers h (wave_step look s) =
      ap (wave_step look) (playing_is look order i j s t q)
      ∙ wave_moved same_numbers h look look s refl refl (λ some. record {
        left = refl;
        right = sym (same_pointer _ _);
        next = refl;
        speed = λ low high. same_speed look _;
      }) in
      record {
        playing = record {
          voice =
              go_on look order i j s.voice t.voice (wave_step look s).playing.voice (wave_step look t).playing.voice q.voice
              (wave_holds look s) (wave_runs look s)
              (ap (λ (x : Waved). x.playing.voice) is
              ∙ aside_again a p (wave_step look s).playing.voice s.voice (wave_holds look s));
          common = ap (λ (x : Waved). x.playing.common) is;
        };
        effect = ap (λ (x : Waved). x.effect) is;
      }

  pub pulse_begun : (v w : Voice) → BegunAlike look order i j v w →
      BegunAlike look order i j (pulse_step look v) (pulse_step look w)
  pulse_begun v w q =
      let a = q.instrument in
      let p = q.param in
      let h = aside_held a p (held_of v) in
      go_on look order i j v w (pulse_step look v) (pulse_step look w) q (pulse_holds look v) (pulse_runs look v)
      (ap (pulse_step look) q.is
      ∙ pulse_moved_lem same_numbers h look look v refl (λ some. record { row = refl; next = λ goes. refl })
      ∙ aside_again a p (pulse_step look v) v (pulse_holds look v))

  -- where nothing runs the effect step does nothing
  effect_rests : (v w : Voice) (q : BegunAlike look order i j v w) → v.command ≡ 0 → v.vib_delay ≡ 0 →
      BegunAlike look order i j (effect_step look v) (effect_step look w)
  effect_rests v w q command delay =
      let mine = effect_still look v command delay in
      let its = effect_still look w (ap (λ (x : Voice). x.command) q.is ∙ command)
      (ap (λ (x : Voice). x.vib_delay) q.is ∙ delay) in
      subst (λ (x : Voice). BegunAlike look order i j x (effect_step look w)) (sym mine)
      (subst (λ (x : Voice). BegunAlike look order i j v x) (sym its) q)

  other_again : (a : ℕ) (v w : Voice) → held_of v ≡ held_of w →
      put same_numbers (record (held_of w) { instrument = a }) v ≡ with_aside a v.param v
  other_again a v w e =
      subst (λ (h : Held). put same_numbers (record h { instrument = a }) v ≡ with_aside a v.param v) e refl

  effect_goes_on : (v w : Voice) (q : BegunAlike look order i j v w) → IsRunning (runs_of v) →
      BegunAlike look order i j (effect_step look v) (effect_step look w)
  effect_goes_on v w q running =
      let a = q.instrument in
      let done = effect_step look v in
      let runs = effect_runs look v in
      let holds = effect_holds look v in
      record {
        instrument = a;
        param = done.param;
        is =
            ap (effect_step look) (q.is ∙ ap (λ (p : ℕ). with_aside a p v) (q.may.runs running))
            ∙ effect_moved same_numbers (record (held_of v) { instrument = a }) look look v (same_speed look v.param)
            ∙ other_again a done v holds;
        may = record {
          runs = λ r. refl;
          held = elim q.may.held [
            | inl e ↦ inl (e ∙ sym (ap (λ (h : Held). h.instrument) holds))
            | inr u ↦ inr (still_unnamed look order i j (held_of v) (held_of done) (runs_of v) (runs_of done) a holds
                (runs.new_note ∙ u.no_note) (runs.delay u.no_delay) u)
          ];
        };
      }

  pub effect_begun : (v w : Voice) → BegunAlike look order i j v w →
      BegunAlike look order i j (effect_step look v) (effect_step look w)
  effect_begun v w q = elim (cases_eq v.command 0) [
    | inr some ↦ effect_goes_on v w q (inl some)
    | inl command ↦ elim (cases_eq v.vib_delay 0) [
      | inr some ↦ effect_goes_on v w q (inr some)
      | inl delay ↦ effect_rests v w q command delay
    ]
  ]
