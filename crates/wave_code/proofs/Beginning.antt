-- The code that tells which effect runs, in memory.
use Rattle.std.proofs.Common.{◌≡◌, ℕ, ◌+◌, ◌<◌, ◌⊎◌, Bool, true, false, nat_eq, refl, sym, ap}
use Rattle.std.proofs.Common.{◌∙◌, arith}
use Rattle.std.proofs.Common.{inl, inr}
use Rattle.play_model.specs.LookUps.{LookUps}
use Rattle.play_model.specs.State.{Playing}
use Rattle.scopes.specs.Desk.{Desk, Layout}
use Rattle.scopes.specs.Meaning.{Outcome, Left, each_one, ran}
use Rattle.player_memory.specs.declared.conditions.TheConstants.{SKIP_EFFECTS}
use Rattle.player_memory.specs.Rooms.{IsRoom, MayUse}
use Rattle.player_memory.specs.Playing.{IsAtVoice, there}
use Rattle.player_text.specs.declared.joints.TheConstants.{RUNNING, EFFECTED}
use Rattle.player_desk.proofs.Laws.{VoiceDesk, Reader, Lent, Leads, leaves, leads_on}
use Rattle.player_desk.proofs.Laws.{leaves_still, plays_so, reader_of, voice_desk, lent_of, begins}
use Rattle.player_desk.proofs.VoiceDesks.{Either}
use Rattle.wave_code.specs.EffectBlock.{effect_begun_tree, left_out, running, way_of, state_of, Begins}
use Rattle.wave_code.specs.EffectBlock.{EffectBlockBegins}
use Rattle.wave_code.proofs.Effects.{AtEffected, AtRunning, effect_ways, effect_leads}

-- outcomes by numbers
abbrev number_of : Outcome → ℕ
number_of (Left name) = name + 1
number_of outcome = 0

begins_running : (layout : Layout) (rows voice : ℕ) (look : LookUps) (s : Playing) (desk : Desk) → IsRoom layout rows →
    MayUse layout rows → voice < 3 → IsAtVoice voice desk →
    Leads (reader_of layout rows voice desk) effect_begun_tree
    (effect_ways (reader_of layout rows voice desk) look s (lent_of layout desk) (voice_desk layout voice desk))
    (voice_desk layout voice desk) → way_of (layout.holds SKIP_EFFECTS) s.voice ≡ Left RUNNING →
    Begins layout rows voice desk (ran each_one layout effect_begun_tree desk) look s
begins_running layout rows voice look s desk room uses few at leads way =
    let Q = AtRunning r look s handed d in
    let went = leaves_still RUNNING layout rows voice effect_begun_tree desk Q refl room uses few at
    (leads_on true r effect_begun_tree (effect_ways r look s handed d) (leaves RUNNING Q) d
    (record {
      done = λ m q. q;
      left = λ name m q. on (nat_eq name RUNNING) (nat_eq name EFFECTED) m q;
      again = λ m q. q;
    }) leads) in
    let plays = plays_so layout rows voice desk Q (there (ran each_one layout effect_begun_tree desk))
    (state_of (layout.holds SKIP_EFFECTS) look s) went.came (λ m q. q.done) in
    record { way = went.way ∙ sym way; plays = plays; a = λ e. went.came.shows.a ∙ went.came.holds.1.a }
  where
    r : Reader
    r = reader_of layout rows voice desk

    d : VoiceDesk
    d = voice_desk layout voice desk

    handed : Lent
    handed = lent_of layout desk

    on : (x y : Bool) (m : VoiceDesk) →
        Either x (AtRunning r look s handed d m) (Either y (AtEffected r look s handed d m) ⊥) →
        Either x (AtRunning r look s handed d m) ⊥
    on true y m q = q
    on false true m q = (let n = ap number_of (sym way ∙ q.way) in omega (arith, n))
    on false false m q = q

begins_effected : (layout : Layout) (rows voice : ℕ) (look : LookUps) (s : Playing) (desk : Desk) →
    IsRoom layout rows → MayUse layout rows → voice < 3 → IsAtVoice voice desk →
    Leads (reader_of layout rows voice desk) effect_begun_tree
    (effect_ways (reader_of layout rows voice desk) look s (lent_of layout desk) (voice_desk layout voice desk))
    (voice_desk layout voice desk) → way_of (layout.holds SKIP_EFFECTS) s.voice ≡ Left EFFECTED →
    Begins layout rows voice desk (ran each_one layout effect_begun_tree desk) look s
begins_effected layout rows voice look s desk room uses few at leads way =
    let Q = AtEffected r look s handed d in
    let went = leaves_still EFFECTED layout rows voice effect_begun_tree desk Q refl room uses few at
    (leads_on true r effect_begun_tree (effect_ways r look s handed d) (leaves EFFECTED Q) d
    (record {
      done = λ m q. q;
      left = λ name m q. on (nat_eq name RUNNING) (nat_eq name EFFECTED) m q;
      again = λ m q. q;
    }) leads) in
    let plays = plays_so layout rows voice desk Q (there (ran each_one layout effect_begun_tree desk))
    (state_of (layout.holds SKIP_EFFECTS) look s) went.came (λ m q. q.done) in
    record {
      way = went.way ∙ sym way;
      plays = plays;
      a = λ e. (let n = ap number_of (sym way ∙ e) in absurd (omega (arith, n)));
    }
  where
    r : Reader
    r = reader_of layout rows voice desk

    d : VoiceDesk
    d = voice_desk layout voice desk

    handed : Lent
    handed = lent_of layout desk

    on : (x y : Bool) (m : VoiceDesk) →
        Either x (AtRunning r look s handed d m) (Either y (AtEffected r look s handed d m) ⊥) →
        Either y (AtEffected r look s handed d m) ⊥
    on true y m q = (let n = ap number_of (sym way ∙ q.way) in absurd (omega (arith, n)))
    on false true m q = q
    on false false m q = q

-- the way is one of the two
way_out : (skips : Bool) (s : Playing) → left_out skips s.voice ≡ true → way_of skips s.voice ≡ Left EFFECTED
way_out skips s e = rw e refl

way_by : (skips : Bool) (s : Playing) (z : Bool) → left_out skips s.voice ≡ false → nat_eq (running s.voice) 0 ≡ z →
    (way_of skips s.voice ≡ Left EFFECTED) ⊎ (way_of skips s.voice ≡ Left RUNNING)
way_by skips s true e f = inl (rw (e, f) refl)
way_by skips s false e f = inr (rw (e, f) refl)

pub effect_block_begins : EffectBlockBegins
effect_block_begins layout rows voice look s desk room uses few at playing has keeps =
    whichever (left_out skips s.voice) refl
  where
    skips : Bool
    skips = layout.holds SKIP_EFFECTS

    r : Reader
    r = reader_of layout rows voice desk

    d : VoiceDesk
    d = voice_desk layout voice desk

    leads : Leads r effect_begun_tree (effect_ways r look s (lent_of layout desk) d) d
    leads = effect_leads r look s (lent_of layout desk) d d has keeps (begins layout voice desk s playing)

    whichever : (x : Bool) → left_out skips s.voice ≡ x →
        Begins layout rows voice desk (ran each_one layout effect_begun_tree desk) look s
    whichever true e = begins_effected layout rows voice look s desk room uses few at leads (way_out skips s e)
    whichever false e =
        elim (way_by skips s (nat_eq (running s.voice) 0) e refl) [
          | inl out ↦ begins_effected layout rows voice look s desk room uses few at leads out
          | inr runs ↦ begins_running layout rows voice look s desk room uses few at leads runs
        ]
