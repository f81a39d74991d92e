-- From the end of the tick step to where the effect is done.
use Rattle.std.proofs.Common.{◌≡◌, ℕ, Bool, true, false, nat_eq, refl, sym}
use Rattle.std.proofs.Common.{ap, ◌∙◌, subst}
use Rattle.std.proofs.lemmas.Bool.{eqb-false}
use Rattle.play_model.specs.declared.options.Options.{Options}
use Rattle.play_model.specs.LookUps.{LookUps}
use Rattle.play_model.specs.State.{Voice, Playing}
use Rattle.play_model.specs.WaveStep.{Waved, with_note, wave_step}
use Rattle.play_model.specs.EffectStep.{effect_step}
use Rattle.play_model.specs.Frame.{effect_done as effect_rule}
use Rattle.asked_numbers.specs.declared.range.NumberRange.{NumberRange}
use Rattle.asked_numbers.specs.Range.{IsInRange}
use Rattle.scopes.specs.Desk.{Desk, Layout}
use Rattle.scopes.specs.Trees.{Tree, ScopeTree}
use Rattle.scopes.specs.Meaning.{Done, Left, Ran, each_one, ran}
use Rattle.player_memory.specs.declared.conditions.TheConstants.{WAVE_COMMAND, SKIP_EFFECTS}
use Rattle.player_memory.specs.Playing.{IsPlaying, IsAtVoice, with_voice, there}
use Rattle.player_text.specs.declared.joints.TheConstants.{EFFECTED, PITCHED, RUNNING}
use Rattle.pitch_code.specs.PitchBlock.{pitch_tree}
use Rattle.pitch_code.specs.GivenBackBlock.{with_command}
use Rattle.pitch_code.proofs.Laws.{pitch_block_sets}
use Rattle.wave_code.specs.WaveBlock.{wave_tree, HasWaveTable}
use Rattle.wave_code.specs.EffectBlock.{effect_begun_tree, running, left_out, Begins}
use Rattle.wave_code.specs.EffectBlock.{way_of as effect_way, state_of as effect_state}
use Rattle.wave_code.specs.CommandBlock.{command_row_tree}
use Rattle.wave_code.proofs.Laws.{effect_block_begins}
use Rattle.slide_code.specs.SlideBlock.{slide_tree, moved_by, HasHalfTones, HasSpeeds}
use Rattle.voice_code.specs.VoiceBlock.{Counts, WaveIsReady, EffectIsReady, KeepsOptions}
use Rattle.voice_code.proofs.Joining.{Comes, here}
use Rattle.voice_code.proofs.Ways.{running as running_tree, effecting, note_leaves, effect_leaves}
use Rattle.voice_code.proofs.Ways.{effect_over, note_set}
use Rattle.voice_code.proofs.Lists.{waves_stay, tones_stay, speeds_stay}
use Rattle.voice_code.proofs.Stages.{Stage, NoneLent, OneLent, stage_of, stage_then, none_stays, lists_of}
use Rattle.voice_code.proofs.Rules.{effect_left_out, effect_runs}
use Rattle.voice_code.proofs.Running.{runs_as}
use Rattle.voice_code.proofs.Effects.{Ground, moves}

-- ---- what the code stands on behind the tick step

-- the lists that the wave step and the effect step read
pub record Tables (layout : Layout) (rows : ℕ) (at : ℕ → ℕ) (look : LookUps) (counts : Counts) : Type 0 where
  pub waves : HasWaveTable layout rows at look counts.waves
  pub tones : HasHalfTones layout rows at counts.numbers
  pub speeds : HasSpeeds layout rows at look counts.speeds

pub tables_stay : (layout : Layout) (rows voice : ℕ) (look : LookUps) (counts : Counts) (before after : Desk)
    (s : Playing) → Stage layout rows voice look before after s → Tables layout rows before.at look counts →
    Tables layout rows after.at look counts
tables_stay layout rows voice look counts before after s stage has =
    let stay = lists_of layout rows voice look before after s stage in record {
      waves = waves_stay layout rows look before.at after.at counts.waves stay has.waves;
      tones = tones_stay layout rows look before.at after.at counts.numbers stay has.tones;
      speeds = speeds_stay layout rows look before.at after.at counts.speeds stay has.speeds;
    }

-- the voice plays there, no command is lent, and the steps are ready
pub record Scene (layout : Layout) (rows voice : ℕ) (look : LookUps) (counts : Counts) (o : Options) (s : Playing)
    (desk : Desk) : Type 0 where
  pub at_voice : IsAtVoice voice desk
  pub plays : IsPlaying layout voice s desk.at
  pub none : NoneLent layout desk
  pub tables : Tables layout rows desk.at look counts
  pub options : KeepsOptions layout o
  pub wave : WaveIsReady layout look counts s
  pub effect : (wave_step look s).effect ≡ true →
      EffectIsReady layout look counts (wave_step look s).playing.voice

-- ---- what it comes to

abbrev pub runs_tree : Tree
runs_tree = running_tree wave_tree effect_begun_tree command_row_tree

abbrev pub effects_tree : Tree
effects_tree = effecting runs_tree slide_tree pitch_tree

-- no command is lent, or one is, and the voice plays with it in the place of its own
pub data IsLeft (layout : Layout) (rows voice : ℕ) (look : LookUps) (before after : Desk) (s : Playing) : Type 0 where
  AsItIs : Stage layout rows voice look before after s → NoneLent layout after →
      IsLeft layout rows voice look before after s
  WithLent : (u : Playing) (command param : ℕ) → Stage layout rows voice look before after u →
      OneLent layout after command param → layout.holds WAVE_COMMAND ≡ true → with_command command param u ≡ s →
      IsLeft layout rows voice look before after s

pub record Effected (layout : Layout) (rows voice : ℕ) (look : LookUps) (before : Desk) (s : Playing) : Type 0 where
  pub after : Desk
  pub comes : Comes layout (ScopeTree EFFECTED effects_tree) before Done after
  pub is_left : IsLeft layout rows voice look before after s

-- ---- the wave step's note

pub noted : (layout : Layout) (rows voice : ℕ) (range : NumberRange) (look : LookUps) (desk mid : Desk)
    (s : Playing) (t : Playing) → Ground layout rows voice → HasHalfTones layout rows desk.at range →
    IsInRange range mid.cpu.a → Comes layout wave_tree desk (Left PITCHED) mid →
    Stage layout rows voice look desk mid s → NoneLent layout mid →
    t ≡ record s { voice = with_note mid.cpu.a s.voice } → Effected layout rows voice look desk t
noted layout rows voice range look desk mid s t ground tones inside comes stage none is =
    let stay = lists_of layout rows voice look desk mid s stage in
    let run = ran each_one layout pitch_tree mid in
    let note = pitch_block_sets layout rows voice range s mid ground.room ground.uses
    (tones_stay layout rows look desk.at mid.at range stay tones).frequencies inside ground.few stage.at_voice
    stage.plays in
    let final = stage_then layout rows voice look desk mid run.desk s _ stage
    (stage_of layout rows voice look mid run _ note) in record {
      after = run.desk;
      comes = note_set layout runs_tree slide_tree pitch_tree desk mid run.desk
          (note_leaves layout wave_tree effect_begun_tree command_row_tree desk mid comes)
          (here layout pitch_tree mid Done note.but_slides.ends);
      is_left = AsItIs (subst (Stage layout rows voice look desk run.desk) (sym is) final)
          (none_stays layout rows voice mid run _ note.but_slides none);
    }

-- ---- the effect step

-- where the wave step lets it run, the effect runs, or doesn't
pub effected : (layout : Layout) (rows voice : ℕ) (look : LookUps) (counts : Counts) (o : Options) (desk mid : Desk)
    (w : Waved) → Ground layout rows voice → KeepsOptions layout o → Tables layout rows desk.at look counts →
    EffectIsReady layout look counts w.playing.voice → w.effect ≡ true → Comes layout wave_tree desk Done mid →
    Stage layout rows voice look desk mid w.playing → NoneLent layout mid →
    Effected layout rows voice look desk (effect_rule o look w)
effected layout rows voice look counts o desk mid w ground options tables ready effect comes stage none =
    by_option (left_out (layout.holds SKIP_EFFECTS) w.playing.voice) refl
  where
    v : Voice
    v = w.playing.voice

    run : Ran
    run = ran each_one layout effect_begun_tree mid

    does : Begins layout rows voice mid run look w.playing
    does =
        effect_block_begins layout rows voice look w.playing mid ground.room ground.uses ground.few stage.at_voice
        stage.plays ready.has ready.keeps

    behind : Stage layout rows voice look desk run.desk (effect_state (layout.holds SKIP_EFFECTS) look w.playing)
    behind =
        stage_then layout rows voice look desk mid run.desk w.playing _ stage
        (stage_of layout rows voice look mid (there run) _ does.plays)

    still_none : NoneLent layout run.desk
    still_none = none_stays layout rows voice mid (there run) _ does.plays.but_slides none

    over : (t : Playing) → run.outcome ≡ Left EFFECTED →
        effect_state (layout.holds SKIP_EFFECTS) look w.playing ≡ t → effect_rule o look w ≡ t →
        Effected layout rows voice look desk (effect_rule o look w)
    over t way here_is rule_is = record {
      after = run.desk;
      comes = effect_over layout runs_tree slide_tree pitch_tree desk run.desk
          (effect_leaves layout wave_tree effect_begun_tree command_row_tree desk mid EFFECTED run.desk refl comes
          (here layout effect_begun_tree mid (Left EFFECTED) way));
      is_left = AsItIs (subst (Stage layout rows voice look desk run.desk) (here_is ∙ sym rule_is) behind) still_none;
    }

    out_of : (out : Bool) → left_out (layout.holds SKIP_EFFECTS) v ≡ out → left_out o.skip_effects v ≡ out
    out_of out e = subst (λ skips. left_out skips v ≡ out) options.effects e

    runs : left_out (layout.holds SKIP_EFFECTS) v ≡ false → nat_eq (running v) 0 ≡ false →
        Effected layout rows voice look desk (effect_rule o look w)
    runs out e =
        let some = eqb-false (running v) 0 e in
        let way : effect_way (layout.holds SKIP_EFFECTS) v ≡ Left RUNNING = rw (out, e) refl in
        let same : effect_state (layout.holds SKIP_EFFECTS) look w.playing ≡ w.playing = rw (out, e) refl in
        let one = runs_as look v ready.has.command some in
        let stage_there : Stage layout rows voice look desk run.desk w.playing =
        subst (Stage layout rows voice look desk run.desk) same behind in
        let tables_there = tables_stay layout rows voice look counts desk run.desk w.playing stage_there tables in
        let moved = moves layout rows voice look counts (running v) w.playing runs_tree desk run.desk ground
        (effect_leaves layout wave_tree effect_begun_tree command_row_tree desk mid RUNNING run.desk refl comes
        (here layout effect_begun_tree mid (Left RUNNING) (does.way ∙ way)))
        (record {
          a = does.a way;
          least = one.least;
          most = one.most;
          its = one.its;
          moved = ready.moves out some;
          at_voice = stage_there.at_voice;
          plays = stage_there.plays;
          tones = tables_there.tones;
          speeds = tables_there.speeds;
        }) in
        let is : with_voice (moved_by (running v) look v) w.playing ≡ effect_rule o look w =
        ap (λ u. with_voice u w.playing) (sym one.is) ∙ sym (effect_runs o look w effect (out_of false out)) in record {
          after = moved.after;
          comes = moved.comes;
          is_left = AsItIs
              (subst (Stage layout rows voice look desk moved.after) is
              (stage_then layout rows voice look desk run.desk moved.after w.playing _ stage_there moved.stage))
              (moved.none still_none);
        }

    by_command : (none : Bool) → nat_eq (running v) 0 ≡ none →
        left_out (layout.holds SKIP_EFFECTS) v ≡ false → Effected layout rows voice look desk (effect_rule o look w)
    by_command true e out =
        (let way : effect_way (layout.holds SKIP_EFFECTS) v ≡ Left EFFECTED = rw (out, e) refl in
        let same : effect_state (layout.holds SKIP_EFFECTS) look w.playing
        ≡ with_voice (effect_step look v) w.playing = rw (out, e) refl in
        over (with_voice (effect_step look v) w.playing) (does.way ∙ way) same
        (effect_runs o look w effect (out_of false out)))
    by_command false e out = runs out e

    by_option : (out : Bool) → left_out (layout.holds SKIP_EFFECTS) v ≡ out →
        Effected layout rows voice look desk (effect_rule o look w)
    by_option true e =
        (let way : effect_way (layout.holds SKIP_EFFECTS) v ≡ Left EFFECTED = rw e refl in
        let same : effect_state (layout.holds SKIP_EFFECTS) look w.playing ≡ w.playing = rw e refl in
        over w.playing (does.way ∙ way) same (effect_left_out o look w (out_of true e)))
    by_option false e = by_command (nat_eq (running v) 0) refl e
