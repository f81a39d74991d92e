-- A voice's step of a frame, and its registers.
use Rattle.std.proofs.Common.{◌≡◌, ◌≢◌, ℕ, ◌&&◌, ◌||◌, Bool, true, List, refl, sym, ap, ◌∙◌}
use Rattle.std.proofs.Common.{subst}
use Rattle.song_model.specs.declared.orders.Order.{Order}
use Rattle.play_model.specs.declared.options.Options.{Options}
use Rattle.play_model.specs.LookUps.{LookUps}
use Rattle.play_model.specs.State.{Voice, Playing}
use Rattle.play_model.specs.PulseStep.{pulse_step}
use Rattle.play_model.specs.Frame.{is_at_fetch, is_between_patterns, pulse_left_out}
use Rattle.scopes.specs.Desk.{Desk, Layout}
use Rattle.scopes.specs.Trees.{ScopeTree}
use Rattle.scopes.specs.Meaning.{Done, Ran, each_one, ran}
use Rattle.player_memory.specs.declared.conditions.TheConstants.{SKIP_FIRST, PULSE_TABLE}
use Rattle.player_memory.specs.Playing.{own_at, Plays, with_voice}
use Rattle.player_text.specs.declared.joints.TheConstants.{EFFECTED}
use Rattle.player_text.specs.Steps.{tick_tree as tick_text, fetch_tree as fetch_text}
use Rattle.pitch_code.specs.GivenBackBlock.{given_back_tree, PlaysOwn, with_command}
use Rattle.pitch_code.proofs.Laws.{given_back_block_plays}
use Rattle.fetch_code.specs.FetchBlock.{Fetches, left_out}
use Rattle.fetch_code.specs.FetchBlock.{way_of as fetch_way}
use Rattle.pulse_code.specs.PulseBlock.{IsOnRow}
use Rattle.voice_code.specs.VoiceBlock.{KeepsOptions}
use Rattle.voice_code.proofs.Joining.{Comes, here}
use Rattle.voice_code.proofs.Ways.{Fetches as WayThrough}
use Rattle.voice_code.proofs.SongLists.{in_song_stays}
use Rattle.voice_code.proofs.Orders.{pulse_from, pulse_in_song}
use Rattle.voice_code.proofs.Stages.{Stage, NoneLent, stage_of, stage_then, none_stays, plain_of}
use Rattle.voice_code.proofs.Stages.{others_then, plain_then}
use Rattle.voice_code.proofs.Effects.{Ground}
use Rattle.voice_code.proofs.Waving.{effects_tree, IsLeft, AsItIs, WithLent, Effected}
use Rattle.voice_code.proofs.Ending.{Played}

-- ---- what is lent goes back

pub record Returned (layout : Layout) (rows voice : ℕ) (look : LookUps) (mid : Desk) (s : Playing) : Type 0 where
  pub lent_at : Desk
  pub after : Desk
  pub effects_come : Comes layout (ScopeTree EFFECTED effects_tree) mid Done lent_at
  pub back_comes : Comes layout given_back_tree lent_at Done after
  pub stage : Stage layout rows voice look mid after s
  pub none : NoneLent layout after

own_stage : (layout : Layout) (rows voice : ℕ) (look : LookUps) (before : Desk) (run : Ran) (s : Playing) →
    PlaysOwn layout rows voice before run s → Stage layout rows voice look before run.desk s
own_stage layout rows voice look before run s own = record {
  at_voice = own.at_voice;
  plays = own.plays;
  song = own.song;
  stays = own.stays;
  slides = plain_of layout rows look before.at run.desk.at own.slides;
}

same_own : (command param one two : ℕ) (u : Playing) → one ≡ command → two ≡ param →
    with_command one two u ≡ with_command command param u
same_own command param one two u commands params = rw (commands, params) refl

pub returned : (layout : Layout) (rows voice : ℕ) (look : LookUps) (mid : Desk) (s : Playing) → Ground layout rows voice →
    Effected layout rows voice look mid s → Returned layout rows voice look mid s
returned layout rows voice look mid s ground done = by_lent done.is_left
  where
    run : Ran
    run = ran each_one layout given_back_tree done.after

    by_lent : IsLeft layout rows voice look mid done.after s → Returned layout rows voice look mid s
    by_lent (AsItIs stage none) =
        (let back = given_back_block_plays layout rows voice s done.after ground.room ground.uses ground.few
        stage.at_voice stage.plays in
        let plays = back.none none in record {
          lent_at = done.after;
          after = run.desk;
          effects_come = done.comes;
          back_comes = here layout given_back_tree done.after Done plays.but_slides.ends;
          stage = stage_then layout rows voice look mid done.after run.desk s s stage
              (stage_of layout rows voice look done.after run s plays);
          none = none_stays layout rows voice done.after run s plays.but_slides none;
        })
    by_lent (WithLent u command param stage one kept is) =
        (let back = given_back_block_plays layout rows voice u done.after ground.room ground.uses ground.few
        stage.at_voice stage.plays in
        let own = back.lent one.lent kept in
        let same = same_own command param _ _ u one.command_is one.param_is ∙ is in record {
          lent_at = done.after;
          after = run.desk;
          effects_come = done.comes;
          back_comes = here layout given_back_tree done.after Done own.ends;
          stage = subst (Stage layout rows voice look mid run.desk) same
              (stage_then layout rows voice look mid done.after run.desk u _ stage
              (own_stage layout rows voice look done.after run _ own));
          none = own.lent;
        })

-- ---- the row

-- the voice's step up to the fetch, with what it has left behind that
pub record Fetched (layout : Layout) (rows voice label : ℕ) (look : LookUps) (packed : ℕ → List ℕ) (order : Order)
    (before : Desk) (out : Bool) (s : Playing) : Type 0 where
  pub after : Desk
  pub ways : WayThrough layout tick_text effects_tree given_back_tree fetch_text before (fetch_way out) after
  pub played : Played layout rows voice label look packed order before after s

pub played_of : (layout : Layout) (rows voice label : ℕ) (look : LookUps) (packed : ℕ → List ℕ) (order : Order)
    (before mid : Desk) (run : Ran) (out : Bool) (e s : Playing) → Stage layout rows voice look before mid e →
    Fetches layout rows voice label look packed order mid run (fetch_way out) s →
    Played layout rows voice label look packed order before run.desk s
played_of layout rows voice label look packed order before mid run out e s stage does = record {
  at_voice = does.at_voice;
  plays = does.plays;
  song = does.song;
  none = does.lent;
  stays = others_then layout rows voice before.at mid.at run.desk.at stage.stays does.stays;
  slides = plain_then layout rows look before.at mid.at run.desk.at stage.slides
      (plain_of layout rows look mid.at run.desk.at does.slides);
}

-- an option is kept where it is on
pub left_out_is : (layout : Layout) (o : Options) (v : Voice) → KeepsOptions layout o →
    left_out layout v ≡ pulse_left_out o v
left_out_is layout o v keeps =
    ap (λ skips. skips && is_at_fetch v || layout.holds SKIP_FIRST && is_between_patterns v) keeps.pulse
    ∙ ap (λ skips. o.skip_pulse && is_at_fetch v || skips && is_between_patterns v) keeps.first

-- ---- the pulse

-- the pulse step reads nothing of a voice but its pulse
pub on_row : (look : LookUps) (count : ℕ) (v w : Voice) → w ≡ pulse_from v w →
    IsOnRow look count v → IsOnRow look count w
on_row look count v w same on =
    subst (IsOnRow look count) (sym same)
    (record { row = on.row; next = on.next; runs = on.runs; time = on.time; width = on.width })

pub pulse_kept : (layout : Layout) (v w : Voice) → w ≡ pulse_from v w →
    (v.pulse_ptr ≢ 0 → layout.holds PULSE_TABLE ≡ true) → w.pulse_ptr ≢ 0 → layout.holds PULSE_TABLE ≡ true
pulse_kept layout v w same keeps some = keeps (λ none. some (ap (λ (u : Voice). u.pulse_ptr) same ∙ none))

pub pulsed : (layout : Layout) (rows voice label : ℕ) (look : LookUps) (packed : ℕ → List ℕ) (order : Order)
    (before mid : Desk) (run : Ran) (s : Playing) → Played layout rows voice label look packed order before mid s →
    Plays layout rows voice mid run (with_voice (pulse_step look s.voice) s) →
    Played layout rows voice label look packed order before run.desk (with_voice (pulse_step look s.voice) s)
pulsed layout rows voice label look packed order before mid run s played plays = record {
  at_voice = plays.but_slides.at_voice;
  plays = plays.but_slides.plays;
  song = in_song_stays layout label look packed order s.voice (pulse_step look s.voice) (own_at layout mid.at voice)
      (own_at layout run.desk.at voice) (pulse_in_song look s.voice) plays.but_slides.song played.song;
  none = plays.but_slides.lent ∙ played.none;
  stays = others_then layout rows voice before.at mid.at run.desk.at played.stays plays.but_slides.stays;
  slides = plain_then layout rows look before.at mid.at run.desk.at played.slides
      (plain_of layout rows look mid.at run.desk.at plays.slides);
}
