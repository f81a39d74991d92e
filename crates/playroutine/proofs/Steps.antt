-- What a voice stands for after its step, whose rules speak of any count of plays.
use Rattle.std.proofs.Common.{◌≡◌, ℕ, true, false, refl, ◌∙◌, subst}
use Rattle.song_model.specs.declared.orders.Order.{Order}
use Rattle.song_model.specs.Places.{place_of}
use Rattle.play_model.specs.declared.options.Options.{Options}
use Rattle.play_model.specs.declared.states.VoiceState.{VoiceState}
use Rattle.play_model.specs.LookUps.{LookUps}
use Rattle.play_model.specs.State.{Voice, Common, Playing}
use Rattle.play_model.specs.StandsFor.{voice_after, VoiceStandsFor}
use Rattle.play_model.specs.TickStep.{Ticked, tick_step}
use Rattle.play_model.specs.WaveStep.{wave_step}
use Rattle.play_model.specs.Frame.{effect_done, pulse_done, row_fetched, after_tick, voice_step}
use Rattle.playroutine.specs.PlayingAfter.{playing_after, ticked_after}
use Rattle.playroutine.specs.AtStep.{StepStandsFor}

-- a voice, with what the voices share, stands for itself, with the plays whose place it has
own : (order : Order) (voice : VoiceState) (common : Common) (plays : ℕ) → voice.place ≡ place_of order plays →
    StepStandsFor order voice common (playing_after plays voice common)
own order voice common plays e = record { voice_is = record { place = e; rest = refl }; common_is = refl }

-- what a voice's step does after the tick step
abbrev Goes : Order → Options → LookUps → VoiceState → Common → Ticked → Type 0
Goes order o look new after t = StepStandsFor order new after (after_tick o look order t)

-- a tick step whatever it leaves, where what comes after it is known
pub behind_tick : (channel : ℕ) (o : Options) (look : LookUps) (order : Order) (old new : VoiceState)
    (before after : Common) (v : Voice) (t : Ticked) → VoiceStandsFor order old v →
    t ≡ tick_step channel look (playing_after v.plays old before) → Goes order o look new after t →
    StepStandsFor order new after (voice_step channel o look order (record { voice = v; common = before }))
unfolding voice_step
behind_tick channel o look order old new before after v t stands law goes =
    let P : Ticked → Type 0 = λ s. Goes order o look new after s in
    let Q : Voice → Type 0 = λ w. P (tick_step channel look (record { voice = w; common = before })) in
    subst Q stands.rest (subst P law goes)

-- a started note ends the step
pub started_lem : (channel : ℕ) (o : Options) (look : LookUps) (order : Order) (old new : VoiceState)
    (before after : Common) (v : Voice) → VoiceStandsFor order old v → new.place ≡ old.place →
    ticked_after v.plays new after true ≡ tick_step channel look (playing_after v.plays old before) →
    StepStandsFor order new after (voice_step channel o look order (record { voice = v; common = before }))
started_lem channel o look order old new before after v stands place law =
    let here = own order new after v.plays (place ∙ stands.place) in
    behind_tick channel o look order old new before after v _ stands law here

-- without one the programs, the effect and the fetch follow
pub goes_on_lem : (channel : ℕ) (o : Options) (look : LookUps) (order : Order) (old ticked done new : VoiceState)
    (before between after : Common) (v : Voice) → VoiceStandsFor order old v → ticked.place ≡ old.place →
    ticked_after v.plays ticked between false ≡ tick_step channel look (playing_after v.plays old before) →
    done.place ≡ ticked.place →
    playing_after v.plays done after
    ≡ pulse_done o look (effect_done o look (wave_step look (playing_after v.plays ticked between))) →
    ((w : Voice) (c : Common) → VoiceStandsFor order done w →
    StepStandsFor order new c (row_fetched look order (record { voice = w; common = c }))) →
    StepStandsFor order new after (voice_step channel o look order (record { voice = v; common = before }))
goes_on_lem channel o look order old ticked done new before between after v stands kept law kept_too rule fetch =
    let P : Playing → Type 0 = λ s. StepStandsFor order new after (row_fetched look order s) in
    let at : done.place ≡ place_of order v.plays = kept_too ∙ kept ∙ stands.place in
    let here = fetch (voice_after v.plays done) after (own order done after v.plays at).voice_is in
    behind_tick channel o look order old new before after v _ stands law (subst P rule here)
