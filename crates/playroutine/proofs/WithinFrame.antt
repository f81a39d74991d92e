-- What a state stands for after the filter step, and the registers of what it stands for.
use Rattle.std.proofs.Common.{◌≡◌, ℕ, List, ◌∙◌, ap}
use Rattle.song_model.specs.declared.orders.Order.{Order}
use Rattle.song_model.specs.declared.orders.Subtune.{Subtune}
use Rattle.play_model.specs.declared.states.VoiceState.{VoiceState}
use Rattle.play_model.specs.declared.states.PlayState.{PlayState}
use Rattle.play_model.specs.LookUps.{LookUps}
use Rattle.play_model.specs.State.{Voice, Common, FrameState}
use Rattle.play_model.specs.StandsFor.{voice_after, VoiceStandsFor, StateStandsFor}
use Rattle.play_model.specs.FilterStep.{filter_step}
use Rattle.play_model.specs.Frame.{voice_registers, filter_done}

pub filtered_lem : (look : LookUps) (subtune : Subtune) (state : PlayState) (x : FrameState) (common : Common) →
    StateStandsFor subtune state x → common ≡ filter_step look state.common →
    StateStandsFor subtune (record state { common = common }) (filter_done look x)
filtered_lem look subtune state x common s e =
    record { common = e ∙ ap (λ (c : Common). filter_step look c) s.common; one = s.one; two = s.two; three = s.three }

pub registers_lem : (order : Order) (voice : VoiceState) (v : Voice) (registers : List ℕ) →
    VoiceStandsFor order voice v → ((plays : ℕ) → registers ≡ voice_registers (voice_after plays voice)) →
    registers ≡ voice_registers v
registers_lem order voice v registers s law = law v.plays ∙ ap (λ (w : Voice). voice_registers w) s.rest
