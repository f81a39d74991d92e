-- A voice in code at its step, and what it stands for.
use Rattle.std.specs.Prelude.{◌≡◌}
use Rattle.song_model.specs.declared.orders.Order.{Order}
use Rattle.play_model.specs.declared.states.VoiceState.{VoiceState}
use Rattle.play_model.specs.State.{Common, Playing}
use Rattle.play_model.specs.StandsFor.{VoiceStandsFor}

-- the voice of a channel with this orderlist, and what the voices share, stand for these
pub record StepStandsFor (order : Order) (voice : VoiceState) (common : Common) (s : Playing) : Type 0 where
  pub voice_is : VoiceStandsFor order voice s.voice
  pub common_is : common ≡ s.common
