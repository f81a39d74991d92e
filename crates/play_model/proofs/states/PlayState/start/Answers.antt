use Rattle.std.proofs.Common.{refl}
use Rattle.play_model.proofs.states.PlayState.start.Goals as goal

pub returns : goal.returns
returns c = λ subtune. record {
  common = rw c.calls-calls.ensures.calls refl;
  one = c.start_voice.ensures subtune.one;
  two = c.start_voice-2.ensures subtune.two;
  three = c.start_voice-3.ensures subtune.three;
}
