-- What a voice in code and what the voices share stand for at the voice's step, and after its tick and wave step.
use Rattle.std.specs.Prelude.{ℕ, Bool}
use Rattle.play_model.specs.declared.states.VoiceState.{VoiceState}
use Rattle.play_model.specs.State.{Common, Playing}
use Rattle.play_model.specs.StandsFor.{voice_after}
use Rattle.play_model.specs.TickStep.{Ticked}
use Rattle.play_model.specs.WaveStep.{Waved}

-- the voice has ended this many plays
abbrev pub playing_after : ℕ → VoiceState → Common → Playing
playing_after plays voice common = record { voice = voice_after plays voice; common = common }

-- after the tick step: whether a note was started
abbrev pub ticked_after : ℕ → VoiceState → Common → Bool → Ticked
ticked_after plays voice common started = record { playing = playing_after plays voice common; started = started }

-- after the wave step: whether the effect runs
abbrev pub waved_after : ℕ → VoiceState → Common → Bool → Waved
waved_after plays voice common effect = record { playing = playing_after plays voice common; effect = effect }
