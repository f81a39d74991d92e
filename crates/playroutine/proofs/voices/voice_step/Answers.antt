use Rattle.play_model.specs.LookUps.{look_ups_of}
use Rattle.playroutine.proofs.Steps.{started_lem, goes_on_lem}
use Rattle.playroutine.proofs.voices.voice_step.Goals as goal

pub returns-then-not-tick_step : goal.returns-then-not-tick_step
returns-then-not-tick_step c = λ v stands.
    goes_on_lem c.args.channel c.args.options.now (look_ups_of c.args.song.now) c.args.order.now c.args.voice.now
    c.tick_step.new.voice c.programs_done.new.voice c.row_fetched.new.voice c.args.common.now
    c.tick_step.new.common c.programs_done.new.common v stands c.tick_step.ensures.place
    (c.if-not-tick_step.ensures.rule v.plays) c.programs_done.ensures.place (c.programs_done.ensures.rule v.plays)
    c.row_fetched.ensures

pub returns-else-not-tick_step : goal.returns-else-not-tick_step
returns-else-not-tick_step c = λ v stands.
    started_lem c.args.channel c.args.options.now (look_ups_of c.args.song.now) c.args.order.now c.args.voice.now
    c.tick_step.new.voice c.args.common.now c.tick_step.new.common v stands c.tick_step.ensures.place
    (c.if-not-tick_step.ensures.rule v.plays)
