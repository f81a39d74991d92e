use Rattle.std.proofs.Common.{◌∙◌, ap}
use Rattle.play_model.specs.LookUps.{look_ups_of}
use Rattle.play_model.specs.State.{Common}
use Rattle.play_model.specs.Frame.{filter_registers, filter_done, voices_done, frame_of}
use Rattle.playroutine.proofs.WithinFrame.{filtered_lem, registers_lem}
use Rattle.playroutine.proofs.JoinedLists.{same_joined}
use Rattle.playroutine.proofs.frames.frame_of.Goals as goal

pub voices_done-requires-clause-stands : goal.voices_done-requires-clause-stands
voices_done-requires-clause-stands c =
    let look = look_ups_of c.args.song.now in (
      filter_done look c.requires.stands.0,
      filtered_lem look c.args.subtune.now c.args.state.now c.requires.stands.0 c.filter_step.new.common
          c.requires.stands.1 c.filter_step.ensures,
    )

pub returns-clause-registers : goal.returns-clause-registers
unfolding frame_of
returns-clause-registers c = λ x s.
    let look = look_ups_of c.args.song.now in
    let common = c.filter_step.new.common in
    let filtered = filtered_lem look c.args.subtune.now c.args.state.now x common s c.filter_step.ensures in
    let y = voices_done c.args.options.now look c.args.subtune.now (filter_done look x) in
    let stands = c.voices_done.ensures (filter_done look x) filtered in
    let now = c.voices_done.new.state in
    c.all_registers.ensures
    ∙ same_joined _ _ _ _ _ _ _ _
    (registers_lem c.args.subtune.now.one now.one y.one _ stands.one c.voice_registers-one.ensures)
    (registers_lem c.args.subtune.now.two now.two y.two _ stands.two c.voice_registers-two.ensures)
    (registers_lem c.args.subtune.now.three now.three y.three _ stands.three c.voice_registers-three.ensures)
    (c.filter_registers-filter.ensures ∙ ap (λ (z : Common). filter_registers z) filtered.common)

pub returns-clause-state : goal.returns-clause-state
unfolding frame_of
returns-clause-state c = λ x s.
    let look = look_ups_of c.args.song.now in
    c.voices_done.ensures (filter_done look x)
    (filtered_lem look c.args.subtune.now c.args.state.now x c.filter_step.new.common s c.filter_step.ensures)
