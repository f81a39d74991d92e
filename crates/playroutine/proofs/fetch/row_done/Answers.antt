use Rattle.std.proofs.Common.{ℤ, w8, ◌∙◌, ap}
use Rattle.std.proofs.lemmas.Int.{to_z-of_z}
use Rattle.play_model.specs.State.{Voice}
use Rattle.play_model.specs.LookUps.{look_ups_of}
use Rattle.play_model.specs.StandsFor.{voice_after}
use Rattle.play_model.specs.FetchRow.{gate_keyed, note_waits}
use Rattle.playroutine.proofs.fetch.row_done.Goals as goal

pub returns-clause-rule : goal.returns-clause-rule
returns-clause-rule c = λ plays.
    let look = look_ups_of c.args.song.now in
    let note = c.args.row.note in
    c.note_waits.ensures.rule plays
    ∙ ap (λ (t : ℤ). note_waits look note t (voice_after plays c.gate_keyed.new.voice))
    (to_z-of_z w8 c.args.transpose c.ranges.transpose)
    ∙ ap (λ (v : Voice). note_waits look note c.args.transpose v)
    (c.gate_keyed.ensures.rule plays
    ∙ ap (λ (v : Voice). gate_keyed note v) (c.row_taken.ensures.rule plays))
