-- The place of the field and the voice.
use Rattle.std.proofs.Common.{ap, ap₂, ◌∙◌}
use Rattle.scope_lines.specs.Readings.{holds_in}
use Rattle.variable_places.specs.Places.{voice_rows, voice_labels, own_place, position_in}
use Rattle.variable_places.proofs.places.voice_place.Goals as goal

pub returns : goal.returns
unfolding voice_rows voice_labels
returns c =
    c.own_place.ensures.place
    ∙ ap₂ own_place
    (c.position_in-field.ensures.position
    ∙ ap (position_in (voice_labels (holds_in c.args.conditions.0))) c.base_of.ensures)
    c.voice_of.ensures.voice
