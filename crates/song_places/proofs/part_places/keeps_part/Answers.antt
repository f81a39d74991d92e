use Rattle.play_model.specs.State.{no_options}
use Rattle.kept_lines.proofs.Laws.{sets_are_exact}
use Rattle.song_places.proofs.part_places.keeps_part.Goals as goal

pub returns : goal.returns
returns c =
    rw (c.hold.ensures, c.conditions.ensures, c.default.ensures) (sets_are_exact c.args.asked.0 no_options c.args.part)
