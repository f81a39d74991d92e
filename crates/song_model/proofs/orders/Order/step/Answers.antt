use Rattle.std.proofs.Common.{slice_index_or, sym, ap, ◌∙◌}
use Rattle.song_model.specs.Walk.{no_step}
use Rattle.song_model.specs.Places.{first_place, restarted}
use Rattle.song_model.specs.WalkRest.{coming_plays, coming_places}
use Rattle.song_model.proofs.PlaceLaws.{comes_at, place_of_next}
use Rattle.song_model.proofs.orders.Order.step.Goals as goal

pub next_pattern-here-requires-clause-on_walk : goal.next_pattern-here-requires-clause-on_walk
next_pattern-here-requires-clause-on_walk c =
    rw c.requires.place.1 (comes_at c.args.self.now c.requires.endless c.requires.place.0).on_walk

pub returns-clause-step : goal.returns-clause-step
returns-clause-step c = λ i e.
    c.play_at.ensures ∙ sym c.next_pattern-here.ensures.play ∙ ap
    (λ at. slice_index_or (coming_plays c.args.self.now at) 0 no_step) e ∙
    (comes_at c.args.self.now c.requires.endless i).play

pub returns-clause-place : goal.returns-clause-place
returns-clause-place c = λ i e.
    c.after_play.ensures
    ∙ ap (restarted c.args.self.now)
    (sym c.next_pattern-here.ensures.place ∙ ap
    (λ at. slice_index_or (coming_places c.args.self.now at) 0 first_place) e ∙
    (comes_at c.args.self.now c.requires.endless i).place)
    ∙ sym (place_of_next c.args.self.now i)
