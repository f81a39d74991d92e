-- One pattern more.
use Rattle.std.proofs.Common.{◌∷◌, ◌++◌, [], ℕ, List, sym, ap, ◌∙◌, arith, rules}
use Rattle.song_lists.proofs.PlaceSteps.{more_lists, list_fits, more_places}
use Rattle.song_lists.proofs.places.places_of_patterns.Goals as goal

pub overflow_add-place : goal.overflow_add-place
overflow_add-place c =
    let fit = list_fits c.args.patterns.now c.loop-pattern.pattern-index c.args.from c.loop-pattern.place
    c.pattern-item.result (search rules) c.pattern-item.is c.loop-pattern.invariant.place c.requires in
    let more = c.pattern_length-place.ensures in
    omega arith

pub loop-pattern-preserved : goal.loop-pattern-preserved
loop-pattern-preserved c = record {
  places = c.in_ok-push.ensures.ok
      ∙ ap (λ (places : List ℕ). places ++ c.loop-pattern.place ∷ []) c.loop-pattern.invariant.places
      ∙ sym (more_places c.args.from c.args.patterns.now c.loop-pattern.pattern-index c.loop-pattern.place
      c.pattern-item.result (search rules) c.pattern-item.is c.loop-pattern.invariant.place);
  place =
      let more = more_lists c.args.patterns.now c.loop-pattern.pattern-index c.pattern-item.result (search rules)
      c.pattern-item.is in
      let before = c.loop-pattern.invariant.place in
      let size = c.pattern_length-place.ensures in
      omega arith;
}
