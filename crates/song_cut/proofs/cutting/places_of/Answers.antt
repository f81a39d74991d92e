use Rattle.std.proofs.Common.{ℕ, List, [], ◌∷◌, ◌++◌, map, take, nat_eq, sym, ap, ◌∙◌}
use Rattle.std.specs.List.{position_or_len}
use Rattle.std.proofs.lemmas.List.{map_more}
use Rattle.song_cut.proofs.cutting.places_of.Goals as goal

pub loop-number-preserved : goal.loop-number-preserved
loop-number-preserved c =
    let place = λ (k : ℕ). position_or_len (nat_eq k) c.args.order.now in
    c.in_ok-push.ensures.items
    ∙ ap (λ (places : List ℕ). places ++ c.place_of.result ∷ []) c.loop-number.invariant
    ∙ ap (λ (k : ℕ). map place (take c.loop-number.number-index c.args.numbers.now) ++ k ∷ []) c.place_of.ensures
    ∙ sym (map_more place c.args.numbers.now c.loop-number.number-index 0 c.loop-number-test.true)
