-- The marks by their places.
use Rattle.std.proofs.Common.{List, sym, subst, rules}
use Rattle.std.specs.List.Sorted.{IsNonDecreasingBy}
use Rattle.std.proofs.lemmas.List.Sorted.{IsNonDecreasingBy-from_sort_by_key}
use Rattle.song_lists.specs.declared.marks.Mark.{Mark}
use Rattle.song_lists.proofs.marks.sorted.Goals as goal

pub returns-clause-rise : goal.returns-clause-rise
returns-clause-rise c =
    subst (λ (marks : List Mark). IsNonDecreasingBy (λ mark. mark.place) marks) (sym c.from_vec.ensures)
    (IsNonDecreasingBy-from_sort_by_key (λ mark. mark.place) _ c.in_ok-sort_by_key.ensures.sorted
    (λ a r q k. search rules))
