-- What is told of the numbers of a small program.
use Rattle.std.proofs.Common.{◌≡◌, ℕ, zero, suc, ◌<◌, ◌≤◌, List, [], ◌∷◌, refl, lit<, lit≤, arith}
use Rattle.cycle_bound.specs.Faults.{at_place}
use Rattle.player_bound.specs.Programs.{both_asked}
use Rattle.worked_bounds.specs.WorkedAnswers.{small, AnswersAreWorked}

-- none in front of a place is less than it must be
abbrev Reach : List ℕ → ℕ → Type 0
Reach numbers place =
    (other : ℕ) → other < place → at_place (both_asked small numbers) other ≤ at_place numbers other

before_one : Reach (2 ∷ 1 ∷ 38 ∷ 2 ∷ 2 ∷ []) 1
before_one zero few = lit≤ tt
before_one (suc other) few = absurd (omega (arith, few))

before_two : Reach (2 ∷ 2 ∷ 37 ∷ 2 ∷ 2 ∷ []) 2
before_two zero few = lit≤ tt
before_two (suc zero) few = lit≤ tt
before_two (suc (suc other)) few = absurd (omega (arith, few))

before_four : Reach (2 ∷ 2 ∷ 38 ∷ 2 ∷ 1 ∷ []) 4
before_four zero few = lit≤ tt
before_four (suc zero) few = lit≤ tt
before_four (suc (suc zero)) few = lit≤ tt
before_four (suc (suc (suc zero))) few = lit≤ tt
before_four (suc (suc (suc (suc other)))) few = absurd (omega (arith, few))

pub answers_are_worked : AnswersAreWorked
answers_are_worked = record {
  least = record {
    init_admitted = (lit≤ tt, (lit≤ tt, tt));
    play_admitted = (lit≤ tt, (lit≤ tt, (lit≤ tt, tt)));
    init = refl;
    play = refl;
  };
  raised = record {
    init_admitted = (lit≤ tt, (lit≤ tt, tt));
    play_admitted = (lit≤ tt, (lit≤ tt, (lit≤ tt, tt)));
    init = refl;
    play = refl;
  };
  of_init = (refl, record { there = lit< tt; short = lit< tt; before = before_one });
  of_play = (refl, record { there = lit< tt; short = lit< tt; before = before_two });
  of_voice = (refl, record { there = lit< tt; short = lit< tt; before = before_four });
  missing = ((λ e. omega (arith, e)), refl);
  none = ((λ e. omega (arith, e)), refl);
  more = ((λ e. omega (arith, e)), refl);
  not_exchanged = λ is. (let e = is.init in omega (arith, e));
  not_by_its_own = λ is. (let less = is.1.short in omega (arith, less));
  not_later = λ is. (let least = is.1.before 0 (lit< tt) in omega (arith, least));
  not_admitted = λ is. (let least = is.play_admitted.0 in omega (arith, least));
}
