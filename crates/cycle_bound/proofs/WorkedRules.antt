-- Numbers of small blocks are as they are worked by hand.
use Rattle.std.proofs.Common.{◌≡◌, ℕ, zero, suc, ◌<◌, ◌≤◌, get_or, List, [], ◌∷◌, lit≤, refl, sym, subst, arith}
use Rattle.scopes.specs.Trees.{Tree, tree_of}
use Rattle.scope_lines.specs.declared.worked.TheConstants.{CAPPED, LOUD, SOUGHT, SUMMED}
use Rattle.cycle_bound.specs.declared.worked.TheConstants.{KEPT, ONE_OF_TWO, IN_LOOPS, WRITES, LEFT_FAR, SAME_NAME}
use Rattle.cycle_bound.specs.declared.worked.TheConstants.{LEFT_EITHER, ENDLESS}
use Rattle.cycle_bound.specs.Rules.{nowhere, asked, Reaches, Setting}
use Rattle.cycle_bound.specs.WorkedRules.{none, only, with_turns, AreLeast, NumbersAreAsWorked}
use Rattle.cycle_bound.specs.WorkedRules.{LoopsAreCounted, WaysOutAreCounted, FarWaysAreCounted, OpenLoopsAreCounted}
use Rattle.cycle_bound.specs.WorkedRules.{WritesAreCounted, BranchesAreCounted, ConditionsAreCounted, EntrancesAreCounted}
use Rattle.cycle_bound.specs.WorkedRules.{FaultsAreWorked, SpansAreWorked}
use Rattle.scopes.specs.declared.worked.TheConstants.{HALVED_OPEN}
use Rattle.cycle_bound.proofs.Leasts.{reaches_itself}

least : (setting : Setting) (tree : Tree) (numbers : List ℕ) → asked setting nowhere 0 tree numbers ≡ numbers →
    AreLeast setting tree numbers
least setting tree numbers e = (e, subst (λ asked. Reaches asked numbers) (sym e) (reaches_itself numbers))

loops : LoopsAreCounted
loops = record {
  least = least none (tree_of SOUGHT.now) _ refl;
  raised = (lit≤ tt, (lit≤ tt, (lit≤ tt, (lit≤ tt, (lit≤ tt, (lit≤ tt, (lit≤ tt, (lit≤ tt, tt))))))));
  all_raised = (lit≤ tt, (lit≤ tt, (lit≤ tt, (lit≤ tt, (lit≤ tt, (lit≤ tt, (lit≤ tt, (lit≤ tt, tt))))))));
  lowered = λ h. (let e : 58 ≤ 57 = h.0 in omega arith);
  inner_raised = λ h. (let e : 60 ≤ 56 = h.1.1.0 in omega arith);
  one_turn = λ h. (let e : 56 ≤ 14 = h.1.1.0 in omega arith);
  free_page = λ h. (let e : 14 ≤ 13 = h.1.1.1.0 in omega arith);
  short_jump = λ h. (let e : 3 ≤ 2 = h.1.1.1.1.1.1.1.0 in omega arith);
  one_less = λ h. h.1.1.1.1.1.1.1;
  one_more = λ h. h.1.1.1.1.1.1.1.1;
  no_number = λ h. h;
}

open_loops : OpenLoopsAreCounted
open_loops = record {
  none = least (with_turns 0) (tree_of HALVED_OPEN.now) _ refl;
  two = least (with_turns 2) (tree_of HALVED_OPEN.now) _ refl;
  most = least (with_turns 300) (tree_of HALVED_OPEN.now) _ refl;
  more = (lit≤ tt, (lit≤ tt, (lit≤ tt, (lit≤ tt, tt))));
  once = λ h. (let e : 16 ≤ 8 = h.0 in omega arith);
  fewer = λ h. (let e : 24 ≤ 16 = h.0 in omega arith);
}

ways_out : WaysOutAreCounted
ways_out = record {
  least = least none (tree_of IN_LOOPS.now) _ refl;
  way_out_free = λ h. (let e : 79 ≤ 72 = h.1.0 in omega arith);
  inner_once = λ h. (let e : 20 ≤ 12 = h.1.1.1.0 in omega arith);
}

branches : BranchesAreCounted
branches = record {
  least = least none (tree_of ONE_OF_TWO.now) _ refl;
  lesser = λ h. (let e : 11 ≤ 6 = h.1.1.0 in omega arith);
  short_branch = λ h. (let e : 11 ≤ 10 = h.1.1.0 in omega arith);
}

conditions : ConditionsAreCounted
conditions = record {
  capped = least (only CAPPED) (tree_of SUMMED.now) _ refl;
  loud = least (only LOUD) (tree_of SUMMED.now) _ refl;
  not_kept = λ h. (let e : 10 ≤ 4 = h.1.1.1.1.1.1.1.1.1.0 in omega arith);
  other_side = λ h. (let e : 8 ≤ 4 = h.1.1.1.1.1.1.1.1.1.1.1.1.1.1.0 in omega arith);
  its_own = λ h. (let e : 2 ≤ 0 = h.1.1.1.1.1.1.1.1.1.1.0 in omega arith);
}

far : FarWaysAreCounted
far = record {
  kept = least (only KEPT) (tree_of LEFT_FAR.now) _ refl;
  left_out = least none (tree_of LEFT_FAR.now) _ refl;
  either = least (only KEPT) (tree_of LEFT_EITHER.now) _ refl;
  other = least none (tree_of LEFT_EITHER.now) _ refl;
  endless = least none (tree_of ENDLESS.now) _ refl;
  same_name = least none (tree_of SAME_NAME.now) _ refl;
}

writes : WritesAreCounted
writes = record { least = least none (tree_of WRITES.now) _ refl }

entrances : EntrancesAreCounted
entrances = record {
  volume = refl;
  voices = refl;
  volume_least = (lit≤ tt, (lit≤ tt, tt));
  voices_least = (lit≤ tt, (lit≤ tt, (lit≤ tt, (lit≤ tt, (lit≤ tt, tt)))));
  lowered = λ h. (let e : 4 ≤ 3 = h.0 in omega arith);
  two_voices = λ h. (let e : 57 ≤ 50 = h.0 in omega arith);
  uncalled = λ h. (let e : 57 ≤ 27 = h.0 in omega arith);
  exchanged = λ h. (let e : 5 ≤ 4 = h.1.1.1.1.0 in omega arith);
  no_voices = λ h. h.1.1.1;
  around = refl;
  calling = refl;
}

faults : FaultsAreWorked
faults = record {
  least = ((lit≤ tt, (lit≤ tt, tt)), refl);
  raised = ((lit≤ tt, (lit≤ tt, tt)), refl);
  lowered = (
    refl,
    record { there = lit≤ tt; short = lit≤ tt; before = λ other less. absurd (omega (arith, less)) },
  );
  second = (refl, record { there = lit≤ tt; short = lit≤ tt; before = first });
  missing = (λ e. omega (arith, e), refl);
  empty = (λ e. omega (arith, e), refl);
  more = (λ e. omega (arith, e), refl);
  not_its = λ told. (let e : 4 ≡ 9 = told.1 in omega (arith, e));
  not_admitted = λ told. (let e : 4 ≤ 3 = told.0.0 in omega (arith, e));
  not_first = λ told. (let e : 3 ≤ 2 = told.1.before 0 (omega arith) in omega (arith, e));
  not_small = λ told. (let e : 4 < 4 = told.1.short in omega (arith, e));
  not_bad = λ told. told.0 refl;
  shape_first = λ told. (let e : 1 ≡ 2 = told.0 in omega (arith, e));
  by_those_behind = (refl, record { there = lit≤ tt; short = lit≤ tt; before = first_reached });
  not_by_least = λ told. (let e : 3 < 3 = told.1.short in omega (arith, e));
  last_of_voice = (refl, record { there = lit≤ tt; short = lit≤ tt; before = four_reached });
  first_of_voice = (refl, record { there = lit≤ tt; short = lit≤ tt; before = three_reached });
  no_voice = (λ e. omega (arith, e), refl);
  voice_and_more = (λ e. omega (arith, e), refl);
  far_more = λ told. (let e : 4 ≡ 2 = told.1 in omega (arith, e));
}
  where
    first : (other : ℕ) → other < 1 → get_or (3 ∷ 4 ∷ []) other 0 ≤ get_or (4 ∷ 3 ∷ []) other 0
    first zero less = lit≤ tt
    first (suc other) less = absurd (omega (arith, less))

    first_reached : (other : ℕ) → other < 1 → get_or (3 ∷ 4 ∷ []) other 0 ≤ get_or (3 ∷ 3 ∷ []) other 0
    first_reached zero less = lit≤ tt
    first_reached (suc other) less = absurd (omega (arith, less))

    four_reached : (other : ℕ) → other < 4 →
        get_or (57 ∷ 6 ∷ 4 ∷ 6 ∷ 5 ∷ []) other 0 ≤ get_or (57 ∷ 6 ∷ 4 ∷ 7 ∷ 4 ∷ []) other 0
    four_reached zero less = lit≤ tt
    four_reached (suc zero) less = lit≤ tt
    four_reached (suc (suc zero)) less = lit≤ tt
    four_reached (suc (suc (suc zero))) less = lit≤ tt
    four_reached (suc (suc (suc (suc other)))) less = absurd (omega (arith, less))

    three_reached : (other : ℕ) → other < 3 →
        get_or (54 ∷ 6 ∷ 4 ∷ 7 ∷ 5 ∷ []) other 0 ≤ get_or (57 ∷ 6 ∷ 4 ∷ 6 ∷ 5 ∷ []) other 0
    three_reached zero less = lit≤ tt
    three_reached (suc zero) less = lit≤ tt
    three_reached (suc (suc zero)) less = lit≤ tt
    three_reached (suc (suc (suc other))) less = absurd (omega (arith, less))

spans : SpansAreWorked
spans = record { volume = refl; voices = refl; loops = refl }

pub numbers_are_as_worked : NumbersAreAsWorked
numbers_are_as_worked = record {
  spans = spans;
  faults = faults;
  far = far;
  writes = writes;
  entrances = entrances;
  loops = loops;
  open_loops = open_loops;
  ways_out = ways_out;
  branches = branches;
  conditions = conditions;
}
