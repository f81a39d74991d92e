-- The worked names and runs, computed by the checker.
use Rattle.std.proofs.Common.{◌≡◌, ◌≢◌, ◌⊎◌, ℕ, ◌+◌, ◌||◌, Bool, true, false, nat_eq, inl, inr, refl, sym, ap, ◌∙◌}
use Rattle.std.proofs.Common.{if◌then◌else◌}
use Rattle.std.proofs.lemmas.Bool.{or_cases, false≢true, eqb-true}
use Rattle.scopes.specs.Meaning.{Done, Stuck, Outcome}
use Rattle.scope_lines.specs.Reach.{nothing_around}
use Rattle.narrow_runs.specs.Named.{names, entrance_names}
use Rattle.narrow_runs.specs.Narrow.{AgreesOn, IsNarrow, IsSameBut}
use Rattle.narrow_runs.specs.WorkedNames.{NamesAreWorked, never, copying, narrow_one, wide_one, is_at, fives, fives_but}
use Rattle.narrow_runs.specs.WorkedNames.{copies, IsMet, AgreementIsDenied, NarrownessIsDenied, ResultsAreDenied}
use Rattle.narrow_runs.specs.WorkedNames.{OthersAreNotNarrow, RunsAreWorked}
use Rattle.narrow_runs.proofs.Trees.{trees_are_narrow}
use Rattle.narrow_runs.proofs.Entrances.{entrances_are_narrow}

pub names_are_worked : NamesAreWorked
names_are_worked = record {
  neither = refl;
  seven = refl;
  eight = refl;
  both = refl;
  entrance = refl;
  entrance_seven = refl;
  by_label = refl;
  by_none = refl;
  under_none = refl;
  under_it = refl;
  under_another = refl;
  under_first = refl;
  under_second = refl;
  under_neither = refl;
  all = refl;
  within = refl;
  around = refl;
  by_another = refl;
  this_side = refl;
  outside = refl;
  elsewhere = refl;
  other_side = refl;
  by_neither = refl;
  a_byte = refl;
  an_entry = refl;
  before = refl;
  behind = refl;
  in_a_scope = refl;
  in_a_loop = refl;
  in_this = refl;
  named = refl;
  not_there = refl;
}

-- ---- what the law asks

-- where label 3 isn't named
wide_agrees : (named : ℕ → Bool) (place : ℕ) → named 3 ≡ false → AgreesOn named narrow_one (wide_one place)
wide_agrees named place e = record {
  addresses = λ label f. by_test label (nat_eq label 3) refl f;
  pointer = refl;
  holds = λ condition. refl;
  open_turns = refl;
}
  where
    by_test : (label : ℕ) (z : Bool) → nat_eq label 3 ≡ z → named label ≡ true →
        (if z then place else 0x10 + label) ≡ 0x10 + label
    by_test label true f g =
        let three = ap named (eqb-true label 3 f) in
        absurd (false≢true (sym e ∙ (sym three ∙ g)))
    by_test label false f g = refl

-- where both have the place in common, it is the narrow one's
in_common : (here more other place : ℕ) → is_at more here ≡ false → is_at other here ≡ false → more ≢ other →
    (nat_eq place here || nat_eq place more) ≡ true → (nat_eq place here || nat_eq place other) ≡ true →
    (nat_eq place here ≡ true) × (is_at more place ≡ false) × (is_at other place ≡ false)
in_common here more other place off off' apart e f =
    by_cases (or_cases (nat_eq place here) (nat_eq place more) e) (or_cases (nat_eq place here) (nat_eq place other) f)
  where
    at_here : nat_eq place here ≡ true →
        (nat_eq place here ≡ true) × (is_at more place ≡ false) × (is_at other place ≡ false)
    at_here g =
        let is = eqb-true place here g in
        (g, ap (is_at more) is ∙ off, ap (is_at other) is ∙ off')

    by_cases : (nat_eq place here ≡ true) ⊎ (nat_eq place more ≡ true) →
        (nat_eq place here ≡ true) ⊎ (nat_eq place other ≡ true) →
        (nat_eq place here ≡ true) × (is_at more place ≡ false) × (is_at other place ≡ false)
    by_cases (inl g) h = at_here g
    by_cases (inr g) (inl h) = at_here h
    by_cases (inr g) (inr h) = absurd (apart (sym (eqb-true place more g) ∙ eqb-true place other h))

is_narrow : IsNarrow narrow_one (wide_one 0x20) (wide_one 0x30) (is_at 0x20) (is_at 0x30)
is_narrow = record {
  reads = λ place e f. in_common 0x11 0x20 0x30 place refl refl (λ e. absurd (cc)) e f;
  writes = λ place e f. in_common 0x12 0x20 0x30 place refl refl (λ e. absurd (cc)) e f;
  low = (refl, refl);
  high = (refl, refl);
}

still_narrow : IsNarrow narrow_one (wide_one 0) (wide_one 0x30) (is_at 0) (is_at 0x30)
still_narrow = record {
  reads = λ place e f. in_common 0x11 0 0x30 place refl refl (λ e. absurd (cc)) e f;
  writes = λ place e f. in_common 0x12 0 0x30 place refl refl (λ e. absurd (cc)) e f;
  low = (refl, refl);
  high = (refl, refl);
}

same_but : (place byte : ℕ) → IsSameBut (is_at place) fives (fives_but place byte)
same_but place byte = record { cpu = refl; at = λ q e. rw e refl }

done_not_stuck : (outcome : Outcome) → outcome ≡ Done → outcome ≢ Stuck
done_not_stuck outcome done stuck = (let no : Done ≡ Stuck = sym done ∙ stuck in cc)

is_met : IsMet
is_met = record {
  lines = refl;
  first_agrees = wide_agrees (names never copying) 0x20 refl;
  second_agrees = wide_agrees (names never copying) 0x30 refl;
  narrow = is_narrow;
  first_same = same_but 0x20 9;
  second_same = same_but 0x30 9;
  first_ends = refl;
  second_ends = refl;
  came = trees_are_narrow nothing_around copying narrow_one (wide_one 0x20) (wide_one 0x30) (is_at 0x20) (is_at 0x30)
      fives (fives_but 0x20 9) (fives_but 0x30 9) refl (wide_agrees (names never copying) 0x20 refl)
      (wide_agrees (names never copying) 0x30 refl) is_narrow (same_but 0x20 9) (same_but 0x30 9)
      (done_not_stuck Done refl) (done_not_stuck Done refl);
  byte = refl;
  steps = refl;
  have = refl;
  first_known = wide_agrees (entrance_names never copies) 0x20 refl;
  second_known = wide_agrees (entrance_names never copies) 0x30 refl;
  entrance = entrances_are_narrow copies narrow_one (wide_one 0x20) (wide_one 0x30) (is_at 0x20) (is_at 0x30) fives
      (fives_but 0x20 9) (fives_but 0x30 9) refl (wide_agrees (entrance_names never copies) 0x20 refl)
      (wide_agrees (entrance_names never copies) 0x30 refl) is_narrow (same_but 0x20 9) (same_but 0x30 9)
      (done_not_stuck Done refl) (done_not_stuck Done refl);
  ends = refl;
}

-- ---- what is refused

agreement : AgreementIsDenied
agreement = record {
  addresses = λ a. (let no : 0x20 ≡ 0x11 = a.addresses 1 refl in absurd (cc));
  pointer = λ a. false≢true (ap (nat_eq 0xFC) a.pointer);
  holds = λ a. false≢true (sym (a.holds 7));
  open_turns = λ a. (let no : 5 ≡ 4 = a.open_turns in cc);
}

narrowness : NarrownessIsDenied
narrowness = record {
  reads = λ n. false≢true (n.reads 0x40 refl refl).0;
  reads_more = λ n. false≢true (sym (n.reads 0x20 refl refl).1);
  reads_other = λ n. false≢true (sym (n.reads 0x30 refl refl).2);
  writes = λ n. false≢true (n.writes 0x40 refl refl).0;
  writes_more = λ n. false≢true (sym (n.writes 0x20 refl refl).1);
  writes_other = λ n. false≢true (sym (n.writes 0x30 refl refl).2);
  low = λ n. false≢true (sym n.low.0);
  low_other = λ n. false≢true (sym n.low.1);
  high = λ n. false≢true (sym n.high.0);
  high_other = λ n. false≢true (sym n.high.1);
}

results : ResultsAreDenied
results = record {
  cpu = λ s. (let no : 0 ≡ 1 = ap (λ c. c.a) s.cpu in absurd (cc));
  at = λ s. (let no : 5 ≡ 9 = s.at 0x30 refl in absurd (cc));
  as_one = λ c. (let no : Done ≡ Stuck = c.as_one in absurd (cc));
  as_two = λ c. (let no : Done ≡ Stuck = c.as_two in absurd (cc));
  cost = λ c. (let no : 0 ≡ 1 = c.cost in absurd (cc));
  first = λ c. (let no : 5 ≡ 9 = c.first.at 0x30 refl in absurd (cc));
  second = λ c. (let no : 5 ≡ 9 = c.second.at 0x20 refl in absurd (cc));
}

others : OthersAreNotNarrow
others = record {
  no_line = refl;
  still_narrow = still_narrow;
  lines = λ c. (let no : 5 ≡ 9 = ap (λ r. r.a) c.first.cpu in absurd (cc));
  addresses = λ c. (let no : 5 ≡ 9 = ap (λ r. r.a) c.first.cpu in absurd (cc));
  bytes = λ c. (let no : 5 ≡ 9 = ap (λ r. r.a) c.first.cpu in absurd (cc));
  reads = λ c. (let no : 5 ≡ 9 = ap (λ r. r.a) c.first.cpu in absurd (cc));
  pointer = λ c. (let no : 5 ≡ 9 = ap (λ r. r.a) c.first.cpu in absurd (cc));
  writes = λ c. (let no : Stuck ≡ Done = c.as_one in absurd (cc));
  first_stuck = λ c. (let no : Done ≡ Stuck = c.as_one in absurd (cc));
  second_stuck = λ c. (let no : Done ≡ Stuck = c.as_two in absurd (cc));
}

pub runs_are_worked : RunsAreWorked
runs_are_worked =
    record { met = is_met; agreement = agreement; narrowness = narrowness; results = results; others = others }
