-- A layout may have no place for a label that no kept line names. What a block does in it is told by what it does in
-- two others, in which each label has a place: where these differ in no more than the places of such labels, and
-- neither run is stuck, no line reads or writes there. This is the project's own language of player code.
use Rattle.std.specs.Prelude.{◌≡◌, ◌≢◌, ℕ, ◌+◌, Bool, true, false}
use Rattle.scopes.specs.Desk.{Desk, Layout}
use Rattle.scopes.specs.Trees.{Tree}
use Rattle.scopes.specs.Meaning.{Stuck, Ran, each_one, ran}
use Rattle.scope_lines.specs.Reach.{Reach, has_lines}
use Rattle.scope_calls.specs.Entrances.{Entrance, have_lines}
use Rattle.scope_calls.specs.Meaning.{entrance_ran}
use Rattle.narrow_runs.specs.Named.{names, entrance_names}

-- ---- layouts and desks

-- a wide layout has these labels where the narrow one has them, the same pointer, the same conditions, and as many turns
-- in an open loop
pub record AgreesOn (named : ℕ → Bool) (narrow wide : Layout) : Type 0 where
  pub addresses : (label : ℕ) → named label ≡ true → wide.address label ≡ narrow.address label
  pub pointer : wide.pointer ≡ narrow.pointer
  pub holds : (condition : ℕ) → wide.holds condition ≡ narrow.holds condition
  pub open_turns : wide.open_turns ≡ narrow.open_turns

-- two wide layouts have more places each, and what both may read or write is none of these, and the narrow one may,
-- too; nor is the pointer one of them
pub record IsNarrow (narrow one two : Layout) (more other : ℕ → Bool) : Type 0 where
  pub reads : (place : ℕ) → one.may_read place ≡ true → two.may_read place ≡ true →
      (narrow.may_read place ≡ true) × (more place ≡ false) × (other place ≡ false)
  pub writes : (place : ℕ) → one.may_write place ≡ true → two.may_write place ≡ true →
      (narrow.may_write place ≡ true) × (more place ≡ false) × (other place ≡ false)
  pub low : (more narrow.pointer ≡ false) × (other narrow.pointer ≡ false)
  pub high : (more (narrow.pointer + 1) ≡ false) × (other (narrow.pointer + 1) ≡ false)

-- a desk is as another but for these places
pub record IsSameBut (more : ℕ → Bool) (one two : Desk) : Type 0 where
  pub cpu : one.cpu ≡ two.cpu
  pub at : (place : ℕ) → more place ≡ false → one.at place ≡ two.at place

-- ---- runs

-- a run has come to the same as two others, in as many instructions, each but for its places
pub record CameTo (more other : ℕ → Bool) (run one two : Ran) : Type 0 where
  pub as_one : run.outcome ≡ one.outcome
  pub as_two : run.outcome ≡ two.outcome
  pub cost : run.cost ≡ one.cost
  pub first : IsSameBut more run.desk one.desk
  pub second : IsSameBut other run.desk two.desk

-- a tree that has lines: its instructions read no byte but their operand's
abbrev pub TreesAreNarrow : Type 0
TreesAreNarrow =
    (reach : Reach) (tree : Tree) (narrow one two : Layout) (more other : ℕ → Bool) (desk first second : Desk) →
    has_lines reach tree ≡ true → AgreesOn (names narrow.holds tree) narrow one →
    AgreesOn (names narrow.holds tree) narrow two →
    IsNarrow narrow one two more other → IsSameBut more desk first → IsSameBut other desk second →
    (ran each_one one tree first).outcome ≢ Stuck → (ran each_one two tree second).outcome ≢ Stuck →
    CameTo more other (ran each_one narrow tree desk) (ran each_one one tree first) (ran each_one two tree second)

-- so it is with entrances
abbrev pub EntrancesAreNarrow : Type 0
EntrancesAreNarrow =
    (e : Entrance) (narrow one two : Layout) (more other : ℕ → Bool) (desk first second : Desk) →
    have_lines e ≡ true → AgreesOn (entrance_names narrow.holds e) narrow one →
    AgreesOn (entrance_names narrow.holds e) narrow two →
    IsNarrow narrow one two more other → IsSameBut more desk first → IsSameBut other desk second →
    (entrance_ran one e first).outcome ≢ Stuck → (entrance_ran two e second).outcome ≢ Stuck →
    CameTo more other (entrance_ran narrow e desk) (entrance_ran one e first) (entrance_ran two e second)
