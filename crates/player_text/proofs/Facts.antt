-- The facts, computed by the checker.
use Rattle.std.proofs.Common.{◌≡◌, ℕ, ◌+◌, ◌-◌, ◌<◌, ◌≤◌, Bool, true, false, refl, ap, ◌∙◌, nat_eq, nat_lt, arith}
use Rattle.std.specs.Prelude.{if◌then◌else◌, max}
use Rattle.std.proofs.Math.Nat.{le-max_left, le-max_right}
use Rattle.std.proofs.lemmas.Bool.{lt-ltb, eqb-true}
use Rattle.scopes.specs.Trees.{Tree, DoTree, WithTree, NoneTree, ThenTree, ScopeTree, LeaveTree, LeaveIfTree, LoopTree}
use Rattle.scopes.specs.Trees.{AgainTree, AgainIfTree, WhenTree, ChooseTree, NeverTree}
use Rattle.scope_lines.specs.Sizes.{size, most}
use Rattle.scope_lines.proofs.Laws.{sizes_are_bounded}
use Rattle.player_memory.specs.declared.conditions.TheConstants.{FUNK_TEMPO}
use Rattle.player_text.specs.Texts.{filter_tree, voice_tree, init_tree}
use Rattle.player_text.specs.Steps.{AreMade}
use Rattle.player_text.specs.Facts.{AreBlocks, HaveLines, RestOnFew, NameFew, AreMeasured}

pub are_made : AreMade
are_made = record { tick = refl; command = refl; effect = refl; fetch = refl; voice = refl }

pub rest_on_few : RestOnFew
rest_on_few = record {
  filter = refl;
  voice = refl;
  voice_by_load = refl;
  voice_without = refl;
  init = λ start cleared. refl;
  init_without = λ start cleared. refl;
}

pub name_few : NameFew
name_few = record { filter = refl; voice = refl; init = λ start cleared. refl }

-- the most bytes where a condition holds, or doesn't
abbrev most_where : ℕ → Bool → Tree → ℕ
most_where condition is (ThenTree first rest) = most_where condition is first + most_where condition is rest
most_where condition is (ScopeTree name body) = most_where condition is body
most_where condition is (LoopTree count body) = most_where condition is body
most_where condition is (WhenTree other body) =
    if nat_eq other condition then (if is then most_where condition is body else 0) else most_where condition is body
most_where condition is (ChooseTree other this that) =
    if nat_eq other condition
    then (if is then most_where condition is this else most_where condition is that)
    else max (most_where condition is this) (most_where condition is that)
most_where condition is tree = most tree

kept_most : (same is held : Bool) (bytes long : ℕ) → (same ≡ true → held ≡ is) → bytes ≤ long →
    (if held then bytes else 0) ≤ (if same then (if is then long else 0) else long)
kept_most true true held bytes long e few = rw (e refl) few
kept_most true false held bytes long e few = rw (e refl) (omega arith)
kept_most false is true bytes long e few = few
kept_most false is false bytes long e few = omega arith

chosen_most : (same is held : Bool) (this that one other : ℕ) → (same ≡ true → held ≡ is) → this ≤ one →
    that ≤ other →
    (if held then this else that) ≤ (if same then (if is then one else other) else max one other)
chosen_most true true held this that one other e few less = rw (e refl) few
chosen_most true false held this that one other e few less = rw (e refl) less
chosen_most false is true this that one other e few less = (let most = le-max_left one other in omega (arith, few, most))
chosen_most false is false this that one other e few less = (let most = le-max_right one other in omega (arith, less, most))

takes_where : (holds : ℕ → Bool) (condition : ℕ) (is : Bool) → holds condition ≡ is → (tree : Tree) →
    size holds tree ≤ most_where condition is tree
takes_where holds condition is e (ThenTree first rest) =
    let one = takes_where holds condition is e first in
    let two = takes_where holds condition is e rest in omega (arith, one, two)
takes_where holds condition is e (ScopeTree name body) = takes_where holds condition is e body
takes_where holds condition is e (LoopTree count body) = takes_where holds condition is e body
takes_where holds condition is e (WhenTree other body) =
    kept_most (nat_eq other condition) is (holds other) (size holds body) (most_where condition is body)
    (λ same. ap holds (eqb-true other condition same) ∙ e) (takes_where holds condition is e body)
takes_where holds condition is e (ChooseTree other this that) =
    chosen_most (nat_eq other condition) is (holds other) (size holds this) (size holds that)
    (most_where condition is this) (most_where condition is that) (λ same. ap holds (eqb-true other condition same) ∙ e)
    (takes_where holds condition is e this) (takes_where holds condition is e that)
takes_where holds condition is e (DoTree mnemonic) = omega arith
takes_where holds condition is e (WithTree mnemonic operand) = omega arith
takes_where holds condition is e NoneTree = omega arith
takes_where holds condition is e (LeaveTree name) = omega arith
takes_where holds condition is e (LeaveIfTree name test) = omega arith
takes_where holds condition is e AgainTree = omega arith
takes_where holds condition is e (AgainIfTree test) = omega arith
takes_where holds condition is e NeverTree = omega arith

-- where the voices take turns between two tempos, none of them is told from the others; else there are no lines for that
voice_takes : (holds : ℕ → Bool) → size holds voice_tree ≤ 1338
voice_takes holds = by_turns (holds FUNK_TEMPO) refl
  where
    by_turns : (turns : Bool) → holds FUNK_TEMPO ≡ turns → size holds voice_tree ≤ 1338
    by_turns true on = (let few = takes_where holds FUNK_TEMPO true on voice_tree in omega (arith, few))
    by_turns false off = (let few = takes_where holds FUNK_TEMPO false off voice_tree in omega (arith, few))

pub are_measured : AreMeasured
are_measured = record {
  filter = record {
    counts = refl;
    takes_bare = refl;
    takes_full = refl;
    takes_most = λ holds. sizes_are_bounded holds filter_tree;
    weighs = refl;
  };
  voice = record {
    counts = refl;
    takes_bare = refl;
    takes_full = refl;
    takes_most = voice_takes;
    weighs = refl;
  };
  init = λ start cleared. record {
    counts = refl;
    takes_bare = refl;
    takes_full = refl;
    takes_most = λ holds. sizes_are_bounded holds (init_tree start cleared);
    weighs = refl;
  };
}

-- each number that is loaded is a byte
is_byte : (n : ℕ) → n < 256 → nat_lt n 256 ≡ true
is_byte n below = lt-ltb n 256 below

pub are_blocks : AreBlocks
are_blocks = record {
  filter = refl;
  voice = refl;
  init = λ start cleared bytes byte.
      rw (
        is_byte (cleared - 1) (omega (arith, byte)),
        is_byte start.tempo bytes.tempo,
        is_byte start.funk bytes.funk,
        is_byte start.timer_low bytes.timer_low,
        is_byte start.timer_high bytes.timer_high,
      ) refl;
}

pub have_lines : HaveLines
have_lines = record {
  filter = refl;
  voice = refl;
  init = λ start cleared bytes byte.
      rw (
        is_byte (cleared - 1) (omega (arith, byte)),
        is_byte start.tempo bytes.tempo,
        is_byte start.funk bytes.funk,
        is_byte start.timer_low bytes.timer_low,
        is_byte start.timer_high bytes.timer_high,
      ) refl;
}
