-- One line after the other: what is around the first one, and around those that are left behind it.
use Rattle.std.proofs.Common.{◌≡◌, ℕ, ◌+◌, ◌-◌, ◌≤◌, ◌&&◌, Bool, true, false, List, ◌∷◌, Option, Some, None, IfSome}
use Rattle.std.proofs.Common.{ap, sym, ◌∙◌, arith}
use Rattle.std.specs.Option.{option_map}
use Rattle.scopes.specs.declared.line.Line.{Line}
use Rattle.scopes.specs.Trees.{Tree, ThenTree, opened}
use Rattle.scope_lines.specs.Sizes.{most}
use Rattle.scope_lines.specs.Reach.{Reach, before_bytes, behind_bytes, has_lines}
use Rattle.scope_lines.specs.Readings.{first_of, are_open}
use Rattle.block_cases.specs.Firsts.{is_end, first_tree, behind_first}
use Rattle.block_cases.proofs.Reading.{passed}

-- the tree of a line and of those behind it, by their bytes
both_have : (reach : Reach) (left one rest : Tree) (size more : ℕ) → left ≡ ThenTree one rest → size ≡ most one →
    more ≡ most rest → (z : Bool) → z ≡ has_lines (before_bytes more reach) one →
    has_lines reach left ≡ (z && has_lines (behind_bytes size reach) rest)
both_have reach left one rest size more e s m z h =
    ap (has_lines reach) e
    ∙ (ap (λ n. has_lines (before_bytes n reach) one && has_lines (behind_bytes (most one) reach) rest) (sym m)
    ∙ (ap (λ n. has_lines (before_bytes more reach) one && has_lines (behind_bytes n reach) rest) (sym s)
    ∙ ap (λ has. has && has_lines (behind_bytes size reach) rest) (sym h)))

-- behind a line of so many bytes, of those that are left with so many more, which may stand there or not
pub record Gone (reach : Reach) (left behind : List Line) (size more : ℕ) (fits : Bool) : Type 0 where
  pub is_open : are_open (opened behind) ≡ true
  pub within : size ≤ more
  pub sized : more - size ≡ most (first_of (opened behind))
  pub both : has_lines reach (first_of (opened left))
      ≡ (fits && has_lines (behind_bytes size reach) (first_of (opened behind)))

pub gone : (reach : Reach) (line : Line) (left rest behind : List Line) (size more : ℕ) (fits : Bool) →
    left ≡ line ∷ rest → is_end line ≡ false → are_open (opened left) ≡ true →
    opened behind ≡ behind_first line (opened rest) → size ≡ most (first_tree line (opened rest)) →
    more ≡ most (first_of (opened left)) →
    fits ≡ has_lines (before_bytes (more - size) reach) (first_tree line (opened rest)) →
    Gone reach left behind size more fits
gone reach line left rest behind size more fits e s o b sized all h =
    let pass = passed line left rest behind e s o b in
    let sum : most (first_of (opened left)) ≡ most (first_tree line (opened rest)) + most (first_of (opened behind)) =
    ap most pass.first in
    let more_left : more - size ≡ most (first_of (opened behind)) = omega (arith, sized, all, sum) in
    record {
      is_open = pass.is_open;
      within = omega (arith, sized, all, sum);
      sized = more_left;
      both = both_have reach _ _ _ size (more - size) pass.first sized more_left fits h;
    }

-- how far the beginning of the loop is
pub near_goes : (head : Option ℕ) (more size limit : ℕ) → size ≤ more → IfSome head (λ far. far + more ≤ limit) →
    IfSome (option_map (λ far. far + size) head) (λ far. far + (more - size) ≤ limit)
near_goes None more size limit s near = near
near_goes (Some far) more size limit s near = omega (arith, s, near)
