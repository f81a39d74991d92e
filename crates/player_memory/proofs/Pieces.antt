-- Variables that stand one behind the other: they are apart, and what stands before or behind them is none of them.
use Rattle.std.proofs.Common.{◌≡◌, ◌≢◌, ◌⊎◌, ℕ, ◌+◌, ◌*◌, ◌%◌, ◌<◌, ◌≤◌, nat_lt, inl, inr, arith}
use Rattle.std.proofs.lemmas.Bool.{ltb-true, and_parts}
use Rattle.scopes.specs.Desk.{Layout}
use Rattle.player_memory.specs.declared.labels.TheConstants.{FUNK_ONE, FUNK_TWO, VARIABLES}
use Rattle.player_memory.specs.Rooms.{AreVariables, IsList}

pub record InOnePiece (layout : Layout) (first : ℕ) : Type 0 where
  pub from : 0x0200 ≤ first
  pub to : first + VARIABLES ≤ 0xD000
  pub each : (label : ℕ) → label < VARIABLES → layout.address label ≡ first + label

pub in_one_piece : (layout : Layout) (first : ℕ) → InOnePiece layout first → AreVariables layout
in_one_piece layout first piece =
    let from = piece.from in
    let to = piece.to in record {
      from = λ label few. (let at = piece.each label few in omega (arith, at, from));
      to = λ label few. (let at = piece.each label few in omega (arith, at, to, few));
      apart = λ one two few less e.
          let at = piece.each one few in
          let its = piece.each two less in
          omega (arith, at, its, e);
      voices = λ label voice own few.
          let small = ltb-true label 90 (and_parts (nat_lt label 90) (nat_lt (label % 21) 7) own).0 in
          let at = piece.each label (omega (arith, small)) in
          let its = piece.each (label + 7 * voice) (omega (arith, small, few)) in
          omega (arith, at, its);
      funk =
          let at = piece.each FUNK_ONE (omega arith) in
          let its = piece.each FUNK_TWO (omega arith) in
          omega (arith, at, its);
    }

pub off_piece : (layout : Layout) (first : ℕ) → InOnePiece layout first → (place : ℕ) →
    (place < first) ⊎ (first + VARIABLES ≤ place) → (label : ℕ) → label < VARIABLES → place ≢ layout.address label
off_piece layout first piece place (inl before) label few e =
    let at = piece.each label few in omega (arith, at, before, e)
off_piece layout first piece place (inr behind) label few e =
    let at = piece.each label few in omega (arith, at, behind, few, e)

-- a list behind them
pub list_behind : (layout : Layout) (first : ℕ) → InOnePiece layout first → (label count : ℕ) →
    first + VARIABLES ≤ layout.address label → 0x0800 ≤ layout.address label →
    layout.address label + count ≤ 0xD000 → IsList layout label count
list_behind layout first piece label count behind from to = record {
  from = from;
  to = to;
  outside = λ variable few. (let at = piece.each variable few in inl (omega (arith, at, behind, few)));
}
