-- The small orderlists, computed.
use Rattle.std.proofs.Common.{◌≡◌, ◌≤◌, ℕ, ◌∷◌, List, [], length, All, refl, ap, arith, lit<, lit≤}
use Rattle.std.proofs.lemmas.List.Elements.{All-nil, All-cons, All-head, All-tail}
use Rattle.song_model.specs.declared.rows.Row.{Row}
use Rattle.song_model.specs.LookUp.{pattern_at}
use Rattle.song_model.specs.Endless.{IsPatternByte}
use Rattle.pattern_cut.specs.Cuts.{ArePieces}
use Rattle.pattern_cut.specs.WorkedCuts.{two_pieces, whole, cut, OrdersAreCut, PiecesAreAsWorked, CutsAreAllowed}
use Rattle.pattern_cut.specs.WorkedCuts.{PatternCutsAreAsWorked}

orders_cut : OrdersAreCut
orders_cut = record { entries = refl; restart = refl }

-- how many rows, and the note of the first one
row_count : List Row → ℕ
row_count rows = length rows

first_note : List Row → ℕ
first_note [] = 0
first_note (row ∷ rows) = row.note

both_pieces : ArePieces whole cut 0 (0 ∷ 2 ∷ [])
unfolding pattern_at
both_pieces = record {
  some = lit< tt;
  numbers = All-cons IsPatternByte 0 (2 ∷ []) (lit< tt) (All-cons IsPatternByte 2 [] (lit< tt) (All-nil IsPatternByte));
  rows = refl;
}

one_piece : ArePieces whole cut 1 (1 ∷ [])
unfolding pattern_at
one_piece = record {
  some = lit< tt;
  numbers = All-cons IsPatternByte 1 [] (lit< tt) (All-nil IsPatternByte);
  rows = refl;
}

pieces_worked : PiecesAreAsWorked
unfolding pattern_at row_count first_note
pieces_worked = record {
  both = both_pieces;
  itself = one_piece;
  lost = λ q. let e : 3 ≡ 4 = ap row_count q.rows in omega arith;
  turned = λ q. let e : 0x92 ≡ 0x90 = ap first_note q.rows in omega arith;
  none = λ q. let some = q.some in omega arith;
  no_pattern = λ q.
      let low = All-head IsPatternByte 0xD0 [] (All-tail IsPatternByte 1 (0xD0 ∷ []) q.numbers) in
      omega arith;
}

-- what the bytes of the orderlists stand for
abbrev Holds : ℕ → Type 0
Holds byte = IsPatternByte byte → ArePieces whole cut byte (two_pieces byte)

no_pattern : (byte : ℕ) → 0xD0 ≤ byte → Holds byte
no_pattern byte high low = absurd (omega arith)

last_two : All Holds (1 ∷ 0 ∷ [])
last_two = All-cons Holds 1 (0 ∷ []) (λ low. one_piece) (All-cons Holds 0 [] (λ low. both_pieces) (All-nil Holds))

allowed : CutsAreAllowed
unfolding pattern_at row_count
allowed = record {
  transposed = record {
    pieces_of = All-cons Holds 0 (0xF1 ∷ 1 ∷ 0 ∷ []) (λ low. both_pieces)
        (All-cons Holds 0xF1 (1 ∷ 0 ∷ []) (no_pattern 0xF1 (lit≤ tt)) last_two);
    prefix = (λ low r. absurd (omega arith), (λ low r. refl, (λ low r. refl, (λ low r. absurd (omega arith), tt))));
    cycle = (λ low r. absurd (omega arith), (λ low r. refl, (λ low r. refl, (λ low r. absurd (omega arith), tt))));
  };
  other = record {
    pieces_of = All-cons Holds 0xD1 (1 ∷ 0 ∷ []) (no_pattern 0xD1 (lit≤ tt)) last_two;
    prefix = (λ low r. refl, (λ low r. refl, (λ low r. absurd (omega arith), tt)));
    cycle = (λ low r. refl, (λ low r. refl, (λ low r. absurd (omega arith), tt)));
  };
  repeated = λ q. let e : 2 ≡ 1 = q.prefix.1.0 (lit< tt) (lit< tt) in omega arith;
  through = λ q. let e : 2 ≡ 1 = q.prefix.1.1.0 (lit< tt) (lit< tt) in omega arith;
  at_end = λ q. let e : 2 ≡ 1 = q.cycle.0 (lit< tt) (lit< tt) in omega arith;
  at_start = λ q. let e : 2 ≡ 1 = q.prefix.1.0 (lit< tt) (lit< tt) in omega arith;
  other_rows = λ q. let e : 1 ≡ 0 = ap row_count (All-head Holds 2 [] q.pieces_of (lit< tt)).rows in omega arith;
}

pub pattern_cuts_are_as_worked_lem : PatternCutsAreAsWorked
pattern_cuts_are_as_worked_lem = record { orders = orders_cut; pieces = pieces_worked; allowed = allowed }
