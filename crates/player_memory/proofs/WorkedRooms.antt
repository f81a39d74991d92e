-- A room in a layout like the one that is worked: the variables stand from $1006 on, the slides in four bytes each from
-- $1100 and from $1104 on, and the pointer is at $FC.
use Rattle.std.proofs.Common.{◌≡◌, ◌≢◌, ◌⊎◌, ℕ, ◌+◌, ◌<◌, ◌≤◌, true, nat_eq, ap, ◌∙◌, inl, inr, arith}
use Rattle.std.proofs.lemmas.Bool.{eqb-true, agree_below, agree_below_at}
use Rattle.scopes.specs.Desk.{Layout}
use Rattle.player_memory.specs.declared.labels.TheConstants.{SLIDES_LOW, SLIDES_HIGH}
use Rattle.player_memory.specs.Rooms.{IsRoom, IsElsewhere, MayUse}
use Rattle.player_memory.proofs.Pieces.{InOnePiece, in_one_piece, off_piece, list_behind}

pub record IsLaid (layout : Layout) : Type 0 where
  pub variables : agree_below (λ l. nat_eq (layout.address l) (0x1006 + l)) (λ _. true) 113 ≡ true
  pub low : layout.address SLIDES_LOW ≡ 0x1100
  pub high : layout.address SLIDES_HIGH ≡ 0x1104
  pub pointer : layout.pointer ≡ 0xFC

-- and all of it may be used
pub record IsOpen (layout : Layout) : Type 0 where
  pub reads : agree_below (λ l. layout.may_read (layout.address l)) (λ _. true) 113 ≡ true
  pub writes : agree_below (λ l. layout.may_write (layout.address l)) (λ _. true) 113 ≡ true
  pub reads_slides : agree_below (λ n. layout.may_read (0x1100 + n)) (λ _. true) 8 ≡ true
  pub writes_slides : agree_below (λ n. layout.may_write (0x1100 + n)) (λ _. true) 8 ≡ true
  pub registers : agree_below (λ n. layout.may_write (0xD400 + n)) (λ _. true) 25 ≡ true

-- so each variable is at its place, and what is before or behind them is none
abbrev pub AreLaid : Layout → Type 0
AreLaid layout = agree_below (λ l. nat_eq (layout.address l) (0x1006 + l)) (λ _. true) 113 ≡ true

laid_piece : (layout : Layout) → AreLaid layout → InOnePiece layout 0x1006
laid_piece layout laid = record {
  from = omega arith;
  to = omega arith;
  each = λ label few. eqb-true (layout.address label) (0x1006 + label)
      (agree_below_at (λ l. nat_eq (layout.address l) (0x1006 + l)) (λ _. true) 113 label laid few);
}

pub off_variables : (layout : Layout) → AreLaid layout → (place : ℕ) → (place < 0x1006) ⊎ (0x1077 ≤ place) →
    (label : ℕ) → label < 113 → place ≢ layout.address label
off_variables layout laid place out label few =
    off_piece layout 0x1006 (laid_piece layout laid) place
    (elim out [ inl before ↦ inl before | inr behind ↦ inr (omega (arith, behind)) ]) label few

pub room_in : (layout : Layout) → IsLaid layout → IsRoom layout 4
room_in layout laid =
    let piece = laid_piece layout laid.variables in
    let low = laid.low in
    let high = laid.high in
    let pointer = laid.pointer in record {
      variables = in_one_piece layout 0x1006 piece;
      slides = λ kept. record {
        low = list_behind layout 0x1006 piece SLIDES_LOW 4 (omega (arith, low)) (omega (arith, low)) (omega (arith, low));
        high = list_behind layout 0x1006 piece SLIDES_HIGH 4 (omega (arith, high)) (omega (arith, high))
            (omega (arith, high));
        apart = inl (omega (arith, low, high));
      };
      pointer_low = omega (arith, pointer);
      pointer_high = omega (arith, pointer);
    }

pub uses_in : (layout : Layout) → IsLaid layout → IsOpen layout → MayUse layout 4
uses_in layout laid may = record {
  reads = λ label few. agree_below_at (λ l. layout.may_read (layout.address l)) (λ _. true) 113 label may.reads few;
  writes = λ label few. agree_below_at (λ l. layout.may_write (layout.address l)) (λ _. true) 113 label may.writes few;
  slides = λ kept row few. record {
    reads_low = ap (λ a. layout.may_read (a + row)) laid.low ∙ reads row (omega (arith, few));
    reads_high = ap (λ a. layout.may_read (a + row)) laid.high
        ∙ (ap layout.may_read (omega arith) ∙ reads (4 + row) (omega (arith, few)));
    writes_low = ap (λ a. layout.may_write (a + row)) laid.low ∙ writes row (omega (arith, few));
    writes_high = ap (λ a. layout.may_write (a + row)) laid.high
        ∙ (ap layout.may_write (omega arith) ∙ writes (4 + row) (omega (arith, few)));
  };
  registers = λ register few. agree_below_at (λ n. layout.may_write (0xD400 + n)) (λ _. true) 25 register
      may.registers (omega (arith, few));
}
  where
    reads : (n : ℕ) → n < 8 → layout.may_read (0x1100 + n) ≡ true
    reads n few = agree_below_at (λ k. layout.may_read (0x1100 + k)) (λ _. true) 8 n may.reads_slides few

    writes : (n : ℕ) → n < 8 → layout.may_write (0x1100 + n) ≡ true
    writes n few = agree_below_at (λ k. layout.may_write (0x1100 + k)) (λ _. true) 8 n may.writes_slides few

-- behind the slides, and below the registers, no place is one of it
pub behind_slides : (layout : Layout) → IsLaid layout → (place : ℕ) → 0x1108 ≤ place → place < 0xD400 →
    IsElsewhere layout 4 place
behind_slides layout laid place from to =
    let low = laid.low in
    let high = laid.high in
    let pointer = laid.pointer in record {
      variables = off_variables layout laid.variables place (inr (omega (arith, from)));
      slides_low = λ kept. inr (omega (arith, low, from));
      slides_high = λ kept. inr (omega (arith, high, from));
      low = λ e. omega (arith, pointer, from, e);
      high = λ e. omega (arith, pointer, from, e);
      registers = inl to;
    }
