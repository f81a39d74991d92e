-- Each pointer that moves names the row that it named before.
use Rattle.std.proofs.Common.{◌≡◌, ℕ, ◌+◌, ◌-◌, ◌<◌, ◌≤◌, ◌&&◌, true, false, nat_le}
use Rattle.std.proofs.Common.{nat_lt, nat_eq, List, length, get_or, refl, sym, ap, ◌∙◌, inl, inr, arith}
use Rattle.std.specs.List.{insert, remove}
use Rattle.std.proofs.lemmas.Bool.{cases_Bool}
use Rattle.std.proofs.lemmas.Bool.Decides.{nat_tests}
use Rattle.std.proofs.lemmas.List.Edits.{get_or-insert_below, get_or-insert_above, get_or-remove_below, get_or-remove_above}
use Rattle.song_model.specs.LookUp.{numbered, zero_table_row}
use Rattle.edit_ops.specs.SameRows.{NamesItAfterAnInsert, NamesItAfterADelete, PointsAtNothingStill}

numbered_is : {X : Type 0} (xs : List X) (n : ℕ) (d : X) → 0 < n → numbered xs n d ≡ get_or xs (n - 1) d
numbered_is xs n d some = let t : nat_eq n 0 ≡ false = grind (arith, nat_tests) in rw t refl

raised_from : (g p : ℕ) → (nat_le g p && nat_le p 254) ≡ true → g ≤ p
raised_from g p h = grind (arith, nat_tests)

not_raised : (g p : ℕ) → p < 255 → (nat_le g p && nat_le p 254) ≡ false → p < g
not_raised g p small h = grind (arith, nat_tests)

lowered_from : (g p : ℕ) → nat_lt g p ≡ true → g < p
lowered_from g p h = grind (arith, nat_tests)

not_lowered : (g p : ℕ) → nat_lt g p ≡ false → p ≤ g
not_lowered g p h = grind (arith, nat_tests)

pub after_an_insert : NamesItAfterAnInsert
after_an_insert rows g p row from to room stored =
    let z = zero_table_row in
    let in_place : g - 1 ≤ length rows = omega arith in
    let first = stored.first in
    let last = stored.last in
    elim (cases_Bool (nat_le g p && nat_le p 254)) [
      | inl up ↦
          let ge = raised_from g p up in
          let same : p + 1 - 1 ≡ (p - 1) + 1 = omega arith in
          rw up
          (numbered_is (insert rows (g - 1) row) (p + 1) z (omega arith)
          ∙ ap (λ (i : ℕ). get_or (insert rows (g - 1) row) i z) same
          ∙ get_or-insert_above rows (g - 1) row z (p - 1) (omega arith) in_place
          ∙ sym (numbered_is rows p z (omega arith)))
      | inr stays ↦
          let lt = not_raised g p (omega arith) stays in
          rw stays
          (numbered_is (insert rows (g - 1) row) p z (omega arith)
          ∙ get_or-insert_below rows (g - 1) row z (p - 1) (omega arith) in_place
          ∙ sym (numbered_is rows p z (omega arith)))
    ]

pub after_a_delete : NamesItAfterADelete
after_a_delete rows g p gone stored other =
    let z = zero_table_row in
    let gone_first = gone.first in
    let gone_last = gone.last in
    let inside : g - 1 < length rows = omega arith in
    let first = stored.first in
    let last = stored.last in
    elim (cases_Bool (nat_lt g p)) [
      | inl down ↦
          let gt = lowered_from g p down in
          let same : p - 1 - 1 + 1 ≡ p - 1 = omega arith in
          rw down
          (numbered_is (remove rows (g - 1)) (p - 1) z (omega arith)
          ∙ get_or-remove_above rows (g - 1) z (p - 1 - 1) (omega arith) inside
          ∙ ap (λ (i : ℕ). get_or rows i z) same
          ∙ sym (numbered_is rows p z (omega arith)))
      | inr stays ↦
          let le = not_lowered g p stays in
          rw stays
          (numbered_is (remove rows (g - 1)) p z (omega arith)
          ∙ get_or-remove_below rows (g - 1) z (p - 1) (omega (arith, other)) inside
          ∙ sym (numbered_is rows p z (omega arith)))
    ]

pub at_nothing : PointsAtNothingStill
at_nothing g some =
    let up : (nat_le g 0 && nat_le 0 254) ≡ false = grind (arith, nat_tests) in
    let down : nat_lt g 0 ≡ false = grind (arith, nat_tests) in
    (rw up refl, rw down refl)
