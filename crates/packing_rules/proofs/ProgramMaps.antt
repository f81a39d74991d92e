-- Maps that keep programs.
use Rattle.std.proofs.Common.{◌≡◌, ◌≢◌, ◌⊎◌, ℕ, zero, suc, ◌+◌, Bool, true, false, ◌==◌}
use Rattle.std.proofs.Common.{List, [], ◌∷◌, map, refl, sym, ◌∙◌, ap, inl, inr, arith}
use Rattle.std.proofs.lemmas.Bool.{cases_Bool, eqb-true, eqb-false, ne_eqb}
use Rattle.song_model.specs.declared.tables.TableRow.{TableRow}
use Rattle.packing_rules.specs.Segments.{is_jump_row, is_end}
use Rattle.packing_rules.specs.ProgramMaps.{retargeted, row_at, KeepsPrograms, MapsCompose, next_place, rows_read}
use Rattle.packing_rules.specs.ProgramMaps.{ProgramsReadTheSame}

-- a jump stays one
retargeted_left : (to : ℕ → ℕ) (row : TableRow) → (retargeted to row).left ≡ row.left
retargeted_left to row = by_case (is_jump_row row) refl
  where
    by_case : (b : Bool) → is_jump_row row ≡ b → (retargeted to row).left ≡ row.left
    by_case true e = rw e refl
    by_case false e = rw e refl

pub retargeted_twice : (to further : ℕ → ℕ) (row : TableRow) →
    retargeted further (retargeted to row) ≡ retargeted (λ p. further (to p)) row
retargeted_twice to further row = by_case (is_jump_row row) refl
  where
    by_case : (b : Bool) → is_jump_row row ≡ b →
        retargeted further (retargeted to row) ≡ retargeted (λ p. further (to p)) row
    by_case true e = rw e (rw e refl)
    by_case false e = rw e (rw e refl)

pub end_stays : (pulse : Bool) (to : ℕ → ℕ) (row : TableRow) → is_end pulse (retargeted to row) ≡ is_end pulse row
end_stays pulse to row = rw (retargeted_left to row) refl

pub maps_compose : MapsCompose
maps_compose pulse reached rows old between new to further one into other = record {
  nothing = ap further one.nothing ∙ other.nothing;
  stored = λ p is. other.stored (to p) (into p is);
  row = λ p is.
      other.row (to p) (into p is) ∙ ap (retargeted further) (one.row p is) ∙ retargeted_twice to further (row_at old p);
  goes_on = one.goes_on;
  next = λ p is goes.
      ap further (one.next p is goes)
      ∙ other.next (to p) (into p is) (ap (is_end pulse) (one.row p is) ∙ end_stays pulse to (row_at old p) ∙ goes);
  target = one.target;
}

-- ---- what is read

-- no program comes to row 0
not_0 : (pulse : Bool) (reached : ℕ → Bool) (old new : List TableRow) (to : ℕ → ℕ) (p : ℕ) →
    KeepsPrograms pulse reached old new to → reached p ≡ true → p ≢ 0
not_0 pulse reached old new to p keeps is e =
    let none : to p ≡ 0 = ap to e ∙ keeps.nothing in
    let first = (keeps.stored p is).first in
    omega arith

-- where a program goes on, or stops
abbrev IsPlace : (ℕ → Bool) → ℕ → Type 0
IsPlace reached p = (p ≡ 0) ⊎ (reached p ≡ true)

jump_goes : (pulse : Bool) (p : ℕ) (row : TableRow) → is_jump_row row ≡ true → next_place pulse p row ≡ row.right
jump_goes pulse p row jump = rw jump refl

end_goes : (pulse : Bool) (p : ℕ) (row : TableRow) → is_jump_row row ≡ false → is_end pulse row ≡ true →
    next_place pulse p row ≡ 0
end_goes pulse p row jump ends = rw (ends, jump) refl

row_goes : (pulse : Bool) (p : ℕ) (row : TableRow) → is_jump_row row ≡ false → is_end pulse row ≡ false →
    next_place pulse p row ≡ p + 1
row_goes pulse p row jump ends = rw (ends, jump) refl

retargeted_jump : (to : ℕ → ℕ) (row : TableRow) → is_jump_row row ≡ true → (retargeted to row).right ≡ to row.right
retargeted_jump to row jump = rw jump refl

jump_stays : (to : ℕ → ℕ) (row : TableRow) → is_jump_row (retargeted to row) ≡ is_jump_row row
jump_stays to row = ap (λ (k : ℕ). k == 0xFF) (retargeted_left to row)

-- where a program goes from a reached row, and where it goes from what stands for the row
record Goes (pulse : Bool) (reached : ℕ → Bool) (old new : List TableRow) (to : ℕ → ℕ) (p : ℕ) : Type 0 where
  place : IsPlace reached (next_place pulse p (row_at old p))
  same : next_place pulse (to p) (row_at new (to p)) ≡ to (next_place pulse p (row_at old p))

goes : (pulse : Bool) (reached : ℕ → Bool) (old new : List TableRow) (to : ℕ → ℕ) (p : ℕ) →
    KeepsPrograms pulse reached old new to → reached p ≡ true → Goes pulse reached old new to p
goes pulse reached old new to p keeps is =
    elim (cases_Bool (is_jump_row (row_at old p))) [
      | inl jump ↦ by_jump jump (cases_Bool ((row_at old p).right == 0))
      | inr none ↦ by_end none (cases_Bool (is_end pulse (row_at old p)))
    ]
  where
    new_jump : (b : Bool) → is_jump_row (row_at old p) ≡ b → is_jump_row (row_at new (to p)) ≡ b
    new_jump b e = ap is_jump_row (keeps.row p is) ∙ jump_stays to (row_at old p) ∙ e

    new_end : (b : Bool) → is_end pulse (row_at old p) ≡ b → is_end pulse (row_at new (to p)) ≡ b
    new_end b e = ap (is_end pulse) (keeps.row p is) ∙ end_stays pulse to (row_at old p) ∙ e

    jumps_to : is_jump_row (row_at old p) ≡ true →
        next_place pulse (to p) (row_at new (to p)) ≡ to (next_place pulse p (row_at old p))
    jumps_to jump =
        jump_goes pulse (to p) (row_at new (to p)) (new_jump true jump) ∙ ap (λ (x : TableRow). x.right) (keeps.row p is)
        ∙ retargeted_jump to (row_at old p) jump ∙ ap to (sym (jump_goes pulse p (row_at old p) jump))

    by_jump : is_jump_row (row_at old p) ≡ true →
        (((row_at old p).right == 0) ≡ true) ⊎ (((row_at old p).right == 0) ≡ false) → Goes pulse reached old new to p
    by_jump jump (inl stops) = record {
      place = inl (jump_goes pulse p (row_at old p) jump ∙ eqb-true (row_at old p).right 0 stops);
      same = jumps_to jump;
    }
    by_jump jump (inr leads) = record {
      place = inr (ap reached (jump_goes pulse p (row_at old p) jump)
          ∙ keeps.target p is jump (eqb-false (row_at old p).right 0 leads));
      same = jumps_to jump;
    }

    by_end : is_jump_row (row_at old p) ≡ false →
        (is_end pulse (row_at old p) ≡ true) ⊎ (is_end pulse (row_at old p) ≡ false) → Goes pulse reached old new to p
    by_end none (inl ends) = record {
      place = inl (end_goes pulse p (row_at old p) none ends);
      same =
          end_goes pulse (to p) (row_at new (to p)) (new_jump false none) (new_end true ends) ∙ sym keeps.nothing
          ∙ ap to (sym (end_goes pulse p (row_at old p) none ends));
    }
    by_end none (inr on) = record {
      place = inr (ap reached (row_goes pulse p (row_at old p) none on) ∙ keeps.goes_on p is on);
      same =
          row_goes pulse (to p) (row_at new (to p)) (new_jump false none) (new_end false on) ∙ sym (keeps.next p is on)
          ∙ ap to (sym (row_goes pulse p (row_at old p) none on));
    }

pub nothing_read : (pulse : Bool) (rows : List TableRow) (n p : ℕ) → p ≡ 0 → rows_read pulse rows (suc n) p ≡ []
nothing_read pulse rows n p e = rw e refl

pub row_read : (pulse : Bool) (rows : List TableRow) (n p : ℕ) → p ≢ 0 →
    rows_read pulse rows (suc n) p ≡ row_at rows p ∷ rows_read pulse rows n (next_place pulse p (row_at rows p))
row_read pulse rows n p some = let e : (p == 0) ≡ false = ne_eqb p 0 some in rw e refl

pub programs_read_the_same : ProgramsReadTheSame
programs_read_the_same pulse reached old new to zero p keeps place = refl
programs_read_the_same pulse reached old new to (suc n) p keeps (inl e) =
    nothing_read pulse new n (to p) (ap to e ∙ keeps.nothing)
    ∙ ap (map (retargeted to)) (sym (nothing_read pulse old n p e))
programs_read_the_same pulse reached old new to (suc n) p keeps (inr is) =
    let there : to p ≢ 0 = λ (e : to p ≡ 0). let first = (keeps.stored p is).first in omega arith in
    let on = goes pulse reached old new to p keeps is in
    let rest : rows_read pulse new n (next_place pulse (to p) (row_at new (to p)))
    ≡ map (retargeted to) (rows_read pulse old n (next_place pulse p (row_at old p))) =
    ap (rows_read pulse new n) on.same
    ∙ programs_read_the_same pulse reached old new to n (next_place pulse p (row_at old p)) keeps on.place in
    row_read pulse new n (to p) there
    ∙ ap (λ (x : TableRow). x ∷ rows_read pulse new n (next_place pulse (to p) (row_at new (to p)))) (keeps.row p is)
    ∙ ap (λ (xs : List TableRow). retargeted to (row_at old p) ∷ xs) rest
    ∙ ap (map (retargeted to)) (sym (row_read pulse old n p (not_0 pulse reached old new to p keeps is)))
