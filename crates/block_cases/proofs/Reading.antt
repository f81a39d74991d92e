-- How lines are read from the first one on: the tree of the first line, and what is open behind it.
use Rattle.std.proofs.Common.{◌≡◌, true, false, List, [], ◌∷◌, ◌⊎◌, inl, inr, refl, ap, sym, subst, ◌∙◌}
use Rattle.scopes.specs.declared.line.Line.{Line}
use Rattle.scopes.specs.declared.line.Line.TheVariants.{Scope, Loop, When, Choose, Or, End}
use Rattle.scopes.specs.Trees.{ThenTree, Open, Lines, Other, led, opened}
use Rattle.scope_lines.specs.Readings.{first_of, are_open}
use Rattle.scope_lines.proofs.Laws.{simple_reads, scope_reads, choose_reads}
use Rattle.block_cases.specs.Firsts.{is_end, first_tree, behind_first}

-- ---- a line that closes something

pub end_cases : (line : Line) → is_end line ≡ true → (line ≡ End) ⊎ (line ≡ Or)
end_cases End e = inl refl
end_cases Or e = inr refl
end_cases _ e = absurd (cc)

-- ---- a line that closes nothing, in front of what is open

record Read (line : Line) (opens after : List Open) : Type 0 where
  outer : are_open (behind_first line opens) ≡ true
  first : first_of after ≡ ThenTree (first_tree line opens) (first_of (behind_first line opens))

reads : (line : Line) (opens : List Open) → is_end line ≡ false → are_open (led line opens) ≡ true →
    Read line opens (led line opens)
reads (Scope name) opens s e =
    let read = scope_reads name opens e in
    record { outer = read.outer; first = read.first }
reads (Choose condition) opens s e =
    let read = choose_reads condition opens e in
    record { outer = read.outer; first = read.first }
reads (Loop count) (Lines body ∷ Lines rest ∷ more) s e = record { outer = refl; first = refl }
reads (Loop count) (Lines body ∷ Other rest ∷ more) s e = absurd (cc)
reads (Loop count) (Lines body ∷ []) s e = absurd (cc)
reads (Loop count) (Other body ∷ more) s e = absurd (cc)
reads (Loop count) [] s e = absurd (cc)
reads (When condition) (Lines body ∷ Lines rest ∷ more) s e = record { outer = refl; first = refl }
reads (When condition) (Lines body ∷ Other rest ∷ more) s e = absurd (cc)
reads (When condition) (Lines body ∷ []) s e = absurd (cc)
reads (When condition) (Other body ∷ more) s e = absurd (cc)
reads (When condition) [] s e = absurd (cc)
reads Or opens s e = absurd (cc)
reads End opens s e = absurd (cc)
reads line opens s e =
    let read = simple_reads line opens refl e in
    record { outer = read.here; first = read.first }

-- the first line of those that are left, and what is left behind it
pub record Passed (line : Line) (left rest behind : List Line) : Type 0 where
  pub is_open : are_open (opened behind) ≡ true
  pub first : first_of (opened left) ≡ ThenTree (first_tree line (opened rest)) (first_of (opened behind))

pub passed : (line : Line) (left rest behind : List Line) → left ≡ line ∷ rest → is_end line ≡ false →
    are_open (opened left) ≡ true → opened behind ≡ behind_first line (opened rest) → Passed line left rest behind
passed line left rest behind e s o b =
    let read = reads line (opened rest) s (subst (λ ls. are_open (opened ls) ≡ true) e o) in
    record {
      is_open = subst (λ ones. are_open ones ≡ true) (sym b) read.outer;
      first =
          ap (λ ls. first_of (opened ls)) e
          ∙ (read.first ∙ ap (λ ones. ThenTree (first_tree line (opened rest)) (first_of ones)) (sym b));
    }
