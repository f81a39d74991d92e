-- Where the least numbers of lines have room, so have those of their parts.
use Rattle.std.proofs.Common.{◌≡◌, true, ℕ, ◌≤◌, ◌++◌, List, [], ◌∷◌, length, arith, ap, subst, ◌∙◌}
use Rattle.scopes.specs.Trees.{Open, ChooseTree, led}
use Rattle.scopes.specs.declared.line.Line.{Line}
use Rattle.scopes.specs.declared.line.Line.TheVariants.{Choose}
use Rattle.scope_lines.specs.Readings.{are_open, first_of, behind_of}
use Rattle.scope_lines.proofs.Laws.{choose_reads}
use Rattle.cycle_bound.specs.Rules.{Setting, Ends, entry}
use Rattle.cycle_bound.specs.Least.{least, Fit}
use Rattle.cycle_bound.specs.Private.{head_of, rest_of, has_number}
use Rattle.cycle_bound.proofs.Shorts.{line_stands}
use Rattle.cycle_bound.proofs.Leasts.{least_count}

pub fit_parts : (one two : List ℕ) → Fit (one ++ two) → Fit one × Fit two
fit_parts [] two fit = (tt, fit)
fit_parts (number ∷ one) two fit =
    let parts = fit_parts one two fit.1 in ((fit.0, parts.0), parts.1)

-- the numbers of a line in front of those of the lines behind
pub least_on : (setting : Setting) (ends : Ends) (follows : ℕ) (line : Line) (opens : List Open) →
    are_open (led line opens) ≡ true → has_number line ≡ true →
    least setting ends follows (first_of (led line opens))
    ≡ least setting ends (entry (least setting ends follows (rest_of (first_of (led line opens)))) follows)
    (head_of (first_of (led line opens)))
    ++ least setting ends follows (rest_of (first_of (led line opens)))
least_on setting ends follows line opens o n = ap (least setting ends follows) (line_stands line opens o n).is

pub fits_on : (setting : Setting) (ends : Ends) (follows : ℕ) (line : Line) (opens : List Open) →
    are_open (led line opens) ≡ true → has_number line ≡ true →
    Fit (least setting ends follows (first_of (led line opens))) →
    Fit (least setting ends (entry (least setting ends follows (rest_of (first_of (led line opens)))) follows)
    (head_of (first_of (led line opens))))
    × Fit (least setting ends follows (rest_of (first_of (led line opens))))
fits_on setting ends follows line opens o n fit =
    fit_parts _ _ (subst Fit (least_on setting ends follows line opens o n) fit)

-- of which there is one at least
pub least_some : (setting : Setting) (ends : Ends) (next : ℕ) (line : Line) (opens : List Open) →
    are_open (led line opens) ≡ true → has_number line ≡ true →
    1 ≤ length (least setting ends next (head_of (first_of (led line opens))))
least_some setting ends next line opens o n =
    let some = (line_stands line opens o n).some in
    let count = least_count setting ends next (head_of (first_of (led line opens))) in
    omega (arith, some, count)

-- those of the two sides of a choice
pub choice_fits : (setting : Setting) (ends : Ends) (next : ℕ) (line : Line) (condition : ℕ) (opens : List Open) →
    line ≡ Choose condition → are_open (led line opens) ≡ true →
    Fit (least setting ends next (head_of (first_of (led line opens)))) →
    Fit (least setting ends next (first_of opens)) × Fit (least setting ends next (first_of (behind_of opens)))
choice_fits setting ends next line condition opens is o fit =
    let reads = choose_reads condition opens (subst (λ l. are_open (led l opens) ≡ true) is o) in
    let tree : head_of (first_of (led line opens)) ≡ ChooseTree condition (first_of opens) (first_of (behind_of opens)) =
    ap (λ l. head_of (first_of (led l opens))) is ∙ ap head_of reads.first in
    fit_parts _ _ (subst (λ t. Fit (least setting ends next t)) tree fit).1
