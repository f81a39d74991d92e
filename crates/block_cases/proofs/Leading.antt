-- What is open in front of lines, without the trees.
use Rattle.std.proofs.Common.{◌≡◌, List, [], ◌∷◌, ◌++◌, refl, ap, ◌∙◌}
use Rattle.scopes.specs.declared.line.Line.{Line}
use Rattle.scopes.specs.declared.line.Line.TheVariants.{Do, With, Scope, Leave, LeaveIf, Loop, Again, AgainIf, When}
use Rattle.scopes.specs.declared.line.Line.TheVariants.{Choose, Or, Never, End}
use Rattle.scopes.specs.Trees.{Tree, Open, Lines, Other, put_before, led, opened}
use Rattle.scope_lines.specs.Readings.{are_whole}
use Rattle.block_cases.specs.Sides.{Side, BodySide, sides_of, stayed, led_sides, led_all, are_body}

-- ---- the sides of what is open

put_sides : (tree : Tree) (opens : List Open) → sides_of (put_before tree opens) ≡ stayed (sides_of opens)
put_sides tree [] = refl
put_sides tree (Lines rest ∷ more) = refl
put_sides tree (Other rest ∷ more) = refl

led_has_sides : (line : Line) (opens : List Open) → sides_of (led line opens) ≡ led_sides line (sides_of opens)
led_has_sides End [] = refl
led_has_sides End (Lines rest ∷ more) = refl
led_has_sides End (Other rest ∷ more) = refl
led_has_sides Or [] = refl
led_has_sides Or (Lines rest ∷ more) = refl
led_has_sides Or (Other rest ∷ more) = refl
led_has_sides (Scope name) [] = refl
led_has_sides (Scope name) (Lines rest ∷ more) = put_sides _ more
led_has_sides (Scope name) (Other rest ∷ more) = refl
led_has_sides (Loop count) [] = refl
led_has_sides (Loop count) (Lines rest ∷ more) = put_sides _ more
led_has_sides (Loop count) (Other rest ∷ more) = refl
led_has_sides (When condition) [] = refl
led_has_sides (When condition) (Lines rest ∷ more) = put_sides _ more
led_has_sides (When condition) (Other rest ∷ more) = refl
led_has_sides (Choose condition) [] = refl
led_has_sides (Choose condition) (Lines this ∷ []) = refl
led_has_sides (Choose condition) (Lines this ∷ Lines rest ∷ more) = refl
led_has_sides (Choose condition) (Lines this ∷ Other other ∷ more) = put_sides _ more
led_has_sides (Choose condition) (Other rest ∷ more) = refl
led_has_sides (Do mnemonic) opens = put_sides _ opens
led_has_sides (With mnemonic operand) opens = put_sides _ opens
led_has_sides (Leave name) opens = put_sides _ opens
led_has_sides (LeaveIf name test) opens = put_sides _ opens
led_has_sides Again opens = put_sides _ opens
led_has_sides (AgainIf test) opens = put_sides _ opens
led_has_sides Never opens = put_sides _ opens

pub opened_has_sides : (lines : List Line) → sides_of (opened lines) ≡ led_all lines (BodySide ∷ [])
opened_has_sides [] = refl
opened_has_sides (line ∷ lines) =
    led_has_sides line (opened lines) ∙ ap (led_sides line) (opened_has_sides lines)

whole_sides : (opens : List Open) → are_whole opens ≡ are_body (sides_of opens)
whole_sides [] = refl
whole_sides (Lines tree ∷ []) = refl
whole_sides (Lines tree ∷ Lines rest ∷ more) = refl
whole_sides (Lines tree ∷ Other rest ∷ more) = refl
whole_sides (Other tree ∷ more) = refl

pub whole_is_body : (lines : List Line) → are_whole (opened lines) ≡ are_body (led_all lines (BodySide ∷ []))
whole_is_body lines = whole_sides (opened lines) ∙ ap are_body (opened_has_sides lines)

-- ---- one line after the other, from the last one back

pub led_all_last : (lines : List Line) (line : Line) (sides : List Side) →
    led_all (lines ++ (line ∷ [])) sides ≡ led_all lines (led_sides line sides)
led_all_last [] line sides = refl
led_all_last (first ∷ lines) line sides = ap (led_sides first) (led_all_last lines line sides)

led_nothing : (line : Line) → led_sides line [] ≡ []
led_nothing (Scope name) = refl
led_nothing (Loop count) = refl
led_nothing (When condition) = refl
led_nothing (Choose condition) = refl
led_nothing Or = refl
led_nothing End = refl
led_nothing _ = refl

pub led_all_nothing : (lines : List Line) → led_all lines [] ≡ []
led_all_nothing [] = refl
led_all_nothing (line ∷ lines) = ap (led_sides line) (led_all_nothing lines) ∙ led_nothing line
