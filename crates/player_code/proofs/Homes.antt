-- The lines of an image are at home in its listing, which names the labels that they use; so it assembles.
use Rattle.std.proofs.Common.{◌≡◌, ℕ, ◌+◌, ◌≤◌, ◌||◌, Bool, true, false, nat_lt, nat_eq, List, []}
use Rattle.std.proofs.Common.{◌∷◌}
use Rattle.std.proofs.Common.{◌++◌, map, All, Some, None, IsTrue, refl, sym, ap, ◌∙◌, subst}
use Rattle.std.proofs.lemmas.List.{append-nil}
use Rattle.std.proofs.lemmas.List.Elements.{All-head, All-tail}
use Rattle.base.proofs.Laws.{same_some}
use Rattle.cpu6502.specs.declared.memory.TheConstants.{MEMORY_SIZE}
use Rattle.asm6502.specs.declared.lines.Item.{Item}
use Rattle.asm6502.specs.declared.lines.Item.TheVariants.{Label, Code, Bytes}
use Rattle.asm6502.specs.declared.lines.Line.{Line}
use Rattle.asm6502.specs.Lines.{kept, size_of, label_used, is_sound, is_no_part}
use Rattle.asm6502.specs.Faults.{fault_of}
use Rattle.asm6502.specs.Stretches.{NamesNoLabelTwice, NamesOthers, branch_of, AtHome, Passes}
use Rattle.asm6502.proofs.Laws.{stretches_pass, passed_listings_assemble}
use Rattle.scope_calls.specs.Entrances.{Entrance, entrance_lines, have_lines}
use Rattle.scope_calls.specs.Homes.{entrance_uses}
use Rattle.scope_calls.proofs.Laws.{code_home, homes_join, entrance_lines_are_at_home}
use Rattle.player_memory.specs.declared.labels.TheConstants.{VARIABLES}
use Rattle.player_code.specs.declared.labels.TheConstants.{INIT_CODE, PLAY_CODE}
use Rattle.player_code.specs.CodeLines.{jump_to, name, byte_line, names_at, variable_lines, front_lines}
use Rattle.player_code.specs.CodeLines.{lines_around}
use Rattle.player_code.specs.Plans.{IsListItem, IsListLine, is_read}

-- the labels that lines may use
abbrev pub is_known : ℕ → Bool
is_known label = (nat_lt label VARIABLES || is_read label) || (nat_eq label INIT_CODE || nat_eq label PLAY_CODE)

-- lines that are at home by themselves
record Home (lines : List Line) : Type 0 where
  home : AtHome is_known [] lines []

join : {front back : List Line} → Home front → Home back → Home (front ++ back)
join {front} {back} one two = record { home = homes_join is_known front back one.home two.home }

then : {line : Line} {rest : List Line} → Home (line ∷ []) → Home rest → Home (line ∷ rest)
then {line} {rest} one more = record { home = homes_join is_known (line ∷ []) rest one.home more.home }

-- a line that uses no label, and a jump to a known one
plain : (line : Line) → is_no_part line.part ≡ false → is_sound line.item ≡ true → label_used line.item ≡ None →
    branch_of line.item ≡ None → Home (line ∷ [])
plain line part sound unused straight = record {
  home = (
    code_home is_known [] line [] part sound
        (λ label e. (let never : None ≡ Some label = sym unused ∙ e in absurd (cc))) straight,
    tt,
  );
}

jump_home : (label : ℕ) → is_known label ≡ true → Home (jump_to label ∷ [])
jump_home label is = record {
  home = (
    code_home is_known [] (jump_to label) [] refl refl
        (λ other e. subst (λ l. IsTrue (is_known l)) (same_some _ _ e) is) refl,
    tt,
  );
}

name_home : (label : ℕ) → Home (name label ∷ [])
name_home label = plain (name label) refl refl refl refl

-- ---- the code

labels_home : (labels : List ℕ) → Home (map name labels)
labels_home [] = record { home = tt }
labels_home (label ∷ labels) = then (name_home label) (labels_home labels)

names_home : (places : ℕ → ℕ) (place : ℕ) → Home (names_at places place)
unfolding names_at
names_home places place = labels_home _

variables_home : (places : ℕ → ℕ) (first : ℕ) (bytes : List ℕ) → Home (variable_lines places first bytes)
variables_home places first [] = record { home = tt }
variables_home places first (byte ∷ bytes) =
    join (names_home places first)
    (then (plain (byte_line byte) refl refl refl refl) (variables_home places (first + 1) bytes))

front_home : (places : ℕ → ℕ) (variables : List ℕ) → Home (front_lines places variables)
front_home places variables =
    join (then (jump_home INIT_CODE refl) (jump_home PLAY_CODE refl))
    (join (variables_home places 0 variables) (name_home PLAY_CODE))

-- an entrance that has lines, and uses these labels alone
pub record IsFit (e : Entrance) : Type 0 where
  pub lines : have_lines e ≡ true
  pub uses : entrance_uses is_known e ≡ true
  pub pointer : e.pointer ≤ 254

entrance_home : (e : Entrance) → IsFit e → Home (entrance_lines e)
entrance_home e fit = record { home = entrance_lines_are_at_home is_known e fit.lines fit.uses fit.pointer }

-- ---- the lists

list_line_home : (line : Line) → IsListLine line → Home (line ∷ [])
list_line_home line is =
    plain line (ap is_no_part is.part) (sound line.item is.item) (unused line.item is.item)
    (straight line.item is.item)
  where
    sound : (item : Item) → IsListItem item → is_sound item ≡ true
    sound (Label label) h = refl
    sound (Code mnemonic mode operand) h = absurd h
    sound (Bytes bytes) h = refl

    unused : (item : Item) → IsListItem item → label_used item ≡ None
    unused (Label label) h = refl
    unused (Code mnemonic mode operand) h = absurd h
    unused (Bytes bytes) h = refl

    straight : (item : Item) → IsListItem item → branch_of item ≡ None
    straight (Label label) h = refl
    straight (Code mnemonic mode operand) h = absurd h
    straight (Bytes bytes) h = refl

lists_home : (lists : List Line) → All IsListLine lists → Home lists
lists_home [] held = record { home = tt }
lists_home (line ∷ lists) held =
    then (list_line_home line (All-head IsListLine line lists held))
    (lists_home lists (All-tail IsListLine line lists held))

-- ---- all of it

all_home : (places : ℕ → ℕ) (variables : List ℕ) (play init : Entrance) (lists : List Line) → IsFit play → IsFit init →
    All IsListLine lists → Home (lines_around places variables play init ++ lists)
all_home places variables play init lists one two held =
    join (join (front_home places variables) (join (entrance_home play one) (join (name_home INIT_CODE)
    (entrance_home init two))))
    (lists_home lists held)

-- a listing that is at home, names the others, and no label twice, assembles where there is room
home_assembles : (set origin : ℕ) (lines : List Line) → Home lines → NamesNoLabelTwice lines →
    NamesOthers is_known lines → origin + size_of (kept set lines) ≤ MEMORY_SIZE → fault_of set origin lines ≡ None
home_assembles set origin lines home once named fits =
    passed_listings_assemble set origin lines fits
    (λ before line after split.
    subst (λ ls. Passes set origin ls before line) (append-nil lines)
    (stretches_pass is_known set origin [] lines [] before line after home.home
    (subst NamesNoLabelTwice (sym (append-nil lines)) once)
    (subst (NamesOthers is_known) (sym (append-nil lines)) named)
    (subst (λ ls. origin + size_of (kept set ls) ≤ MEMORY_SIZE) (sym (append-nil lines)) fits) split))

pub lines_assemble : (places : ℕ → ℕ) (variables : List ℕ) (play init : Entrance) (lists : List Line)
    (set origin : ℕ) → IsFit play → IsFit init → All IsListLine lists →
    NamesNoLabelTwice (lines_around places variables play init ++ lists) →
    NamesOthers is_known (lines_around places variables play init ++ lists) →
    origin + size_of (kept set (lines_around places variables play init ++ lists)) ≤ MEMORY_SIZE →
    fault_of set origin (lines_around places variables play init ++ lists) ≡ None
lines_assemble places variables play init lists set origin one two held once named fits =
    home_assembles set origin (lines_around places variables play init ++ lists)
    (all_home places variables play init lists one two held) once named fits
