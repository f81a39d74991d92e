-- The lines of an image: all of them are kept, and how many bytes they take.
use Rattle.std.proofs.Common.{◌≡◌, ℕ, ◌+◌, List, [], ◌∷◌}
use Rattle.std.proofs.Common.{◌++◌, length, All, if◌then◌else◌, refl, ap, ◌∙◌}
use Rattle.std.proofs.Common.{arith}
use Rattle.std.proofs.lemmas.List.Elements.{All-head, All-tail}
use Rattle.asm6502.specs.declared.lines.Line.{Line}
use Rattle.asm6502.specs.Lines.{is_kept, kept, size_of}
use Rattle.asm6502.proofs.Laws.{kept-append, size_of-append}
use Rattle.scope_calls.specs.Entrances.{Entrance, entrance_lines, entrance_size}
use Rattle.scope_calls.proofs.Laws.{entrances_take_size, entrance_kept}
use Rattle.player_code.specs.declared.labels.TheConstants.{PLAY_CODE}
use Rattle.player_code.specs.CodeLines.{name, variable_lines, jump_lines, front_lines, middle_lines}
use Rattle.player_code.specs.CodeLines.{lines_around}
use Rattle.player_code.specs.Plans.{IsListLine, IsData}
use Rattle.player_code.proofs.Variables.{variables_size, variables_kept}

-- ---- all are kept

both_kept : (set : ℕ) (front back : List Line) → kept set front ≡ front → kept set back ≡ back →
    kept set (front ++ back) ≡ front ++ back
both_kept set front back e f =
    kept-append set front back ∙ (ap (λ ls. ls ++ kept set back) e ∙ ap (λ ls. front ++ ls) f)

pub front_kept : (set : ℕ) (places : ℕ → ℕ) (variables : List ℕ) →
    kept set (front_lines places variables) ≡ front_lines places variables
front_kept set places variables =
    both_kept set jump_lines (variable_lines places 0 variables ++ name PLAY_CODE ∷ []) refl
    (both_kept set (variable_lines places 0 variables) (name PLAY_CODE ∷ []) (variables_kept places set 0 variables)
    refl)

lists_kept : (set : ℕ) (lists : List Line) → All IsListLine lists → kept set lists ≡ lists
lists_kept set [] held = refl
lists_kept set (line ∷ lists) held =
    ap (λ z. if z then line ∷ kept set lists else kept set lists)
    (ap (λ part. is_kept set (record { part = part; item = line.item })) (All-head IsListLine line lists held).part)
    ∙ ap (λ ls. line ∷ ls) (lists_kept set lists (All-tail IsListLine line lists held))

-- ---- their bytes

pub front_size : (places : ℕ → ℕ) (variables : List ℕ) → size_of (front_lines places variables) ≡ 6 + length variables
front_size places variables =
    let all = size_of-append (variable_lines places 0 variables) (name PLAY_CODE ∷ []) in
    let bytes = variables_size places 0 variables in
    omega (arith, all, bytes)

pub around_size : (places : ℕ → ℕ) (variables : List ℕ) (play init : Entrance) →
    size_of (lines_around places variables play init)
    ≡ 6 + length variables + entrance_size play + entrance_size init
around_size places variables play init =
    let behind = entrance_lines play ++ (middle_lines ++ entrance_lines init) in
    let one = size_of-append (front_lines places variables) behind in
    let two = size_of-append (entrance_lines play) (middle_lines ++ entrance_lines init) in
    let front = front_size places variables in
    let taken = entrances_take_size play in
    let last = entrances_take_size init in
    omega (arith, one, two, front, taken, last)

module _ (places : ℕ → ℕ) (variables : List ℕ) (play init : Entrance) where
  pub begun_kept : (set : ℕ) →
      kept set (front_lines places variables ++ (entrance_lines play ++ middle_lines))
      ≡ front_lines places variables ++ (entrance_lines play ++ middle_lines)
  begun_kept set =
      both_kept set (front_lines places variables) (entrance_lines play ++ middle_lines)
      (front_kept set places variables)
      (both_kept set (entrance_lines play) middle_lines (entrance_kept set play) refl)

  pub code_is_kept : (set : ℕ) →
      kept set (lines_around places variables play init) ≡ lines_around places variables play init
  code_is_kept set =
      both_kept set (front_lines places variables) (entrance_lines play ++ (middle_lines ++ entrance_lines init))
      (front_kept set places variables)
      (both_kept set (entrance_lines play) (middle_lines ++ entrance_lines init) (entrance_kept set play)
      (both_kept set middle_lines (entrance_lines init) refl (entrance_kept set init)))

  pub all_kept : (set : ℕ) (lists : List Line) → IsData lists →
      kept set (lines_around places variables play init ++ lists) ≡ lines_around places variables play init ++ lists
  all_kept set lists is =
      both_kept set (lines_around places variables play init) lists (code_is_kept set) (lists_kept set lists is.lines)

  -- up to the code that begins a subtune
  pub begun_size :
      size_of (front_lines places variables ++ (entrance_lines play ++ middle_lines))
      ≡ 6 + length variables + entrance_size play
  begun_size =
      let one = size_of-append (front_lines places variables) (entrance_lines play ++ middle_lines) in
      let two = size_of-append (entrance_lines play) middle_lines in
      let front = front_size places variables in
      let taken = entrances_take_size play in
      omega (arith, one, two, front, taken)
