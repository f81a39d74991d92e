-- How many lines the code has, and how many of its bytes stand in it as they are: those of the variables.
use Rattle.std.proofs.Common.{◌≡◌, ℕ, zero, suc, ◌+◌, ◌<◌, ◌≤◌, Bool, true, false, cond, nat_eq, List, [], ◌∷◌, ◌++◌}
use Rattle.std.proofs.Common.{length, map, filter, refl, arith}
use Rattle.std.proofs.Common.{length-append}
use Rattle.std.specs.List.{range_with_len}
use Rattle.std.proofs.lemmas.List.FromFn.{length-range_with_len}
use Rattle.std.proofs.lemmas.List.{length-map}
use Rattle.std.proofs.lemmas.Bool.{eqb-true}
use Rattle.asm6502.specs.declared.lines.Line.{Line}
use Rattle.asm6502.specs.Lines.{data_size}
use Rattle.scope_calls.specs.Entrances.{Entrance, entrance_lines, entrance_size}
use Rattle.scope_calls.proofs.Laws.{entrances_take_size, entrance_is_code}
use Rattle.player_memory.specs.declared.labels.TheConstants.{VARIABLES}
use Rattle.player_text.specs.declared.texts.Start.{Start}
use Rattle.player_code.specs.declared.labels.TheConstants.{PLAY_CODE}
use Rattle.player_code.specs.CodeLines.{name, byte_line, names_at, variable_lines, front_lines, middle_lines}
use Rattle.player_code.specs.CodeLines.{lines_around, code_lines, play_entrance, init_entrance, cleared_of}
use Rattle.player_code.specs.CodeLaws.{code_takes}
use Rattle.player_code.proofs.Sizes.{around_size}
use Rattle.player_code.proofs.CodeSizes.{code_takes_its_blocks}

pub data_append : (front back : List Line) → data_size (front ++ back) ≡ data_size front + data_size back
data_append [] back = omega arith
data_append (line ∷ front) back = (let rest = data_append front back in omega (arith, rest))

-- ---- names are no bytes, and there are no more of them than labels

labels_data : (labels : List ℕ) → data_size (map name labels) ≡ 0
labels_data [] = refl
labels_data (label ∷ labels) = (let rest = labels_data labels in omega (arith, rest))

names_data : (places : ℕ → ℕ) (place : ℕ) → data_size (names_at places place) ≡ 0
unfolding names_at
names_data places place = labels_data _

-- how many of these labels have so many places, from a first on
abbrev placed : (ℕ → ℕ) → List ℕ → ℕ → ℕ → ℕ
placed places labels first zero = 0
placed places labels first (suc count) =
    length (filter (λ label. nat_eq (places label) first) labels) + placed places labels (first + 1) count

placed_none : (places : ℕ → ℕ) (first count : ℕ) → placed places [] first count ≡ 0
placed_none places first zero = refl
placed_none places first (suc count) = (let rest = placed_none places (first + 1) count in omega (arith, rest))

module _ (places : ℕ → ℕ) (label : ℕ) where
  -- a label whose place is in front of them changes nothing
  skipped : (labels : List ℕ) (first : ℕ) (z : Bool) → nat_eq (places label) first ≡ z → places label < first →
      length (cond z (label ∷ labels) labels) ≡ length labels
  skipped labels first true e before =
      (let same = eqb-true (places label) first e in absurd (omega (arith, same, before)))
  skipped labels first false e before = refl

  placed_before : (labels : List ℕ) (first count : ℕ) → places label < first →
      placed places (label ∷ labels) first count ≡ placed places labels first count
  placed_before labels first zero before = refl
  placed_before labels first (suc count) before =
      let this =
      skipped (filter (λ l. nat_eq (places l) first) labels) first (nat_eq (places label) first) refl before in
      let rest = placed_before labels (first + 1) count (omega (arith, before)) in
      omega (arith, this, rest)

  -- and any is counted once at most
  counted : (labels : List ℕ) (first one none : ℕ) (z : Bool) → nat_eq (places label) first ≡ z →
      (places label < first + 1 → one ≡ none) → one ≤ 1 + none →
      length (cond z (label ∷ labels) labels) + one ≤ 1 + (length labels + none)
  counted labels first one none true e before once =
      (let same = before (let is = eqb-true (places label) first e in omega (arith, is)) in omega (arith, same))
  counted labels first one none false e before once = omega (arith, once)

  placed_once : (labels : List ℕ) (first count : ℕ) →
      placed places (label ∷ labels) first count ≤ 1 + placed places labels first count
  placed_once labels first zero = omega arith
  placed_once labels first (suc count) =
      counted (filter (λ l. nat_eq (places l) first) labels) first (placed places (label ∷ labels) (first + 1) count)
      (placed places labels (first + 1) count) (nat_eq (places label) first) refl
      (placed_before labels (first + 1) count) (placed_once labels (first + 1) count)

placed_few : (places : ℕ → ℕ) (labels : List ℕ) (first count : ℕ) → placed places labels first count ≤ length labels
placed_few places [] first count = (let none = placed_none places first count in omega (arith, none))
placed_few places (label ∷ labels) first count =
    let one = placed_once places label labels first count in
    let rest = placed_few places labels first count in
    omega (arith, one, rest)

-- the names at so many places
abbrev named : (ℕ → ℕ) → ℕ → ℕ → ℕ
named places first zero = 0
named places first (suc count) = length (names_at places first) + named places (first + 1) count

named_is : (places : ℕ → ℕ) (labels : List ℕ) (first count : ℕ) →
    ((place : ℕ) → length (names_at places place) ≡ length (filter (λ label. nat_eq (places label) place) labels)) →
    named places first count ≡ placed places labels first count
named_is places labels first zero each = refl
named_is places labels first (suc count) each =
    let this = each first in
    let rest = named_is places labels (first + 1) count each in
    omega (arith, this, rest)

names_length : (places : ℕ → ℕ) (place : ℕ) →
    length (names_at places place)
    ≡ length (filter (λ label. nat_eq (places label) place) (range_with_len 0 VARIABLES))
unfolding names_at
names_length places place = length-map (filter (λ label. nat_eq (places label) place) (range_with_len 0 VARIABLES)) name

at_most : (names placed labels most : ℕ) → names ≡ placed → placed ≤ labels → labels ≡ most → names ≤ most
at_most names placed labels most e few f = omega (arith, e, few, f)

named_few : (places : ℕ → ℕ) (first count : ℕ) → named places first count ≤ VARIABLES
named_few places first count =
    at_most _ _ _ _ (named_is places (range_with_len 0 VARIABLES) first count (names_length places))
    (placed_few places (range_with_len 0 VARIABLES) first count) (length-range_with_len 0 VARIABLES)

-- ---- the variables

variables_count : (places : ℕ → ℕ) (first : ℕ) (bytes : List ℕ) →
    length (variable_lines places first bytes) ≡ length bytes + named places first (length bytes)
variables_count places first [] = refl
variables_count places first (byte ∷ bytes) =
    let all = length-append (names_at places first) (byte_line byte ∷ variable_lines places (first + 1) bytes) in
    let rest = variables_count places (first + 1) bytes in
    omega (arith, all, rest)

variables_data : (places : ℕ → ℕ) (first : ℕ) (bytes : List ℕ) →
    data_size (variable_lines places first bytes) ≡ length bytes
variables_data places first [] = refl
variables_data places first (byte ∷ bytes) =
    let all = data_append (names_at places first) (byte_line byte ∷ variable_lines places (first + 1) bytes) in
    let names = names_data places first in
    let rest = variables_data places (first + 1) bytes in
    omega (arith, all, names, rest)

-- ---- all of it

-- so many lines at most, and so many bytes as they are
pub record IsFew (ls : List Line) (count raw : ℕ) : Type 0 where
  pub lines : length ls ≤ count
  pub bytes : data_size ls ≡ raw

front_is : (places : ℕ → ℕ) (variables : List ℕ) →
    IsFew (front_lines places variables) (3 + VARIABLES + length variables) (length variables)
front_is places variables =
    let count = variables_count places 0 variables in
    let few = named_few places 0 (length variables) in
    let raw = variables_data places 0 variables in
    let lines = length-append (variable_lines places 0 variables) (name PLAY_CODE ∷ []) in
    let bytes = data_append (variable_lines places 0 variables) (name PLAY_CODE ∷ []) in
    record { lines = omega (arith, count, few, lines); bytes = omega (arith, raw, bytes) }

around_is : (places : ℕ → ℕ) (variables : List ℕ) (play init : Entrance) →
    IsFew (lines_around places variables play init)
    (4 + VARIABLES + length variables + entrance_size play + entrance_size init) (length variables)
around_is places variables play init =
    let front = front_is places variables in
    let a = front.lines in
    let b = front.bytes in
    let one = entrance_is_code play in
    let two = entrance_is_code init in
    let c = one.few in
    let d = two.few in
    let e = one.bytes in
    let f = two.bytes in
    let g = entrances_take_size play in
    let h = entrances_take_size init in
    let behind = entrance_lines play ++ (middle_lines ++ entrance_lines init) in
    let i = length-append (front_lines places variables) behind in
    let j = length-append (entrance_lines play) (middle_lines ++ entrance_lines init) in
    let k = data_append (front_lines places variables) behind in
    let l = data_append (entrance_lines play) (middle_lines ++ entrance_lines init) in
    record { lines = omega (arith, a, c, d, g, h, i, j); bytes = omega (arith, b, e, f, k, l) }

-- of the code there are at most as many lines as bytes, and as many names
pub code_is_few : (places : ℕ → ℕ) (variables : List ℕ) (pointer : ℕ) (holds : ℕ → Bool) (start : Start) →
    IsFew (code_lines places variables pointer holds start) (VARIABLES + code_takes holds start (length variables))
    (length variables)
code_is_few places variables pointer holds start =
    let its_play = play_entrance pointer holds in
    let its_init = init_entrance pointer holds start (cleared_of (length variables)) in
    let few = around_is places variables its_play its_init in
    let lines = few.lines in
    let whole = around_size places variables its_play its_init in
    let taken = code_takes_its_blocks places variables pointer holds start in
    record { lines = omega (arith, lines, whole, taken); bytes = few.bytes }
