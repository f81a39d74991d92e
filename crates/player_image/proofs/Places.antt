-- Lines whose labels stand at the same places, whichever bytes and numbers are in them.
use mathlib.Core.Path.{fun_ext}
use Rattle.std.proofs.Common.{◌≡◌, ℕ, ◌+◌, List, [], ◌∷◌, ◌++◌, length}
use Rattle.std.proofs.Common.{Option, unwrap_or, refl, sym, ap, ◌∙◌, arith}
use Rattle.std.specs.Option.{option_or, option_map}
use Rattle.asm6502.specs.declared.lines.Line.{Line}
use Rattle.asm6502.specs.Lines.{size_of, place_of, address_in}
use Rattle.asm6502.proofs.Laws.{size_of-append, place_of-append}
use Rattle.scope_calls.specs.Entrances.{Entrance, entrance_lines, entrance_size}
use Rattle.scope_calls.proofs.Laws.{entrances_take_size, entrance_names_none}
use Rattle.player_code.specs.declared.labels.TheConstants.{PLAY_CODE}
use Rattle.player_code.specs.CodeLines.{name, byte_line, names_at, variable_lines, jump_lines, front_lines}
use Rattle.player_code.specs.CodeLines.{middle_lines, lines_around}

-- two lists of lines take as many bytes, and each label is at one place in both
pub record SamePlaces (one two : List Line) : Type 0 where
  pub size : size_of one ≡ size_of two
  pub places : (label : ℕ) → place_of one label ≡ place_of two label

pub same_self : (lines : List Line) → SamePlaces lines lines
same_self lines = record { size = refl; places = λ label. refl }

pub same_both : (a b c d : List Line) → SamePlaces a b → SamePlaces c d → SamePlaces (a ++ c) (b ++ d)
same_both a b c d front back = record {
  size =
      let one = size_of-append a c in
      let two = size_of-append b d in
      let first = front.size in
      let second = back.size in
      omega (arith, one, two, first, second);
  places = λ label.
      place_of-append a c label
      ∙ (ap (λ (place : Option ℕ). option_or place (option_map (λ p. size_of a + p) (place_of c label)))
      (front.places label)
      ∙ (ap (λ n. option_or (place_of b label) (option_map (λ p. n + p) (place_of c label))) front.size
      ∙ (ap (λ (place : Option ℕ). option_or (place_of b label) (option_map (λ p. size_of b + p) place))
      (back.places label)
      ∙ sym (place_of-append b d label))));
}

-- so labels have the same addresses in them
pub same_addresses : (one two : List Line) (origin : ℕ) → SamePlaces one two →
    address_in one origin ≡ address_in two origin
same_addresses one two origin same =
    fun_ext (λ (label : ℕ). ap (λ (place : Option ℕ). origin + unwrap_or place 0) (same.places label))

-- ---- the code

-- other bytes behind the names of the same labels
variables_same : (places : ℕ → ℕ) (first : ℕ) (one two : List ℕ) → length one ≡ length two →
    SamePlaces (variable_lines places first one) (variable_lines places first two)
variables_same places first [] [] all = same_self []
variables_same places first [] (byte ∷ bytes) all = absurd (omega (arith, all))
variables_same places first (byte ∷ bytes) [] all = absurd (omega (arith, all))
variables_same places first (byte ∷ bytes) (other ∷ others) all =
    let rest = variables_same places (first + 1) bytes others (omega (arith, all)) in
    same_both (names_at places first) (names_at places first)
    (byte_line byte ∷ variable_lines places (first + 1) bytes)
    (byte_line other ∷ variable_lines places (first + 1) others) (same_self (names_at places first))
    (record {
      size = let size = rest.size in omega (arith, size);
      places = λ label. ap (λ (place : Option ℕ). option_map (λ p. 1 + p) place) (rest.places label);
    })

-- the lines of an entrance name no label
pub entrance_same : (one two : Entrance) → entrance_size one ≡ entrance_size two →
    SamePlaces (entrance_lines one) (entrance_lines two)
entrance_same one two size = record {
  size = entrances_take_size one ∙ (size ∙ sym (entrances_take_size two));
  places = λ label. entrance_names_none label one ∙ sym (entrance_names_none label two);
}

-- the variables may begin with other bytes, and what begins a subtune may be other lines of the same size
pub code_same : (places : ℕ → ℕ) (one two : List ℕ) (play init other : Entrance) → length one ≡ length two →
    entrance_size init ≡ entrance_size other →
    SamePlaces (lines_around places one play init) (lines_around places two play other)
code_same places one two play init other all size =
    same_both (front_lines places one) (front_lines places two)
    (entrance_lines play ++ (middle_lines ++ entrance_lines init))
    (entrance_lines play ++ (middle_lines ++ entrance_lines other))
    (same_both jump_lines jump_lines (variable_lines places 0 one ++ name PLAY_CODE ∷ [])
    (variable_lines places 0 two ++ name PLAY_CODE ∷ []) (same_self jump_lines)
    (same_both (variable_lines places 0 one) (variable_lines places 0 two) (name PLAY_CODE ∷ []) (name PLAY_CODE ∷ [])
    (variables_same places 0 one two all) (same_self (name PLAY_CODE ∷ []))))
    (same_both (entrance_lines play) (entrance_lines play) (middle_lines ++ entrance_lines init)
    (middle_lines ++ entrance_lines other) (same_self (entrance_lines play))
    (same_both middle_lines middle_lines (entrance_lines init) (entrance_lines other) (same_self middle_lines)
    (entrance_same init other size)))
