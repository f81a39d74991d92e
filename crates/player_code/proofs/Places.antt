-- Where the labels of an image are: their places in its lines, and that they are always named.
use Rattle.std.proofs.Common.{◌≡◌, ℕ, ◌+◌, if◌then◌else◌, List, [], ◌∷◌, ◌++◌, Some, None, refl, sym, ap, ◌∙◌}
use Rattle.std.proofs.Common.{arith, append_assoc}
use Rattle.std.specs.Option.{option_or, option_map}
use Rattle.asm6502.specs.declared.lines.Line.{Line}
use Rattle.asm6502.specs.Lines.{item_size, size_of, place_of}
use Rattle.asm6502.specs.Stretches.{IsNamedAlways, NamesNoLabelTwice}
use Rattle.asm6502.proofs.Laws.{place_of-append, size_of-append}
use Rattle.player_code.specs.CodeLines.{name}
use Rattle.player_code.proofs.Naming.{names_it, unplaced}

-- ---- in one list behind another

pub placed_in_front : (front back : List Line) (label place : ℕ) → place_of front label ≡ Some place →
    place_of (front ++ back) label ≡ Some place
placed_in_front front back label place e =
    place_of-append front back label
    ∙ ap (λ o. option_or o (option_map (λ p. size_of front + p) (place_of back label))) e

pub placed_behind : (front back : List Line) (label place : ℕ) → place_of front label ≡ None →
    place_of back label ≡ Some place → place_of (front ++ back) label ≡ Some (size_of front + place)
placed_behind front back label place none e =
    place_of-append front back label
    ∙ (ap (λ o. option_or o (option_map (λ p. size_of front + p) (place_of back label))) none
    ∙ ap (λ o. option_map (λ p. size_of front + p) o) e)

pub named_in_front : (front back : List Line) (label : ℕ) → IsNamedAlways front label →
    IsNamedAlways (front ++ back) label
named_in_front front back label named = record {
  front = named.front;
  line = named.line;
  back = named.back ++ back;
  split = ap (λ ls. ls ++ back) named.split ∙ append_assoc named.front (named.line ∷ named.back) back;
  names = named.names;
  always = named.always;
}

pub named_behind : (front back : List Line) (label : ℕ) → IsNamedAlways back label → IsNamedAlways (front ++ back) label
named_behind front back label named = record {
  front = front ++ named.front;
  line = named.line;
  back = named.back;
  split = ap (λ ls. front ++ ls) named.split ∙ sym (append_assoc front named.front (named.line ∷ named.back));
  names = named.names;
  always = named.always;
}

-- ---- at a place that is told

-- a label is named always, behind so many bytes
pub record StandsAt (lines : List Line) (label place : ℕ) : Type 0 where
  pub named : IsNamedAlways lines label
  pub size : size_of named.front ≡ place

pub stands_in_front : (front back : List Line) (label place : ℕ) → StandsAt front label place →
    StandsAt (front ++ back) label place
unfolding named_in_front
stands_in_front front back label place stands = record {
  named = named_in_front front back label stands.named;
  size = stands.size;
}

pub stands_behind : (front back : List Line) (label bytes place : ℕ) → size_of front ≡ bytes →
    StandsAt back label place → StandsAt (front ++ back) label (bytes + place)
unfolding named_behind
stands_behind front back label bytes place taken stands = record {
  named = named_behind front back label stands.named;
  size =
      (let all = size_of-append front stands.named.front in
      let rest = stands.size in
      omega (arith, all, taken, rest));
}

-- where no line names it twice, that is its place
pub stands_placed : (lines : List Line) (label place : ℕ) → NamesNoLabelTwice lines → StandsAt lines label place →
    place_of lines label ≡ Some place
stands_placed lines label place once stands =
    let named = stands.named in
    let before : place_of named.front label ≡ None =
    unplaced named.front label
    (λ front line between e n.
    once.once front line between named.line named.back label
    (named.split ∙ (ap (λ ls. ls ++ named.line ∷ named.back) e
    ∙ append_assoc front (line ∷ between) (named.line ∷ named.back))) n named.names) in
    ap (λ ls. place_of ls label) named.split
    ∙ (placed_behind named.front (named.line ∷ named.back) label 0 before
    (ap (λ z. if z then Some 0 else option_map (λ p. item_size named.line.item + p) (place_of named.back label))
    (names_it named.line.item label named.names))
    ∙ ap Some (let size = stands.size in omega (arith, size)))

pub name_named : (label : ℕ) (rest : List Line) → IsNamedAlways (name label ∷ rest) label
name_named label rest =
    record { front = []; line = name label; back = rest; split = refl; names = refl; always = refl }

pub name_stands : (label : ℕ) (rest : List Line) → StandsAt (name label ∷ rest) label 0
unfolding name_named
name_stands label rest = record { named = name_named label rest; size = refl }
