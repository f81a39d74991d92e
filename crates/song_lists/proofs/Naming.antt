-- The labels that are named in bytes with labels in front of them: each once, and where.
use Rattle.std.proofs.Common.{◌≡◌, ℕ, zero, suc, ◌+◌, ◌-◌, ◌<◌, ◌≤◌, Bool, true, false, List}
use Rattle.std.proofs.Common.{[], ◌∷◌, ◌++◌, length, get_or, take, drop, All, Some, nat_eq, refl, sym, ap}
use Rattle.std.proofs.Common.{◌∙◌, subst, arith, eq-eqb}
use Rattle.std.specs.List.{sum_by}
use Rattle.std.specs.List.Sorted.{IsNonDecreasingBy}
use Rattle.std.proofs.lemmas.List.{length-take-le, length-drop}
use Rattle.std.proofs.lemmas.List.Elements.{All-nil, All-cons, All-head, All-tail, All-same}
use Rattle.std.proofs.lemmas.List.Sums.{sum_by-cons}
use Rattle.base.proofs.Laws.{same_some, All-append_right}
use Rattle.asm6502.specs.declared.lines.Item.{Item}
use Rattle.asm6502.specs.declared.lines.Item.TheVariants.{Label, Code, Bytes}
use Rattle.asm6502.specs.declared.lines.Line.{Line}
use Rattle.asm6502.specs.Lines.{names, label_named, place_of}
use Rattle.asm6502.specs.Stretches.{NamesNoLabelTwice, IsNamedAlways}
use Rattle.song_lists.specs.declared.marks.Mark.{Mark}
use Rattle.song_lists.specs.Marks.{marked, label_line, bytes_line}

-- ---- how often a label is named

abbrev pub one_if : Bool → ℕ
one_if true = 1
one_if false = 0

abbrev pub times_named : ℕ → List Line → ℕ
times_named label [] = 0
times_named label (line ∷ rest) = one_if (names label line.item) + times_named label rest

abbrev pub times_marked : ℕ → List Mark → ℕ
times_marked label [] = 0
times_marked label (mark ∷ marks) = one_if (nat_eq mark.label label) + times_marked label marks

pub item_names : (item : Item) (label : ℕ) → label_named item ≡ Some label → names label item ≡ true
item_names (Label other) label e = eq-eqb other label (same_some other label e)
item_names (Code mnemonic mode operand) label e = absurd (cc)
item_names (Bytes bytes) label e = absurd (cc)

pub named_once : (front : List Line) (line : Line) (back : List Line) (label : ℕ) → names label line.item ≡ true →
    1 + times_named label back ≤ times_named label (front ++ line ∷ back)
named_once [] line back label e =
    let one : one_if (names label line.item) ≡ 1 = ap one_if e in
    omega arith
named_once (first ∷ front) line back label e = omega (arith, named_once front line back label e)

-- where each is named once at most, none is named twice
pub once_named : (lines : List Line) → ((label : ℕ) → times_named label lines ≤ 1) → NamesNoLabelTwice lines
once_named lines few = record {
  once = λ front line between other back label e one two.
      let all : times_named label lines ≡ times_named label (front ++ line ∷ (between ++ other ∷ back)) =
      ap (times_named label) e in
      let outer = named_once front line (between ++ other ∷ back) label (item_names line.item label one) in
      let inner = named_once between other back label (item_names other.item label two) in
      let most = few label in
      absurd (omega arith);
}

pub marked_times : (label from : ℕ) (marks : List Mark) (bytes : List ℕ) →
    times_named label (marked from marks bytes) ≡ times_marked label marks
marked_times label from [] bytes = omega arith
marked_times label from (mark ∷ marks) bytes =
    let rest = marked_times label mark.place marks (drop (mark.place - from) bytes) in
    omega arith

pub times_are_sums : (label : ℕ) (marks : List Mark) →
    times_marked label marks ≡ sum_by (λ mark. one_if (nat_eq mark.label label)) marks
times_are_sums label [] = refl
times_are_sums label (mark ∷ marks) =
    let first = sum_by-cons (λ (m : Mark). one_if (nat_eq m.label label)) mark marks in
    let rest = times_are_sums label marks in
    omega arith

-- ---- each mark's label is named

pub marked_named : (from : ℕ) (marks : List Mark) (bytes : List ℕ) (k : ℕ) (d : Mark) → k < length marks →
    IsNamedAlways (marked from marks bytes) (get_or marks k d).label
marked_named from [] bytes k d inside = absurd (omega arith)
marked_named from (mark ∷ marks) bytes zero d inside = record {
  front = bytes_line (take (mark.place - from) bytes) ∷ [];
  line = label_line mark.label;
  back = marked mark.place marks (drop (mark.place - from) bytes);
  split = refl;
  names = refl;
  always = refl;
}
marked_named from (mark ∷ marks) bytes (suc k) d inside =
    let there = marked_named mark.place marks (drop (mark.place - from) bytes) k d (omega arith) in record {
      front = bytes_line (take (mark.place - from) bytes) ∷ label_line mark.label ∷ there.front;
      line = there.line;
      back = there.back;
      split = ap (λ (lines : List Line). bytes_line (take (mark.place - from) bytes) ∷ label_line mark.label ∷ lines)
          there.split;
      names = there.names;
      always = there.always;
    }

-- and no other
abbrev Named : (ℕ → Type 0) → Line → Type 0
Named P line = (label : ℕ) → label_named line.item ≡ Some label → P label

marked_labels : (P : ℕ → Type 0) (from : ℕ) (marks : List Mark) (bytes : List ℕ) →
    All (λ (mark : Mark). P mark.label) marks → All (Named P) (marked from marks bytes)
marked_labels P from [] bytes all =
    All-cons (Named P) (bytes_line bytes) [] (λ label e. absurd (cc)) (All-nil (Named P))
marked_labels P from (mark ∷ marks) bytes all =
    let rest = marked mark.place marks (drop (mark.place - from) bytes) in
    let here = All-head (λ (m : Mark). P m.label) mark marks all in
    All-cons (Named P) (bytes_line (take (mark.place - from) bytes)) (label_line mark.label ∷ rest)
    (λ label e. absurd (cc))
    (All-cons (Named P) (label_line mark.label) rest (λ label e. subst P (same_some mark.label label e) here)
    (marked_labels P mark.place marks (drop (mark.place - from) bytes)
    (All-tail (λ (m : Mark). P m.label) mark marks all)))

pub marked_own : (P : ℕ → Type 0) (from : ℕ) (marks : List Mark) (bytes : List ℕ) (front : List Line) (line : Line)
    (back : List Line) (label : ℕ) → All (λ (mark : Mark). P mark.label) marks →
    marked from marks bytes ≡ front ++ line ∷ back → label_named line.item ≡ Some label → P label
marked_own P from marks bytes front line back label all e n =
    let lines = All-same (Named P) (front ++ line ∷ back) (marked from marks bytes) (sym e)
    (marked_labels P from marks bytes all) in
    All-head (Named P) line back (All-append_right (Named P) front (line ∷ back) lines) label n

-- ---- where it is

-- the marks come by their places, from a place up to an end
abbrev pub Rise : ℕ → ℕ → List Mark → Type 0
Rise from end [] = from ≤ end
Rise from end (mark ∷ marks) = (from ≤ mark.place) × Rise mark.place end marks

pub rise_within : (from end : ℕ) (marks : List Mark) → Rise from end marks → from ≤ end
rise_within from end [] rise = rise
rise_within from end (mark ∷ marks) rise = omega (arith, rise.0, rise_within mark.place end marks rise.1)

rise_at : (from end : ℕ) (marks : List Mark) (k : ℕ) (d : Mark) → Rise from end marks → k < length marks →
    from ≤ (get_or marks k d).place
rise_at from end [] k d rise inside = absurd (omega arith)
rise_at from end (mark ∷ marks) zero d rise inside = rise.0
rise_at from end (mark ∷ marks) (suc k) d rise inside =
    omega (arith, rise.0, rise_at mark.place end marks k d rise.1 (omega arith))

pub rise_from : (from end : ℕ) (marks : List Mark) → from ≤ end →
    ((d : Mark) → 0 < length marks → from ≤ (get_or marks 0 d).place) →
    IsNonDecreasingBy (λ mark. mark.place) marks → All (λ mark. mark.place ≤ end) marks → Rise from end marks
rise_from from end [] within first up all = within
rise_from from end (mark ∷ marks) within first up all = (
  first mark (omega arith),
  rise_from mark.place end marks (All-head (λ (m : Mark). m.place ≤ end) mark marks all)
      (λ d some. up 0 1 d (omega arith) (omega arith))
      (λ i j d le inside. up (suc i) (suc j) d (omega arith) (omega arith))
      (All-tail (λ (m : Mark). m.place ≤ end) mark marks all),
)

marked_at : (k : ℕ) (marks : List Mark) (d : Mark) → k < length marks →
    1 ≤ times_marked (get_or marks k d).label marks
marked_at k [] d inside = absurd (omega arith)
marked_at zero (mark ∷ marks) d inside =
    let one : one_if (nat_eq mark.label mark.label) ≡ 1 = ap one_if (eq-eqb mark.label mark.label refl) in
    omega arith
marked_at (suc k) (mark ∷ marks) d inside = omega (arith, marked_at k marks d (omega arith))

-- a label behind a piece of bytes
found_here : (piece : List ℕ) (other label : ℕ) (rest : List Line) → nat_eq other label ≡ true →
    place_of (bytes_line piece ∷ label_line other ∷ rest) label ≡ Some (length piece)
found_here piece other label rest e =
    let sum : length piece + 0 ≡ length piece = omega arith in
    rw (e, sum) refl

found_on : (piece : List ℕ) (other label : ℕ) (rest : List Line) (place : ℕ) → nat_eq other label ≡ false →
    place_of rest label ≡ Some place →
    place_of (bytes_line piece ∷ label_line other ∷ rest) label ≡ Some (length piece + place)
found_on piece other label rest place e there =
    let sum : 0 + place ≡ place = omega arith in
    rw (e, there, sum) refl

pub marked_place : (from : ℕ) (marks : List Mark) (bytes : List ℕ) (k : ℕ) (d : Mark) → k < length marks →
    times_marked (get_or marks k d).label marks ≤ 1 → Rise from (from + length bytes) marks →
    place_of (marked from marks bytes) (get_or marks k d).label ≡ Some ((get_or marks k d).place - from)
marked_place from [] bytes k d inside few rise = absurd (omega arith)
marked_place from (mark ∷ marks) bytes zero d inside few rise =
    let within = rise_within mark.place (from + length bytes) marks rise.1 in
    let size : length (take (mark.place - from) bytes) ≡ mark.place - from =
    length-take-le (mark.place - from) bytes (omega arith) in
    found_here (take (mark.place - from) bytes) mark.label mark.label
    (marked mark.place marks (drop (mark.place - from) bytes)) (eq-eqb mark.label mark.label refl)
    ∙ ap (λ (n : ℕ). Some n) size
marked_place from (mark ∷ marks) bytes (suc k) d inside few rise =
    let start = rise.0 in
    let within = rise_within mark.place (from + length bytes) marks rise.1 in
    let size : length (take (mark.place - from) bytes) ≡ mark.place - from =
    length-take-le (mark.place - from) bytes (omega arith) in
    let left : mark.place + length (drop (mark.place - from) bytes) ≡ from + length bytes =
    omega (arith, length-drop (mark.place - from) bytes) in
    let later = rise_at mark.place (from + length bytes) marks k d rise.1 (omega arith) in
    let rest = marked_place mark.place marks (drop (mark.place - from) bytes) k d (omega arith) (omega arith)
    (subst (λ (end : ℕ). Rise mark.place end marks) (sym left) rise.1) in
    found_on (take (mark.place - from) bytes) mark.label (get_or marks k d).label
    (marked mark.place marks (drop (mark.place - from) bytes)) ((get_or marks k d).place - mark.place)
    (other mark.label (get_or marks k d).label marks few (marked_at k marks d (omega arith))) rest
    ∙ ap (λ (n : ℕ). Some n) (omega arith)
  where
    other : (name label : ℕ) (ms : List Mark) → one_if (nat_eq name label) + times_marked label ms ≤ 1 →
        1 ≤ times_marked label ms → nat_eq name label ≡ false
    other name label ms few some = by_test (nat_eq name label) refl
      where
        by_test : (z : Bool) → nat_eq name label ≡ z → nat_eq name label ≡ false
        by_test false e = e
        by_test true e =
            let one : one_if (nat_eq name label) ≡ 1 = ap one_if e in
            absurd (omega arith)
