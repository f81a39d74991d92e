-- The first fault that a test finds in a list of lines, line by line.
use Rattle.std.proofs.Common.{◌≡◌, ℕ, ◌+◌, ◌<◌, List, [], ◌∷◌, ◌++◌, length, take, drop}
use Rattle.std.proofs.Common.{Option, Some, None, refl, ap, sym, ◌∙◌, get_or}
use Rattle.std.specs.Option.{option_or}
use Rattle.std.proofs.lemmas.List.{drop_more, take_more}
use Rattle.asm6502.specs.declared.lines.Line.{Line}
use Rattle.asm6502.specs.declared.faults.AsmFault.{AsmFault}
use Rattle.asm6502.specs.Faults.{first_fault}

-- how a test sees lines
abbrev pub Test : Type 0
Test = List Line → Line → Option AsmFault

-- the lines up to place k have passed
pub record IsSearched (test : Test) (lines : List Line) (k : ℕ) : Type 0 where
  pub rest : first_fault test (take k lines) (drop k lines) ≡ first_fault test [] lines

first_more : (test : Test) (lines : List Line) (k : ℕ) (x : Line) → k < length lines → x ≡ get_or lines k x →
    first_fault test (take k lines) (drop k lines) ≡ option_or (test (take k lines) x)
    (first_fault test (take (k + 1) lines) (drop (k + 1) lines))
first_more test lines k x l e =
    let front : take (k + 1) lines ≡ take k lines ++ x ∷ [] =
    take_more lines k x l ∙ ap (λ (y : Line). take k lines ++ y ∷ []) (sym e) in
    let back : drop k lines ≡ x ∷ drop (k + 1) lines =
    drop_more lines k x l ∙ ap (λ (y : Line). y ∷ drop (k + 1) lines) (sym e) in
    rw (front, back) refl

pub searched_more : (test : Test) (lines : List Line) (k : ℕ) (x : Line) → k < length lines → x ≡ get_or lines k x →
    test (take k lines) x ≡ None → IsSearched test lines k → IsSearched test lines (k + 1)
searched_more test lines k x l e n s =
    let m = first_more test lines k x l e in
    let f = ap (λ (o : Option AsmFault). option_or o (first_fault test (take (k + 1) lines) (drop (k + 1) lines)))
    n in
    record { rest = sym f ∙ sym m ∙ s.rest }

pub found_here : (test : Test) (lines : List Line) (k : ℕ) (x : Line) (fault : AsmFault) → k < length lines →
    x ≡ get_or lines k x → test (take k lines) x ≡ Some fault → IsSearched test lines k →
    first_fault test [] lines ≡ Some fault
found_here test lines k x fault l e n s =
    let m = first_more test lines k x l e in
    let f = ap (λ (o : Option AsmFault). option_or o (first_fault test (take (k + 1) lines) (drop (k + 1) lines)))
    n in
    sym s.rest ∙ m ∙ f
