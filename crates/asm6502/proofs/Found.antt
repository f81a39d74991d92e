-- The first fault is the first that a test finds.
use Rattle.std.proofs.Common.{◌≡◌, List, [], ◌∷◌, ◌++◌, Option, Some, None, refl, ap, sym, ◌∙◌}
use Rattle.std.proofs.Common.{append_assoc}
use Rattle.std.specs.Option.{option_or}
use Rattle.std.proofs.lemmas.List.{append-nil}
use Rattle.base.proofs.Laws.{same_head, same_tail, nil_is_no_append}
use Rattle.asm6502.specs.declared.lines.Line.{Line}
use Rattle.asm6502.specs.declared.faults.AsmFault.{AsmFault}
use Rattle.asm6502.specs.Faults.{first_fault, FoundFirst}
use Rattle.asm6502.proofs.Firsts.{Test}
use Rattle.asm6502.proofs.Sound.{first_parts}

pub none_found : (test : Test) (before rest front : List Line) (line : Line) (back : List Line) →
    first_fault test before rest ≡ None → rest ≡ front ++ line ∷ back → test (before ++ front) line ≡ None
none_found test before [] front line back n e = absurd (nil_is_no_append front line back e)
none_found test before (x ∷ rest) [] line back n e =
    let p = first_parts test before x rest n in
    ap (λ (ls : List Line). test ls line) (append-nil before) ∙ ap (test before) (sym (same_head x line rest back e))
    ∙ p.0
none_found test before (x ∷ rest) (y ∷ front) line back n e =
    let p = first_parts test before x rest n in
    let same = same_head x y rest (front ++ line ∷ back) e in
    let front_is : before ++ (y ∷ front) ≡ (before ++ x ∷ []) ++ front =
    ap (λ (z : Line). before ++ (z ∷ front)) (sym same) ∙ sym (append_assoc before (x ∷ []) front) in
    ap (λ (ls : List Line). test ls line) front_is
    ∙ none_found test (before ++ x ∷ []) rest front line back p.1 (same_tail x y rest (front ++ line ∷ back) e)

pub all_passed : (test : Test) (before rest : List Line) →
    ((front : List Line) (line : Line) (back : List Line) → rest ≡ front ++ line ∷ back →
    test (before ++ front) line ≡ None) → first_fault test before rest ≡ None
all_passed test before [] h = refl
all_passed test before (x ∷ rest) h =
    let here : test before x ≡ None =
    ap (λ (ls : List Line). test ls x) (sym (append-nil before)) ∙ h [] x rest refl in
    let following = all_passed test (before ++ x ∷ []) rest
    (λ front line back e. ap (λ (ls : List Line). test ls line) (append_assoc before (x ∷ []) front)
    ∙ h (x ∷ front) line back (ap (λ (ls : List Line). x ∷ ls) e)) in
    ap (λ (o : Option AsmFault). option_or o (first_fault test (before ++ x ∷ []) rest)) here ∙ following

-- a fault at the first line, or after it
pub record Found (test : Test) (before rest : List Line) (fault : AsmFault) : Type 0 where
  pub front : List Line
  pub line : Line
  pub back : List Line
  pub split : rest ≡ front ++ line ∷ back
  pub found : test (before ++ front) line ≡ Some fault
  pub earlier : (prior : List Line) (other : Line) (after : List Line) → front ≡ prior ++ other ∷ after →
      test (before ++ prior) other ≡ None

further : (test : Test) (before rest : List Line) (x : Line) (fault : AsmFault) → test before x ≡ None →
    Found test (before ++ x ∷ []) rest fault → Found test before (x ∷ rest) fault
further test before rest x fault here f = record {
  front = x ∷ f.front;
  line = f.line;
  back = f.back;
  split = ap (λ (ls : List Line). x ∷ ls) f.split;
  found = ap (λ (ls : List Line). test ls f.line) (sym (append_assoc before (x ∷ []) f.front)) ∙ f.found;
  earlier = earlier test before f.front x here f.earlier;
}
  where
    earlier : (test : Test) (before front : List Line) (x : Line) → test before x ≡ None →
        ((prior : List Line) (other : Line) (after : List Line) → front ≡ prior ++ other ∷ after →
        test ((before ++ x ∷ []) ++ prior) other ≡ None) → (prior : List Line) (other : Line) (after : List Line) →
        x ∷ front ≡ prior ++ other ∷ after → test (before ++ prior) other ≡ None
    earlier test before front x here h [] other after e =
        ap (λ (ls : List Line). test ls other) (append-nil before)
        ∙ ap (test before) (sym (same_head x other front after e)) ∙ here
    earlier test before front x here h (y ∷ prior) other after e =
        let same = same_head x y front (prior ++ other ∷ after) e in
        let place : before ++ (y ∷ prior) ≡ (before ++ x ∷ []) ++ prior =
        ap (λ (z : Line). before ++ (z ∷ prior)) (sym same) ∙ sym (append_assoc before (x ∷ []) prior) in
        ap (λ (ls : List Line). test ls other) place
        ∙ h prior other after (same_tail x y front (prior ++ other ∷ after) e)

found_by : (test : Test) (before rest : List Line) (x : Line) (fault : AsmFault) (o : Option AsmFault) →
    test before x ≡ o → option_or o (first_fault test (before ++ x ∷ []) rest) ≡ Some fault →
    (first_fault test (before ++ x ∷ []) rest ≡ Some fault → Found test (before ++ x ∷ []) rest fault) →
    Found test before (x ∷ rest) fault
found_by test before rest x fault None e h following = further test before rest x fault e (following h)
found_by test before rest x fault (Some f) e h following = record {
  front = [];
  line = x;
  back = rest;
  split = refl;
  found = ap (λ (ls : List Line). test ls x) (append-nil before) ∙ e ∙ h;
  earlier = λ prior other after n. absurd (nil_is_no_append prior other after n);
}

pub found_first : (test : Test) (before rest : List Line) (fault : AsmFault) →
    first_fault test before rest ≡ Some fault → Found test before rest fault
found_first test before [] fault h = absurd (cc)
found_first test before (x ∷ rest) fault h =
    found_by test before rest x fault (test before x) refl h (found_first test (before ++ x ∷ []) rest fault)

pub first_is_first : (test : Test) (lines : List Line) (fault : AsmFault) → first_fault test [] lines ≡ Some fault →
    FoundFirst test lines fault
first_is_first test lines fault h =
    let f = found_first test [] lines fault h in
    record { front = f.front; line = f.line; back = f.back; split = f.split; found = f.found; earlier = f.earlier }
