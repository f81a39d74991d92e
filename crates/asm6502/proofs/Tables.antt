-- The table of labels after one more line.
use Rattle.std.proofs.Common.{◌≡◌, ℕ, zero, suc, ◌+◌, ◌<◌, Bool, true, false, List, [], ◌∷◌}
use Rattle.std.proofs.Common.{◌++◌, length, get_or, Option, Some, None, nat_eq, if◌then◌else◌, refl, ap, sym}
use Rattle.std.proofs.Common.{◌∙◌, arith}
use Rattle.std.proofs.Common.{nat_cmp}
use Rattle.std.specs.BTreeMap.{get}
use Rattle.asm6502.specs.declared.lines.Line.{Line}
use Rattle.asm6502.specs.declared.labels.Labels.{Labels}
use Rattle.std.specs.Option.{option_and_then, is_some}
use Rattle.asm6502.specs.declared.faults.AsmFault.TheVariants.{UnknownLabel}
use Rattle.asm6502.specs.Lines.{is_kept, kept, item_size, size_of, place_of, label_used, label_named}
use Rattle.asm6502.specs.Faults.{first_fault, double_label, unknown_in, unknown_label}
use Rattle.asm6502.specs.Places.{HasPlaces, Knows}
use Rattle.asm6502.proofs.Sound.{first_parts}
use Rattle.asm6502.proofs.Naming.{kept_more, size_of-append, placed_label, placed_other}

size_more : (lines : List Line) (line : Line) (old n new : ℕ) → old ≡ size_of lines → n ≡ item_size line.item →
    new ≡ old + n → new ≡ size_of (lines ++ line ∷ [])
size_more lines line old n new o s e = omega (arith, size_of-append lines (line ∷ []))

labelled : (old new : Labels) (lines : List Line) (line : Line) (label n : ℕ) → HasPlaces old lines →
    label_named line.item ≡ Some label → get nat_cmp old.places label ≡ None →
    ((q : ℕ) → get nat_cmp new.places q ≡ (if nat_eq label q then Some old.size else get nat_cmp old.places q)) →
    n ≡ item_size line.item → new.size ≡ old.size + n → HasPlaces new (lines ++ line ∷ [])
labelled old new lines line label n has e none get' s size = record {
  places = λ q. get' q ∙ ap (λ (o : Option ℕ). if nat_eq label q then Some old.size else o) (has.places q)
      ∙ placed_label lines line label q old.size e (sym (has.places label) ∙ none) has.size;
  size = size_more lines line old.size n new.size has.size s size;
}

unlabelled : (old new : Labels) (lines : List Line) (line : Line) (n : ℕ) → HasPlaces old lines →
    label_named line.item ≡ None → ((q : ℕ) → get nat_cmp new.places q ≡ get nat_cmp old.places q) →
    n ≡ item_size line.item → new.size ≡ old.size + n → HasPlaces new (lines ++ line ∷ [])
unlabelled old new lines line n has e get' s size = record {
  places = λ q. get' q ∙ has.places q ∙ placed_other lines line q e;
  size = size_more lines line old.size n new.size has.size s size;
}

single_label : (set : ℕ) (before : List Line) (line : Line) (label : ℕ) → is_kept set line ≡ true →
    label_named line.item ≡ Some label → place_of (kept set before) label ≡ None → double_label set before line ≡ None
single_label set before line label k e n = rw (k, e, n) refl

no_label : (set : ℕ) (before : List Line) (line : Line) → is_kept set line ≡ true → label_named line.item ≡ None →
    double_label set before line ≡ None
no_label set before line k e = rw (k, e) refl

-- after a line with a label that wasn't named before
pub noted_label : (old mid new : Labels) (set : ℕ) (before : List Line) (line : Line) (label n : ℕ) →
    HasPlaces old (kept set before) → is_kept set line ≡ true → label_named line.item ≡ Some label →
    get nat_cmp old.places label ≡ None → ((q : ℕ) → get nat_cmp mid.places q
    ≡ (if nat_eq label q then Some old.size else get nat_cmp old.places q)) → mid.size ≡ old.size → new ≡ mid →
    n ≡ item_size line.item → HasPlaces (record { places = new.places; size = new.size + n })
    (kept set (before ++ line ∷ [])) × (double_label set before line ≡ None)
noted_label old mid new set before line label n has k e none get' same is s =
    let after : Labels = record { places = new.places; size = new.size + n } in
    let size : new.size ≡ mid.size = ap (λ (m : Labels). m.size) is in
    let table = labelled old after (kept set before) line label n has e none
    (λ (q : ℕ). ap (λ (m : Labels). get nat_cmp m.places q) is ∙ get' q) s
    (ap (λ (m : ℕ). m + n) (size ∙ same)) in
    (rw (kept_more set before line k) table, single_label set before line label k e (sym (has.places label) ∙ none))

-- after another line
pub noted_other : (old new : Labels) (set : ℕ) (before : List Line) (line : Line) (n : ℕ) →
    HasPlaces old (kept set before) → is_kept set line ≡ true → label_named line.item ≡ None → new ≡ old →
    n ≡ item_size line.item → HasPlaces (record { places = new.places; size = new.size + n })
    (kept set (before ++ line ∷ [])) × (double_label set before line ≡ None)
noted_other old new set before line n has k e is s =
    let after : Labels = record { places = new.places; size = new.size + n } in
    let table = unlabelled old after (kept set before) line n has e
    (λ (q : ℕ). ap (λ (m : Labels). get nat_cmp m.places q) is) s (ap (λ (m : Labels). m.size + n) is) in
    (rw (kept_more set before line k) table, no_label set before line k e)

-- the label of a kept line in which nothing is unknown
placed_or : (label : ℕ) (z : Bool) → (if z then None else Some (UnknownLabel label)) ≡ None → z ≡ true
placed_or label true h = refl
placed_or label false h = absurd (cc)

known_line : (labels : Labels) (set : ℕ) (all before : List Line) (x : Line) → HasPlaces labels (kept set all) →
    unknown_label set all before x ≡ None → is_kept set x ≡ true → Knows labels (label_used x.item)
known_line labels set all before x has none k = record { known = λ label e. known label e } where
  tested : unknown_in (kept set all) x.item ≡ None
  tested = ap (λ (z : Bool). if z then unknown_in (kept set all) x.item else None) (sym k) ∙ none

  known : (label : ℕ) → label_used x.item ≡ Some label → is_some (get nat_cmp labels.places label) ≡ true
  known label e =
      let h : (if is_some (place_of (kept set all) label) then None else Some (UnknownLabel label)) ≡ None =
      ap (λ (o : Option ℕ). option_and_then (λ (l : ℕ). if is_some (place_of (kept set all) l) then None else Some
      (UnknownLabel l)) o) (sym e) ∙ tested in
      ap is_some (has.places label) ∙ placed_or label (is_some (place_of (kept set all) label)) h

pub known_at : (labels : Labels) (set : ℕ) (all before lines : List Line) (k : ℕ) (x : Line) →
    HasPlaces labels (kept set all) → first_fault (unknown_label set all) before lines ≡ None → k < length lines →
    x ≡ get_or lines k x → is_kept set x ≡ true → Knows labels (label_used x.item)
known_at labels set all before [] k x has h l e kept = absurd (omega arith)
known_at labels set all before (y ∷ lines) zero x has h l e kept =
    let p = first_parts (unknown_label set all) before y lines h in
    known_line labels set all before x has (ap (λ (line : Line). unknown_label set all before line) e ∙ p.0) kept
known_at labels set all before (y ∷ lines) (suc k) x has h l e kept =
    let p = first_parts (unknown_label set all) before y lines h in
    known_at labels set all (before ++ y ∷ []) lines k x has p.1 (omega arith) e kept
