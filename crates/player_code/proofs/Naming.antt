-- Which labels lines name: each at most once, where those of their parts differ.
use Rattle.std.proofs.Common.{◌≡◌, ℕ, ◌+◌, Bool, true, false, if◌then◌else◌, List, [], ◌∷◌}
use Rattle.std.proofs.Common.{◌++◌, Option, Some, None, refl, sym, ap, ◌∙◌, subst, inl, inr}
use Rattle.std.specs.Option.{option_map}
use Rattle.std.proofs.lemmas.Bool.{eq-eqb, eqb-true}
use Rattle.base.proofs.Laws.{same_some, front_or_back, nil_is_no_append}
use Rattle.asm6502.specs.declared.lines.Item.{Item}
use Rattle.asm6502.specs.declared.lines.Item.TheVariants.{Label, Code, Bytes}
use Rattle.asm6502.specs.declared.lines.Line.{Line}
use Rattle.asm6502.specs.Lines.{item_size, names, place_of, label_named}
use Rattle.asm6502.specs.Stretches.{NamesNoLabelTwice, NamesOthersThan}
use Rattle.asm6502.proofs.Laws.{names_append}
use Rattle.player_code.specs.CodeLines.{name}

-- lines name labels of one kind alone, and none twice
pub record Naming (Has : ℕ → Type 0) (lines : List Line) : Type 0 where
  pub named : (before : List Line) (line : Line) (after : List Line) (label : ℕ) → lines ≡ before ++ line ∷ after →
      label_named line.item ≡ Some label → Has label
  pub once : NamesNoLabelTwice lines

-- ---- none

pub names_it : (item : Item) (label : ℕ) → label_named item ≡ Some label → names label item ≡ true
names_it (Label other) label e = eq-eqb other label (same_some _ _ e)
names_it (Code mnemonic mode operand) label e = absurd (cc)
names_it (Bytes bytes) label e = absurd (cc)

no_more : (z : Bool) (bytes : ℕ) (place : Option ℕ) →
    (if z then Some 0 else option_map (λ p. bytes + p) place) ≡ None → place ≡ None
no_more true bytes place e = absurd (cc)
no_more false bytes None e = refl
no_more false bytes (Some p) e = absurd (cc)

-- a label that is named has a place
has_place : (before : List Line) (line : Line) (after : List Line) (label : ℕ) → label_named line.item ≡ Some label →
    place_of (before ++ line ∷ after) label ≡ None → ⊥
has_place [] line after label named none =
    let it = names_it line.item label named in
    let first : (if true then Some 0 else option_map (λ p. item_size line.item + p) (place_of after label)) ≡ None =
    subst (λ z. (if z then Some 0 else option_map (λ p. item_size line.item + p) (place_of after label)) ≡ None) it none in
    absurd (cc)
has_place (one ∷ before) line after label named none =
    has_place before line after label named
    (no_more (names label one.item) (item_size one.item) (place_of (before ++ line ∷ after) label) none)

pub none_named : (lines : List Line) → ((label : ℕ) → place_of lines label ≡ None) → Naming (λ label. ⊥) lines
none_named lines none = record {
  named = λ before line after label e n.
      has_place before line after label n (subst (λ ls. place_of ls label ≡ None) e (none label));
  once = record {
    once = λ front line between other back label e n m.
        has_place front line (between ++ other ∷ back) label n (subst (λ ls. place_of ls label ≡ None) e (none label));
  };
}

-- ---- one

pub one_named : (label : ℕ) → Naming (λ other. other ≡ label) (name label ∷ [])
one_named label = record { named = one label; once = record { once = alone label } } where
  one : (label : ℕ) (before : List Line) (line : Line) (after : List Line) (other : ℕ) →
      name label ∷ [] ≡ before ++ line ∷ after → label_named line.item ≡ Some other → other ≡ label
  one label [] line after other e n =
      let it : name label ≡ line = cc in
      same_some other label (sym n ∙ ap (λ l. label_named l.item) (sym it))
  one label (first ∷ before) line after other e n = absurd (nil_is_no_append before line after (cc))

  alone : (label : ℕ) (front : List Line) (line : Line) (between : List Line) (other : Line) (back : List Line)
      (it : ℕ) → name label ∷ [] ≡ front ++ line ∷ (between ++ other ∷ back) → label_named line.item ≡ Some it →
      label_named other.item ≡ Some it → ⊥
  alone label [] line between other back it e n m = nil_is_no_append between other back (cc)
  alone label (first ∷ front) line between other back it e n m =
      nil_is_no_append front line (between ++ other ∷ back) (cc)

-- ---- two lists, whose labels differ

apart : {This Other : ℕ → Type 0} (front back : List Line) → Naming This front → Naming Other back →
    ((label : ℕ) → This label → Other label → ⊥) → NamesOthersThan front back
apart front back one two differ = record {
  apart = λ before line after before' other after' label e f n m.
      differ label (one.named before line after label e n) (two.named before' other after' label f m);
}

pub joined : {This Other Either : ℕ → Type 0} (front back : List Line) → Naming This front → Naming Other back →
    ((label : ℕ) → This label → Other label → ⊥) → ((label : ℕ) → This label → Either label) →
    ((label : ℕ) → Other label → Either label) → Naming Either (front ++ back)
joined front back one two differ left right = record {
  named = λ before line after label e n.
      elim (front_or_back front back before line after e) [
        | inl f ↦ left label (one.named before line f.rest label f.front n)
        | inr b ↦ right label (two.named b.between line after label b.back n)
      ];
  once = names_append front back one.once two.once (apart front back one two differ);
}

-- ---- a label that they don't name has no place

named_by : (item : Item) (label : ℕ) → names label item ≡ true → label_named item ≡ Some label
named_by (Label other) label e = ap Some (eqb-true other label e)
named_by (Code mnemonic mode operand) label e = absurd (cc)
named_by (Bytes bytes) label e = absurd (cc)

placed_after : (z : Bool) (bytes : ℕ) → z ≡ false →
    (if z then Some 0 else option_map (λ p. bytes + p) None) ≡ None
placed_after true bytes e = absurd (cc)
placed_after false bytes e = refl

not_it : (line : Line) (label : ℕ) (z : Bool) → names label line.item ≡ z →
    (label_named line.item ≡ Some label → ⊥) → z ≡ false
not_it line label true e never = absurd (never (named_by line.item label e))
not_it line label false e never = refl

pub unplaced : (lines : List Line) (label : ℕ) →
    ((before : List Line) (line : Line) (after : List Line) → lines ≡ before ++ line ∷ after →
    label_named line.item ≡ Some label → ⊥) →
    place_of lines label ≡ None
unplaced [] label never = refl
unplaced (line ∷ rest) label never =
    ap (λ p. if names label line.item then Some 0 else option_map (λ p. item_size line.item + p) p)
    (unplaced rest label (λ before other after e n. never (line ∷ before) other after (ap (λ ls. line ∷ ls) e) n))
    ∙ placed_after (names label line.item) (item_size line.item)
    (not_it line label (names label line.item) refl (never [] line rest refl))

pub no_place : {Has : ℕ → Type 0} (lines : List Line) (label : ℕ) → Naming Has lines → (Has label → ⊥) →
    place_of lines label ≡ None
no_place lines label naming never =
    unplaced lines label (λ before line after e n. never (naming.named before line after label e n))

-- and one that has a place is named
pub placed_named : {Has : ℕ → Type 0} (lines : List Line) (label place : ℕ) → Naming Has lines →
    place_of lines label ≡ Some place → ((Has label → ⊥) → ⊥)
placed_named lines label place naming e never = (let none = no_place lines label naming never in absurd (cc))

pub weaker : {This Other : ℕ → Type 0} (lines : List Line) → ((label : ℕ) → This label → Other label) →
    Naming This lines → Naming Other lines
weaker lines more naming = record {
  named = λ before line after label e n. more label (naming.named before line after label e n);
  once = naming.once;
}
