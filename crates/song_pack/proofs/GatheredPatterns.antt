-- The used patterns are gathered one by one, each text once.
use Rattle.std.specs.Prelude.{if◌then◌else◌}
use Rattle.std.proofs.Common.{◌≡◌, ℕ, suc, ◌+◌, ◌<◌, ◌≤◌, ◌⊎◌, Bool, true, false, List, []}
use Rattle.std.proofs.Common.{◌∷◌, ◌++◌, map, length, slice_index, refl, sym, ◌∙◌, ap, subst, inl, inr}
use Rattle.std.proofs.Common.{arith}
use Rattle.std.specs.List.{filter, position_or_len, range_with_len}
use Rattle.std.specs.Str.{bytes_eq}
use Rattle.std.proofs.Math.ListN.{set}
use Rattle.std.proofs.lemmas.List.{get_or-set_same, get_or-set_other, length-set, map-append, append-nil}
use Rattle.std.proofs.lemmas.List.Elements.{filter-append}
use Rattle.song_model.specs.declared.patterns.TheConstants.{MOST_PATTERNS}
use Rattle.packed_form.specs.declared.packed_patterns.TheConstants.{MOST_PACKED_BYTES}
use Rattle.packing_rules.specs.Renumbering.{first_seen}
use Rattle.packing_rules.proofs.Laws.{range_more, first_seen_push, new_place, old_place, with_new_length}
use Rattle.song_pack.specs.declared.faults.PackFault.{PackFault}
use Rattle.song_pack.specs.declared.faults.PackFault.TheVariants.{PatternTooLong, NoMemory}
use Rattle.song_pack.specs.Texts.{texts_below, with_text, ArePatterns, IsCaused, IsCausedAt}
use Rattle.song_pack.proofs.StoredPatterns.{same_text, text_itself}

pub record GatheredTo (text : ℕ → List ℕ) (used : ℕ → Bool) (i : ℕ) (list : List (List ℕ)) (to : List ℕ) : Type 0 where
  pub long : length to ≡ MOST_PATTERNS
  pub few : length list ≤ i
  pub list_are : list ≡ first_seen bytes_eq (texts_below text used i)
  pub number : (p : ℕ) → used p ≡ true → p < i → slice_index to p ≡ position_or_len (bytes_eq (text p)) list
  pub seen : (p : ℕ) → used p ≡ true → p < i → position_or_len (bytes_eq (text p)) list < length list
  pub short : (p : ℕ) → used p ≡ true → p < i → length (text p) ≤ MOST_PACKED_BYTES

-- ---- texts below a number

texts_next : (text : ℕ → List ℕ) (used : ℕ → Bool) (i : ℕ) →
    texts_below text used (i + 1) ≡ texts_below text used i ++ map text (if used i then i ∷ [] else [])
unfolding texts_below
texts_next text used i =
    let more : i + 1 ≡ suc i = omega arith in
    let next : 0 + i ≡ i = omega arith in
    ap (λ (k : ℕ). map text (filter used (range_with_len 0 k))) more
    ∙ ap (λ (ns : List ℕ). map text (filter used ns)) (range_more 0 i)
    ∙ ap (λ (k : ℕ). map text (filter used (range_with_len 0 i ++ k ∷ []))) next
    ∙ ap (map text) (filter-append used (range_with_len 0 i) (i ∷ []))
    ∙ map-append text (filter used (range_with_len 0 i)) (if used i then i ∷ [] else [])

list_left : (text : ℕ → List ℕ) (used : ℕ → Bool) (i : ℕ) → used i ≡ false →
    first_seen bytes_eq (texts_below text used (i + 1)) ≡ first_seen bytes_eq (texts_below text used i)
list_left text used i fails =
    ap (first_seen bytes_eq)
    (texts_next text used i ∙ ap (λ (b : Bool). texts_below text used i ++ map text (if b then i ∷ [] else [])) fails
    ∙ append-nil (texts_below text used i))

list_more : (text : ℕ → List ℕ) (used : ℕ → Bool) (i : ℕ) → used i ≡ true →
    first_seen bytes_eq (texts_below text used (i + 1)) ≡ with_text (first_seen bytes_eq (texts_below text used i))
    (text i)
list_more text used i is =
    ap (first_seen bytes_eq)
    (texts_next text used i ∙ ap (λ (b : Bool). texts_below text used i ++ map text (if b then i ∷ [] else [])) is)
    ∙ first_seen_push bytes_eq same_text (texts_below text used i) (text i)

-- ---- pattern by pattern

pub gathered_none : (text : ℕ → List ℕ) (used : ℕ → Bool) (to : List ℕ) → length to ≡ MOST_PATTERNS →
    GatheredTo text used 0 [] to
unfolding texts_below
gathered_none text used to long = record {
  long = long;
  few = omega arith;
  list_are = refl;
  number = λ p is low. absurd (omega arith);
  seen = λ p is low. absurd (omega arith);
  short = λ p is low. absurd (omega arith);
}

last_or_before : (p i : ℕ) → p < i + 1 → (p ≡ i) ⊎ (p < i)
last_or_before p i low = grind arith

pub gathered_left : (text : ℕ → List ℕ) (used : ℕ → Bool) (i : ℕ) (list : List (List ℕ)) (to : List ℕ) →
    GatheredTo text used i list to → used i ≡ false → GatheredTo text used (i + 1) list to
gathered_left text used i list to so_far fails =
    let before : (p : ℕ) → used p ≡ true → p < i + 1 → p < i = λ p is low. elim (last_or_before p i low) [
      | inl last ↦ absurd (let e = ap used last in cc)
      | inr b ↦ b
    ] in
    record {
      long = so_far.long;
      few = let few = so_far.few in omega arith;
      list_are = so_far.list_are ∙ sym (list_left text used i fails);
      number = λ p is low. so_far.number p is (before p is low);
      seen = λ p is low. so_far.seen p is (before p is low);
      short = λ p is low. so_far.short p is (before p is low);
    }

pub gathered_more : (text : ℕ → List ℕ) (used : ℕ → Bool) (i n : ℕ) (list : List (List ℕ)) (to packed : List ℕ) →
    GatheredTo text used i list to → used i ≡ true → i < MOST_PATTERNS → packed ≡ text i →
    length packed ≤ MOST_PACKED_BYTES → n ≡ position_or_len (bytes_eq packed) list →
    GatheredTo text used (i + 1) (with_text list packed) (set to i n)
gathered_more text used i n list to packed so_far is room packed_is fits n_is =
    let new = new_place bytes_eq text_itself list packed in
    record {
      long = length-set to i n ∙ so_far.long;
      few =
          let few = so_far.few in
          let one = with_new_length bytes_eq list packed in
          omega arith;
      list_are = ap (λ (l : List (List ℕ)). with_text l packed) so_far.list_are
          ∙ ap (with_text (first_seen bytes_eq (texts_below text used i))) packed_is ∙ sym (list_more text used i is);
      number = λ p is_p low. elim (last_or_before p i low) [
        | inl last ↦ ap (slice_index (set to i n)) last
            ∙ get_or-set_same to i n 0 (subst (λ (k : ℕ). i < k) (sym so_far.long) room)
            ∙ n_is ∙ sym new.0
            ∙ ap (λ (t : List ℕ). position_or_len (bytes_eq t) (with_text list packed)) (packed_is ∙ ap text (sym last))
        | inr before ↦ get_or-set_other to i p n 0 (λ (z : p ≡ i). omega arith)
            ∙ so_far.number p is_p before
            ∙ sym (old_place bytes_eq (bytes_eq (text p)) list packed (so_far.seen p is_p before)).0
      ];
      seen = λ p is_p low. elim (last_or_before p i low) [
        | inl last ↦ subst
            (λ (t : List ℕ). position_or_len (bytes_eq t) (with_text list packed) < length (with_text list packed))
            (packed_is ∙ ap text (sym last)) new.1
        | inr before ↦ (old_place bytes_eq (bytes_eq (text p)) list packed (so_far.seen p is_p before)).1
      ];
      short = λ p is_p low. elim (last_or_before p i low) [
        | inl last ↦ subst (λ (t : List ℕ). length t ≤ MOST_PACKED_BYTES) (packed_is ∙ ap text (sym last)) fits
        | inr before ↦ so_far.short p is_p before
      ];
    }

pub gathered_all : (text : ℕ → List ℕ) (used : ℕ → Bool) (i : ℕ) (list : List (List ℕ)) (to : List ℕ) →
    GatheredTo text used i list to → i ≡ MOST_PATTERNS → ArePatterns text used list to
gathered_all text used i list to so_far all = record {
  list_are = so_far.list_are ∙ ap (λ (n : ℕ). first_seen bytes_eq (texts_below text used n)) all;
  number = λ p is low. so_far.number p is (omega arith);
  short = λ p is low. so_far.short p is (omega arith);
}

-- the first text that is too long
pub first_fault : (text : ℕ → List ℕ) (used : ℕ → Bool) (i : ℕ) (list : List (List ℕ)) (to : List ℕ)
    (fault : PackFault) → GatheredTo text used i list to → used i ≡ true → IsCausedAt (text i) i fault →
    IsCaused text used fault
first_fault text used i list to (PatternTooLong pattern n) so_far is caused = record {
  is_used = ap used caused.0 ∙ is;
  text_is = ap (λ (p : ℕ). length (text p)) caused.0 ∙ caused.1;
  long = caused.2;
  first = λ p low is_p. let e = caused.0 in so_far.short p is_p (omega arith);
}
first_fault text used i list to NoMemory so_far is caused = tt
