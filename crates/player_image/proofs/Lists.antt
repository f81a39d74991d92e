-- The lists of an image: their lines are what the code asks for behind it, and they stand where the blocks read them.
use Rattle.std.proofs.Common.{◌≡◌, ℕ, ◌<◌, ◌≤◌, ◌&&◌, ◌||◌, ◌==◌, nat_le, Bool}
use Rattle.std.proofs.Common.{true, List, []}
use Rattle.std.proofs.Common.{◌∷◌, ◌++◌, All, Some, refl, ap, subst, arith, inl, inr}
use Rattle.std.proofs.lemmas.Bool.{or_cases, and_parts, leb-true, eqb-true}
use Rattle.std.proofs.lemmas.List.Elements.{All-nil, All-cons, All-head}
use Rattle.base.proofs.Laws.{All-append_right}
use Rattle.asm6502.specs.declared.lines.Item.{Item}
use Rattle.asm6502.specs.declared.lines.Item.TheVariants.{Label, Code, Bytes}
use Rattle.asm6502.specs.declared.lines.Line.{Line}
use Rattle.asm6502.specs.Lines.{label_named}
use Rattle.packed_form.specs.declared.packed_songs.PackedSong.{PackedSong}
use Rattle.player_memory.specs.declared.labels.TheConstants.{FREQUENCY_LOWS, ONE_WAVE, SLIDES_LOW, SLIDES_HIGH}
use Rattle.player_memory.specs.declared.labels.TheConstants.{GATE_FROM, ENVELOPE_FROM}
use Rattle.player_memory.specs.declared.labels.TheConstants.{FILTER_LEFTS, NEXT_FILTER_LEFTS, FILTER_RIGHTS}
use Rattle.player_memory.specs.declared.labels.TheConstants.{ORDERS_LOW, ORDERS_HIGH}
use Rattle.player_text.specs.Facts.{is_list, is_filter_list, is_order_list}
use Rattle.player_code.specs.Plans.{IsListItem, IsListLine, IsData, is_read}
use Rattle.song_lists.specs.DataLists.{HasLines}
use Rattle.song_lists.specs.ListLaws.{KeepsCounts, IsListLabel, IsDataLabel, IsPlainLine, is_plain}
use Rattle.song_lists.proofs.Laws.{lines_are_plain, no_label_is_named_twice, own_labels_are_named, list_labels_are_named}

-- ---- lines

-- what holds of each line by what stands around it
all_by_split : (P : Line → Type 0) (lines : List Line) →
    ((front : List Line) (line : Line) (back : List Line) → lines ≡ front ++ line ∷ back → P line) → All P lines
all_by_split P [] each = All-nil P
all_by_split P (line ∷ lines) each =
    All-cons P line lines (each [] line lines refl)
    (all_by_split P lines (λ front one back e. each (line ∷ front) one back (ap (λ ls. line ∷ ls) e)))

within : (label : ℕ) → IsDataLabel label → (113 ≤ label) × (label < 1024)
within label (inl (inl low)) = (omega (arith, low), omega (arith, low))
within label (inl (inr high)) = (omega (arith, high), omega (arith, high))
within label (inr own) = (omega (arith, own), omega (arith, own))

item_is : (item : Item) → is_plain item ≡ true →
    ((label : ℕ) → label_named item ≡ Some label → IsDataLabel label) → IsListItem item
item_is (Label label) plain own = within label (own label refl)
item_is (Code mnemonic mode operand) plain own = absurd (cc)
item_is (Bytes bytes) plain own = tt

-- ---- labels

low_label : (label other : ℕ) → FREQUENCY_LOWS ≤ other → other ≤ ONE_WAVE → (label == other) ≡ true →
    IsListLabel label
low_label label other from to e = (let is = eqb-true label other e in inl (omega (arith, is, from), omega (arith, is, to)))

high_label : (label other : ℕ) → SLIDES_LOW ≤ other → other ≤ ENVELOPE_FROM → (label == other) ≡ true →
    IsListLabel label
high_label label other from to e = (let is = eqb-true label other e in inr (omega (arith, is, from), omega (arith, is, to)))

slides_are : (label : ℕ) →
    (nat_le FREQUENCY_LOWS label && nat_le label ONE_WAVE || label == SLIDES_LOW || label == SLIDES_HIGH) ≡ true →
    IsListLabel label
slides_are label e =
    elim (or_cases (nat_le FREQUENCY_LOWS label && nat_le label ONE_WAVE || label == SLIDES_LOW)
    (label == SLIDES_HIGH) e) [
      | inl low ↦
          elim (or_cases (nat_le FREQUENCY_LOWS label && nat_le label ONE_WAVE) (label == SLIDES_LOW) low) [
            | inl row ↦
                let both = and_parts (nat_le FREQUENCY_LOWS label) (nat_le label ONE_WAVE) row in
                inl (leb-true FREQUENCY_LOWS label both.0, leb-true label ONE_WAVE both.1)
            | inr slides ↦ high_label label SLIDES_LOW (omega arith) (omega arith) slides
          ]
      | inr slides ↦ high_label label SLIDES_HIGH (omega arith) (omega arith) slides
    ]

list_is : (label : ℕ) → is_list label ≡ true → IsListLabel label
list_is label e =
    elim (or_cases (nat_le FREQUENCY_LOWS label && nat_le label ONE_WAVE || label == SLIDES_LOW || label == SLIDES_HIGH
    || label == GATE_FROM) (label == ENVELOPE_FROM) e) [
      | inl others ↦
          elim (or_cases (nat_le FREQUENCY_LOWS label && nat_le label ONE_WAVE || label == SLIDES_LOW
          || label == SLIDES_HIGH) (label == GATE_FROM) others) [
            | inl slides ↦ slides_are label slides
            | inr gates ↦ high_label label GATE_FROM (omega arith) (omega arith) gates
          ]
      | inr envelopes ↦ high_label label ENVELOPE_FROM (omega arith) (omega arith) envelopes
    ]

filter_is : (label : ℕ) → is_filter_list label ≡ true → IsListLabel label
filter_is label e =
    elim (or_cases (label == FILTER_LEFTS || label == NEXT_FILTER_LEFTS) (label == FILTER_RIGHTS) e) [
      | inl lefts ↦
          elim (or_cases (label == FILTER_LEFTS) (label == NEXT_FILTER_LEFTS) lefts) [
            | inl this ↦ low_label label FILTER_LEFTS (omega arith) (omega arith) this
            | inr next ↦ low_label label NEXT_FILTER_LEFTS (omega arith) (omega arith) next
          ]
      | inr rights ↦ low_label label FILTER_RIGHTS (omega arith) (omega arith) rights
    ]

order_is : (label : ℕ) → is_order_list label ≡ true → IsListLabel label
order_is label e =
    elim (or_cases (label == ORDERS_LOW) (label == ORDERS_HIGH) e) [
      | inl low ↦ low_label label ORDERS_LOW (omega arith) (omega arith) low
      | inr high ↦ low_label label ORDERS_HIGH (omega arith) (omega arith) high
    ]

read_is : (label : ℕ) → is_read label ≡ true → IsListLabel label
read_is label e =
    elim (or_cases (is_list label || is_filter_list label) (is_order_list label) e) [
      | inl lists ↦
          elim (or_cases (is_list label) (is_filter_list label) lists) [
            | inl list ↦ list_is label list
            | inr filter ↦ filter_is label filter
          ]
      | inr orders ↦ order_is label orders
    ]

pub lists_are_data : (dependent : Bool) (packed : PackedSong) (start : ℕ) (lines : List Line) → KeepsCounts packed →
    HasLines dependent packed start lines → IsData lines
lists_are_data dependent packed start lines counts has = record {
  lines = all_by_split IsListLine lines
      (λ front line back e.
      let plain : IsPlainLine line = plain_at front line back e in record {
        part = plain.part;
        item = item_is line.item plain.item
            (λ label named. own_labels_are_named dependent packed start lines front line back label counts has e named);
      });
  once = no_label_is_named_twice dependent packed start lines counts has;
  tables = λ label read. list_labels_are_named dependent packed start lines label has (read_is label read);
}
  where
    plain_at : (front : List Line) (line : Line) (back : List Line) → lines ≡ front ++ line ∷ back → IsPlainLine line
    plain_at front line back e =
        All-head IsPlainLine line back
        (All-append_right IsPlainLine front (line ∷ back)
        (subst (λ ls. All IsPlainLine ls) e (lines_are_plain dependent packed start lines has)))
