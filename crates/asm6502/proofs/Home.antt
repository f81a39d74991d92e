-- Lines that are at home in a stretch pass every test in any listing around it.
use Rattle.std.proofs.Common.{◌≡◌, ℕ, ◌+◌, ◌%◌, ◌≤◌, Bool, true, false, ◌&&◌, not, List, []}
use Rattle.std.proofs.Common.{◌∷◌, ◌++◌, length, Option, Some, None, if◌then◌else◌, refl, ap, sym}
use Rattle.std.proofs.Common.{◌∙◌, subst, arith, append_assoc, inl, inr, ◌⊎◌}
use Rattle.std.specs.Prelude.{IsTrue}
use Rattle.std.specs.Option.{option_or, option_map, is_some}
use Rattle.std.proofs.lemmas.Bool.{eqb-true, eq-eqb}
use Rattle.std.proofs.lemmas.List.{append-nil}
use Rattle.base.proofs.Laws.{same_head, same_tail, nil_is_no_append, front_or_back}
use Rattle.cpu6502.specs.declared.memory.TheConstants.{MEMORY_SIZE}
use Rattle.cpu6502.specs.declared.mnemonic.Mode.TheVariants.{Relative}
use Rattle.asm6502.specs.declared.lines.Operand.TheVariants.{Nothing, Number, Label, Low, High}
use Rattle.asm6502.specs.declared.lines.Item.{Item}
use Rattle.asm6502.specs.declared.lines.Item.TheVariants.{Label as Named, Code, Bytes}
use Rattle.asm6502.specs.declared.lines.Line.{Line}
use Rattle.asm6502.specs.declared.faults.AsmFault.TheVariants.{BadLine, DoubleLabel, BranchTooFar}
use Rattle.asm6502.specs.Branches.{branch_byte}
use Rattle.asm6502.specs.Lines.{is_part_kept, is_kept, kept, item_size, size_of, names, place_of, address_in}
use Rattle.asm6502.specs.Lines.{label_used, label_named, is_no_part, is_sound}
use Rattle.asm6502.specs.Faults.{bad_line, double_in, double_label, unknown_in, unknown_label, is_far_item, far_branch, fault_of}
use Rattle.asm6502.specs.Stretches.{NamesNoLabelTwice, NamesAppend, NamesSplit, NamesFor, IsNamedIn, branch_of}
use Rattle.asm6502.specs.Stretches.{IsReachedAfter, IsReachedBefore, IsAtHome, AtHome, NamesOthers, Passes}
use Rattle.asm6502.proofs.Naming.{size_of-append, place_of-append}
use Rattle.asm6502.proofs.Found.{all_passed}
use Rattle.asm6502.proofs.Reaches.{branches_reach_after, branches_reach_before}
use Rattle.asm6502.proofs.Standing.{all_split, label_address}
use Rattle.asm6502.proofs.Whole.{fault_none}

-- ---- stretches at home, put together and in more lines

pub homes_append : (others : ℕ → Bool) (before front back after : List Line) →
    AtHome others before front (back ++ after) → AtHome others (before ++ front) back after →
    AtHome others before (front ++ back) after
homes_append others before [] back after h k =
    subst (λ (ls : List Line). AtHome others ls back after) (append-nil before) k
homes_append others before (x ∷ front) back after h k = (
  subst (λ (ls : List Line). IsAtHome others before x ls) (sym (append_assoc front back after)) h.0,
  homes_append others (before ++ x ∷ []) front back after h.1
      (subst (λ (ls : List Line). AtHome others ls back after) (sym (append_assoc before (x ∷ []) front)) k),
)

-- a split of lines, with more around
wider : (first before : List Line) (x : Line) (after last f : List Line) (y : Line) (b : List Line) →
    before ++ x ∷ after ≡ f ++ y ∷ b → (first ++ before) ++ x ∷ (after ++ last) ≡ (first ++ f) ++ y ∷ (b ++ last)
wider first before x after last f y b e =
    append_assoc first before (x ∷ (after ++ last))
    ∙ ap (λ (ls : List Line). first ++ ls) (sym (append_assoc before (x ∷ after) last)
    ∙ ap (λ (ls : List Line). ls ++ last) e ∙ append_assoc f (y ∷ b) last)
    ∙ sym (append_assoc first f (y ∷ (b ++ last)))

home_grows : (others : ℕ → Bool) (first before : List Line) (x : Line) (after last : List Line) →
    IsAtHome others before x after → IsAtHome others (first ++ before) x (after ++ last)
home_grows others first before x after last h = record {
  part = h.part;
  sound = h.sound;
  named = λ label e. named_wider (h.named label e);
  reach = λ label offset e. ((h.reach label offset e).0, reach_wider (h.reach label offset e).1);
} where
  named_wider : {label : ℕ} → IsTrue (others label) ⊎ IsNamedIn (before ++ x ∷ after) x label →
      IsTrue (others label) ⊎ IsNamedIn ((first ++ before) ++ x ∷ (after ++ last)) x label
  named_wider (inl other) = inl other
  named_wider (inr n) = inr (record {
    front = first ++ n.front;
    line = n.line;
    back = n.back ++ last;
    split = wider first before x after last n.front n.line n.back n.split;
    named = n.named;
  })

  reach_wider : {label : ℕ} → IsReachedAfter x after label ⊎ IsReachedBefore x before label →
      IsReachedAfter x (after ++ last) label ⊎ IsReachedBefore x (first ++ before) label
  reach_wider (inl r) = inl (record {
    between = r.between;
    line = r.line;
    back = r.back ++ last;
    split = ap (λ (ls : List Line). ls ++ last) r.split ∙ append_assoc r.between (r.line ∷ r.back) last;
    named = r.named;
    near = r.near;
  })
  reach_wider (inr r) = inr (record {
    front = first ++ r.front;
    line = r.line;
    between = r.between;
    split = ap (λ (ls : List Line). first ++ ls) r.split ∙ sym (append_assoc first r.front (r.line ∷ r.between));
    named = r.named;
    near = r.near;
  })

pub homes_grow : (others : ℕ → Bool) (first before lines after last : List Line) → AtHome others before lines after →
    AtHome others (first ++ before) lines (after ++ last)
homes_grow others first before [] after last h = tt
homes_grow others first before (x ∷ lines) after last h = (
  subst (λ (ls : List Line). IsAtHome others (first ++ before) x ls) (append_assoc lines after last)
      (home_grows others first before x (lines ++ after) last h.0),
  subst (λ (ls : List Line). AtHome others ls lines (after ++ last)) (sym (append_assoc first before (x ∷ [])))
      (homes_grow others first (before ++ x ∷ []) lines after last h.1),
)

-- one of the lines
pub home_at : (others : ℕ → Bool) (before lines after a : List Line) (x : Line) (b : List Line) →
    AtHome others before lines after → lines ≡ a ++ x ∷ b → IsAtHome others (before ++ a) x (b ++ after)
home_at others before [] after a x b h e = absurd (nil_is_no_append a x b e)
home_at others before (y ∷ lines) after [] x b h e =
    let one = same_head y x lines b e in
    let rest = same_tail y x lines b e in
    let line = subst (λ (l : Line). IsAtHome others before l (lines ++ after)) one h.0 in
    let tail = subst (λ (ls : List Line). IsAtHome others before x (ls ++ after)) rest line in
    subst (λ (ls : List Line). IsAtHome others ls x (b ++ after)) (sym (append-nil before)) tail
home_at others before (y ∷ lines) after (z ∷ a) x b h e =
    let one = same_head y z lines (a ++ x ∷ b) e in
    let rest = same_tail y z lines (a ++ x ∷ b) e in
    let place : (before ++ y ∷ []) ++ a ≡ before ++ (z ∷ a) =
    append_assoc before (y ∷ []) a ∙ ap (λ (l : Line). before ++ (l ∷ a)) one in
    subst (λ (ls : List Line). IsAtHome others ls x (b ++ after)) place
    (home_at others (before ++ y ∷ []) lines after a x b h.1 rest)

-- ---- names and places

item_named : (item : Item) (label : ℕ) → label_named item ≡ Some label → item ≡ Named label
item_named (Named l) label e = let same : l ≡ label = cc in ap Named same
item_named (Code mn mode x) label e = absurd (cc)
item_named (Bytes bs) label e = absurd (cc)

named_item : (item : Item) (label : ℕ) → names label item ≡ true → label_named item ≡ Some label
named_item (Named l) label e = ap Some (eqb-true l label e)
named_item (Code mn mode x) label e = absurd (cc)
named_item (Bytes bs) label e = absurd (cc)

placed_here : (y : Line) (rest : List Line) (label : ℕ) → label_named y.item ≡ Some label →
    place_of (y ∷ rest) label ≡ Some 0
placed_here y rest label e =
    let i = item_named y.item label e in
    let same = eq-eqb label label refl in
    rw (i, same) refl

some_either : (o p : Option ℕ) → is_some p ≡ true → is_some (option_or o p) ≡ true
some_either None p h = h
some_either (Some v) p h = refl

placed : (front : List Line) (y : Line) (back : List Line) (label : ℕ) → label_named y.item ≡ Some label →
    is_some (place_of (front ++ y ∷ back) label) ≡ true
placed front y back label e =
    ap is_some (place_of-append front (y ∷ back) label)
    ∙ some_either (place_of front label) (option_map (λ (place : ℕ). size_of front + place)
    (place_of (y ∷ back) label))
    (ap (λ (o : Option ℕ). is_some (option_map (λ (place : ℕ). size_of front + place) o))
    (placed_here y back label e))

-- a label that a kept line names is named by one of the lines
record Naming (lines : List Line) (label : ℕ) : Type 0 where
  front : List Line
  line : Line
  back : List Line
  split : lines ≡ front ++ line ∷ back
  named : label_named line.item ≡ Some label

naming_on : (x : Line) (lines : List Line) (label : ℕ) → Naming lines label → Naming (x ∷ lines) label
naming_on x lines label n =
    record {
      front = x ∷ n.front;
      line = n.line;
      back = n.back;
      split = ap (λ (ls : List Line). x ∷ ls) n.split;
      named = n.named;
    }

some_mapped : (o : Option ℕ) (s : ℕ) → is_some (option_map (λ (place : ℕ). s + place) o) ≡ true → is_some o ≡ true
some_mapped None s h = absurd (cc)
some_mapped (Some v) s h = refl

by_kept : (set : ℕ) (x : Line) (lines : List Line) (label : ℕ) (z n : Bool) →
    (is_some (place_of (kept set lines) label) ≡ true → Naming lines label) → names label x.item ≡ n →
    is_some (place_of (if z then x ∷ kept set lines else kept set lines) label) ≡ true → Naming (x ∷ lines) label
by_kept set x lines label false n rest e h = naming_on x lines label (rest h)
by_kept set x lines label true true rest e h =
    record { front = []; line = x; back = lines; split = refl; named = named_item x.item label e }
by_kept set x lines label true false rest e h =
    let further : is_some (option_map (λ (place : ℕ). item_size x.item + place) (place_of (kept set lines) label))
    ≡ true = rw e at h in
    naming_on x lines label (rest (some_mapped (place_of (kept set lines) label) (item_size x.item) further))

kept_naming : (set : ℕ) (lines : List Line) (label : ℕ) → is_some (place_of (kept set lines) label) ≡ true →
    Naming lines label
kept_naming set [] label h = absurd (cc)
kept_naming set (x ∷ lines) label h =
    by_kept set x lines label (is_kept set x) (names label x.item) (kept_naming set lines label) refl h

-- ---- labels that are named once, in two lists of lines

pub names_append : NamesAppend
names_append front back one two others =
    record {
      once = λ f line between other b label e n m.
          elim (front_or_back front back f line (between ++ other ∷ b) e) [
            | inl c ↦ in_front f line between other b label n m c.rest c.front c.back
            | inr c ↦ two.once c.between line between other b label c.back n m
          ];
    }
  where
    in_front : (f : List Line) (line : Line) (between : List Line) (other : Line) (b : List Line) (label : ℕ) →
        label_named line.item ≡ Some label → label_named other.item ≡ Some label → (rest : List Line) →
        front ≡ f ++ line ∷ rest → between ++ other ∷ b ≡ rest ++ back → ⊥
    in_front f line between other b label n m rest e g =
        elim (front_or_back rest back between other b (sym g)) [
          | inl c ↦
              let split = e ∙ ap (λ (ls : List Line). f ++ line ∷ ls) c.front in
              one.once f line between other c.rest label split n m
          | inr c ↦ others.apart f line rest c.between other b label e c.back n m
        ]

pub names_split : NamesSplit
names_split front back all = (
  record {
    once = λ f line between other b label e n m.
        all.once f line between other (b ++ back) label (ap (λ (ls : List Line). ls ++ back) e
        ∙ append_assoc f (line ∷ (between ++ other ∷ b)) back
        ∙ ap (λ (ls : List Line). f ++ line ∷ ls) (append_assoc between (other ∷ b) back)) n m;
  },
  record {
    once = λ f line between other b label e n m.
        all.once (front ++ f) line between other b label (ap (λ (ls : List Line). front ++ ls) e
        ∙ sym (append_assoc front f (line ∷ (between ++ other ∷ b)))) n m;
  },
  record {
    apart = λ f line after f' other after' label e g n m.
        all.once f line (after ++ f') other after' label (ap (λ (ls : List Line). ls ++ back) e
        ∙ append_assoc f (line ∷ after) back
        ∙ ap (λ (ls : List Line). f ++ line ∷ (after ++ ls)) g
        ∙ ap (λ (ls : List Line). f ++ line ∷ ls) (sym (append_assoc after f' (other ∷ after')))) n m;
  },
)

-- ---- the tests

-- a line in a part that there is, and that can stand in a listing
bad_passes : (set : ℕ) (before : List Line) (x : Line) → is_no_part x.part ≡ false → is_sound x.item ≡ true →
    bad_line set before x ≡ None
bad_passes set before x p s = rw (p, s) (chosen (is_kept set x)) where
  chosen : (z : Bool) → (if z && false then Some (BadLine (length before)) else None) ≡ None
  chosen true = refl
  chosen false = refl

-- a label that isn't named twice
double_passes : (set : ℕ) (lines before : List Line) (x : Line) (after : List Line) → lines ≡ before ++ x ∷ after →
    NamesNoLabelTwice lines → double_label set before x ≡ None
double_passes set lines before x after e single = by_kept (is_kept set x) (label_named x.item) refl where
  by_place : (label : ℕ) (z : Bool) → is_some (place_of (kept set before) label) ≡ z →
      label_named x.item ≡ Some label → (if z then Some (DoubleLabel label) else None) ≡ None
  by_place label false p l = refl
  by_place label true p l =
      let n = kept_naming set before label p in
      absurd (single.once n.front n.line n.back x after label
      (e ∙ ap (λ (ls : List Line). ls ++ x ∷ after) n.split ∙ append_assoc n.front (n.line ∷ n.back) (x ∷ after))
      n.named l)

  by_name : (o : Option ℕ) → label_named x.item ≡ o → double_in (kept set before) x.item ≡ None
  by_name None l = rw l refl
  by_name (Some label) l = rw l (by_place label (is_some (place_of (kept set before) label)) refl l)

  by_kept : (z : Bool) (o : Option ℕ) → label_named x.item ≡ o →
      (if z then double_in (kept set before) x.item else None) ≡ None
  by_kept false o l = refl
  by_kept true o l = by_name o l

-- a label that a kept line names
known : (set : ℕ) (lines front : List Line) (y : Line) (back : List Line) (label : ℕ) → lines ≡ front ++ y ∷ back →
    is_kept set y ≡ true → label_named y.item ≡ Some label → is_some (place_of (kept set lines) label) ≡ true
known set lines front y back label e k n =
    ap (λ (ls : List Line). is_some (place_of ls label)) (all_split set lines front y back e k)
    ∙ placed (kept set front) y (kept set back) label n

for_user : (set : ℕ) (user y : Line) (label : ℕ) → NamesFor user y label → is_kept set user ≡ true →
    is_kept set y ≡ true
for_user set user y label n k = by_part n.kept where
  by_part : (y.part ≡ 255) ⊎ (y.part ≡ user.part) → is_kept set y ≡ true
  by_part (inl always) = ap (is_part_kept set) always
  by_part (inr same) = ap (is_part_kept set) same ∙ k

unknown_passes : (others : ℕ → Bool) (set : ℕ) (lines before : List Line) (x : Line) (after : List Line) →
    lines ≡ before ++ x ∷ after → NamesOthers others lines → IsAtHome others before x after →
    unknown_label set lines before x ≡ None
unknown_passes others set lines before x after e around home =
    by_kept (is_kept set x) (label_used x.item) refl refl where
      found : (label : ℕ) → is_kept set x ≡ true → IsTrue (others label) ⊎ IsNamedIn (before ++ x ∷ after) x label →
          is_some (place_of (kept set lines) label) ≡ true
      found label k (inl other) =
          let n = around.named label other in
          known set lines n.front n.line n.back label n.split (ap (is_part_kept set) n.always) n.names
      found label k (inr n) =
          let there = for_user set x n.line label n.named k in
          known set lines n.front n.line n.back label (e ∙ n.split) there n.named.names

      by_name : (o : Option ℕ) → is_kept set x ≡ true → label_used x.item ≡ o →
          unknown_in (kept set lines) x.item ≡ None
      by_name None k l = rw l refl
      by_name (Some label) k l = let f = found label k (home.named label l) in rw (l, f) refl

      by_kept : (z : Bool) (o : Option ℕ) → is_kept set x ≡ z → label_used x.item ≡ o →
          (if z then unknown_in (kept set lines) x.item else None) ≡ None
      by_kept false o k l = refl
      by_kept true o k l = by_name o k l

-- ---- how far a branch goes

pub label_stands : (set origin : ℕ) (lines front : List Line) (y : Line) (back : List Line) (label : ℕ) →
    lines ≡ front ++ y ∷ back → NamesNoLabelTwice lines → is_kept set y ≡ true → label_named y.item ≡ Some label →
    address_in (kept set lines) origin label ≡ origin + size_of (kept set front)
label_stands set origin lines front y back label e single k n =
    ap (λ (ls : List Line). address_in ls origin label) (all_split set lines front y back e k)
    ∙ label_address set origin front y (kept set back) label k (item_named y.item label n)
    (double_passes set lines front y back e single)

one_le : (x : Line) (ls lines : List Line) (z : Bool) → size_of ls ≤ size_of lines →
    size_of (if z then x ∷ ls else ls) ≤ item_size x.item + size_of lines
one_le x ls lines true h = omega arith
one_le x ls lines false h = omega arith

kept_le : (set : ℕ) (lines : List Line) → size_of (kept set lines) ≤ size_of lines
kept_le set [] = omega arith
kept_le set (x ∷ lines) = one_le x (kept set lines) lines (is_kept set x) (kept_le set lines)

kept_after : (set : ℕ) (before : List Line) (x : Line) (after : List Line) → is_kept set x ≡ true →
    size_of (kept set (before ++ x ∷ after)) ≡ size_of (kept set before)
    + (item_size x.item + size_of (kept set after))
kept_after set before x after k =
    ap size_of (all_split set (before ++ x ∷ after) before x after refl k)
    ∙ size_of-append (kept set before) (x ∷ kept set after)

near_after : (set origin : ℕ) (lines before : List Line) (x : Line) (after : List Line) (label : ℕ) →
    lines ≡ before ++ x ∷ after → NamesNoLabelTwice lines → origin + size_of (kept set lines) ≤ MEMORY_SIZE →
    is_kept set x ≡ true → item_size x.item ≡ 2 → IsReachedAfter x after label →
    is_some (branch_byte (origin + size_of (kept set before))
    ((address_in (kept set lines) origin label + 0) % MEMORY_SIZE)) ≡ true
near_after set origin lines before x after label e single fits k two r =
    let split : lines ≡ (before ++ x ∷ r.between) ++ r.line ∷ r.back =
    e ∙ ap (λ (ls : List Line). before ++ x ∷ ls) r.split
    ∙ sym (append_assoc before (x ∷ r.between) (r.line ∷ r.back)) in
    let stands = label_stands set origin lines (before ++ x ∷ r.between) r.line r.back label split single
    (for_user set x r.line label r.named k) r.named.names in
    let size = kept_after set before x r.between k in
    let whole : size_of (kept set lines) ≡ size_of (kept set before) + (item_size x.item + size_of (kept set after)) =
    ap (λ (ls : List Line). size_of (kept set ls)) e ∙ kept_after set before x after k in
    let near = kept_le set r.between in
    let within = r.near in
    let target : address_in (kept set lines) origin label + 0 ≡ origin + size_of (kept set before) + 2 + size_of
    (kept set r.between) = omega arith in
    ap (λ (t : ℕ). is_some (branch_byte (origin + size_of (kept set before)) (t % MEMORY_SIZE))) target
    ∙ ap is_some (branches_reach_after (origin + size_of (kept set before)) (size_of (kept set r.between))
    (omega arith) (omega arith))

near_before : (set origin : ℕ) (lines before : List Line) (x : Line) (after : List Line) (label : ℕ) →
    lines ≡ before ++ x ∷ after → NamesNoLabelTwice lines → origin + size_of (kept set lines) ≤ MEMORY_SIZE →
    is_kept set x ≡ true → IsReachedBefore x before label →
    is_some (branch_byte (origin + size_of (kept set before))
    ((address_in (kept set lines) origin label + 0) % MEMORY_SIZE)) ≡ true
near_before set origin lines before x after label e single fits k r =
    let there = for_user set x r.line label r.named k in
    let split : lines ≡ r.front ++ r.line ∷ (r.between ++ x ∷ after) =
    e ∙ ap (λ (ls : List Line). ls ++ x ∷ after) r.split
    ∙ append_assoc r.front (r.line ∷ r.between) (x ∷ after) in
    let stands = label_stands set origin lines r.front r.line (r.between ++ x ∷ after) label split single there
    r.named.names in
    let none : item_size r.line.item ≡ 0 = ap item_size (item_named r.line.item label r.named.names) in
    let size : size_of (kept set before) ≡ size_of (kept set r.front)
    + (item_size r.line.item + size_of (kept set r.between)) =
    ap (λ (ls : List Line). size_of (kept set ls)) r.split ∙ kept_after set r.front r.line r.between there in
    let whole : size_of (kept set lines) ≡ size_of (kept set before) + (item_size x.item + size_of (kept set after)) =
    ap (λ (ls : List Line). size_of (kept set ls)) e ∙ kept_after set before x after k in
    let near = kept_le set r.between in
    let within = r.near in
    let target : address_in (kept set lines) origin label + 0 ≡ origin + size_of (kept set r.front) = omega arith in
    let pc : origin + size_of (kept set before) ≡ origin + size_of (kept set r.front) + size_of (kept set r.between) =
    omega arith in
    ap (λ (t : ℕ). is_some (branch_byte (origin + size_of (kept set before)) (t % MEMORY_SIZE))) target
    ∙ ap (λ (p : ℕ). is_some (branch_byte p ((origin + size_of (kept set r.front)) % MEMORY_SIZE))) pc
    ∙ ap is_some (branches_reach_before (origin + size_of (kept set r.front)) (size_of (kept set r.between))
    (omega arith) (omega arith))

-- a kept branch reaches
reaches : (address : ℕ → ℕ) (pc : ℕ) (item : Item) →
    ((label offset : ℕ) → item_size item ≡ 2 → branch_of item ≡ Some (label, offset) →
    is_some (branch_byte pc ((address label + offset) % MEMORY_SIZE)) ≡ true) → is_far_item address pc item ≡ false
reaches address pc (Named l) h = refl
reaches address pc (Bytes bs) h = refl
reaches address pc (Code mn mode Nothing) h = refl
reaches address pc (Code mn mode (Number n)) h = refl
reaches address pc (Code mn mode (Low l d)) h = refl
reaches address pc (Code mn mode (High l d)) h = refl
reaches address pc (Code mn Relative (Label l d)) h = ap not (h l d refl refl)
reaches address pc (Code mn _ (Label l d)) h = refl

far_passes : (others : ℕ → Bool) (set origin : ℕ) (lines before : List Line) (x : Line) (after : List Line) →
    lines ≡ before ++ x ∷ after → NamesNoLabelTwice lines → origin + size_of (kept set lines) ≤ MEMORY_SIZE →
    IsAtHome others before x after → far_branch set origin lines before x ≡ None
far_passes others set origin lines before x after e single fits home = by_kept (is_kept set x) refl where
  pc : ℕ
  pc = origin + size_of (kept set before)

  target : ℕ → ℕ → ℕ
  target label offset = (address_in (kept set lines) origin label + offset) % MEMORY_SIZE

  near : (label offset : ℕ) → is_kept set x ≡ true → item_size x.item ≡ 2 → (offset ≡ 0)
      × (IsReachedAfter x after label ⊎ IsReachedBefore x before label) →
      is_some (branch_byte (origin + size_of (kept set before))
      ((address_in (kept set lines) origin label + offset) % MEMORY_SIZE)) ≡ true
  near label offset k two r =
      ap (λ (d : ℕ). is_some (branch_byte (origin + size_of (kept set before))
      ((address_in (kept set lines) origin label + d) % MEMORY_SIZE))) r.0 ∙ by_side r.1
    where
      by_side : IsReachedAfter x after label ⊎ IsReachedBefore x before label →
          is_some (branch_byte (origin + size_of (kept set before))
          ((address_in (kept set lines) origin label + 0) % MEMORY_SIZE)) ≡ true
      by_side (inl s) = near_after set origin lines before x after label e single fits k two s
      by_side (inr s) = near_before set origin lines before x after label e single fits k s

  by_kept : (z : Bool) → is_kept set x ≡ z →
      (if z && is_far_item (address_in (kept set lines) origin) (origin + size_of (kept set before)) x.item then Some
      (BranchTooFar (length before)) else None) ≡ None
  by_kept false k = refl
  by_kept true k =
      let here = reaches (address_in (kept set lines) origin) (origin + size_of (kept set before)) x.item
      (λ label offset two b. near label offset k two (home.reach label offset b)) in
      rw here refl

-- ---- all of them

passes : (others : ℕ → Bool) (set origin : ℕ) (lines before : List Line) (x : Line) (after : List Line) →
    lines ≡ before ++ x ∷ after → NamesNoLabelTwice lines → NamesOthers others lines →
    origin + size_of (kept set lines) ≤ MEMORY_SIZE → IsAtHome others before x after → Passes set origin lines before x
passes others set origin lines before x after e single around fits home = record {
  bad = bad_passes set before x home.part home.sound;
  double = double_passes set lines before x after e single;
  unknown = unknown_passes others set lines before x after e around home;
  far = far_passes others set origin lines before x after e single fits home;
}

pub stretches_pass : (others : ℕ → Bool) (set origin : ℕ) (front stretch back before : List Line) (line : Line)
    (after : List Line) → AtHome others [] stretch [] → NamesNoLabelTwice (front ++ (stretch ++ back)) →
    NamesOthers others (front ++ (stretch ++ back)) →
    origin + size_of (kept set (front ++ (stretch ++ back))) ≤ MEMORY_SIZE → stretch ≡ before ++ line ∷ after →
    Passes set origin (front ++ (stretch ++ back)) (front ++ before) line
stretches_pass others set origin front stretch back before line after home single around fits e =
    let grown = homes_grow others front [] stretch [] back home in
    let here = home_at others (front ++ []) stretch back before line after grown e in
    let place : (front ++ []) ++ before ≡ front ++ before =
    ap (λ (ls : List Line). ls ++ before) (append-nil front) in
    let split : front ++ (stretch ++ back) ≡ (front ++ before) ++ line ∷ (after ++ back) =
    ap (λ (ls : List Line). front ++ (ls ++ back)) e
    ∙ ap (λ (ls : List Line). front ++ ls) (append_assoc before (line ∷ after) back)
    ∙ sym (append_assoc front before (line ∷ (after ++ back))) in
    passes others set origin (front ++ (stretch ++ back)) (front ++ before) line (after ++ back) split single around
    fits
    (subst (λ (ls : List Line). IsAtHome others ls line (after ++ back)) place here)

pub passed_listings_assemble : (set origin : ℕ) (lines : List Line) → origin + size_of (kept set lines) ≤ MEMORY_SIZE →
    ((before : List Line) (line : Line) (after : List Line) → lines ≡ before ++ line ∷ after →
    Passes set origin lines before line) → fault_of set origin lines ≡ None
passed_listings_assemble set origin lines fits pass = fault_none set origin lines (record {
  bad = all_passed (bad_line set) [] lines (λ before line after e. (pass before line after e).bad);
  double = all_passed (double_label set) [] lines (λ before line after e. (pass before line after e).double);
  unknown = all_passed (unknown_label set lines) [] lines (λ before line after e. (pass before line after e).unknown);
  fits = fits;
  near = all_passed (far_branch set origin lines) [] lines (λ before line after e. (pass before line after e).far);
})

pub labels_stand_where_named : (set origin : ℕ) (front : List Line) (line : Line) (back : List Line) (label : ℕ) →
    NamesNoLabelTwice (front ++ line ∷ back) → is_kept set line ≡ true → label_named line.item ≡ Some label →
    address_in (kept set (front ++ line ∷ back)) origin label ≡ origin + size_of (kept set front)
labels_stand_where_named set origin front line back label single k n =
    label_stands set origin (front ++ line ∷ back) front line back label refl single k n
