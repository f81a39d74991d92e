-- The lines of a text: the first one, the steps of the loop over lines, and that a text is one listing or has one first
-- bad line.
use Rattle.std.proofs.Common.{◌≡◌, ℕ, ◌+◌, ◌*◌, ◌<◌, ◌≤◌, Bool, true, false, eqb, ltb, nat_eq}
use Rattle.std.proofs.Common.{List, [], ◌∷◌, ◌++◌, length, take, drop, get_or, Some, None, position, refl}
use Rattle.std.proofs.Common.{sym, ap, ◌∙◌, subst, ◌↔◌, ◌⊎◌, inl, inr, arith}
use Rattle.std.proofs.lemmas.Bool.{cases_lt, lt-ltb, le-ltb, eqb-true, eqb-false, eq-eqb, false≢true}
use Rattle.std.proofs.lemmas.List.{append-nil, append_assoc, length-append, nil_from_length}
use Rattle.std.proofs.lemmas.List.Elements.{All-nil, All-cons}
use Rattle.std.proofs.lemmas.List.Sums.{fails_before_first}
use Rattle.std.proofs.lemmas.List.Splits.{slice_split_none, slice_split_first}
use Rattle.std.specs.List.{slice_split, position_or_len, before_first, after_first}
use Rattle.cpu6502.specs.declared.mnemonic.Mnemonic.{Mnemonic}
use Rattle.cpu6502.specs.declared.mnemonic.Mode.{Mode}
use Rattle.asm_text.specs.declared.statements.Operand.{Operand}
use Rattle.asm_text.specs.declared.statements.Statement.{Statement}
use Rattle.asm_text.specs.declared.statements.Statement.TheVariants.{Label, Byte, Code}
use Rattle.asm_text.specs.declared.statements.Written.{Written}
use Rattle.asm_text.specs.declared.faults.TextFault.{TextFault}
use Rattle.asm_text.specs.declared.faults.TextKind.TheVariants.{BadLine, NoMemory}
use Rattle.asm_text.specs.Searching.{AreRight}
use Rattle.asm_text.specs.Statements.{spelling, is_right}
use Rattle.asm_text.specs.Lines.{SaysNothing, empty, comment, Spells, IsOriginLine, IsLine, parts, Say, over, nothing}
use Rattle.asm_text.specs.Lines.{something, IsFirstBad, unended, here, later, IsBadAt, behind}
use Rattle.asm_text.specs.Steps as step
use Rattle.asm_text.specs.Steps.{Adds}
use Rattle.asm_text.proofs.NameLaws.{no_semicolon}
use Rattle.asm_text.proofs.WordLaws.{code_line}

-- ---- the first line

abbrev is_feed : ℕ → Bool
is_feed byte = eqb byte 10

record IsPlace (test : ℕ → Bool) (text : List ℕ) (place : ℕ) : Type 0 where
  is : position_or_len test text ≡ place
  inside : place < length text

found_at : (test : ℕ → Bool) (text : List ℕ) (place : ℕ) → Some place ≡ position test text → IsPlace test text place
found_at test text place e = elim (cases_lt (position_or_len test text) (length text)) [
  | inl lt ↦
      let holds : ltb (position_or_len test text) (length text) ≡ true = lt-ltb _ _ lt in
      let same : place ≡ position_or_len test text = cc (rw holds at e) in
      record { is = sym same; inside = omega (arith, same, lt) }
  | inr ge ↦
      let never : ltb (position_or_len test text) (length text) ≡ false = le-ltb _ _ ge in absurd (cc (rw never at e))
]

found_nowhere : (test : ℕ → Bool) (text : List ℕ) → None ≡ position test text →
    length text ≤ position_or_len test text
found_nowhere test text e = elim (cases_lt (position_or_len test text) (length text)) [
  | inl lt ↦
      let holds : ltb (position_or_len test text) (length text) ≡ true = lt-ltb _ _ lt in absurd (cc (rw holds at e))
  | inr ge ↦ ge
]

pub some_line : (text line rest : List ℕ) (place : ℕ) → Some place ≡ position is_feed text → line ≡ take place text →
    rest ≡ drop (place + 1) text → parts text ≡ line ∷ parts rest
some_line text line rest place found is_line is_rest =
    let at = found_at is_feed text place found in
    let inside : position_or_len is_feed text < length text = omega (arith, at.is, at.inside) in
    let front : before_first is_feed text ≡ take place text = ap (λ n. take n text) at.is in
    let back : after_first is_feed text ≡ drop (place + 1) text = ap (λ n. drop (n + 1) text) at.is in
    slice_split_first is_feed text 0 inside
    ∙ ap (λ (x : List ℕ). x ∷ slice_split is_feed (after_first is_feed text)) (front ∙ sym is_line)
    ∙ ap (λ (x : List ℕ). line ∷ slice_split is_feed x) (back ∙ sym is_rest)

pub only_line : (text : List ℕ) → None ≡ position is_feed text → parts text ≡ text ∷ []
only_line text nowhere =
    let past = found_nowhere is_feed text nowhere in
    slice_split_none is_feed text (λ k d lt. fails_before_first is_feed text k d (omega (arith, past, lt)))

pub inside : (text : List ℕ) (place : ℕ) → Some place ≡ position is_feed text → place < length text
inside text place found = let at = found_at is_feed text place found in at.inside

-- ---- lines that say nothing

first_of : (first : ℕ) (rest : List ℕ) → SaysNothing (first ∷ rest) → first ≡ 59
first_of first rest (empty nil) = absurd (cc (nil))
first_of first rest (comment words parts) = cc (parts)

says_first : (first : ℕ) (rest : List ℕ) → (eqb first 59 ≡ true) ↔ SaysNothing (first ∷ rest)
says_first first rest = (
  λ e. comment rest (ap (λ (byte : ℕ). byte ∷ rest) (eqb-true first 59 e)),
  λ says. eq-eqb first 59 (first_of first rest says),
)

pub says_when : (line : List ℕ) → 1 ≤ length line → (eqb (get_or line 0 0) 59 ≡ true) ↔ SaysNothing line
says_when [] some = absurd (omega arith)
says_when (first ∷ rest) some = says_first first rest

-- a statement's text is neither empty nor a comment
code_begins : (mnemonic : Mnemonic) (mode : Mode) (operand : Operand) →
    nat_eq (get_or (spelling (Code mnemonic mode operand)) 0 0) 59 ≡ false
code_begins mnemonic mode operand =
    ap (λ (text : List ℕ). nat_eq (get_or text 0 0) 59) (code_line mnemonic mode operand) ∙ no_semicolon mnemonic

begins : (statement : Statement) → nat_eq (get_or (spelling statement) 0 0) 59 ≡ false
begins (Label label) = refl
begins (Byte byte) = refl
begins (Code mnemonic mode operand) = code_begins mnemonic mode operand

code_long : (mnemonic : Mnemonic) (mode : Mode) (operand : Operand) → 3 ≤ length (spelling (Code mnemonic mode operand))
code_long mnemonic mode operand =
    let same = ap (λ (text : List ℕ). length text) (code_line mnemonic mode operand) in
    omega (arith, same)

-- and has three bytes at least
pub spelling_long : (statement : Statement) → 3 ≤ length (spelling statement)
spelling_long (Label label) = omega arith
spelling_long (Byte byte) = omega arith
spelling_long (Code mnemonic mode operand) = code_long mnemonic mode operand

pub nothing_spells : (line : List ℕ) (statement : Statement) → SaysNothing line → Spells line statement → ⊥
nothing_spells line statement (empty nil) spells =
    let same = ap (λ (text : List ℕ). length text) (sym spells.text ∙ nil) in
    absurd (omega (arith, same, spelling_long statement))
nothing_spells line statement (comment words is) spells =
    let same = ap (λ (text : List ℕ). nat_eq (get_or text 0 0) 59) (sym is ∙ spells.text) in
    false≢true (sym (begins statement) ∙ sym same)

-- ---- the loop over lines

-- so many lines of a text were read, to these statements, and this is left of it
pub record IsFront (text left : List ℕ) (number : ℕ) (script : List Written) : Type 0 where
  pub say : (rest : List Written) → Say (number + 1) (parts left) rest → Say 2 (parts text) (script ++ rest)
  pub bad : (line : ℕ) → IsFirstBad (number + 1) (parts left) line → IsFirstBad 2 (parts text) line
  pub few : 4 * length script + length left ≤ length text
  pub count : number + length left ≤ 1 + length text

pub nothing_read : (text : List ℕ) → IsFront text text 1 []
nothing_read text = record { say = λ rest says. says; bad = λ line bad. bad; few = omega arith; count = omega arith }

more_say : (number : ℕ) (line : List ℕ) (others : List (List ℕ)) (before after rest : List Written)
    (Wanted : List Written → Type 0) → Adds number line before after → Say (number + 1) others rest →
    ((more : List Written) → Say number (line ∷ others) more → Wanted (before ++ more)) → Wanted (after ++ rest)
more_say number line others before after rest Wanted (step.nothing says same) more give =
    subst (λ (script : List Written). Wanted (script ++ rest)) (sym same) (give rest (nothing says more))
more_say number line others before after rest Wanted (step.something statement spells same) more give =
    let written : Written = record { line = number; statement = statement } in
    subst (λ (script : List Written). Wanted (script ++ rest)) (sym same)
    (subst Wanted (sym (append_assoc before (written ∷ []) rest))
    (give (written ∷ rest) (something statement spells more)))

added_line : (number : ℕ) (line : List ℕ) (before after : List Written) → Adds number line before after → IsLine line
added_line number line before after (step.nothing says same) = inl says
added_line number line before after (step.something statement spells same) = inr (statement, spells)

added_few : (number : ℕ) (line : List ℕ) (before after : List Written) → Adds number line before after →
    4 * length after ≤ 4 * length before + (length line + 1)
added_few number line before after (step.nothing says same) =
    let size = ap (λ (script : List Written). length script) same in omega (arith, size)
added_few number line before after (step.something statement spells same) =
    let written : Written = record { line = number; statement = statement } in
    let size = ap (λ (script : List Written). length script) same in
    let long = ap (λ (text : List ℕ). length text) spells.text in
    omega (arith, size, length-append before (written ∷ []), long, spelling_long statement)

pub one_more : (text left rest line : List ℕ) (number : ℕ) (before after : List Written) →
    parts left ≡ line ∷ parts rest → length line + 1 + length rest ≡ length left → IsFront text left number before →
    Adds (number + 1) line before after → IsFront text rest (number + 1) after
one_more text left rest line number before after first sizes front adds = record {
  say = λ more says.
      more_say (number + 1) line (parts rest) before after more (λ script. Say 2 (parts text) script) adds says
      (λ all said. front.say all (subst (λ ls. Say (number + 1) ls all) (sym first) said));
  bad = λ bad is.
      front.bad bad
      (subst (λ ls. IsFirstBad (number + 1) ls bad) (sym first)
      (later (added_line (number + 1) line before after adds) is));
  few = omega (arith, front.few, sizes, added_few (number + 1) line before after adds);
  count = omega (arith, front.count, sizes);
}

pub all_read : (text left : List ℕ) (number : ℕ) (script : List Written) → IsFront text left number script →
    length left ≡ 0 → Say 2 (parts text) script
all_read text left number script front ended =
    let nil : left ≡ [] = nil_from_length left ended in
    let last : Say (number + 1) (parts left) [] =
    subst (λ bytes. Say (number + 1) (parts bytes) []) (sym nil) over in
    subst (λ ls. Say 2 (parts text) ls) (append-nil script) (front.say [] last)

pub not_ended : (text left : List ℕ) (number : ℕ) (script : List Written) → IsFront text left number script →
    (length left ≡ 0 → ⊥) → parts left ≡ left ∷ [] → IsFirstBad 2 (parts text) (number + 1)
not_ended text left number script front some one =
    front.bad (number + 1)
    (subst (λ ls. IsFirstBad (number + 1) ls (number + 1)) (sym one) (unended (omega (arith, some))))

abbrev IsCut : List (List ℕ) → Type 0
IsCut all = (first : List ℕ) × (others : List (List ℕ)) × (all ≡ first ∷ others)

cut_by : (y : Bool) (byte : ℕ) (rest : List ℕ) → IsCut (parts rest) → eqb byte 10 ≡ y → IsCut (parts (byte ∷ rest))
cut_by true byte rest cut e = rw e ([], parts rest, refl)
cut_by false byte rest cut e = rw (e, cut.2) (byte ∷ cut.0, cut.1, refl)

parts_some : (text : List ℕ) → IsCut (parts text)
parts_some [] = ([], [], refl)
parts_some (byte ∷ rest) = cut_by (eqb byte 10) byte rest (parts_some rest) refl

here_bad : (number : ℕ) (line rest : List ℕ) → (IsLine line → ⊥) → IsFirstBad number (line ∷ parts rest) number
here_bad number line rest never =
    let cut = parts_some rest in
    subst (λ ls. IsFirstBad number (line ∷ ls) number) (sym cut.2) (here never)

pub bad_here : (text left rest line : List ℕ) (number : ℕ) (script : List Written) →
    parts left ≡ line ∷ parts rest → IsFront text left number script → (IsLine line → ⊥) →
    IsFirstBad 2 (parts text) (number + 1)
bad_here text left rest line number script first front never =
    front.bad (number + 1)
    (subst (λ ls. IsFirstBad (number + 1) ls (number + 1)) (sym first) (here_bad (number + 1) line rest never))

-- ---- a line of the loop

pub is_no_line : (line : List ℕ) → (SaysNothing line → ⊥) → ((statement : Statement) → Spells line statement → ⊥) →
    IsLine line → ⊥
is_no_line line silent mute (inl says) = silent says
is_no_line line silent mute (inr (statement, spells)) = mute statement spells

pub some_left : (n : ℕ) → eqb n 0 ≡ false → 0 < n
some_left n e = let never = eqb-false n 0 e in omega (arith, never)

-- ---- the fault of a line, and of the lines behind the first

pub line_fault : (text left rest line : List ℕ) (number : ℕ) (script : List Written) (fault answered : TextFault) →
    parts left ≡ line ∷ parts rest → IsFront text left number script → answered ≡ fault →
    (fault.kind ≡ NoMemory) ⊎ ((fault.kind ≡ BadLine) × (fault.line ≡ number + 1) × (IsLine line → ⊥)) →
    (answered.kind ≡ NoMemory) ⊎ ((answered.kind ≡ BadLine) × IsFirstBad 2 (parts text) answered.line)
line_fault text left rest line number script fault answered first front same (inl out) =
    inl (ap (λ (f : TextFault). f.kind) same ∙ out)
line_fault text left rest line number script fault answered first front same (inr (kind, at, never)) =
    inr (
      ap (λ (f : TextFault). f.kind) same ∙ kind,
      subst (IsFirstBad 2 (parts text)) (sym (ap (λ (f : TextFault). f.line) same ∙ at))
          (bad_here text left rest line number script first front never),
    )

pub text_fault : (text first rest : List ℕ) (origin : ℕ) (fault answered : TextFault) →
    parts text ≡ first ∷ parts rest → IsOriginLine origin first → answered ≡ fault →
    (fault.kind ≡ NoMemory) ⊎ ((fault.kind ≡ BadLine) × IsFirstBad 2 (parts rest) fault.line) →
    (answered.kind ≡ NoMemory) ⊎ ((answered.kind ≡ BadLine) × IsBadAt text answered.line)
text_fault text first rest origin fault answered cut is same (inl out) =
    inl (ap (λ (f : TextFault). f.kind) same ∙ out)
text_fault text first rest origin fault answered cut is same (inr (kind, bad)) =
    inr (
      ap (λ (f : TextFault). f.kind) same ∙ kind,
      subst (IsBadAt text) (sym (ap (λ (f : TextFault). f.line) same))
          (behind first (parts rest) origin fault.line cut is bad),
    )

-- each statement that is said may stand in a listing
pub say_right : {number : ℕ} {ls : List (List ℕ)} {script : List Written} → Say number ls script → AreRight script
say_right over = record { right = All-nil (λ written. is_right written.statement ≡ true) }
say_right (nothing says more) = say_right more
say_right (something {number} {script} statement spells more) =
    let others = say_right more in
    record {
      right =
          All-cons (λ written. is_right written.statement ≡ true) (record { line = number; statement = statement })
          script spells.right others.right;
    }
