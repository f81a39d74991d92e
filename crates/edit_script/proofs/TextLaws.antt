-- The first line of a text, and the steps of the loop over lines.
use Rattle.std.proofs.Common.{◌≡◌, ℕ, ◌+◌, ◌<◌, ◌≤◌, Bool, true, false, eqb, ltb, List, []}
use Rattle.std.proofs.Common.{◌∷◌, ◌++◌, length, take, drop, get_or, Some, None, Ok, Err, position, refl, sym}
use Rattle.std.proofs.Common.{ap, ◌∙◌, subst, ◌↔◌, ◌⊎◌, inl, inr, arith}
use Rattle.std.proofs.lemmas.Bool.{cases_lt, lt-ltb, le-ltb, eqb-true, eq-eqb, ne_eqb}
use Rattle.std.proofs.lemmas.List.Sums.{fails_before_first}
use Rattle.std.specs.List.{All, slice_split, position_or_len, before_first, after_first}
use Rattle.std.specs.Str.Lines.{lines, lines_of_parts, strip_carriage_return}
use Rattle.std.proofs.lemmas.List.{append-nil, append_assoc, length-append, get_or_at, get_or_append_left, nil_from_length}
use Rattle.std.proofs.lemmas.List.Splits.{slice_split_none, slice_split_first, length-slice_split}
use Rattle.base.specs.FirstBad.{IsFirstBad}
use Rattle.edit_script.specs.declared.commands.Command.{Command}
use Rattle.edit_script.specs.declared.faults.ScriptFault.{ScriptFault}
use Rattle.edit_script.specs.declared.faults.ScriptFault.TheVariants.{BadLine, NoMemory}
use Rattle.edit_script.specs.Spells.{SaysNothing, empty, comment, IsLine}
use Rattle.edit_script.specs.Scripts.{LinesGive, none, IsScript, IsFirstBadLine}
use Rattle.edit_script.specs.Answers.{Adds, IsAnswer}
use Rattle.edit_script.proofs.ScriptLaws.{all_lines, lines_join, one_script, one_bad_line, no_bad_line}

-- ---- the first line

abbrev pub is_feed : ℕ → Bool
is_feed byte = eqb byte 10

-- a place that was found, or not
pub record IsPlace (test : ℕ → Bool) (text : List ℕ) (place : ℕ) : Type 0 where
  pub is : position_or_len test text ≡ place
  pub inside : place < length text

pub found_at : (test : ℕ → Bool) (text : List ℕ) (place : ℕ) → Some place ≡ position test text →
    IsPlace test text place
found_at test text place e = elim (cases_lt (position_or_len test text) (length text)) [
  | inl lt ↦
      let holds : ltb (position_or_len test text) (length text) ≡ true = lt-ltb _ _ lt in
      let same : place ≡ position_or_len test text = cc (rw holds at e) in
      record { is = sym same; inside = omega (arith, same, lt) }
  | inr ge ↦
      let never : ltb (position_or_len test text) (length text) ≡ false = le-ltb _ _ ge in absurd (cc (rw never at e))
]

pub found_nowhere : (test : ℕ → Bool) (text : List ℕ) → None ≡ position test text →
    length text ≤ position_or_len test text
found_nowhere test text e = elim (cases_lt (position_or_len test text) (length text)) [
  | inl lt ↦
      let holds : ltb (position_or_len test text) (length text) ≡ true = lt-ltb _ _ lt in absurd (cc (rw holds at e))
  | inr ge ↦ ge
]

strips : (line : List ℕ) (parts : List (List ℕ)) → 0 < length parts →
    lines_of_parts (line ∷ parts) ≡ strip_carriage_return line ∷ lines_of_parts parts
strips line [] some = absurd (omega arith)
strips line (part ∷ parts) some = refl

pub line_before_feed : (text : List ℕ) → position_or_len is_feed text < length text →
    lines text ≡ strip_carriage_return (before_first is_feed text) ∷ lines (after_first is_feed text)
line_before_feed text inside =
    let parts : List (List ℕ) = slice_split is_feed (after_first is_feed text) in
    let some : 0 < length parts = omega (arith, length-slice_split is_feed (after_first is_feed text)) in
    ap lines_of_parts (slice_split_first is_feed text 0 inside) ∙ strips (before_first is_feed text) parts some

one_part : (text : List ℕ) → 0 < length text → lines_of_parts (text ∷ []) ≡ text ∷ []
one_part [] some = absurd (omega arith)
one_part (byte ∷ text) some =
    let long : eqb (length (byte ∷ text)) 0 ≡ false = ne_eqb _ 0 (λ zero. absurd (omega (arith, zero))) in rw long refl

pub last_line : (text : List ℕ) → 0 < length text → All (λ byte. is_feed byte ≡ false) text →
    lines text ≡ text ∷ []
last_line text some without = ap lines_of_parts (slice_split_none is_feed text without) ∙ one_part text some

pub some_line : (text line rest : List ℕ) (place : ℕ) → Some place ≡ position is_feed text →
    line ≡ strip_carriage_return (take place text) → rest ≡ drop (place + 1) text → lines text ≡ line ∷ lines rest
some_line text line rest place found is_line is_rest =
    let at = found_at is_feed text place found in
    let inside : position_or_len is_feed text < length text = omega (arith, at.is, at.inside) in
    let front : before_first is_feed text ≡ take place text = ap (λ n. take n text) at.is in
    let back : after_first is_feed text ≡ drop (place + 1) text = ap (λ n. drop (n + 1) text) at.is in
    line_before_feed text inside
    ∙ ap (λ (x : List ℕ). x ∷ lines (after_first is_feed text)) (ap strip_carriage_return front ∙ sym is_line)
    ∙ ap (λ (x : List ℕ). line ∷ lines x) (back ∙ sym is_rest)

pub only_line : (text : List ℕ) → 0 < length text → None ≡ position is_feed text → lines text ≡ text ∷ lines []
only_line text some nowhere =
    let past = found_nowhere is_feed text nowhere in
    last_line text some (λ k d lt. fails_before_first is_feed text k d (omega (arith, past, lt)))

-- ---- the loop over lines

-- so many lines of a text were read, to these commands, and this is left of it
pub record IsFront (text left : List ℕ) (number : ℕ) (commands : List Command) : Type 0 where
  pub front : List (List ℕ)
  pub parts : lines text ≡ front ++ lines left
  pub count : length front ≡ number
  pub give : LinesGive 1 front commands

pub nothing_read : (text : List ℕ) → IsFront text text 0 []
nothing_read text = record { front = []; parts = refl; count = refl; give = none }

pub one_more : (text left rest line : List ℕ) (number : ℕ) (before after : List Command) →
    lines left ≡ line ∷ lines rest → IsFront text left number before → Adds (number + 1) line before after →
    IsFront text rest (number + 1) after
one_more text left rest line number before after first front adds =
    let place : number + 1 ≡ 1 + length front.front = omega (arith, front.count) in
    let more : LinesGive (1 + length front.front) (line ∷ []) adds.more =
    subst (λ n. LinesGive n (line ∷ []) adds.more) place adds.gives in
    record {
      front = front.front ++ line ∷ [];
      parts = front.parts ∙ ap (λ (ls : List (List ℕ)). front.front ++ ls) first
          ∙ sym (append_assoc front.front (line ∷ []) (lines rest));
      count = length-append front.front (line ∷ []) ∙ omega (arith, front.count);
      give = subst (LinesGive 1 (front.front ++ line ∷ [])) (sym adds.after_is) (lines_join front.give more);
    }

pub all_read : (text left : List ℕ) (number : ℕ) (commands : List Command) → IsFront text left number commands →
    length left ≡ 0 → IsScript text commands
all_read text left number commands front over =
    let nil : left ≡ [] = nil_from_length left over in
    let all : lines text ≡ front.front =
    front.parts ∙ ap (λ bytes. front.front ++ lines bytes) nil ∙ append-nil front.front in
    subst (λ ls. LinesGive 1 ls commands) (sym all) front.give

bad_behind : (front more : List (List ℕ)) (line : List ℕ) → All IsLine front → (IsLine line → ⊥) →
    IsFirstBad IsLine (front ++ line ∷ more) (length front)
bad_behind front more line all never = record {
  inside = omega (arith, length-append front (line ∷ more));
  bad = λ d is. never (subst IsLine (get_or_at front line more d (length front) refl) is);
  before = λ k d lt. subst IsLine (sym (get_or_append_left front (line ∷ more) d k lt)) (all k d lt);
}

pub next_is_bad : (text left rest line : List ℕ) (number : ℕ) (commands : List Command) →
    lines left ≡ line ∷ lines rest → IsFront text left number commands → (IsLine line → ⊥) →
    IsFirstBadLine text (number + 1)
next_is_bad text left rest line number commands first front never =
    let all : lines text ≡ front.front ++ line ∷ lines rest =
    front.parts ∙ ap (λ (ls : List (List ℕ)). front.front ++ ls) first in
    let bad = bad_behind front.front (lines rest) line (all_lines front.give) never in
    record {
      place = length front.front;
      counted = ap (λ n. n + 1) (sym front.count);
      first = subst (λ ls. IsFirstBad IsLine ls (length front.front)) (sym all) bad;
    }

-- ---- lines that say nothing

first_of : (first : ℕ) (rest : List ℕ) → SaysNothing (first ∷ rest) → first ≡ 35
first_of first rest (empty nil) = absurd (cc (nil))
first_of first rest (comment words parts) = cc (parts)

says_first : (first : ℕ) (rest : List ℕ) → (eqb first 35 ≡ true) ↔ SaysNothing (first ∷ rest)
says_first first rest = (
  λ e. comment rest (ap (λ (byte : ℕ). byte ∷ rest) (eqb-true first 35 e)),
  λ says. eq-eqb first 35 (first_of first rest says),
)

pub says_when : (line : List ℕ) → 1 ≤ length line → (eqb (get_or line 0 0) 35 ≡ true) ↔ SaysNothing line
says_when [] some = absurd (omega arith)
says_when (first ∷ rest) some = says_first first rest

-- ---- what is answered

-- the fault is of the text
pub data IsFaultOf (text : List ℕ) (fault : ScriptFault) : Type 0 where
  wanting : fault ≡ NoMemory → IsFaultOf text fault
  bad : (line : ℕ) → fault ≡ BadLine line → IsFirstBadLine text line → IsFaultOf text fault

pub fault_found : (text left rest line : List ℕ) (number : ℕ) (commands : List Command) (fault answered : ScriptFault) →
    lines left ≡ line ∷ lines rest → IsFront text left number commands → answered ≡ fault →
    (fault ≡ NoMemory) ⊎ ((fault ≡ BadLine (number + 1)) × (IsLine line → ⊥)) → IsFaultOf text answered
fault_found text left rest line number commands fault answered first front same (inl out) = wanting (same ∙ out)
fault_found text left rest line number commands fault answered first front same (inr (is, unlike)) =
    bad (number + 1) (same ∙ is) (next_is_bad text left rest line number commands first front unlike)

pub fault_is : (text : List ℕ) (fault : ScriptFault) → IsFaultOf text fault →
    (fault ≡ NoMemory) ⊎ ((line : ℕ) × (fault ≡ BadLine line) × IsFirstBadLine text line)
fault_is text fault (wanting out) = inl out
fault_is text fault (bad line is first) = inr (line, is, first)

pub fault_only : (text : List ℕ) (fault : ScriptFault) → IsFaultOf text fault → (commands : List Command) →
    IsScript text commands → IsAnswer (Err fault) (Ok commands)
fault_only text fault (wanting out) commands script = inr (ap Err out)
fault_only text fault (bad line is first) commands script = absurd (no_bad_line text commands line script first)

pub fault_exact : (text : List ℕ) (fault : ScriptFault) → IsFaultOf text fault → (line : ℕ) →
    IsFirstBadLine text line → IsAnswer {X = List Command} (Err fault) (Err (BadLine line))
fault_exact text fault (wanting out) line first = inr (ap Err out)
fault_exact text fault (bad number is first) line other =
    inl (ap Err (is ∙ ap BadLine (one_bad_line text number line first other)))

pub script_only : (text : List ℕ) (script commands : List Command) → IsScript text script → IsScript text commands →
    IsAnswer (Ok script) (Ok commands)
script_only text script commands p q = inl (ap Ok (one_script text script commands p q))

pub script_exact : (text : List ℕ) (script : List Command) (line : ℕ) → IsScript text script →
    IsFirstBadLine text line → IsAnswer (Ok script) (Err (BadLine line))
script_exact text script line p first = absurd (no_bad_line text script line p first)
