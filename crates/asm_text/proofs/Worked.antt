-- What refuses a line, and what reads a text, by computing.
use Rattle.std.proofs.Common.{◌≡◌, ℕ, ◌+◌, ◌<◌, Bool, true, false, ◌&&◌, not, List, [], ◌∷◌}
use Rattle.std.proofs.Common.{get_or, nat_eq, if◌then◌else◌, Option, Some, None, refl, sym, ap, ◌∙◌, subst}
use Rattle.std.proofs.Common.{inl, inr}
use Rattle.std.specs.List.{All}
use Rattle.std.specs.Str.{bytes_eq}
use Rattle.std.proofs.lemmas.Bool.{and_parts, eqb-true, false≢true, not-true}
use Rattle.std.proofs.lemmas.List.Elements.{All-nil, All-cons}
use Rattle.asm_text.specs.declared.statements.Statement.{Statement}
use Rattle.asm_text.specs.declared.statements.Written.{Written}
use Rattle.base.proofs.Laws.{same_some}
use Rattle.asm6502.specs.declared.fixes.Fix.{Fix}
use Rattle.asm6502.specs.Assembly.{assembled_bytes, assembled_fixes}
use Rattle.asm_text.specs.declared.faults.TextKind.{TextKind}
use Rattle.asm_text.specs.declared.faults.TextKind.TheVariants.{BadLine}
use Rattle.asm_text.specs.Laying.{listing_at}
use Rattle.asm_text.specs.Faults.{fault_in, bad_line, in_script}
use Rattle.asm_text.specs.WorkedTexts.{Gives, Fails}
use Rattle.asm_text.specs.Statements.{spelling, origin_text, is_right}
use Rattle.asm_text.specs.Reading.{word_value, shown}
use Rattle.asm_text.specs.Lines.{SaysNothing, empty, comment, Spells, IsOriginLine, IsLine, parts, Say, over, nothing}
use Rattle.asm_text.specs.Lines.{something, IsListing, IsFirstBad, no_line, no_origin, behind}
use Rattle.asm_text.proofs.SameBytes.{same_bytes, same_itself}
use Rattle.asm_text.proofs.WordLaws.{spells_shown, shown_range, origin_again}

-- whether a line isn't what it would be, written as it should be
abbrev is_wrong : Option Statement → List ℕ → Bool
is_wrong None line = true
is_wrong (Some statement) line = not (is_right statement && bytes_eq (spelling statement) line)

abbrev pub is_refused : List ℕ → Bool
is_refused line = not (nat_eq (get_or line 0 59) 59) && is_wrong (shown line) line

refused_spells : (line : List ℕ) (statement : Statement) → is_wrong (shown line) line ≡ true →
    Spells line statement → ⊥
refused_spells line statement wrong spells =
    let shows = spells_shown line statement spells in
    let text : bytes_eq (spelling statement) line ≡ true =
    ap (bytes_eq (spelling statement)) spells.text ∙ same_itself (spelling statement) in
    let right = spells.right in
    false≢true (sym (ap (λ o. is_wrong o line) shows ∙ rw (right, text) refl) ∙ wrong)

refused_nothing : (line : List ℕ) → nat_eq (get_or line 0 59) 59 ≡ false → SaysNothing line → ⊥
refused_nothing line never (empty nil) =
    false≢true (sym never ∙ ap (λ (bytes : List ℕ). nat_eq (get_or bytes 0 59) 59) nil)
refused_nothing line never (comment words is) =
    false≢true (sym never ∙ ap (λ (bytes : List ℕ). nat_eq (get_or bytes 0 59) 59) is)

pub refused : (line : List ℕ) → is_refused line ≡ true → IsLine line → ⊥
refused line h (inl says) =
    let parts = and_parts (not (nat_eq (get_or line 0 59) 59)) (is_wrong (shown line) line) h in
    refused_nothing line (not-true (nat_eq (get_or line 0 59) 59) parts.0) says
refused line h (inr (statement, spells)) =
    let parts = and_parts (not (nat_eq (get_or line 0 59) 59)) (is_wrong (shown line) line) h in
    refused_spells line statement parts.1 spells

abbrev all_refused : List (List ℕ) → Bool
all_refused [] = true
all_refused (line ∷ rest) = is_refused line && all_refused rest

pub refused_all : (lines : List (List ℕ)) → all_refused lines ≡ true → All (λ line. IsLine line → ⊥) lines
refused_all [] h = All-nil (λ line. IsLine line → ⊥)
refused_all (line ∷ rest) h =
    let parts = and_parts (is_refused line) (all_refused rest) h in
    All-cons (λ line. IsLine line → ⊥) line rest (refused line parts.0) (refused_all rest parts.1)

-- ---- a text that is written out

-- the statement that a line spells
abbrev heard : Option Statement → List ℕ → Option Statement
heard None line = None
heard (Some statement) line =
    if is_right statement && bytes_eq (spelling statement) line then Some statement else None

spells_by : (line : List ℕ) (statement other : Statement) (y : Bool) → shown line ≡ Some statement →
    (is_right statement && bytes_eq (spelling statement) line) ≡ y →
    (if y then Some statement else None) ≡ Some other → Spells line other
spells_by line statement other true shows e h =
    let parts = and_parts (is_right statement) (bytes_eq (spelling statement) line) e in
    subst (Spells line) (same_some statement other h)
    (record {
      right = parts.0;
      range = shown_range line statement shows;
      text = sym (same_bytes (spelling statement) line parts.1);
    })
spells_by line statement other false shows e h = absurd (cc)

heard_spells : (line : List ℕ) (o : Option Statement) (statement : Statement) → shown line ≡ o →
    heard o line ≡ Some statement → Spells line statement
heard_spells line None statement shows h = absurd (cc)
heard_spells line (Some other) statement shows h =
    spells_by line other statement (is_right other && bytes_eq (spelling other) line) shows refl h

pub spelled : (line : List ℕ) (statement : Statement) → heard (shown line) line ≡ Some statement →
    Spells line statement
spelled line statement h = heard_spells line (shown line) statement refl h

begins_silent : (line : List ℕ) → nat_eq (get_or line 0 59) 59 ≡ true → SaysNothing line
begins_silent [] h = empty refl
begins_silent (first ∷ rest) h = comment rest (ap (λ (byte : ℕ). byte ∷ rest) (eqb-true first 59 h))

-- the statements that parts say
abbrev put : ℕ → Option Statement → Option (List Written) → Option (List Written)
put number None script = None
put number (Some statement) None = None
put number (Some statement) (Some script) = Some (record { line = number; statement = statement } ∷ script)

abbrev said_of : ℕ → List (List ℕ) → Option (List Written)
said_of number [] = None
said_of number ([] ∷ []) = Some []
said_of number ((byte ∷ line) ∷ []) = None
said_of number (line ∷ other ∷ others) =
    if nat_eq (get_or line 0 59) 59 then said_of (number + 1) (other ∷ others)
    else put number (heard (shown line) line) (said_of (number + 1) (other ∷ others))

put_says : (number : ℕ) (line other : List ℕ) (others : List (List ℕ)) (script : List Written)
    (o : Option Statement) (p : Option (List Written)) → heard (shown line) line ≡ o →
    said_of (number + 1) (other ∷ others) ≡ p → put number o p ≡ Some script →
    ((more : List Written) → said_of (number + 1) (other ∷ others) ≡ Some more →
    Say (number + 1) (other ∷ others) more) → Say number (line ∷ other ∷ others) script
put_says number line other others script None p e f h further = absurd (cc)
put_says number line other others script (Some statement) None e f h further = absurd (cc)
put_says number line other others script (Some statement) (Some more) e f h further =
    subst (Say number (line ∷ other ∷ others))
    (same_some (record { line = number; statement = statement } ∷ more) script h)
    (something statement (spelled line statement e) (further more f))

line_says : (number : ℕ) (line other : List ℕ) (others : List (List ℕ)) (script : List Written) (y : Bool) →
    nat_eq (get_or line 0 59) 59 ≡ y →
    (if y then said_of (number + 1) (other ∷ others)
    else put number (heard (shown line) line) (said_of (number + 1) (other ∷ others))) ≡ Some script →
    ((more : List Written) → said_of (number + 1) (other ∷ others) ≡ Some more →
    Say (number + 1) (other ∷ others) more) → Say number (line ∷ other ∷ others) script
line_says number line other others script true e h further = nothing (begins_silent line e) (further script h)
line_says number line other others script false e h further =
    put_says number line other others script (heard (shown line) line) (said_of (number + 1) (other ∷ others)) refl
    refl h further

pub says : (number : ℕ) (ls : List (List ℕ)) (script : List Written) → said_of number ls ≡ Some script →
    Say number ls script
says number [] script h = absurd (cc)
says number ([] ∷ []) script h = subst (Say number ([] ∷ [])) (same_some [] script h) over
says number ((byte ∷ line) ∷ []) script h = absurd (cc)
says number (line ∷ other ∷ others) script h =
    line_says number line other others script (nat_eq (get_or line 0 59) 59) refl h
    (λ more said. says (number + 1) (other ∷ others) more said)

-- a text that begins with the line of an origin
pub listing : (origin : ℕ) (first : List ℕ) (others : List (List ℕ)) (text : List ℕ) (script : List Written) →
    parts text ≡ first ∷ others → origin < 65536 → first ≡ origin_text origin → said_of 2 others ≡ Some script →
    IsListing text origin script
listing origin first others text script cut lt is said = record {
  first = first;
  others = others;
  cut = cut;
  origin_line = record { range = lt; text = is };
  say = says 2 others script said;
}

-- a first line that gives no origin
pub no_origin_line : (line : List ℕ) → bytes_eq (origin_text (word_value line 5)) line ≡ false → (origin : ℕ) →
    IsOriginLine origin line → ⊥
no_origin_line line never origin is =
    let same = ap (λ o. bytes_eq (origin_text o) line) (origin_again origin line is) in
    let text = ap (bytes_eq (origin_text origin)) is.text ∙ same_itself (origin_text origin) in
    false≢true (sym never ∙ same ∙ text)

-- ---- what a text gives, and what is wrong with it

pub gives : (text : List ℕ) (start : ℕ) (bytes : List ℕ) (fixes : List Fix) (first : List ℕ) (others : List (List ℕ))
    (script : List Written) → parts text ≡ first ∷ others → start < 65536 → first ≡ origin_text start →
    said_of 2 others ≡ Some script → fault_in start script ≡ None →
    assembled_bytes 0 start (listing_at start script) ≡ bytes →
    assembled_fixes 0 (listing_at start script) ≡ fixes → Gives text start bytes fixes
gives text start bytes fixes first others script cut lt is said sound bytes_are fixes_are = record {
  script = script;
  listing = listing start first others text script cut lt is said;
  sound = sound;
  bytes_are = bytes_are;
  fixes_are = fixes_are;
}

pub fails : (text : List ℕ) (line : ℕ) (kind : TextKind) (start : ℕ) (first : List ℕ) (others : List (List ℕ))
    (script : List Written) → parts text ≡ first ∷ others → start < 65536 → first ≡ origin_text start →
    said_of 2 others ≡ Some script → fault_in start script ≡ Some (record { line = line; kind = kind }) →
    Fails text line kind
fails text line kind start first others script cut lt is said found =
    in_script start script (listing start first others text script cut lt is said) found

-- a text without a line feed, and one whose first line gives no origin
pub no_line_at : (text first : List ℕ) → parts text ≡ first ∷ [] → Fails text 1 BadLine
no_line_at text first cut = bad_line refl (no_line first cut)

pub no_origin_at : (text first : List ℕ) (others : List (List ℕ)) → parts text ≡ first ∷ others →
    bytes_eq (origin_text (word_value first 5)) first ≡ false → Fails text 1 BadLine
no_origin_at text first others cut never =
    bad_line refl (no_origin first others cut (no_origin_line first never))

-- a bad line behind the first
pub bad_at : (text : List ℕ) (line start : ℕ) (first : List ℕ) (others : List (List ℕ)) →
    parts text ≡ first ∷ others → start < 65536 → first ≡ origin_text start → IsFirstBad 2 others line →
    Fails text line BadLine
bad_at text line start first others cut lt is bad =
    bad_line refl (behind first others start line cut (record { range = lt; text = is }) bad)
