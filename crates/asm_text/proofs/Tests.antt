-- The tests of an assembler on the listing that statements name find what the tests of statements find.
use Rattle.std.proofs.Common.{◌≡◌, ℕ, ◌+◌, ◌%◌, ◌<◌, ◌≤◌, Bool, true, false, ◌&&◌}
use Rattle.std.proofs.Common.{◌||◌, not, List, [], ◌∷◌, ◌++◌, length, nat_lt, if◌then◌else◌, Option}
use Rattle.std.proofs.Common.{Some, None, refl, sym, ap, ◌∙◌, subst, add-zero, arith}
use Rattle.std.specs.Option.{is_some}
use Rattle.std.proofs.lemmas.Bool.{ltb-false, le-ltb}
use Rattle.cpu6502.specs.declared.memory.TheConstants.{MEMORY_SIZE}
use Rattle.asm6502.specs.declared.lines.Line.{Line}
use Rattle.asm6502.specs.declared.faults.AsmFault.{AsmFault}
use Rattle.asm6502.specs.declared.faults.AsmFault.TheVariants as asm
use Rattle.asm6502.specs.Operands.{is_relative}
use Rattle.asm6502.specs.Branches.{branch_byte}
use Rattle.asm6502.specs.Lines.{kept, size_of as bytes_of, place_of, address_in}
use Rattle.asm6502.specs.Faults as laid
use Rattle.asm_text.specs.declared.statements.Operand.TheVariants.{Nothing, Number, Label as LabelOf}
use Rattle.asm_text.specs.declared.statements.Statement.{Statement}
use Rattle.asm_text.specs.declared.statements.Statement.TheVariants.{Label, Byte, Code}
use Rattle.asm_text.specs.declared.statements.Written.{Written}
use Rattle.asm_text.specs.declared.refusing.Sought.TheVariants.{FarNumber}
use Rattle.asm_text.specs.Statements.{size}
use Rattle.asm_text.specs.Laying.{line_at, item_at, listing_at, size_of}
use Rattle.asm_text.specs.Faults.{is_named, is_double, is_unknown, is_past_end, is_out_of_reach, is_far, first_found}
use Rattle.asm_text.specs.Searching.{finds}
use Rattle.asm_text.proofs.Laid.{size_same, kept_all, named_same, length-listing, size_one_more}
use Rattle.asm_text.proofs.Pairs.{Test, Pair, IsLike}

-- the label in a statement
abbrev pub label_in : Statement → ℕ
label_in (Label label) = label
label_in (Code mnemonic mode (LabelOf label)) = label
label_in _ = 0

-- ---- the tests of the assembler on the listing of statements

abbrev pub double_fault : Pair → AsmFault
double_fault pair = asm.DoubleLabel (label_in pair.written.statement)

abbrev pub unknown_fault : Pair → AsmFault
unknown_fault pair = asm.UnknownLabel (label_in pair.written.statement)

abbrev pub far_fault : Pair → AsmFault
far_fault pair = asm.BranchTooFar (length pair.front)

-- a branch to a label out of reach
abbrev pub far_label_at : (ℕ → ℕ) → ℕ → Statement → Bool
far_label_at address pc (Code mnemonic mode (LabelOf label)) =
    is_relative mode && is_out_of_reach pc (address label % MEMORY_SIZE)
far_label_at address pc _ = false

abbrev pub far_label : ℕ → List Written → Test
far_label origin script front = far_label_at (address_in (listing_at origin script) origin) (origin + size_of front)

double_kept : (lines : List Line) (y : Bool) (label : ℕ) → is_some (place_of lines label) ≡ y →
    (if is_some (place_of lines label) then Some (asm.DoubleLabel label) else None)
    ≡ (if y then Some (asm.DoubleLabel label) else None)
double_kept lines y label e = ap (λ z. if z then Some (asm.DoubleLabel label) else None) e

double_on : (origin pc : ℕ) (front : List Written) (line : ℕ) (statement : Statement) →
    laid.double_label 0 (listing_at origin front) (line_at pc statement)
    ≡ (if is_double front statement then Some (asm.DoubleLabel (label_in statement)) else None)
double_on origin pc front line (Label label) =
    ap (λ (ls : List Line). if is_some (place_of ls label) then Some (asm.DoubleLabel label) else None)
    (kept_all origin front)
    ∙ double_kept (listing_at origin front) (is_named front label) label (named_same origin front label)
double_on origin pc front line (Byte byte) = refl
double_on origin pc front line (Code mnemonic mode operand) = refl

pub double_like : (origin : ℕ) → IsLike origin (laid.double_label 0) is_double double_fault
double_like origin = record {
  like = λ front written. double_on origin (origin + size_of front) front written.line written.statement;
}

unknown_kept : (label : ℕ) (y : Bool) → (if y then None else Some (asm.UnknownLabel label))
    ≡ (if not y then Some (asm.UnknownLabel label) else None)
unknown_kept label true = refl
unknown_kept label false = refl

unknown_on : (origin pc : ℕ) (script : List Written) (before : List Line) (statement : Statement) →
    laid.unknown_label 0 (listing_at origin script) before (line_at pc statement)
    ≡ (if is_unknown script [] statement then Some (asm.UnknownLabel (label_in statement)) else None)
unknown_on origin pc script before (Label label) = refl
unknown_on origin pc script before (Byte byte) = refl
unknown_on origin pc script before (Code mnemonic mode Nothing) = refl
unknown_on origin pc script before (Code mnemonic mode (Number number)) = refl
unknown_on origin pc script before (Code mnemonic mode (LabelOf label)) =
    ap (λ (ls : List Line). if is_some (place_of ls label) then None else Some (asm.UnknownLabel label))
    (kept_all origin script)
    ∙ ap (λ y. if y then None else Some (asm.UnknownLabel label)) (named_same origin script label)
    ∙ unknown_kept label (is_named script label)

unknown_free : (script front : List Written) (statement : Statement) →
    is_unknown script [] statement ≡ is_unknown script front statement
unknown_free script front (Label label) = refl
unknown_free script front (Byte byte) = refl
unknown_free script front (Code mnemonic mode Nothing) = refl
unknown_free script front (Code mnemonic mode (Number number)) = refl
unknown_free script front (Code mnemonic mode (LabelOf label)) = refl

pub unknown_like : (origin : ℕ) (script : List Written) →
    IsLike origin (laid.unknown_label 0 (listing_at origin script)) (is_unknown script) unknown_fault
unknown_like origin script = record {
  like = λ front written.
      unknown_on origin (origin + size_of front) script (listing_at origin front) written.statement
      ∙ ap (λ y. if y then Some (asm.UnknownLabel (label_in written.statement)) else None)
      (unknown_free script front written.statement);
}

far_on : (address : ℕ → ℕ) (pc : ℕ) (statement : Statement) →
    laid.is_far_item address pc (item_at pc statement) ≡ far_label_at address pc statement
far_on address pc (Label label) = refl
far_on address pc (Byte byte) = refl
far_on address pc (Code mnemonic mode Nothing) = refl
far_on address pc (Code mnemonic mode (Number number)) = refl
far_on address pc (Code mnemonic mode (LabelOf label)) =
    ap (λ n. is_relative mode && not (is_some (branch_byte pc (n % MEMORY_SIZE)))) (add-zero (address label))

far_kept : (origin : ℕ) (script front : List Written) (statement : Statement) (pc place : ℕ) (n m : ℕ) →
    pc ≡ place → n ≡ m →
    (if laid.is_far_item (address_in (listing_at origin script) origin) place (item_at pc statement) then
    Some (asm.BranchTooFar n) else None)
    ≡ (if far_label_at (address_in (listing_at origin script) origin) pc statement then
    Some (asm.BranchTooFar m) else None)
far_kept origin script front statement pc place n m e f =
    let address = address_in (listing_at origin script) origin in
    ap
    (λ q. if laid.is_far_item (address_in (listing_at origin script) origin) q (item_at pc statement) then
    Some (asm.BranchTooFar n) else None) (sym e)
    ∙ ap (λ y. if y then Some (asm.BranchTooFar n) else None)
    (far_on (address_in (listing_at origin script) origin) pc statement)
    ∙ ap
    (λ q. if far_label_at (address_in (listing_at origin script) origin) pc statement then
    Some (asm.BranchTooFar q) else None) f

pub far_like : (origin : ℕ) (script : List Written) →
    IsLike origin (laid.far_branch 0 origin (listing_at origin script)) (far_label origin script) far_fault
far_like origin script = record {
  like = λ front written.
      let place : origin + size_of front ≡ origin + bytes_of (kept 0 (listing_at origin front)) =
      ap (λ n. origin + n) (sym (ap bytes_of (kept_all origin front) ∙ size_same origin front)) in
      ap
      (λ (ls : List Line). if laid.is_far_item (address_in ls origin)
      (origin + bytes_of (kept 0 (listing_at origin front)))
      (item_at (origin + size_of front) written.statement) then Some
      (asm.BranchTooFar (length (listing_at origin front))) else None) (kept_all origin script)
      ∙ far_kept origin script front written.statement (origin + size_of front)
      (origin + bytes_of (kept 0 (listing_at origin front))) (length (listing_at origin front)) (length front) place
      (length-listing origin front);
}

-- ---- the end of memory

abbrev pub end_fault : ℕ → List Written → Option AsmFault
end_fault origin script =
    if nat_lt MEMORY_SIZE (origin + size_of script) then Some (asm.PastEnd (size_of script)) else None

pub end_is : (origin : ℕ) (script : List Written) →
    laid.past_end 0 origin (listing_at origin script) ≡ end_fault origin script
end_is origin script =
    let same : bytes_of (kept 0 (listing_at origin script)) ≡ size_of script =
    ap bytes_of (kept_all origin script) ∙ size_same origin script in
    ap (λ n. if nat_lt MEMORY_SIZE (origin + n) then Some (asm.PastEnd n) else None) same

passed : (origin n s : ℕ) (y z : Bool) → nat_lt MEMORY_SIZE (origin + n + s) ≡ y → nat_lt 0 s ≡ z →
    (y && z) ≡ false → origin + n ≤ MEMORY_SIZE → origin + (n + s) ≤ MEMORY_SIZE
passed origin n s true true e f h fits = absurd (cc)
passed origin n s true false e f h fits =
    let none = ltb-false 0 s f in omega (arith, none, fits)
passed origin n s false z e f h fits =
    let most = ltb-false MEMORY_SIZE (origin + n + s) e in omega (arith, most)

end_on : (origin : ℕ) (front behind : List Written) (written : Written) (y : Bool) →
    is_past_end origin front written.statement ≡ y → origin + size_of front ≤ MEMORY_SIZE →
    (origin + size_of (front ++ written ∷ []) ≤ MEMORY_SIZE →
    is_some (first_found (is_past_end origin) (front ++ written ∷ []) behind) ≡ true) →
    is_some (if y then Some written else first_found (is_past_end origin) (front ++ written ∷ []) behind) ≡ true
end_on origin front behind written true e fits more = refl
end_on origin front behind written false e fits more =
    more
    (subst (λ n. origin + n ≤ MEMORY_SIZE) (sym (size_one_more front written))
    (passed origin (size_of front) (size written.statement)
    (nat_lt MEMORY_SIZE (origin + size_of front + size written.statement)) (nat_lt 0 (size written.statement)) refl
    refl e fits))

-- where the bytes pass the end, some statement's are the first to
pub end_found : (origin : ℕ) (front behind : List Written) → origin + size_of front ≤ MEMORY_SIZE →
    MEMORY_SIZE < origin + (size_of front + size_of behind) →
    is_some (first_found (is_past_end origin) front behind) ≡ true
end_found origin front [] fits over = absurd (omega (arith, fits, over))
end_found origin front (written ∷ behind) fits over =
    end_on origin front behind written (is_past_end origin front written.statement) refl fits
    (λ more. end_found origin (front ++ written ∷ []) behind more (omega (arith, over, size_one_more front written)))

not_past : (origin : ℕ) (front : List Written) (statement : Statement) →
    origin + (size_of front + size statement) ≤ MEMORY_SIZE → is_past_end origin front statement ≡ false
not_past origin front statement fits =
    let never : nat_lt MEMORY_SIZE (origin + size_of front + size statement) ≡ false =
    le-ltb MEMORY_SIZE (origin + size_of front + size statement) (omega (arith, fits)) in
    rw never refl

pub end_none : (origin : ℕ) (front behind : List Written) →
    origin + (size_of front + size_of behind) ≤ MEMORY_SIZE →
    first_found (is_past_end origin) front behind ≡ None
end_none origin front [] fits = refl
end_none origin front (written ∷ behind) fits =
    let never : is_past_end origin front written.statement ≡ false =
    not_past origin front written.statement (omega (arith, fits)) in
    rw never
    (end_none origin (front ++ written ∷ []) behind (omega (arith, fits, size_one_more front written)))

-- ---- labels and numbers out of reach

pub far_either : (origin : ℕ) (script front : List Written) (statement : Statement) →
    is_far origin script front statement
    ≡ (far_label origin script front statement || finds FarNumber origin front statement)
far_either origin script front (Label label) = refl
far_either origin script front (Byte byte) = refl
far_either origin script front (Code mnemonic mode Nothing) = and_false (is_relative mode)
  where
    and_false : (y : Bool) → (y && false) ≡ false
    and_false true = refl
    and_false false = refl
far_either origin script front (Code mnemonic mode (Number number)) = refl
far_either origin script front (Code mnemonic mode (LabelOf label)) =
    or_false
    (is_relative mode
    && is_out_of_reach (origin + size_of front) (address_in (listing_at origin script) origin label % MEMORY_SIZE))
  where
    or_false : (y : Bool) → y ≡ (y || false)
    or_false true = refl
    or_false false = refl
