-- The fault of a text is told for the fault of the listing that its statements name.
use Rattle.std.proofs.Common.{◌≡◌, ℕ, ◌+◌, ◌<◌, ◌≤◌, Bool, true, false, not, List, [], ◌∷◌}
use Rattle.std.proofs.Common.{◌++◌, length, take, slice_get, nat_eq, nat_lt, if◌then◌else◌, Option, Some}
use Rattle.std.proofs.Common.{None, refl, sym, ap, ◌∙◌, subst, arith}
use Rattle.std.specs.Option.{option_map, option_or, is_some}
use Rattle.std.proofs.lemmas.Bool.{and_parts, eqb-true, eq-eqb, ltb-true, ltb-false, false≢true, and_from, not-true}
use Rattle.std.proofs.lemmas.List.{length-append}
use Rattle.base.proofs.Laws.{same_some}
use Rattle.cpu6502.specs.declared.memory.TheConstants.{MEMORY_SIZE}
use Rattle.asm6502.specs.declared.faults.AsmFault.{AsmFault}
use Rattle.asm6502.specs.declared.faults.AsmFault.TheVariants as asm
use Rattle.asm6502.specs.Faults as laid
use Rattle.asm_text.specs.declared.statements.Operand.TheVariants.{Nothing, Number, Label as LabelOf}
use Rattle.asm_text.specs.declared.statements.Statement.{Statement}
use Rattle.asm_text.specs.declared.statements.Statement.TheVariants.{Label, Byte, Code}
use Rattle.asm_text.specs.declared.statements.Written.{Written}
use Rattle.asm_text.specs.declared.refusing.Sought.TheVariants.{SecondNaming, Use, PastEnd as Past, FarNumber}
use Rattle.asm_text.specs.declared.faults.TextFault.{TextFault}
use Rattle.asm_text.specs.declared.faults.TextKind.{TextKind}
use Rattle.asm_text.specs.declared.faults.TextKind.TheVariants.{DoubleLabel, UnknownLabel, PastEnd, BranchTooFar}
use Rattle.asm_text.specs.Laying.{listing_at, size_of}
use Rattle.asm_text.specs.Faults.{is_named, is_double, is_unknown, is_past_end, is_far, first_found, fault_at}
use Rattle.asm_text.specs.Faults.{first_fault, fault_in}
use Rattle.asm_text.specs.Searching.{finds, line_found, first_far, AreRight}
use Rattle.asm_text.proofs.Laid.{none_bad}
use Rattle.asm_text.proofs.Pairs.{Pair, first_pair, found_is, is_pair, narrow_found, either_none, either_some, like_all}
use Rattle.asm_text.proofs.Tests.{label_in, double_fault, unknown_fault, far_fault, far_label, double_like}
use Rattle.asm_text.proofs.Tests.{unknown_like, far_like, end_fault, end_is, end_found, end_none, far_either}

-- ---- what is wrong with a listing, by pairs

-- the fault of four searches, where the end of memory is passed or not
abbrev chain : Option Pair → Option Pair → Option AsmFault → Option Pair → Option AsmFault
chain double unknown ended far =
    option_or (option_map double_fault double)
    (option_or (option_map unknown_fault unknown) (option_or ended (option_map far_fault far)))

abbrev doubles : List Written → Option Pair
doubles script = first_pair is_double [] script

abbrev unknowns : List Written → Option Pair
unknowns script = first_pair (is_unknown script) [] script

abbrev far_labels : ℕ → List Written → Option Pair
far_labels origin script = first_pair (far_label origin script) [] script

chain_is : (origin : ℕ) (script : List Written) → AreRight script →
    laid.fault_of 0 origin (listing_at origin script)
    ≡ chain (doubles script) (unknowns script) (end_fault origin script) (far_labels origin script)
chain_is origin script are =
    let lines = listing_at origin script in
    let none = none_bad origin [] script are in
    let double = like_all origin (laid.double_label 0) is_double double_fault (double_like origin) script in
    let unknown =
    like_all origin (laid.unknown_label 0 (listing_at origin script)) (is_unknown script) unknown_fault
    (unknown_like origin script) script in
    let ended = end_is origin script in
    let far =
    like_all origin (laid.far_branch 0 origin (listing_at origin script)) (far_label origin script) far_fault
    (far_like origin script) script in
    five none double unknown ended far
  where
    five : {a b b' c c' d d' e e' : Option AsmFault} → a ≡ None → b ≡ b' → c ≡ c' → d ≡ d' → e ≡ e' →
        option_or a (option_or b (option_or c (option_or d e))) ≡ option_or b' (option_or c' (option_or d' e'))
    five {b} {b'} {c} {c'} {d} {d'} {e} {e'} p q r s t =
        ap (λ o. option_or o (option_or b (option_or c (option_or d e)))) p
        ∙ ap (λ o. option_or o (option_or c (option_or d e))) q
        ∙ ap (λ o. option_or b' (option_or o (option_or d e))) r
        ∙ ap (λ o. option_or b' (option_or c' (option_or o e))) s
        ∙ ap (λ o. option_or b' (option_or c' (option_or d' o))) t

-- the same for the fault of the text
abbrev line_by : TextKind → Option Pair → Option TextFault
line_by kind found = option_map (fault_at kind) (option_map (λ pair. pair.written) found)

abbrev past_end : ℕ → List Written → Option TextFault
past_end origin script = first_fault PastEnd (is_past_end origin) script

abbrev far_branch : ℕ → List Written → Option TextFault
far_branch origin script = first_fault BranchTooFar (is_far origin script) script

fault_is : (origin : ℕ) (script : List Written) →
    fault_in origin script
    ≡ option_or (line_by DoubleLabel (doubles script))
    (option_or (line_by UnknownLabel (unknowns script))
    (option_or (past_end origin script) (far_branch origin script)))
fault_is origin script =
    ap
    (λ o. option_or (option_map (fault_at DoubleLabel) o)
    (option_or (first_fault UnknownLabel (is_unknown script) script)
    (option_or (past_end origin script) (far_branch origin script)))) (found_is is_double [] script)
    ∙ ap
    (λ o. option_or (line_by DoubleLabel (doubles script))
    (option_or (option_map (fault_at UnknownLabel) o)
    (option_or (past_end origin script) (far_branch origin script)))) (found_is (is_unknown script) [] script)

-- ---- what is told

-- a line was found, and the text has this fault there
pub record IsTold (origin : ℕ) (script : List Written) (kind : TextKind) (found : Option ℕ) : Type 0 where
  pub line : ℕ
  pub is : found ≡ Some line
  pub told : fault_in origin script ≡ Some (record { line = line; kind = kind })

-- what is told for each fault of an assembler
abbrev pub IsToldFor : ℕ → List Written → AsmFault → Type 0
IsToldFor origin script (asm.BadLine line) = ⊥
IsToldFor origin script (asm.DoubleLabel label) =
    IsTold origin script DoubleLabel (line_found (finds (SecondNaming label) origin) script)
IsToldFor origin script (asm.UnknownLabel label) =
    IsTold origin script UnknownLabel (line_found (finds (Use label) origin) script)
IsToldFor origin script (asm.PastEnd length) =
    IsTold origin script PastEnd (line_found (finds Past origin) script)
IsToldFor origin script (asm.BranchTooFar place) =
    (place < length script) × IsTold origin script BranchTooFar (first_far origin script place)
IsToldFor origin script asm.NoMemory = ⊥

-- the second naming of the label that is named twice first
second_wide : (origin label : ℕ) (front : List Written) (statement : Statement) →
    finds (SecondNaming label) origin front statement ≡ true → is_double front statement ≡ true
second_wide origin label front (Label other) h =
    let parts = and_parts (is_named front label) (nat_eq other label) h in
    let same : other ≡ label = eqb-true other label parts.1 in
    ap (is_named front) same ∙ parts.0
second_wide origin label front (Byte byte) h =
    let parts = and_parts (is_named front label) false h in absurd (false≢true parts.1)
second_wide origin label front (Code mnemonic mode operand) h =
    let parts = and_parts (is_named front label) false h in absurd (false≢true parts.1)

second_holds : (origin : ℕ) (front : List Written) (statement : Statement) → is_double front statement ≡ true →
    finds (SecondNaming (label_in statement)) origin front statement ≡ true
second_holds origin front (Label label) h =
    and_from (is_named front label) (nat_eq label label) h (eq-eqb label label refl)
second_holds origin front (Byte byte) h = absurd (false≢true h)
second_holds origin front (Code mnemonic mode operand) h = absurd (false≢true h)

-- the first use of the label that is used first without a name
use_wide : (origin label : ℕ) (script front : List Written) (statement : Statement) → is_named script label ≡ false →
    finds (Use label) origin front statement ≡ true → is_unknown script front statement ≡ true
use_wide origin label script front (Label other) never h = absurd (false≢true h)
use_wide origin label script front (Byte byte) never h = absurd (false≢true h)
use_wide origin label script front (Code mnemonic mode Nothing) never h = absurd (false≢true h)
use_wide origin label script front (Code mnemonic mode (Number number)) never h = absurd (false≢true h)
use_wide origin label script front (Code mnemonic mode (LabelOf other)) never h =
    let same : other ≡ label = eqb-true other label h in
    ap (λ n. not (is_named script n)) same ∙ ap not never

use_holds : (origin : ℕ) (script front : List Written) (statement : Statement) →
    is_unknown script front statement ≡ true → finds (Use (label_in statement)) origin front statement ≡ true
use_holds origin script front (Label other) h = absurd (false≢true h)
use_holds origin script front (Byte byte) h = absurd (false≢true h)
use_holds origin script front (Code mnemonic mode Nothing) h = absurd (false≢true h)
use_holds origin script front (Code mnemonic mode (Number number)) h = absurd (false≢true h)
use_holds origin script front (Code mnemonic mode (LabelOf other)) h = eq-eqb other other refl

unknown_named : (script front : List Written) (statement : Statement) → is_unknown script front statement ≡ true →
    is_named script (label_in statement) ≡ false
unknown_named script front (Label other) h = absurd (false≢true h)
unknown_named script front (Byte byte) h = absurd (false≢true h)
unknown_named script front (Code mnemonic mode Nothing) h = absurd (false≢true h)
unknown_named script front (Code mnemonic mode (Number number)) h = absurd (false≢true h)
unknown_named script front (Code mnemonic mode (LabelOf other)) h = not-true (is_named script other) h

-- ---- each fault

-- what is left where no label is named twice
after_doubles : (origin : ℕ) (script : List Written) → doubles script ≡ None →
    fault_in origin script
    ≡ option_or (line_by UnknownLabel (unknowns script))
    (option_or (past_end origin script) (far_branch origin script))
after_doubles origin script none =
    fault_is origin script
    ∙ ap
    (λ o. option_or (line_by DoubleLabel o)
    (option_or (line_by UnknownLabel (unknowns script))
    (option_or (past_end origin script) (far_branch origin script)))) none

double_told : (origin : ℕ) (script : List Written) (pair : Pair) → doubles script ≡ Some pair →
    IsToldFor origin script (double_fault pair)
double_told origin script pair h =
    let p = is_pair is_double [] script pair h in
    let found =
    narrow_found is_double (finds (SecondNaming (label_in pair.written.statement)) origin) script pair
    (second_wide origin (label_in pair.written.statement)) h
    (second_holds origin pair.front pair.written.statement p.holds) in
    record {
      line = pair.written.line;
      is = ap (option_map (λ written. written.line)) found;
      told =
          fault_is origin script
          ∙ ap
          (λ o. option_or (line_by DoubleLabel o)
          (option_or (line_by UnknownLabel (unknowns script))
          (option_or (past_end origin script) (far_branch origin script)))) h;
    }

unknown_told : (origin : ℕ) (script : List Written) (pair : Pair) → doubles script ≡ None →
    unknowns script ≡ Some pair → IsToldFor origin script (unknown_fault pair)
unknown_told origin script pair none h =
    let p = is_pair (is_unknown script) [] script pair h in
    let never = unknown_named script pair.front pair.written.statement p.holds in
    let found =
    narrow_found (is_unknown script) (finds (Use (label_in pair.written.statement)) origin) script pair
    (λ ws s e. use_wide origin (label_in pair.written.statement) script ws s never e) h
    (use_holds origin script pair.front pair.written.statement p.holds) in
    record {
      line = pair.written.line;
      is = ap (option_map (λ written. written.line)) found;
      told =
          after_doubles origin script none
          ∙ ap
          (λ o. option_or (line_by UnknownLabel o)
          (option_or (past_end origin script) (far_branch origin script))) h;
    }

-- what is left where no label is named twice and each that is used is named
rest_is : (origin : ℕ) (script : List Written) → doubles script ≡ None → unknowns script ≡ None →
    fault_in origin script ≡ option_or (past_end origin script) (far_branch origin script)
rest_is origin script none never =
    after_doubles origin script none
    ∙ ap (λ o. option_or (line_by UnknownLabel o) (option_or (past_end origin script) (far_branch origin script)))
    never

end_by : (origin : ℕ) (script : List Written) (o : Option Written) →
    first_found (is_past_end origin) [] script ≡ o → is_some o ≡ true → doubles script ≡ None →
    unknowns script ≡ None → (length : ℕ) → IsToldFor origin script (asm.PastEnd length)
end_by origin script None found some none never n = absurd (false≢true some)
end_by origin script (Some written) found some none never n = record {
  line = written.line;
  is = ap (option_map (λ w. w.line)) found;
  told =
      rest_is origin script none never
      ∙ ap (λ o. option_or (option_map (fault_at PastEnd) o) (far_branch origin script)) found;
}

end_told : (origin n : ℕ) (script : List Written) → origin < MEMORY_SIZE → MEMORY_SIZE < origin + size_of script →
    doubles script ≡ None → unknowns script ≡ None → IsToldFor origin script (asm.PastEnd n)
end_told origin n script low over none never =
    end_by origin script (first_found (is_past_end origin) [] script) refl
    (end_found origin [] script (omega (arith, low)) (omega (arith, over))) none never n

-- what is left where the bytes fit
far_is : (origin : ℕ) (script : List Written) → doubles script ≡ None → unknowns script ≡ None →
    origin + size_of script ≤ MEMORY_SIZE → fault_in origin script ≡ far_branch origin script
far_is origin script none never fits =
    rest_is origin script none never
    ∙ ap (λ o. option_or (option_map (fault_at PastEnd) o) (far_branch origin script))
    (end_none origin [] script (omega (arith, fits)))

get_middle : (middle back : List Written) (written : Written) →
    slice_get (middle ++ written ∷ back) (length middle) ≡ Some written
get_middle [] back written = refl
get_middle (x ∷ middle) back written = get_middle middle back written

take_middle : (middle back : List Written) → take (length middle) (middle ++ back) ≡ middle
take_middle [] back = refl
take_middle (x ∷ middle) back = ap (λ (ws : List Written). x ∷ ws) (take_middle middle back)

line_either : (o : Option Written) (written : Written) →
    option_map (λ w. w.line) (option_or o (Some written))
    ≡ option_or (option_map (λ w. w.line) o) (Some written.line)
line_either None written = refl
line_either (Some other) written = refl

told_by : (origin : ℕ) (script : List Written) (o : Option Written) (written : Written) (found : Option ℕ) →
    far_branch origin script ≡ option_map (fault_at BranchTooFar) (option_or o (Some written)) →
    found ≡ option_or (option_map (λ w. w.line) o) (Some written.line) →
    fault_in origin script ≡ far_branch origin script → IsTold origin script BranchTooFar found
told_by origin script None written found e f g =
    record { line = written.line; is = f; told = g ∙ e }
told_by origin script (Some other) written found e f g =
    record { line = other.line; is = f; told = g ∙ e }

far_told : (origin : ℕ) (script : List Written) (pair : Pair) → doubles script ≡ None → unknowns script ≡ None →
    origin + size_of script ≤ MEMORY_SIZE → far_labels origin script ≡ Some pair →
    IsToldFor origin script (far_fault pair)
far_told origin script pair none never fits h =
    let p = is_pair (far_label origin script) [] script pair h in
    let either =
    either_some (is_far origin script) (far_label origin script) (finds FarNumber origin) script pair
    (far_either origin script) h in
    let front : take (length pair.front) script ≡ pair.front =
    ap (take (length pair.front)) (p.split ∙ ap (λ ws. ws ++ pair.written ∷ p.back) (sym p.front_is))
    ∙ take_middle pair.front (pair.written ∷ p.back) in
    let here : slice_get script (length pair.front) ≡ Some pair.written =
    ap (λ ws. slice_get ws (length pair.front)) (p.split ∙ ap (λ ws. ws ++ pair.written ∷ p.back) (sym p.front_is))
    ∙ get_middle pair.front p.back pair.written in
    let size : length script ≡ length pair.front + length (pair.written ∷ p.back) =
    ap (λ ws. length ws) (p.split ∙ ap (λ ws. ws ++ pair.written ∷ p.back) (sym p.front_is))
    ∙ length-append pair.front (pair.written ∷ p.back) in (
      omega (arith, size),
      told_by origin script (first_found (finds FarNumber origin) [] pair.front) pair.written
          (first_far origin script (length pair.front)) (ap (option_map (fault_at BranchTooFar)) either)
          (ap (λ ws. option_or (line_found (finds FarNumber origin) ws)
          (option_map (λ w. w.line) (slice_get script (length pair.front)))) front
          ∙ ap (λ o. option_or (line_found (finds FarNumber origin) pair.front) (option_map (λ w. w.line) o)) here)
          (far_is origin script none never fits),
    )

-- ---- the fault of a listing

end_cases : (origin : ℕ) (script : List Written) (fault : AsmFault) (y : Bool) (far : Option Pair) →
    origin < MEMORY_SIZE → doubles script ≡ None → unknowns script ≡ None →
    nat_lt MEMORY_SIZE (origin + size_of script) ≡ y → far_labels origin script ≡ far →
    option_or (if y then Some (asm.PastEnd (size_of script)) else None) (option_map far_fault far) ≡ Some fault →
    IsToldFor origin script fault
end_cases origin script fault true far low none never e f h =
    subst (IsToldFor origin script) (same_some (asm.PastEnd (size_of script)) fault h)
    (end_told origin (size_of script) script low (ltb-true MEMORY_SIZE (origin + size_of script) e) none never)
end_cases origin script fault false None low none never e f h = absurd (cc)
end_cases origin script fault false (Some pair) low none never e f h =
    subst (IsToldFor origin script) (same_some (far_fault pair) fault h)
    (far_told origin script pair none never (ltb-false MEMORY_SIZE (origin + size_of script) e) f)

unknown_cases : (origin : ℕ) (script : List Written) (fault : AsmFault) (unknown : Option Pair) →
    origin < MEMORY_SIZE → doubles script ≡ None → unknowns script ≡ unknown →
    option_or (option_map unknown_fault unknown)
    (option_or (end_fault origin script) (option_map far_fault (far_labels origin script))) ≡ Some fault →
    IsToldFor origin script fault
unknown_cases origin script fault (Some pair) low none e h =
    subst (IsToldFor origin script) (same_some (unknown_fault pair) fault h) (unknown_told origin script pair none e)
unknown_cases origin script fault None low none e h =
    end_cases origin script fault (nat_lt MEMORY_SIZE (origin + size_of script)) (far_labels origin script) low none e
    refl refl h

double_cases : (origin : ℕ) (script : List Written) (fault : AsmFault) (double : Option Pair) →
    origin < MEMORY_SIZE → doubles script ≡ double →
    chain double (unknowns script) (end_fault origin script) (far_labels origin script) ≡ Some fault →
    IsToldFor origin script fault
double_cases origin script fault (Some pair) low e h =
    subst (IsToldFor origin script) (same_some (double_fault pair) fault h) (double_told origin script pair e)
double_cases origin script fault None low e h =
    unknown_cases origin script fault (unknowns script) low e refl h

pub told_for : (origin : ℕ) (script : List Written) (fault : AsmFault) → origin < MEMORY_SIZE → AreRight script →
    laid.fault_of 0 origin (listing_at origin script) ≡ Some fault → IsToldFor origin script fault
told_for origin script fault low are h =
    double_cases origin script fault (doubles script) low refl (sym (chain_is origin script are) ∙ h)

-- ---- and where the listing has none

none_end : (origin : ℕ) (script : List Written) (y : Bool) (far : Option Pair) → doubles script ≡ None →
    unknowns script ≡ None → nat_lt MEMORY_SIZE (origin + size_of script) ≡ y → far_labels origin script ≡ far →
    option_or (if y then Some (asm.PastEnd (size_of script)) else None) (option_map far_fault far) ≡ None →
    fault_in origin script ≡ first_fault BranchTooFar (finds FarNumber origin) script
none_end origin script true far none never e f h = absurd (cc)
none_end origin script false (Some pair) none never e f h = absurd (cc)
none_end origin script false None none never e f h =
    let found : first_found (far_label origin script) [] script ≡ None =
    found_is (far_label origin script) [] script ∙ ap (option_map (λ pair. pair.written)) f in
    far_is origin script none never (ltb-false MEMORY_SIZE (origin + size_of script) e)
    ∙ ap (option_map (fault_at BranchTooFar))
    (either_none (is_far origin script) (far_label origin script) (finds FarNumber origin) [] script
    (far_either origin script) found)

none_unknown : (origin : ℕ) (script : List Written) (unknown : Option Pair) → doubles script ≡ None →
    unknowns script ≡ unknown →
    option_or (option_map unknown_fault unknown)
    (option_or (end_fault origin script) (option_map far_fault (far_labels origin script))) ≡ None →
    fault_in origin script ≡ first_fault BranchTooFar (finds FarNumber origin) script
none_unknown origin script (Some pair) none e h = absurd (cc)
none_unknown origin script None none e h =
    none_end origin script (nat_lt MEMORY_SIZE (origin + size_of script)) (far_labels origin script) none e refl refl h

none_double : (origin : ℕ) (script : List Written) (double : Option Pair) → doubles script ≡ double →
    chain double (unknowns script) (end_fault origin script) (far_labels origin script) ≡ None →
    fault_in origin script ≡ first_fault BranchTooFar (finds FarNumber origin) script
none_double origin script (Some pair) e h = absurd (cc)
none_double origin script None e h = none_unknown origin script (unknowns script) e refl h

pub none_for : (origin : ℕ) (script : List Written) → AreRight script →
    laid.fault_of 0 origin (listing_at origin script) ≡ None →
    fault_in origin script ≡ first_fault BranchTooFar (finds FarNumber origin) script
none_for origin script are h =
    none_double origin script (doubles script) refl (sym (chain_is origin script are) ∙ h)
