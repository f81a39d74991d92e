-- What is written after one more line.
use Rattle.std.proofs.Common.{◌≡◌, ℕ, ◌+◌, ◌≤◌, Bool, true, List, [], ◌∷◌, ◌++◌, length}
use Rattle.std.proofs.Common.{take, drop, Option, Some, None, unwrap_or, if◌then◌else◌, refl, ap, sym, ◌∙◌}
use Rattle.std.proofs.Common.{arith, append_assoc, length-append}
use Rattle.std.proofs.lemmas.List.{append-nil, take-append-drop}
use Rattle.cpu6502.specs.declared.mnemonic.Mnemonic.{Mnemonic}
use Rattle.cpu6502.specs.declared.mnemonic.Mode.{Mode}
use Rattle.asm6502.specs.declared.lines.Operand.{Operand}
use Rattle.asm6502.specs.declared.lines.Item.{Item}
use Rattle.asm6502.specs.declared.lines.Item.TheVariants.{Code}
use Rattle.asm6502.specs.Instructions.{encoding}
use Rattle.asm6502.specs.Operands.{operand_of}
use Rattle.asm6502.specs.declared.lines.Line.{Line}
use Rattle.asm6502.specs.declared.fixes.Fix.{Fix}
use Rattle.asm6502.specs.declared.labels.Labels.{Labels}
use Rattle.asm6502.specs.declared.output.Output.{Output}
use Rattle.asm6502.specs.declared.faults.AsmFault.TheVariants.{BranchTooFar}
use Rattle.asm6502.specs.Lines.{is_kept, kept, item_size, size_of, is_sound}
use Rattle.asm6502.specs.Assembly.{instr_at, item_bytes, along, bytes_of, item_fixes, fixes_of}
use Rattle.asm6502.specs.Faults.{is_far_item, far_by}
use Rattle.asm6502.specs.Places.{IsWritten, address_by}
use Rattle.asm6502.proofs.Naming.{kept-append, kept_more, size_of-append}
use Rattle.asm6502.proofs.Sound.{encodes, item_length}

-- what two lists of lines give, one after the other
pub along-append : {X : Type 0} (given : ℕ → Item → List X) (place : ℕ) (front back : List Line) →
    along given place (front ++ back) ≡ along given place front ++ along given (place + size_of front) back
along-append given place [] back =
    let z : place ≡ place + 0 = omega arith in ap (λ (p : ℕ). along given p back) z
along-append {X} given place (x ∷ front) back =
    let z : place + item_size x.item + size_of front ≡ place + (item_size x.item + size_of front) = omega arith in
    ap (λ (xs : List X). given place x.item ++ xs)
    (along-append given (place + item_size x.item) front back
    ∙ ap (λ (p : ℕ). along given (place + item_size x.item) front ++ along given p back) z)
    ∙ sym (append_assoc (given place x.item) (along given (place + item_size x.item) front)
    (along given (place + (item_size x.item + size_of front)) back))

-- the kept lines at the front take no more than all of them
pub front_size-le : (set : ℕ) (lines : List Line) (k : ℕ) →
    size_of (kept set (take k lines)) ≤ size_of (kept set lines)
front_size-le set lines k =
    let split : kept set lines ≡ kept set (take k lines) ++ kept set (drop k lines) =
    ap (kept set) (sym (take-append-drop k lines)) ∙ kept-append set (take k lines) (drop k lines) in
    let sizes : size_of (kept set lines) ≡ size_of (kept set (take k lines)) + size_of (kept set (drop k lines)) =
    ap size_of split ∙ size_of-append (kept set (take k lines)) (kept set (drop k lines)) in
    omega arith

one_bytes : (address : ℕ → ℕ) (origin : ℕ) (lines : List Line) (line : Line) (old new : List ℕ) →
    old ≡ bytes_of address origin lines → length old ≡ size_of lines →
    new ≡ old ++ item_bytes address (origin + length old) line.item →
    new ≡ bytes_of address origin (lines ++ line ∷ [])
one_bytes address origin lines line old new b s n =
    n ∙ ap (λ (k : ℕ). old ++ item_bytes address (origin + k) line.item) s
    ∙ ap (λ (bs : List ℕ). bs ++ item_bytes address (origin + size_of lines) line.item) b
    ∙ ap (λ (bs : List ℕ). bytes_of address origin lines ++ bs)
    (sym (append-nil (item_bytes address (origin + size_of lines) line.item)))
    ∙ sym (along-append (item_bytes address) origin lines (line ∷ []))

one_fixes : (place : ℕ → ℕ) (lines : List Line) (line : Line) (old new : List Fix) (size : ℕ) →
    old ≡ fixes_of place 0 lines → size ≡ size_of lines → new ≡ old ++ item_fixes place size line.item →
    new ≡ fixes_of place 0 (lines ++ line ∷ [])
one_fixes place lines line old new size b s n =
    let z : size ≡ 0 + size_of lines = omega arith in
    n ∙ ap (λ (k : ℕ). old ++ item_fixes place k line.item) z
    ∙ ap (λ (fs : List Fix). fs ++ item_fixes place (0 + size_of lines) line.item) b
    ∙ ap (λ (fs : List Fix). fixes_of place 0 lines ++ fs)
    (sym (append-nil (item_fixes place (0 + size_of lines) line.item)))
    ∙ sym (along-append (item_fixes place) 0 lines (line ∷ []))

one_size : (address : ℕ → ℕ) (pc : ℕ) (lines : List Line) (line : Line) (old new : List ℕ) →
    is_sound line.item ≡ true → length old ≡ size_of lines → new ≡ old ++ item_bytes address pc line.item →
    length new ≡ size_of (lines ++ line ∷ [])
one_size address pc lines line old new h s n =
    let l : length new ≡ length old + length (item_bytes address pc line.item) =
    ap length n ∙ length-append old (item_bytes address pc line.item) in
    let i = item_length address pc line.item h in
    omega (arith, size_of-append lines (line ∷ []))

-- after a kept line
pub written_kept : (old new : Output) (labels : Labels) (set origin : ℕ) (before : List Line) (line : Line) →
    is_kept set line ≡ true → is_sound line.item ≡ true → IsWritten old labels set origin before →
    new.bytes ≡ old.bytes ++ item_bytes (address_by labels origin) (origin + length old.bytes) line.item →
    new.fixes ≡ old.fixes ++ item_fixes (address_by labels 0) (length old.bytes) line.item →
    IsWritten new labels set origin (before ++ line ∷ [])
written_kept old new labels set origin before line k h w b f =
    let e = kept_more set before line k in
    record {
      bytes = one_bytes (address_by labels origin) origin (kept set before) line old.bytes new.bytes w.bytes w.size b
          ∙ ap (bytes_of (address_by labels origin) origin) (sym e);
      fixes = one_fixes (address_by labels 0) (kept set before) line old.fixes new.fixes (length old.bytes) w.fixes
          w.size f ∙ ap (fixes_of (address_by labels 0) 0) (sym e);
      size = one_size (address_by labels origin) (origin + length old.bytes) (kept set before) line old.bytes
          new.bytes h w.size b ∙ ap size_of (sym e);
    }

-- whether its branch reaches
pub near_kept : (address : ℕ → ℕ) (set origin : ℕ) (before : List Line) (line : Line) (size : ℕ) (far : Bool) →
    is_kept set line ≡ true → size ≡ size_of (kept set before) → is_far_item address (origin + size) line.item ≡ far →
    far_by address set origin before line ≡ (if far then Some (BranchTooFar (length before)) else None)
near_kept address set origin before line size far k s h =
    let e : is_far_item address (origin + size_of (kept set before)) line.item ≡ far =
    ap (λ (n : ℕ). is_far_item address (origin + n) line.item) (sym s) ∙ h in
    rw (k, e) refl

-- an instruction that can stand in a listing has bytes
never_none : (bytes : List ℕ) → Some bytes ≡ None → ⊥
never_none bytes h = cc

pub code_encodes : (address : ℕ → ℕ) (pc : ℕ) (mn : Mnemonic) (mode : Mode) (x : Operand) (number : ℕ) →
    is_sound (Code mn mode x) ≡ true → number ≡ operand_of address pc mode x →
    encoding (record { mnemonic = mn; mode = mode; operand = number }) ≡ None → ⊥
code_encodes address pc mn mode x number h n e =
    let spelled = encodes address pc mn mode x h in
    never_none spelled.bytes
    (sym spelled.is ∙ ap (λ (k : ℕ). encoding (record { mnemonic = mn; mode = mode; operand = k })) (sym n) ∙ e)

-- what an instruction's encoding puts after the bytes
pub code_bytes : (address : ℕ → ℕ) (origin at : ℕ) (mn : Mnemonic) (mode : Mode) (x : Operand) (number : ℕ)
    (encoded taken old new : List ℕ) → at ≡ length old → number ≡ operand_of address (origin + at) mode x →
    Some encoded ≡ encoding (record { mnemonic = mn; mode = mode; operand = number }) → taken ≡ encoded →
    new ≡ old ++ taken → new ≡ old ++ item_bytes address (origin + length old) (Code mn mode x)
code_bytes address origin at mn mode x number encoded taken old new s n e t b =
    let m : number ≡ operand_of address (origin + length old) mode x =
    n ∙ ap (λ (k : ℕ). operand_of address (origin + k) mode x) s in
    let spelled : Some encoded ≡ encoding (instr_at address (origin + length old) mn mode x) =
    e ∙ ap (λ (k : ℕ). encoding (record { mnemonic = mn; mode = mode; operand = k })) m in
    b ∙ ap (λ (bs : List ℕ). old ++ bs) (t ∙ ap (λ (o : Option (List ℕ)). unwrap_or o []) spelled)
