-- What a listing with which nothing is wrong is assembled to, here and at another origin.
use Rattle.std.proofs.Common.{◌≡◌, ℕ, ◌+◌, ◌≤◌, Bool, true, false, ◌&&◌, not, List, [], ◌∷◌}
use Rattle.std.proofs.Common.{◌++◌, length, Option, Some, None, unwrap_or, nat_lt, if◌then◌else◌, refl, ap}
use Rattle.std.proofs.Common.{sym, ◌∙◌, subst, inl, inr, arith, append_assoc, ◌⊎◌}
use mathlib.Core.Path.{fun_ext}
use Rattle.std.specs.Option.{option_or, is_some}
use Rattle.std.proofs.lemmas.Bool.{le-ltb, ltb-false}
use Rattle.cpu6502.specs.declared.memory.TheConstants.{MEMORY_SIZE}
use Rattle.cpu6502.specs.Opcodes.{OpcodesHaveRows}
use Rattle.asm6502.specs.declared.lines.Operand.TheVariants.{Nothing, Number, Label, Low, High}
use Rattle.asm6502.specs.declared.lines.Item.{Item}
use Rattle.asm6502.specs.declared.lines.Item.TheVariants.{Label as Named, Code, Bytes}
use Rattle.asm6502.specs.declared.lines.Line.{Line}
use Rattle.asm6502.specs.declared.fixes.Fix.{Fix}
use Rattle.asm6502.specs.declared.labels.Labels.{Labels}
use Rattle.asm6502.specs.declared.output.Output.{Output}
use Rattle.asm6502.specs.declared.assembled.Assembled.{Assembled}
use Rattle.asm6502.specs.declared.faults.AsmFault.{AsmFault}
use Rattle.asm6502.specs.declared.faults.AsmFault.TheVariants.{PastEnd, BranchTooFar, NoMemory}
use Rattle.asm6502.specs.Operands.{is_relative}
use Rattle.asm6502.specs.Lines.{is_kept, kept, size_of, address_in}
use Rattle.asm6502.specs.Assembly.{bytes_of, fixes_of, assembled_bytes, assembled_fixes}
use Rattle.asm6502.specs.Faults.{first_fault, bad_line, double_label, unknown_label, past_end, is_far_item, far_by}
use Rattle.asm6502.specs.Faults.{far_branch, fault_of}
use Rattle.asm6502.specs.Fixes.{InOrder, NumbersStand, with_numbers}
use Rattle.asm6502.specs.Places.{HasPlaces, address_by, IsWritten}
use Rattle.asm6502.specs.Moving.{IsMoved, IsAssembly}
use Rattle.asm6502.specs.Standing.{BytesStand, LinesAt, KeptLinesStand}
use Rattle.asm6502.proofs.Naming.{kept-append, size_of-append}
use Rattle.asm6502.proofs.Sound.{or_parts, all_sound}
use Rattle.asm6502.proofs.Numbers.{numbers_stand}
use Rattle.asm6502.proofs.Shifts.{AreShifted, label_shifts, lines_shift, fixes_in_order}
use Rattle.asm6502.proofs.Standing.{NothingWrong, lines_stand}

-- ---- nothing is wrong

pub record NoFault (set origin : ℕ) (lines : List Line) : Type 0 where
  pub bad : first_fault (bad_line set) [] lines ≡ None
  pub double : first_fault (double_label set) [] lines ≡ None
  pub unknown : first_fault (unknown_label set lines) [] lines ≡ None
  pub fits : origin + size_of (kept set lines) ≤ MEMORY_SIZE
  pub near : first_fault (far_branch set origin lines) [] lines ≡ None

within : (n size : ℕ) (z : Bool) → nat_lt MEMORY_SIZE n ≡ z → (if z then Some (PastEnd size) else None) ≡ None →
    n ≤ MEMORY_SIZE
within n size true e h = absurd (cc)
within n size false e h = ltb-false MEMORY_SIZE n e

pub no_fault : (set origin : ℕ) (lines : List Line) → fault_of set origin lines ≡ None → NoFault set origin lines
no_fault set origin lines h =
    let a = or_parts (first_fault (bad_line set) [] lines) _ h in
    let b = or_parts (first_fault (double_label set) [] lines) _ a.1 in
    let c = or_parts (first_fault (unknown_label set lines) [] lines) _ b.1 in
    let d = or_parts (past_end set origin lines) _ c.1 in
    record {
      bad = a.0;
      double = b.0;
      unknown = c.0;
      fits =
          within (origin + size_of (kept set lines)) (size_of (kept set lines))
          (nat_lt MEMORY_SIZE (origin + size_of (kept set lines))) refl d.0;
      near = d.1;
    }

end_none : (set origin : ℕ) (lines : List Line) → origin + size_of (kept set lines) ≤ MEMORY_SIZE →
    past_end set origin lines ≡ None
end_none set origin lines l =
    let t : nat_lt MEMORY_SIZE (origin + size_of (kept set lines)) ≡ false =
    le-ltb MEMORY_SIZE (origin + size_of (kept set lines)) l in
    rw t refl

pub fault_none : (set origin : ℕ) (lines : List Line) → NoFault set origin lines → fault_of set origin lines ≡ None
fault_none set origin lines n =
    let a = n.bad in
    let b = n.double in
    let c = n.unknown in
    let d = end_none set origin lines n.fits in
    let e = n.near in
    rw (a, b, c, d, e) refl

-- ---- addresses by the table

by_table : (labels : Labels) (lines : List Line) (origin : ℕ) → HasPlaces labels lines →
    address_by labels origin ≡ address_in lines origin
by_table labels lines origin has =
    fun_ext (λ (label : ℕ). ap (λ (o : Option ℕ). origin + unwrap_or o 0) (has.places label))

pub fault_far : (labels : Labels) (set origin : ℕ) (lines : List Line) (fault : AsmFault) →
    first_fault (bad_line set) [] lines ≡ None → first_fault (double_label set) [] lines ≡ None →
    first_fault (unknown_label set lines) [] lines ≡ None → origin + size_of (kept set lines) ≤ MEMORY_SIZE →
    HasPlaces labels (kept set lines) → first_fault (far_by (address_by labels origin) set origin) [] lines ≡ Some
    fault → fault_of set origin lines ≡ Some fault
fault_far labels set origin lines fault a b c l has f =
    let d = end_none set origin lines l in
    let e : first_fault (far_branch set origin lines) [] lines ≡ Some fault =
    ap (λ (address : ℕ → ℕ). first_fault (far_by address set origin) [] lines)
    (sym (by_table labels (kept set lines) origin has)) ∙ f in
    rw (a, b, c, d, e) refl

-- ---- at another origin

shifted : (lines : List Line) (origin other : ℕ) →
    AreShifted origin other (address_in lines origin) (address_in lines other) (address_in lines 0)
shifted lines origin other = record { here = λ label. omega arith; there = λ label. omega arith }

far_item : (origin other at : ℕ) (address address' place : ℕ → ℕ) (item : Item) →
    AreShifted origin other address address' place → origin + at ≤ MEMORY_SIZE → other + at ≤ MEMORY_SIZE →
    is_far_item address (origin + at) item ≡ is_far_item address' (other + at) item
far_item origin other at address address' place (Named l) s h k = refl
far_item origin other at address address' place (Bytes bs) s h k = refl
far_item origin other at address address' place (Code mn mode Nothing) s h k = refl
far_item origin other at address address' place (Code mn mode (Number n)) s h k = refl
far_item origin other at address address' place (Code mn mode (Low l d)) s h k = refl
far_item origin other at address address' place (Code mn mode (High l d)) s h k = refl
far_item origin other at address address' place (Code mn mode (Label l d)) s h k =
    ap (λ (o : Option ℕ). is_relative mode && not (is_some o))
    (label_shifts origin other at l d address address' place s h k)

far_shifts : (set origin other : ℕ) (address address' place : ℕ → ℕ) →
    AreShifted origin other address address' place → (lines before rest : List Line) → lines ≡ before ++ rest →
    origin + size_of (kept set lines) ≤ MEMORY_SIZE → other + size_of (kept set lines) ≤ MEMORY_SIZE →
    first_fault (far_by address set origin) before rest ≡ first_fault (far_by address' set other) before rest
far_shifts set origin other address address' place s lines before [] e l m = refl
far_shifts set origin other address address' place s lines before (x ∷ rest) e l m =
    let size : size_of (kept set lines) ≡ size_of (kept set before) + size_of (kept set (x ∷ rest)) =
    ap (λ (ls : List Line). size_of (kept set ls)) e ∙ ap size_of (kept-append set before (x ∷ rest))
    ∙ size_of-append (kept set before) (kept set (x ∷ rest)) in
    let same = far_item origin other (size_of (kept set before)) address address' place x.item s (omega arith)
    (omega arith) in
    let split : lines ≡ (before ++ x ∷ []) ++ rest = e ∙ sym (append_assoc before (x ∷ []) rest) in
    ap (λ (z : Bool). option_or (if is_kept set x && z then Some (BranchTooFar (length before)) else None)
    (first_fault (far_by address set origin) (before ++ x ∷ []) rest)) same
    ∙ ap (λ (o : Option AsmFault). option_or (far_by address' set other before x) o)
    (far_shifts set origin other address address' place s lines (before ++ x ∷ []) rest split l m)

pub no_fault_there : (set origin other : ℕ) (lines : List Line) → NoFault set origin lines →
    other + size_of (kept set lines) ≤ MEMORY_SIZE → NoFault set other lines
no_fault_there set origin other lines n m = record {
  bad = n.bad;
  double = n.double;
  unknown = n.unknown;
  fits = m;
  near = sym (far_shifts set origin other (address_in (kept set lines) origin) (address_in (kept set lines) other)
      (address_in (kept set lines) 0) (shifted (kept set lines) origin other) lines [] lines refl n.fits m) ∙ n.near;
}

-- the bytes with the numbers of another origin are the bytes assembled there
pub bytes_move : (set origin other : ℕ) (lines : List Line) → NoFault set origin lines →
    other + size_of (kept set lines) ≤ MEMORY_SIZE →
    with_numbers other (assembled_bytes set origin lines) (assembled_fixes set lines) ≡ assembled_bytes set other
    lines
bytes_move set origin other lines n m =
    let fits = n.fits in
    let e : origin ≡ origin + 0 = omega arith in
    let f : other + 0 ≡ other = omega arith in
    ap (λ (p : ℕ). with_numbers other (bytes_of (address_in (kept set lines) origin) p (kept set lines))
    (assembled_fixes set lines)) e
    ∙ lines_shift origin other (address_in (kept set lines) origin) (address_in (kept set lines) other)
    (address_in (kept set lines) 0) (shifted (kept set lines) origin other) (kept set lines)
    (all_sound set [] lines n.bad) [] 0 refl (omega arith) (omega arith)
    ∙ ap (λ (p : ℕ). bytes_of (address_in (kept set lines) other) p (kept set lines)) f

-- ---- what is assembled

pub record Done (set origin : ℕ) (lines : List Line) (bytes : List ℕ) (fixes : List Fix) : Type 0 where
  pub nothing : NoFault set origin lines
  pub bytes_are : bytes ≡ assembled_bytes set origin lines
  pub fixes_are : fixes ≡ assembled_fixes set lines
  pub size : length bytes ≡ size_of (kept set lines)
  pub fits : origin + length bytes ≤ MEMORY_SIZE
  pub in_order : InOrder 0 (length bytes) fixes
  pub stand : NumbersStand origin bytes fixes

pub done : (output : Output) (labels : Labels) (set origin : ℕ) (lines : List Line) →
    HasPlaces labels (kept set lines) → first_fault (bad_line set) [] lines ≡ None →
    first_fault (double_label set) [] lines ≡ None → first_fault (unknown_label set lines) [] lines ≡ None →
    origin + labels.size ≤ MEMORY_SIZE → IsWritten output labels set origin lines →
    first_fault (far_by (address_by labels origin) set origin) [] lines ≡ None →
    Done set origin lines output.bytes output.fixes
done output labels set origin lines has bad double unknown end w near =
    let total = has.size in
    let size = w.size in
    let fits : origin + size_of (kept set lines) ≤ MEMORY_SIZE = omega arith in
    let nothing : NoFault set origin lines = record {
      bad = bad;
      double = double;
      unknown = unknown;
      fits = fits;
      near = ap (λ (address : ℕ → ℕ). first_fault (far_by address set origin) [] lines)
          (sym (by_table labels (kept set lines) origin has)) ∙ near;
    } in
    let bytes : output.bytes ≡ assembled_bytes set origin lines =
    w.bytes ∙ ap (λ (address : ℕ → ℕ). bytes_of address origin (kept set lines))
    (by_table labels (kept set lines) origin has) in
    let fixes : output.fixes ≡ assembled_fixes set lines =
    w.fixes ∙ ap (λ (address : ℕ → ℕ). fixes_of address 0 (kept set lines))
    (by_table labels (kept set lines) 0 has) in
    let order = fixes_in_order (address_in (kept set lines) 0) 0 (length output.bytes) (kept set lines)
    (all_sound set [] lines bad) (omega arith) in
    let in_order : InOrder 0 (length output.bytes) output.fixes =
    subst (λ (fs : List Fix). InOrder 0 (length output.bytes) fs) (sym fixes) order in
    let same : with_numbers origin output.bytes output.fixes ≡ output.bytes =
    ap (λ (bs : List ℕ). with_numbers origin bs output.fixes) bytes
    ∙ ap (λ (fs : List Fix). with_numbers origin (assembled_bytes set origin lines) fs) fixes
    ∙ bytes_move set origin origin lines nothing fits ∙ sym bytes in
    record {
      nothing = nothing;
      bytes_are = bytes;
      fixes_are = fixes;
      size = w.size;
      fits = omega arith;
      in_order = in_order;
      stand = subst (λ (bs : List ℕ). NumbersStand origin bs output.fixes) same
          (numbers_stand origin 0 (length output.bytes) output.bytes output.fixes refl in_order);
    }

-- moved, it is what is assembled there
pub moved_is : (set origin other : ℕ) (lines : List Line) (old moved : Assembled) → NoFault set origin lines →
    old.bytes ≡ assembled_bytes set origin lines → old.fixes ≡ assembled_fixes set lines →
    length old.bytes ≡ size_of (kept set lines) → IsMoved old moved other → IsAssembly moved set other lines
    × (fault_of set other lines ≡ None)
moved_is set origin other lines old moved n bytes fixes size m =
    let at = m.origin_is in
    let stays = m.size_stays in
    let fits = moved.fits in
    let there : other + size_of (kept set lines) ≤ MEMORY_SIZE = omega arith in (
      record {
        origin_is = m.origin_is;
        bytes_are = m.bytes_are ∙ ap (λ (bs : List ℕ). with_numbers other bs old.fixes) bytes
            ∙ ap (λ (fs : List Fix). with_numbers other (assembled_bytes set origin lines) fs) fixes
            ∙ bytes_move set origin other lines n there;
        fixes_are = m.fixes_stay ∙ fixes;
      },
      fault_none set other lines (no_fault_there set origin other lines n there),
    )

-- the kept lines stand where the bytes do
pub kept_lines_stand : OpcodesHaveRows → (set origin : ℕ) (lines : List Line) → NoFault set origin lines →
    KeptLinesStand set origin lines (assembled_bytes set origin lines)
kept_lines_stand rows set origin lines n at s =
    let e : origin ≡ origin + 0 = omega arith in
    let wrong : NothingWrong set origin (address_in (kept set lines) origin) [] lines =
    record { sound = n.bad; single = n.double; near = n.near } in
    let t = subst (λ (p : ℕ). BytesStand at p (bytes_of (address_in (kept set lines) origin) p (kept set lines))) e
    s in
    subst (λ (p : ℕ). LinesAt (address_in (kept set lines) origin) at p (kept set lines)) (sym e)
    (lines_stand rows set origin at lines lines [] refl n.fits wrong t)

pub assembled_lines_stand : OpcodesHaveRows → (set origin : ℕ) (lines : List Line) →
    fault_of set origin lines ≡ None → KeptLinesStand set origin lines (assembled_bytes set origin lines)
assembled_lines_stand rows set origin lines h = kept_lines_stand rows set origin lines (no_fault set origin lines h)

pub stand_as_written : OpcodesHaveRows → (set origin : ℕ) (lines : List Line) (bytes : List ℕ) →
    NoFault set origin lines → bytes ≡ assembled_bytes set origin lines → KeptLinesStand set origin lines bytes
stand_as_written rows set origin lines bytes n e at s =
    kept_lines_stand rows set origin lines n at (subst (λ (bs : List ℕ). BytesStand at origin bs) e s)

-- ---- as the code has it: the lines under another name

pub done_from : (output : Output) (labels : Labels) (set origin size : ℕ) (given lines : List Line) → given ≡ lines →
    HasPlaces labels (kept set given) → first_fault (bad_line set) [] given ≡ None →
    first_fault (double_label set) [] given ≡ None → first_fault (unknown_label set given) [] given ≡ None →
    size ≡ labels.size → origin + size ≤ MEMORY_SIZE → IsWritten output labels set origin given →
    first_fault (far_by (address_by labels origin) set origin) [] given ≡ None →
    Done set origin lines output.bytes output.fixes
done_from output labels set origin size given lines e has bad double unknown s end w near =
    subst (λ (ls : List Line). Done set origin ls output.bytes output.fixes) e
    (done output labels set origin given has bad double unknown (omega arith) w near)

pub far_found : (labels : Labels) (set origin size : ℕ) (given lines : List Line) (fault found : AsmFault) →
    given ≡ lines → HasPlaces labels (kept set given) → first_fault (bad_line set) [] given ≡ None →
    first_fault (double_label set) [] given ≡ None → first_fault (unknown_label set given) [] given ≡ None →
    size ≡ labels.size → origin + size ≤ MEMORY_SIZE → fault ≡ found →
    (found ≡ NoMemory) ⊎ (first_fault (far_by (address_by labels origin) set origin) [] given ≡ Some found) →
    (fault ≡ NoMemory) ⊎ (fault_of set origin lines ≡ Some fault)
far_found labels set origin size given lines fault found e has bad double unknown s end same (inl none) =
    inl (same ∙ none)
far_found labels set origin size given lines fault found e has bad double unknown s end same (inr far) =
    let total = has.size in
    inr (ap (fault_of set origin) (sym e) ∙ fault_far labels set origin given found bad double unknown (omega arith)
    has far ∙ ap Some (sym same))
