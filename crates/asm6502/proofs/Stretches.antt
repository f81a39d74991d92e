-- A stretch of lines stands where its bytes do, whatever else the memory holds.
use Rattle.std.proofs.Common.{◌≡◌, ℕ, ◌+◌, ◌-◌, ◌<◌, ◌≤◌, List, ◌++◌, None, ap, ◌∙◌}
use Rattle.std.proofs.Common.{subst, arith}
use Rattle.std.specs.Prelude.{slice_index}
use Rattle.cpu6502.specs.Opcodes.{OpcodesHaveRows}
use Rattle.asm6502.specs.declared.lines.Line.{Line}
use Rattle.asm6502.specs.Lines.{kept, size_of, address_in}
use Rattle.asm6502.specs.Assembly.{assembled_bytes}
use Rattle.asm6502.specs.Faults.{fault_of}
use Rattle.asm6502.specs.Standing.{BytesStand, LinesAt}
use Rattle.asm6502.specs.Stretches.{HasBytes}
use Rattle.asm6502.proofs.Naming.{kept-append, size_of-append}
use Rattle.asm6502.proofs.Standing.{fronts_stand, backs_stand, lines_stay}
use Rattle.asm6502.proofs.Whole.{no_fault, kept_lines_stand}

-- a memory that has these bytes from the origin on, and 0 elsewhere
abbrev alone : ℕ → List ℕ → ℕ → ℕ
alone origin bytes place = slice_index bytes (place - origin)

alone_stands : (origin : ℕ) (bytes : List ℕ) → BytesStand (alone origin bytes) origin bytes
alone_stands origin bytes = record { byte = λ k l. ap (slice_index bytes) (back k) } where
  back : (k : ℕ) → origin + k - origin ≡ k
  back k = omega arith

kept_split : (set : ℕ) (front stretch back : List Line) →
    kept set (front ++ (stretch ++ back)) ≡ kept set front ++ (kept set stretch ++ kept set back)
kept_split set front stretch back =
    kept-append set front (stretch ++ back) ∙ ap (λ (ls : List Line). kept set front ++ ls)
    (kept-append set stretch back)

pub stretches_stand : OpcodesHaveRows → (set origin : ℕ) (front stretch back : List Line) (at : ℕ → ℕ) →
    fault_of set origin (front ++ (stretch ++ back)) ≡ None →
    HasBytes at origin (size_of (kept set front)) (size_of (kept set stretch))
    (assembled_bytes set origin (front ++ (stretch ++ back))) →
    LinesAt (address_in (kept set (front ++ (stretch ++ back))) origin) at (origin + size_of (kept set front))
    (kept set stretch)
stretches_stand rows set origin front stretch back at none has =
    let lines = front ++ (stretch ++ back) in
    let bytes = assembled_bytes set origin (front ++ (stretch ++ back)) in
    let address = address_in (kept set (front ++ (stretch ++ back))) origin in
    let fine = no_fault set origin (front ++ (stretch ++ back)) none in
    let split = kept_split set front stretch back in
    let whole = kept_lines_stand rows set origin (front ++ (stretch ++ back)) fine (alone origin bytes)
    (alone_stands origin bytes) in
    let parts = subst (λ (ls : List Line). LinesAt (address_in (kept set (front ++ (stretch ++ back))) origin)
    (alone origin bytes) origin ls) split whole in
    let middle = fronts_stand address (alone origin bytes) (origin + size_of (kept set front)) (kept set stretch)
    (kept set back) (backs_stand address (alone origin bytes) origin (kept set front)
    (kept set stretch ++ kept set back) parts) in
    let size : size_of (kept set (front ++ (stretch ++ back))) ≡ size_of (kept set front)
    + (size_of (kept set stretch) + size_of (kept set back)) = ap size_of split
    ∙ size_of-append (kept set front) (kept set stretch ++ kept set back)
    ∙ ap (λ (n : ℕ). size_of (kept set front) + n) (size_of-append (kept set stretch) (kept set back)) in
    let fits = fine.fits in
    lines_stay address (alone origin bytes) at (origin + size_of (kept set front)) (kept set stretch) (omega arith)
    (λ place low high. same at origin (size_of (kept set front)) (size_of (kept set stretch)) bytes has place low
    high) middle
  where
    same : (at : ℕ → ℕ) (origin start size : ℕ) (bytes : List ℕ) → HasBytes at origin start size bytes → (place : ℕ) →
        origin + start ≤ place → place < origin + start + size → at place ≡ alone origin bytes place
    same at origin start size bytes has place low high =
        let k : place ≡ origin + (start + (place - origin - start)) = omega arith in
        let j : start + (place - origin - start) ≡ place - origin = omega arith in
        ap at k ∙ has.byte (place - origin - start) (omega arith) ∙ ap (slice_index bytes) j
