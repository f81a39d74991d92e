-- What is answered is what is told: a line that was found, and the fault at that line.
use Rattle.std.proofs.Common.{◌≡◌, ℕ, List, [], Option, Some, None, IsSome, refl, sym, ap, ◌∙◌}
use Rattle.std.specs.Option.{option_map}
use Rattle.base.proofs.Laws.{same_some}
use Rattle.asm_text.specs.declared.statements.Written.{Written}
use Rattle.asm_text.specs.declared.refusing.Sought.TheVariants.{FarNumber}
use Rattle.asm_text.specs.declared.faults.TextFault.{TextFault}
use Rattle.asm_text.specs.declared.faults.TextKind.{TextKind}
use Rattle.asm_text.specs.declared.faults.TextKind.TheVariants.{BranchTooFar}
use Rattle.asm_text.specs.Faults.{first_found, fault_at, first_fault, fault_in}
use Rattle.asm_text.specs.Searching.{finds, line_found}
use Rattle.asm_text.proofs.Told.{IsTold}

-- the line of a far number, or none
pub far_line : (origin : ℕ) (script : List Written) (found : Option ℕ) →
    line_found (finds FarNumber origin) script ≡ found →
    first_fault BranchTooFar (finds FarNumber origin) script
    ≡ option_map (λ line. record { line = line; kind = BranchTooFar }) found
far_line origin script found e =
    by (first_found (finds FarNumber origin) [] script)
    ∙ ap (option_map (λ line. record { line = line; kind = BranchTooFar })) e
  where
    by : (o : Option Written) → option_map (fault_at BranchTooFar) o
        ≡ option_map (λ line. record { line = line; kind = BranchTooFar }) (option_map (λ w. w.line) o)
    by None = refl
    by (Some written) = refl

-- what is answered is what is told
pub told_is : (origin : ℕ) (script : List Written) (kind : TextKind) (found : Option ℕ) (result : TextFault) →
    IsTold origin script kind found → Some result.line ≡ found → result.kind ≡ kind →
    fault_in origin script ≡ Some result
told_is origin script kind found result told line same =
    told.told
    ∙ ap Some
    (λ i. record {
      line = sym (same_some result.line told.line (line ∙ told.is)) i;
      kind = sym same i;
    })

pub told_some : (origin : ℕ) (script : List Written) (kind : TextKind) (found answered : Option ℕ) →
    IsTold origin script kind found → answered ≡ found → IsSome answered
told_some origin script kind found answered told same = rw (same ∙ told.is) refl
