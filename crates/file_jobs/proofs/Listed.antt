-- How a listing that can't be assembled is refused.
use Rattle.std.proofs.Common.{◌≡◌, ◌≢◌, ◌⊎◌, ℕ, List, Some, inl, inr, refl}
use Rattle.goat_io.specs.Files.{Files, file_of}
use Rattle.asm_text.specs.declared.faults.TextFault.{TextFault}
use Rattle.asm_text.specs.declared.faults.TextKind.{TextKind}
use Rattle.asm_text.specs.declared.faults.TextKind.TheVariants.{BadLine, DoubleLabel, UnknownLabel, PastEnd}
use Rattle.asm_text.specs.declared.faults.TextKind.TheVariants.{BranchTooFar, NoMemory}
use Rattle.asm_text.specs.Faults.{IsFaultOf}
use Rattle.command_line.specs.Last.{Last, Says, Wants}
use Rattle.jobs.specs.Lines.{listing_line}
use Rattle.jobs.specs.Stages.{CanBeAssembled}
use Rattle.jobs.specs.Endings as ends
use Rattle.jobs.specs.Endings.{Refuses}

-- whether running out of memory is why a text isn't read
wants_or_not : (kind : TextKind) → (kind ≡ NoMemory) ⊎ (kind ≢ NoMemory)
wants_or_not NoMemory = inl refl
wants_or_not BadLine = inr (λ never. absurd (cc (never)))
wants_or_not DoubleLabel = inr (λ never. absurd (cc (never)))
wants_or_not UnknownLabel = inr (λ never. absurd (cc (never)))
wants_or_not PastEnd = inr (λ never. absurd (cc (never)))
wants_or_not BranchTooFar = inr (λ never. absurd (cc (never)))

pub listing_fails : {text : List ℕ} (fault : TextFault) {last : Last} →
    (fault.kind ≡ NoMemory) ⊎ IsFaultOf text fault → (fault.kind ≡ NoMemory → last ≡ Wants) →
    (fault.kind ≢ NoMemory → last ≡ Says 17 (listing_line fault)) → (files : Files) (name : List ℕ) →
    file_of files name ≡ Some text → Refuses files (CanBeAssembled name) last
listing_fails fault (inl none) wants says files name found = ends.wanting (wants none)
listing_fails {text} fault (inr is) wants says files name found = elim (wants_or_not fault.kind) [
  | inl none ↦ ends.wanting (wants none)
  | inr other ↦ ends.ends (listing_line fault) (text, fault, found, is, refl) (says other)
]
