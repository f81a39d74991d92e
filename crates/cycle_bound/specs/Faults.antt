-- What is told of numbers that the rules don't admit. This is the project's own.
use Rattle.std.specs.Prelude.{◌≡◌, ◌≢◌, ℕ, ◌+◌, ◌<◌, ◌≤◌, min, Option, Some, None, Result, Ok, Err}
use Rattle.std.specs.Prelude.{List, length, get_or}
use Rattle.scopes.specs.Trees.{Tree}
use Rattle.cycle_bound.specs.declared.checks.CertFault.{CertFault}
use Rattle.cycle_bound.specs.declared.checks.CertKind.{CertKind}
use Rattle.cycle_bound.specs.declared.checks.CertKind.TheVariants.{BadShape, TooSmall}
use Rattle.cycle_bound.specs.Rules.{Setting, nodes, bound_by}
use Rattle.cycle_bound.specs.EntranceRules.{call_asked, AdmitsCall}

-- how many numbers a call has: its own, and those of its blocks' lines
abbrev pub voice_nodes : Option Tree → ℕ
voice_nodes None = 0
voice_nodes (Some block) = nodes block

abbrev pub call_nodes : Tree → Option Tree → ℕ
call_nodes first voice = 1 + (nodes first + voice_nodes voice)

-- the number at a place
abbrev pub at_place : List ℕ → ℕ → ℕ
at_place numbers place = get_or numbers place 0

-- the first place whose number doesn't reach what is asked there
pub record IsShort (least numbers : List ℕ) (place : ℕ) : Type 0 where
  pub there : place < length numbers
  pub short : at_place numbers place < at_place least place
  pub before : (other : ℕ) → other < place → at_place least other ≤ at_place numbers other

-- a fault: there are too few or too many, told at the first place that is missing or too much; or there are as many as
-- there must be, and one is too small
abbrev pub IsFault : Setting → Tree → Option Tree → List ℕ → CertKind → ℕ → Type 0
IsFault setting first voice numbers BadShape place =
    (length numbers ≢ call_nodes first voice) × (place ≡ min (length numbers) (call_nodes first voice))
IsFault setting first voice numbers TooSmall place =
    (length numbers ≡ call_nodes first voice) × IsShort (call_asked setting first voice numbers) numbers place

-- the answer to numbers: the first one, where the rules admit them, and else a fault
abbrev pub IsChecked : Setting → Tree → Option Tree → List ℕ → Result ℕ CertFault → Type 0
IsChecked setting first voice numbers (Ok number) =
    AdmitsCall setting first voice numbers × (number ≡ bound_by numbers)
IsChecked setting first voice numbers (Err fault) =
    IsFault setting first voice numbers fault.kind fault.place
