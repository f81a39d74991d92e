-- What is told of a list of the numbers of both entrances. This is the project's own.
use Rattle.std.specs.Prelude.{◌≡◌, ◌≢◌, ℕ, ◌+◌, min, Result, Ok, Err, List, length}
use Rattle.cycle_bound.specs.declared.checks.CertFault.{CertFault}
use Rattle.cycle_bound.specs.declared.checks.CertKind.{CertKind}
use Rattle.cycle_bound.specs.declared.checks.CertKind.TheVariants.{BadShape, TooSmall}
use Rattle.cycle_bound.specs.Rules.{bound_by}
use Rattle.cycle_bound.specs.Faults.{IsShort}
use Rattle.player_bound.specs.declared.bounds.CallBounds.{CallBounds}
use Rattle.player_bound.specs.Programs.{Blocks, AdmitsInit, AdmitsPlay, init_nodes, play_nodes, init_numbers}
use Rattle.player_bound.specs.Programs.{play_numbers, both_asked}

-- the numbers of both are admitted, and these are their first ones
pub record AreBounds (b : Blocks) (numbers : List ℕ) (bounds : CallBounds) : Type 0 where
  pub init_admitted : AdmitsInit b (init_numbers b numbers)
  pub play_admitted : AdmitsPlay b (play_numbers b numbers)
  pub init : bounds.init ≡ bound_by (init_numbers b numbers)
  pub play : bounds.play ≡ bound_by (play_numbers b numbers)

abbrev pub all_nodes : Blocks → ℕ
all_nodes b = init_nodes b + play_nodes b

-- there are too few or too many, told at the first place that is missing or too much; or as many as there must be, of
-- which one is too small
abbrev pub IsFault : Blocks → List ℕ → CertKind → ℕ → Type 0
IsFault b numbers BadShape place =
    (length numbers ≢ all_nodes b) × (place ≡ min (length numbers) (all_nodes b))
IsFault b numbers TooSmall place =
    (length numbers ≡ all_nodes b) × IsShort (both_asked b numbers) numbers place

abbrev pub AreChecked : Blocks → List ℕ → Result CallBounds CertFault → Type 0
AreChecked b numbers (Ok bounds) = AreBounds b numbers bounds
AreChecked b numbers (Err fault) = IsFault b numbers fault.kind fault.place
