-- How the answer of a call stands to what reading gives.
use Rattle.std.specs.Prelude.{◌≡◌, ◌≢◌, ◌⊎◌, Result, Ok, Err}
use Rattle.gts5.specs.declared.faults.SongFault.{SongFault}
use Rattle.gts5.specs.declared.faults.SongFault.TheVariants.{NoMemory}

-- the answer, seen by `view`, is what reading gives, unless it is out of memory
abbrev pub Gives : {X Y : Type 0} → (X → Y) → Result X SongFault → Result Y SongFault → Type 0
Gives view (Ok x) reading = reading ≡ Ok (view x)
Gives view (Err fault) reading = fault ≢ NoMemory → reading ≡ Err fault

-- the answer is the wanted one, unless it is out of memory
abbrev pub IsAnswer : {X : Type 0} → Result X SongFault → Result X SongFault → Type 0
IsAnswer result wanted = (result ≡ wanted) ⊎ (result ≡ Err NoMemory)
