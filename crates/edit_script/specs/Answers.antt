-- How the answer of a call stands to what is wanted.
use Rattle.std.specs.Prelude.{◌≡◌, ◌⊎◌, ℕ, List, [], ◌∷◌, ◌++◌, Result, Err}
use Rattle.edit_script.specs.declared.commands.Command.{Command}
use Rattle.edit_script.specs.declared.faults.ScriptFault.{ScriptFault}
use Rattle.edit_script.specs.declared.faults.ScriptFault.TheVariants.{NoMemory}
use Rattle.edit_script.specs.Scripts.{LinesGive}

-- the answer is the wanted one, unless it is out of memory
abbrev pub IsAnswer : {X : Type 0} → Result X ScriptFault → Result X ScriptFault → Type 0
IsAnswer result wanted = (result ≡ wanted) ⊎ (result ≡ Err NoMemory)

-- the line with this number gives what the commands after it have more than those before it
pub record Adds (number : ℕ) (line : List ℕ) (before after : List Command) : Type 0 where
  pub more : List Command
  pub gives : LinesGive number (line ∷ []) more
  pub after_is : after ≡ before ++ more
