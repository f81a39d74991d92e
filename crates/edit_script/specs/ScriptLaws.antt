-- What a reader may rely on in the definitions of scripts.
use Rattle.std.specs.Prelude.{◌≡◌, ◌⊎◌, ℕ, List}
use Rattle.edit_script.specs.declared.commands.Command.{Command}
use Rattle.edit_script.specs.declared.parsing.TheConstants.{MOST_BYTES}
use Rattle.edit_script.specs.Scripts.{IsScript, IsFirstBadLine}

-- a script may have 1,048,576 bytes
abbrev pub ConstantIs : Type 0
ConstantIs = MOST_BYTES ≡ 1048576

-- the text is a script of these commands and no others, and has no bad line
pub record IsOneScript (text : List ℕ) (commands : List Command) : Type 0 where
  pub is_script : IsScript text commands
  pub only : (others : List Command) → IsScript text others → others ≡ commands
  pub no_bad : (number : ℕ) → ¬ IsFirstBadLine text number

-- the text has this first bad line and no other, and is no script
pub record HasOneBadLine (text : List ℕ) (number : ℕ) : Type 0 where
  pub is_bad : IsFirstBadLine text number
  pub only : (other : ℕ) → IsFirstBadLine text other → other ≡ number
  pub no_script : (commands : List Command) → ¬ IsScript text commands

-- each text is one script or has one first bad line
abbrev pub OneScriptOrOneBadLine : Type 0
OneScriptOrOneBadLine =
    (text : List ℕ) → ((commands : List Command) × IsOneScript text commands)
    ⊎ ((number : ℕ) × HasOneBadLine text number)
