-- What a text is: a script of some commands, or one with a bad line.
use Rattle.std.specs.Prelude.{◌≡◌, ℕ, ◌+◌, List, [], ◌∷◌}
use Rattle.std.specs.Str.Lines.{lines}
use Rattle.base.specs.FirstBad.{IsFirstBad}
use Rattle.edit_script.specs.declared.commands.Action.{Action}
use Rattle.edit_script.specs.declared.commands.Command.{Command}
use Rattle.edit_script.specs.Spells.{SaysNothing, Spells, IsLine}

-- the lines, the first of which has this number, give these commands
pub data LinesGive : ℕ → List (List ℕ) → List Command → Type 0 where
  none : {number : ℕ} → LinesGive number [] []
  nothing : {number : ℕ} {line : List ℕ} {others : List (List ℕ)} {commands : List Command} → SaysNothing line →
      LinesGive (number + 1) others commands → LinesGive number (line ∷ others) commands
  something : {number : ℕ} {line : List ℕ} {others : List (List ℕ)} {commands : List Command} (action : Action) →
      Spells line action → LinesGive (number + 1) others commands →
      LinesGive number (line ∷ others) (record { line = number; action = action } ∷ commands)

-- The text is a script of these commands. A line ends with a line feed, which the last one may lack, and one carriage
-- return before the line feed is no part of it. Lines are counted from 1.
abbrev pub IsScript : List ℕ → List Command → Type 0
IsScript text commands = LinesGive 1 (lines text) commands

-- the least number, counted from 1, of a line that may not stand in a script
pub record IsFirstBadLine (text : List ℕ) (number : ℕ) : Type 0 where
  pub place : ℕ
  pub counted : number ≡ place + 1
  pub first : IsFirstBad IsLine (lines text) place
