-- The first of some lines: its tree, with the lines in it, and what is open behind these.
use Rattle.std.specs.Prelude.{Bool, true, false, List}
use Rattle.scopes.specs.declared.line.Line.{Line}
use Rattle.scopes.specs.declared.line.Line.TheVariants.{Scope, Loop, When, Choose, Or, End}
use Rattle.scopes.specs.Trees.{Tree, ScopeTree, LoopTree, WhenTree, ChooseTree, Open}
use Rattle.scope_lines.specs.Readings.{first_of, behind_of, simple}

-- a line that closes something
abbrev pub is_end : Line → Bool
is_end End = true
is_end Or = true
is_end line = false

-- the tree of a line, by what is open behind it
abbrev pub first_tree : Line → List Open → Tree
first_tree (Scope name) open_ones = ScopeTree name (first_of open_ones)
first_tree (Loop count) open_ones = LoopTree count (first_of open_ones)
first_tree (When condition) open_ones = WhenTree condition (first_of open_ones)
first_tree (Choose condition) open_ones = ChooseTree condition (first_of open_ones) (first_of (behind_of open_ones))
first_tree line open_ones = simple line

-- what is open behind the lines in it
abbrev pub behind_first : Line → List Open → List Open
behind_first (Scope name) open_ones = behind_of open_ones
behind_first (Loop count) open_ones = behind_of open_ones
behind_first (When condition) open_ones = behind_of open_ones
behind_first (Choose condition) open_ones = behind_of (behind_of open_ones)
behind_first line open_ones = open_ones
