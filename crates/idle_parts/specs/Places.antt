-- How the parts that no clear state comes to are come to. This is the project's own player.
use Rattle.std.specs.Prelude.{◌≡◌, ◌≢◌, ℕ, ◌<◌, ◌≤◌, ◌==◌, if◌then◌else◌, Bool, true, false, ◌&&◌, ◌||◌, List, []}
use Rattle.std.specs.Prelude.{◌∷◌, ◌++◌, map}
use Rattle.scopes.specs.Desk.{Desk, Layout}
use Rattle.scopes.specs.Trees.{Tree, ThenTree, ScopeTree, LeaveTree, LeaveIfTree, LoopTree, AgainTree, WhenTree}
use Rattle.scopes.specs.Trees.{ChooseTree, NeverTree, tree_of}
use Rattle.scopes.specs.Meaning.{Left, each_one, ran}
use Rattle.player_memory.specs.declared.conditions.TheConstants.{PORTA_UP, PORTA_DOWN, TONE_PORTA, TIE_NOTE}
use Rattle.player_memory.specs.declared.conditions.TheConstants.{NOTE_DEPENDENT, SWINGS, WAVE_TABLE, WAVE_COMMAND}
use Rattle.player_memory.specs.declared.conditions.TheConstants.{EFFECTS}
use Rattle.player_text.specs.declared.joints.TheConstants.{UP, DOWN, RISES, FALLS, FOUND, RUNNING, COMMANDED}
use Rattle.player_text.specs.declared.slide.TheConstants.{PORTA_STEP}
use Rattle.player_text.specs.Texts.{voice_tree}
use Rattle.player_text.specs.Steps.{effect_tree, tick_tree}
use Rattle.play_model.specs.State.{Playing}
use Rattle.player_memory.specs.declared.conditions.TheConstants.{ROW_SLIDE, ROW_ONCE, ROW_COMMAND, WAVE_DELAY}
use Rattle.player_memory.specs.declared.labels.TheConstants.{WAVE_LEFTS, VIBRATOS}
use Rattle.player_memory.specs.Forms.{stored_left}
use Rattle.player_memory.specs.Playing.{IsListed}
use Rattle.player_text.specs.declared.joints.TheConstants.{DONE}
use Rattle.player_text.specs.declared.tick.TheConstants.{COMMAND_BEGUN, ONCE, BARE}
use Rattle.player_text.specs.declared.wave.TheConstants.{WAVE_STEP}
use Rattle.idle_parts.specs.Idle.{met, part}

-- ---- which lines come to them

-- for each line that leaves a scope, the conditions under which it stands, the outermost first
abbrev pub leaves_under : List ℕ → ℕ → Tree → List (List ℕ)
leaves_under held name (ThenTree first rest) = leaves_under held name first ++ leaves_under held name rest
leaves_under held name (ScopeTree other body) = leaves_under held name body
leaves_under held name (LoopTree count body) = leaves_under held name body
leaves_under held name (WhenTree condition body) = leaves_under (held ++ condition ∷ []) name body
leaves_under held name (ChooseTree condition this other) =
    leaves_under (held ++ condition ∷ []) name this ++ leaves_under (held ++ condition ∷ []) name other
leaves_under held name (LeaveTree other) = if other == name then held ∷ [] else []
leaves_under held name (LeaveIfTree other test) = if other == name then held ∷ [] else []
leaves_under held name tree = []

abbrev pub leaves : ℕ → Tree → List (List ℕ)
leaves name tree = leaves_under [] name tree

-- the body of the first scope with a name
abbrev pub scopes_named : ℕ → Tree → List Tree
scopes_named name (ThenTree first rest) = scopes_named name first ++ scopes_named name rest
scopes_named name (ScopeTree own body) = (if own == name then body ∷ [] else []) ++ scopes_named name body
scopes_named name (LoopTree count body) = scopes_named name body
scopes_named name (WhenTree condition body) = scopes_named name body
scopes_named name (ChooseTree condition this other) = scopes_named name this ++ scopes_named name other
scopes_named name tree = []

-- whether a tree may come to its own end, whatever is kept
abbrev pub may_end : Tree → Bool
may_end (ThenTree first rest) = may_end first && may_end rest
may_end (LeaveTree name) = false
may_end AgainTree = false
may_end NeverTree = false
may_end (ChooseTree condition this other) = may_end this || may_end other
may_end tree = true

-- What moves the frequency up or down, and what finds the note, is left to from the lines of the features that ask for
-- it alone, and the commands of the wave table from theirs; the effect step from where an effect may run, and from
-- those commands. What stands in front of the first of each doesn't come to its own end.
pub record PartsAreComeTo : Type 0 where
  pub up : leaves UP effect_tree
      ≡ (EFFECTS ∷ SWINGS ∷ NOTE_DEPENDENT ∷ []) ∷ (EFFECTS ∷ PORTA_UP ∷ []) ∷ (EFFECTS ∷ TONE_PORTA ∷ []) ∷ []
  pub down : leaves DOWN effect_tree
      ≡ (EFFECTS ∷ SWINGS ∷ NOTE_DEPENDENT ∷ []) ∷ (EFFECTS ∷ PORTA_DOWN ∷ []) ∷ (EFFECTS ∷ TONE_PORTA ∷ []) ∷ []
  pub rises : leaves RISES effect_tree ≡ (EFFECTS ∷ SWINGS ∷ []) ∷ []
  pub falls : leaves FALLS effect_tree ≡ (EFFECTS ∷ SWINGS ∷ []) ∷ []
  pub found : leaves FOUND effect_tree
      ≡ (EFFECTS ∷ TIE_NOTE ∷ []) ∷ (EFFECTS ∷ TONE_PORTA ∷ []) ∷ (EFFECTS ∷ TONE_PORTA ∷ []) ∷ []
  pub running : leaves RUNNING voice_tree ≡ (EFFECTS ∷ []) ∷ (WAVE_COMMAND ∷ []) ∷ []
  pub commanded : leaves COMMANDED voice_tree ≡ (WAVE_TABLE ∷ WAVE_COMMAND ∷ []) ∷ []
  pub up_ends : map may_end (scopes_named UP effect_tree) ≡ false ∷ []
  pub commanded_ends : map may_end (scopes_named COMMANDED voice_tree) ≡ false ∷ []

-- The commands of a row that are done once are left to from the lines that tell them alone, and passed from theirs.
pub record OnceIsComeTo : Type 0 where
  pub once : leaves ONCE tick_tree ≡ (ROW_COMMAND ∷ ROW_ONCE ∷ []) ∷ []
  pub done : leaves DONE tick_tree ≡ (ROW_ONCE ∷ []) ∷ []

-- the scope of a stored waveform in the wave step
abbrev pub SOUNDING : ℕ
SOUNDING = 2

-- the scope in the wave step behind which the row is done, and around the stored waveform's
abbrev pub NEXT : ℕ
NEXT = 1

-- A row without a command leaves in front of those that run, and so does one that is done once, where the lines for it
-- are kept. In the wave step a waveform leaves in front of a delay, and so does a command, which stands in the song
-- from $F0 up, where the lines that tell it are kept: neither comes to the delay's lines.
pub record RowsLeave (layout : Layout) (rows voice : ℕ) (s : Playing) (desk : Desk) : Type 0 where
  pub bare : layout.holds ROW_COMMAND ≡ true → s.voice.new_command ≡ 0 →
      (ran each_one layout (part ROW_COMMAND 0 COMMAND_BEGUN.now) desk).outcome ≡ Left BARE
  pub none : layout.holds ROW_COMMAND ≡ true → s.voice.new_command ≡ 0 →
      (met layout ROW_SLIDE COMMAND_BEGUN.now desk).outcome ≡ Left BARE
  pub once : layout.holds ROW_COMMAND ≡ true → layout.holds ROW_ONCE ≡ true → 5 ≤ s.voice.new_command →
      (met layout ROW_SLIDE COMMAND_BEGUN.now desk).outcome ≡ Left ONCE
  pub waveform : (left : ℕ) → s.voice.wave_ptr ≢ 0 → IsListed layout rows desk.at WAVE_LEFTS s.voice.wave_ptr left →
      left < 0xE0 → (met layout WAVE_DELAY WAVE_STEP.now desk).outcome ≡ Left SOUNDING
  pub command : layout.holds WAVE_COMMAND ≡ true → (left : ℕ) → s.voice.wave_ptr ≢ 0 →
      IsListed layout rows desk.at WAVE_LEFTS s.voice.wave_ptr (stored_left left) → 0xF0 ≤ left →
      (met layout WAVE_DELAY WAVE_STEP.now desk).outcome ≡ Left NEXT

-- Where the lines of what is done once are kept, a row without a command leaves `DONE` behind its own lines, and so
-- does one whose command runs, 1 to 4, where the lines for that are kept: neither comes to the commands that are done
-- once. Y is the instrument, whose vibrato is read where there is no command.
pub record RowsEnd (layout : Layout) (rows voice : ℕ) (s : Playing) (desk : Desk) : Type 0 where
  pub bare : layout.holds ROW_ONCE ≡ true → s.voice.new_command ≡ 0 → (vibrato : ℕ) →
      IsListed layout rows desk.at VIBRATOS desk.cpu.y vibrato →
      (ran each_one layout (tree_of COMMAND_BEGUN.now) desk).outcome ≡ Left DONE
  pub running : layout.holds ROW_ONCE ≡ true → layout.holds ROW_COMMAND ≡ true → layout.holds ROW_SLIDE ≡ true →
      1 ≤ s.voice.new_command → s.voice.new_command < 5 →
      (ran each_one layout (tree_of COMMAND_BEGUN.now) desk).outcome ≡ Left DONE

-- Commands 1 and 2 leave before the lines of tone portamento, where theirs are kept.
pub record SlidesLeave (layout : Layout) (desk : Desk) : Type 0 where
  pub up : layout.holds PORTA_UP ≡ true → desk.cpu.a ≡ 1 →
      (ran each_one layout (tree_of PORTA_STEP.now) desk).outcome ≡ Left UP
  pub down : layout.holds PORTA_DOWN ≡ true → desk.cpu.a ≡ 2 →
      (ran each_one layout (tree_of PORTA_STEP.now) desk).outcome ≡ Left DOWN
