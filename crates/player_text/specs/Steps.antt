-- How the trees of the player's blocks are made of those of their pieces.
use Rattle.std.specs.Prelude.{◌≡◌, ℕ, List, [], ◌∷◌}
use Rattle.std.specs.List.{flat_map}
use Rattle.scopes.specs.declared.line.Line.{Line}
use Rattle.scopes.specs.Trees.{Tree, NoneTree, ThenTree, ScopeTree, LeaveTree, WhenTree, tree_of}
use Rattle.player_memory.specs.declared.conditions.TheConstants.{WAVE_COMMAND, ROW_ONCE, EFFECTS}
use Rattle.player_text.specs.declared.joints.TheConstants.{SOUNDS, TICKED, TAKEN, DONE, EFFECTED, PITCHED, RUNNING}
use Rattle.player_text.specs.declared.joints.TheConstants.{COMMANDED, NOTHING, FOUND, FALLS, DOWN, RISES, UP, PULSED}
use Rattle.player_text.specs.declared.joints.TheConstants.{FETCHES, FIRST, LATE, WALKS, BEGINS}
use Rattle.player_text.specs.declared.tick.TheConstants.{TICK_STEP, FRAME_COUNTED, GATE_TIMER_SET, NOTE_TAKEN}
use Rattle.player_text.specs.declared.tick.TheConstants.{NOTE_BEGUN, PROGRAMS_BEGUN, COMMAND_BEGUN, COMMAND_TAKEN}
use Rattle.player_text.specs.declared.tick.TheConstants.{NOTE_TOLD}
use Rattle.player_text.specs.declared.commands.TheConstants.{AD_SET, SR_SET, WAVE_SET, WAVE_POINTER_SET}
use Rattle.player_text.specs.declared.commands.TheConstants.{PULSE_POINTER_SET, FILTER_POINTER_SET}
use Rattle.player_text.specs.declared.commands.TheConstants.{FILTER_CONTROL_SET, CUTOFF_SET, VOLUME_SET, FUNK_SET}
use Rattle.player_text.specs.declared.commands.TheConstants.{TEMPO_SET, FUNK_CHOSEN}
use Rattle.player_text.specs.declared.wave.TheConstants.{WAVE_STEP}
use Rattle.player_text.specs.declared.effect.TheConstants.{EFFECT_BEGUN, COMMAND_LENT, COMMAND_ROW}
use Rattle.player_text.specs.declared.slide.TheConstants.{EFFECT_STEP, SPEED_STEP, SWING_STEP, PORTA_STEP, TONE_STEP}
use Rattle.player_text.specs.declared.slide.TheConstants.{CLIMB_STEP, DROP_STEP, RISE_STEP, SINK_STEP, FOUND_STEP}
use Rattle.player_text.specs.declared.pitch.TheConstants.{PITCH, GIVEN_BACK}
use Rattle.player_text.specs.declared.fetch.TheConstants.{FETCH_STEP, ROW_AWAITED, ROW_REACHED, FIRST_REACHED}
use Rattle.player_text.specs.declared.fetch.TheConstants.{ENTRY_BEGUN, ENTRY_READ, ENTRY_ENDED, GATE_CLOSED}
use Rattle.player_text.specs.declared.fetch.TheConstants.{PULSE_LEFT_OUT}
use Rattle.player_text.specs.declared.walk.TheConstants.{PLAY_REPEATED, ORDER_WALKED, PATTERN_FOUND, PATTERN_BEGUN}
use Rattle.player_text.specs.declared.pulse.TheConstants.{PULSE}
use Rattle.player_text.specs.declared.register.TheConstants.{REGISTERS}
use Rattle.player_text.specs.declared.silence.TheConstants.{SILENCE}
use Rattle.player_text.specs.Texts.{voice_tree}

-- ---- trees one behind the other

-- the lines of one tree, and then those of another
abbrev pub then_lines : Tree → Tree → Tree
then_lines NoneTree rest = rest
then_lines (ThenTree first more) rest = ThenTree first (then_lines more rest)
then_lines tree rest = ThenTree tree rest

abbrev pub all_of : List Tree → Tree
all_of [] = NoneTree
all_of (tree ∷ trees) = then_lines tree (all_of trees)

-- a scope
abbrev pub in_scope : ℕ → List Tree → Tree
in_scope name trees = ScopeTree name (all_of trees)

-- lines that are kept where a condition holds
abbrev pub in_when : ℕ → List Tree → Tree
in_when condition trees = WhenTree condition (all_of trees)

-- the tree of a block
abbrev pub text : record { now : List Line } → Tree
text block = tree_of block.now

-- ---- the steps of a voice

abbrev pub tick_tree : Tree
tick_tree = tree_of (flat_map (λ piece. piece.now) TICK_STEP.now)

abbrev pub command_tree : Tree
command_tree = tree_of (flat_map (λ piece. piece.now) COMMAND_ROW.now)

abbrev pub effect_tree : Tree
effect_tree = tree_of (flat_map (λ piece. piece.now) EFFECT_STEP.now)

abbrev pub fetch_tree : Tree
fetch_tree = tree_of (flat_map (λ piece. piece.now) FETCH_STEP.now)

-- ---- how they are made

-- commands 5 up: those of a row, and those of a wave program
abbrev pub row_commands : List Tree
row_commands =
    text AD_SET ∷ text SR_SET ∷ text WAVE_SET ∷ text WAVE_POINTER_SET ∷ text PULSE_POINTER_SET
    ∷ text FILTER_POINTER_SET ∷ text FILTER_CONTROL_SET ∷ text CUTOFF_SET ∷ text VOLUME_SET ∷ text FUNK_SET
    ∷ text TEMPO_SET ∷ text FUNK_CHOSEN ∷ []

abbrev pub wave_commands : List Tree
wave_commands =
    text AD_SET ∷ text SR_SET ∷ text WAVE_SET ∷ text PULSE_POINTER_SET ∷ text FILTER_POINTER_SET
    ∷ text FILTER_CONTROL_SET ∷ text CUTOFF_SET ∷ text VOLUME_SET ∷ []

abbrev pub tick_pieces : List Tree
tick_pieces =
    text FRAME_COUNTED ∷ text GATE_TIMER_SET
    ∷ in_scope TAKEN (text NOTE_TAKEN ∷ text NOTE_BEGUN ∷ text PROGRAMS_BEGUN ∷ [])
    ∷ in_scope DONE (text COMMAND_BEGUN ∷ in_when ROW_ONCE (text COMMAND_TAKEN ∷ row_commands) ∷ []) ∷ text NOTE_TOLD ∷ []

abbrev pub command_pieces : List Tree
command_pieces = in_scope NOTHING (text COMMAND_LENT ∷ wave_commands) ∷ LeaveTree EFFECTED ∷ []

-- up by both bytes of the slide, or by its low one; down the same; and at the note
abbrev pub upwards : List Tree
upwards =
    in_scope RISES (in_scope UP (text SPEED_STEP ∷ text SWING_STEP ∷ text PORTA_STEP ∷ text TONE_STEP ∷ [])
    ∷ text CLIMB_STEP ∷ []) ∷ text RISE_STEP ∷ []

abbrev pub downwards : List Tree
downwards = in_scope FALLS (in_scope DOWN upwards ∷ text DROP_STEP ∷ []) ∷ text SINK_STEP ∷ []

abbrev pub effect_pieces : List Tree
effect_pieces = in_scope FOUND downwards ∷ text FOUND_STEP ∷ []

-- the orderlist's walk, where a pattern is through
abbrev pub walk_pieces : List Tree
walk_pieces =
    in_scope WALKS (text ROW_AWAITED ∷ [])
    ∷ in_scope BEGINS (text PLAY_REPEATED ∷ text ORDER_WALKED ∷ text PATTERN_FOUND ∷ []) ∷ text PATTERN_BEGUN ∷ []

abbrev pub fetch_pieces : List Tree
fetch_pieces =
    in_scope FETCHES (in_scope FIRST (in_scope LATE walk_pieces ∷ text ROW_REACHED ∷ []) ∷ text FIRST_REACHED ∷ [])
    ∷ text ENTRY_BEGUN ∷ text ENTRY_READ ∷ text ENTRY_ENDED ∷ text GATE_CLOSED ∷ text PULSE_LEFT_OUT ∷ []

-- a voice: where a command of its wave program is lent, the effect step does that
abbrev pub running_pieces : List Tree
running_pieces = in_scope COMMANDED (text WAVE_STEP ∷ text EFFECT_BEGUN ∷ []) ∷ command_tree ∷ []

abbrev pub effected_pieces : List Tree
effected_pieces = in_scope PITCHED (in_scope RUNNING running_pieces ∷ effect_tree ∷ []) ∷ text PITCH ∷ []

abbrev pub sounding_pieces : List Tree
sounding_pieces =
    in_scope TICKED (tick_tree ∷ []) ∷ in_scope EFFECTED effected_pieces ∷ text GIVEN_BACK
    ∷ in_scope PULSED (fetch_tree ∷ []) ∷ text PULSE ∷ []

pub record AreMade : Type 0 where
  pub tick : tick_tree ≡ all_of tick_pieces
  pub command : command_tree ≡ ThenTree (WhenTree WAVE_COMMAND (all_of command_pieces)) NoneTree
  pub effect : effect_tree ≡ ThenTree (WhenTree EFFECTS (all_of effect_pieces)) NoneTree
  pub fetch : fetch_tree ≡ all_of fetch_pieces
  pub voice : voice_tree ≡ all_of (in_scope SOUNDS (text SILENCE ∷ sounding_pieces) ∷ text REGISTERS ∷ [])
