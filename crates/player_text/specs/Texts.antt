-- The lines of the player's blocks, and their trees. This is the project's own player.
use Rattle.std.specs.Prelude.{ℕ, ◌-◌, List, [], ◌∷◌, ◌++◌}
use Rattle.std.specs.List.{flat_map}
use Rattle.cpu6502.specs.declared.mnemonic.Mnemonic.TheVariants.{Lda, Ldx}
use Rattle.scopes.specs.declared.line.Line.{Line}
use Rattle.scopes.specs.declared.line.Line.TheVariants.{With, When, Loop, End}
use Rattle.scopes.specs.declared.line.Operand.TheVariants.{Number}
use Rattle.scopes.specs.Trees.{Tree, tree_of}
use Rattle.player_memory.specs.declared.conditions.TheConstants.{TIMED, FUNK_TEMPO}
use Rattle.player_text.specs.declared.filter.TheConstants.{FILTER}
use Rattle.player_text.specs.declared.texts.Start.{Start}
use Rattle.player_text.specs.declared.init.TheConstants.{SUBTUNE_TAKEN, TIMER_LOW_SET, TIMER_HIGH_SET, REGISTERS_CLEARED}
use Rattle.player_text.specs.declared.init.TheConstants.{VARIABLES_CLEARED, FUNK_STARTED, VOICES_STARTED}
use Rattle.player_text.specs.declared.init.TheConstants.{VOICE_STARTED, TEMPO_STARTED}
use Rattle.player_text.specs.declared.voice.TheConstants.{VOICE}

-- ---- play: the filter, and each voice

abbrev pub filter_lines : List Line
filter_lines = flat_map (λ piece. piece.now) FILTER.now

abbrev pub filter_tree : Tree
filter_tree = tree_of filter_lines

abbrev pub voice_lines : List Line
voice_lines = flat_map (λ step. flat_map (λ piece. piece.now) step.now) VOICE.now

abbrev pub voice_tree : Tree
voice_tree = tree_of voice_lines

-- ---- init, with the numbers with which a subtune begins, and how many bytes of the variables are cleared

abbrev load : ℕ → Line
load number = With Lda (Number number)

-- so many bytes stand behind the first of those
abbrev pub load_last : ℕ → Line
load_last cleared = With Ldx (Number (cleared - 1))

-- the timer, where there are several play calls in a picture; the registers and the variables; the first funk tempo,
-- where a command takes turns; and the three voices
abbrev timer_lines : Start → List Line
timer_lines start =
    When TIMED ∷ load start.timer_low ∷ (TIMER_LOW_SET.now ++ load start.timer_high ∷ (TIMER_HIGH_SET.now ++ End ∷ []))

abbrev clear_lines : ℕ → List Line
clear_lines cleared = REGISTERS_CLEARED.now ++ load_last cleared ∷ VARIABLES_CLEARED.now

abbrev funk_lines : Start → List Line
funk_lines start = When FUNK_TEMPO ∷ load start.funk ∷ (FUNK_STARTED.now ++ End ∷ [])

abbrev start_lines : Start → List Line
start_lines start =
    VOICES_STARTED.now ++ Loop 3 ∷ (VOICE_STARTED.now ++ load start.tempo ∷ (TEMPO_STARTED.now ++ End ∷ []))

abbrev pub init_lines : Start → ℕ → List Line
init_lines start cleared =
    SUBTUNE_TAKEN.now
    ++ (timer_lines start ++ (clear_lines cleared ++ (funk_lines start ++ start_lines start)))

abbrev pub init_tree : Start → ℕ → Tree
init_tree start cleared = tree_of (init_lines start cleared)
