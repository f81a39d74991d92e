-- The entrances, as the code has them.
use Rattle.std.proofs.Common.{◌≡◌, ℕ, true, false, List, Option, Some, None, refl}
use Rattle.scopes.specs.declared.line.Line.{Line}
use Rattle.scope_lines.specs.Readings.{holds_in}
use Rattle.scope_lines.specs.declared.lowered.Conditions.{Conditions}
use Rattle.scope_calls.specs.declared.entrance.Setup.{Setup}
use Rattle.scope_calls.specs.Written.{entrance_of}
use Rattle.player_text.specs.declared.texts.Start.{Start}
use Rattle.player_text.specs.Texts.{filter_lines, voice_lines, init_lines}
use Rattle.player_code.specs.declared.labels.TheConstants.{INIT_CODE, PLAY_CODE}
use Rattle.player_code.specs.CodeLines.{play_entrance, init_entrance}

-- what each is set up with
abbrev pub play_setup : ℕ → Conditions → Setup
play_setup pointer conditions =
    record { label = PLAY_CODE; numbered = false; pointer = pointer; conditions = conditions }

abbrev pub init_setup : ℕ → Conditions → Setup
init_setup pointer conditions =
    record { label = INIT_CODE; numbered = true; pointer = pointer; conditions = conditions }

pub play_is : (pointer : ℕ) (conditions : Conditions) (first : List Line) (voice : Option (List Line)) →
    first ≡ filter_lines → voice ≡ Some voice_lines →
    entrance_of (play_setup pointer conditions) first voice ≡ play_entrance pointer (holds_in conditions.0)
unfolding play_entrance
play_is pointer conditions first voice one two = rw (one, two) refl

pub init_is : (pointer : ℕ) (conditions : Conditions) (start : Start) (cleared : ℕ) (first : List Line)
    (voice : Option (List Line)) → first ≡ init_lines start cleared → voice ≡ None →
    entrance_of (init_setup pointer conditions) first voice
    ≡ init_entrance pointer (holds_in conditions.0) start cleared
unfolding init_entrance
init_is pointer conditions start cleared first voice one two = rw (one, two) refl
