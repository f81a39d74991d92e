-- The condition of each command as it is worked by hand, and layouts that keep its lines, or don't.
use Rattle.std.specs.Prelude.{◌≡◌, ℕ, ◌≤◌, Some, None, not, ◌==◌}
use Rattle.scopes.specs.Desk.{Layout}
use Rattle.player_memory.specs.declared.conditions.TheConstants.{SET_AD, SET_SR, SET_WAVE, SET_WAVE_POINTER}
use Rattle.player_memory.specs.declared.conditions.TheConstants.{SET_PULSE_POINTER, SET_FILTER_POINTER}
use Rattle.player_memory.specs.declared.conditions.TheConstants.{SET_FILTER_CONTROL, SET_CUTOFF, SET_VOLUME, SET_TEMPO}
use Rattle.player_memory.specs.declared.conditions.TheConstants.{VOICE_TEMPO, COMMON_TEMPO, FUNK_TURNS, FUNK_CHOICE}
use Rattle.player_memory.specs.Commands.{condition_of, condition_of_both, AreKept, KeepsTempo}
use Rattle.player_memory.specs.WorkedMemory.{at_1000}

-- a row's command, whatever its parameter; and $F at the ends of what its parameter may be
pub record RowsAreWorked : Type 0 where
  pub runs : (command param : ℕ) → command ≤ 4 → condition_of command param ≡ None
  pub ad : (param : ℕ) → condition_of 5 param ≡ Some SET_AD
  pub sr : (param : ℕ) → condition_of 6 param ≡ Some SET_SR
  pub wave : (param : ℕ) → condition_of 7 param ≡ Some SET_WAVE
  pub wave_pointer : (param : ℕ) → condition_of 8 param ≡ Some SET_WAVE_POINTER
  pub pulse_pointer : (param : ℕ) → condition_of 9 param ≡ Some SET_PULSE_POINTER
  pub filter_pointer : (param : ℕ) → condition_of 0xA param ≡ Some SET_FILTER_POINTER
  pub filter_control : (param : ℕ) → condition_of 0xB param ≡ Some SET_FILTER_CONTROL
  pub cutoff : (param : ℕ) → condition_of 0xC param ≡ Some SET_CUTOFF
  pub volume : (param : ℕ) → condition_of 0xD param ≡ Some SET_VOLUME
  pub funk : (param : ℕ) → condition_of 0xE param ≡ Some FUNK_CHOICE
  pub chosen : condition_of 0xF 0 ≡ Some FUNK_TURNS
  pub chosen_last : condition_of 0xF 1 ≡ Some FUNK_TURNS
  pub idle : condition_of 0xF 2 ≡ None
  pub length : condition_of 0xF 3 ≡ Some SET_TEMPO
  pub length_last : condition_of 0xF 0x7F ≡ Some SET_TEMPO
  pub idle_up : condition_of 0xF 0x80 ≡ None
  pub idle_last : condition_of 0xF 0x82 ≡ None
  pub own : condition_of 0xF 0x83 ≡ Some SET_TEMPO
  pub own_last : condition_of 0xF 0xFF ≡ Some SET_TEMPO

-- a command of the wave table: those of a row alone have no lines there
pub record BothAreWorked : Type 0 where
  pub runs : (command : ℕ) → command ≤ 4 → condition_of_both command ≡ None
  pub wave : condition_of_both 7 ≡ Some SET_WAVE
  pub wave_pointer : condition_of_both 8 ≡ None
  pub pulse_pointer : condition_of_both 9 ≡ Some SET_PULSE_POINTER
  pub volume : condition_of_both 0xD ≡ Some SET_VOLUME
  pub funk : condition_of_both 0xE ≡ None
  pub tempo : condition_of_both 0xF ≡ None

-- one line is kept; and all are but one
abbrev with_one : ℕ → Layout
with_one kept = record at_1000 { holds = λ condition. condition == kept }

abbrev without : ℕ → Layout
without gone = record at_1000 { holds = λ condition. not (condition == gone) }

pub record KeptAreWorked : Type 0 where
  pub ad : AreKept (with_one SET_AD) (condition_of 5 0)
  pub length : AreKept (without FUNK_TURNS) (condition_of 0xF 3)
  pub idle : AreKept (without SET_TEMPO) (condition_of 0xF 2)
  -- what isn't kept
  pub no_ad : ¬ AreKept (without SET_AD) (condition_of 5 0)
  pub another : ¬ AreKept (with_one SET_AD) (condition_of 6 0)
  pub no_length : ¬ AreKept (without SET_TEMPO) (condition_of 0xF 3)
  pub no_own_length : ¬ AreKept (without SET_TEMPO) (condition_of 0xF 0x83)
  pub no_turns : ¬ AreKept (without FUNK_TURNS) (condition_of 0xF 1)
  pub no_choice : ¬ AreKept (without FUNK_CHOICE) (condition_of 0xE 1)

-- $F with 2 sets nothing, and asks for no lines; each of the others asks for its own, at both ends of what its parameter
-- may be
pub record TemposAreKept : Type 0 where
  pub other : KeepsTempo (without FUNK_CHOICE) 0xD 0x80
  pub idle : KeepsTempo (with_one SET_TEMPO) 0xF 2
  pub voice : KeepsTempo (with_one VOICE_TEMPO) 0xF 0x80
  pub common : KeepsTempo (with_one COMMON_TEMPO) 0xF 0x7F
  pub turns : KeepsTempo (with_one FUNK_TURNS) 0xF 1
  pub choice : KeepsTempo (with_one FUNK_CHOICE) 0xE 0
  pub no_voice : ¬ KeepsTempo (without VOICE_TEMPO) 0xF 0x80
  pub no_common : ¬ KeepsTempo (without COMMON_TEMPO) 0xF 0x7F
  pub no_first_common : ¬ KeepsTempo (without COMMON_TEMPO) 0xF 3
  pub no_turns : ¬ KeepsTempo (without FUNK_TURNS) 0xF 1
  pub no_choice : ¬ KeepsTempo (without FUNK_CHOICE) 0xE 0

pub record CommandsAreWorked : Type 0 where
  pub rows : RowsAreWorked
  pub both : BothAreWorked
  pub kept : KeptAreWorked
  pub tempos : TemposAreKept
