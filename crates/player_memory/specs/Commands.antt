-- Which condition keeps the lines that do a command, and when they are kept. This is the project's own player.
use Rattle.std.specs.Prelude.{◌≡◌, ℕ, ◌%◌, ◌<◌, ◌≤◌, true, nat_le, ◌==◌, if◌then◌else◌, Option, Some, None}
use Rattle.std.specs.Prelude.{List, [], ◌∷◌, ⊤}
use Rattle.scopes.specs.Desk.{Layout}
use Rattle.player_memory.specs.declared.conditions.TheConstants.{SET_AD, SET_SR, SET_WAVE, SET_WAVE_POINTER}
use Rattle.player_memory.specs.declared.conditions.TheConstants.{SET_PULSE_POINTER, SET_FILTER_POINTER}
use Rattle.player_memory.specs.declared.conditions.TheConstants.{SET_FILTER_CONTROL, SET_CUTOFF, SET_VOLUME, SET_TEMPO}
use Rattle.player_memory.specs.declared.conditions.TheConstants.{VOICE_TEMPO, COMMON_TEMPO, FUNK_TURNS, FUNK_CHOICE}

-- ---- which condition

-- Commands that a row and the wave table do alike, each by lines under its own condition: 5 sets attack and decay, 6
-- sustain and release, 7 the waveform, 9 the row of the pulse program, $A that of the filter program, $B the filter's
-- resonance and voices, $C its cutoff, $D the volume.
abbrev pub both_rows : List (ℕ × ℕ)
both_rows =
    (5, SET_AD) ∷ (6, SET_SR) ∷ (7, SET_WAVE) ∷ (9, SET_PULSE_POINTER) ∷ (0xA, SET_FILTER_POINTER)
    ∷ (0xB, SET_FILTER_CONTROL) ∷ (0xC, SET_CUTOFF) ∷ (0xD, SET_VOLUME) ∷ []

-- the condition in the row of a command
abbrev pub condition_in : List (ℕ × ℕ) → ℕ → Option ℕ
condition_in [] command = None
condition_in (row ∷ rows) command = if command == row.0 then Some row.1 else condition_in rows command

-- a command of the wave table
abbrev pub condition_of_both : ℕ → Option ℕ
condition_of_both command = condition_in both_rows command

-- Command $F chooses a funk tempo with 0 and 1, and sets a length where the last seven bits are 3 or more; else it does
-- nothing.
abbrev pub condition_of_tempo : ℕ → Option ℕ
condition_of_tempo param =
    if nat_le param 1 then Some FUNK_TURNS
    else if nat_le 3 (param % 128) then Some SET_TEMPO
    else None

-- A row's command with its parameter. A row alone does 8, which sets the row of the wave program, and $E and $F, which
-- set tempos.
abbrev pub condition_of : ℕ → ℕ → Option ℕ
condition_of command param =
    if command == 8 then Some SET_WAVE_POINTER
    else if command == 0xE then Some FUNK_CHOICE
    else if command == 0xF then condition_of_tempo param
    else condition_of_both command

-- ---- when lines are kept

-- The lines under a condition are kept where it holds; where there is none, nothing is asked.
abbrev pub AreKept : Layout → Option ℕ → Type 0
AreKept layout (Some condition) = layout.holds condition ≡ true
AreKept layout None = ⊤

-- Of the commands that set tempos those lines are kept that are for the parameter: of $F from $80 on those for the tempo
-- of one voice, with 3 to $7F those for the tempo of all, with 0 and 1 those for turns between two tempos; and those of
-- $E.
pub record KeepsTempo (layout : Layout) (command param : ℕ) : Type 0 where
  pub voice : command ≡ 0xF → 0x80 ≤ param → layout.holds VOICE_TEMPO ≡ true
  pub common : command ≡ 0xF → 3 ≤ param → param < 0x80 → layout.holds COMMON_TEMPO ≡ true
  pub turns : command ≡ 0xF → param < 2 → layout.holds FUNK_TURNS ≡ true
  pub choice : command ≡ 0xE → layout.holds FUNK_CHOICE ≡ true
