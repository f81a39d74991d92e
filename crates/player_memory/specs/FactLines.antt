-- Which condition keeps the lines of each fact of a song, when a layout keeps those of a song's facts, and which voices
-- are run then. This is the project's own player.
use Rattle.std.specs.Prelude.{◌≡◌, ℕ, ◌||◌, ◌==◌, Bool, true, if◌then◌else◌}
use Rattle.song_model.specs.declared.songs.Song.{Song}
use Rattle.song_facts.specs.declared.facts.Fact.{Fact}
use Rattle.song_facts.specs.declared.facts.Fact.TheVariants.{RowTone, RowSlide, RowOnce, FirstMask, Legato}
use Rattle.song_facts.specs.declared.facts.Fact.TheVariants.{NoHardRestart}
use Rattle.song_facts.specs.declared.facts.Fact.TheVariants.{WaveDelay, GateNote, NoteVibrato, VibratoDelay, NotePulse}
use Rattle.song_facts.specs.declared.facts.Fact.TheVariants.{NoteFilter}
use Rattle.song_facts.specs.declared.facts.Fact.TheVariants.{VoiceTempo, CommonTempo, FunkTurns, FunkChoice}
use Rattle.song_facts.specs.declared.facts.Fact.TheVariants.{OwnTimer, OwnWave, Subtunes, VoiceTwo, VoiceThree, FirstHolds}
use Rattle.song_facts.specs.declared.facts.Facts.{Facts}
use Rattle.song_facts.specs.Facts.{HasFact, is_among}
use Rattle.scopes.specs.Desk.{Layout}
use Rattle.player_memory.specs.declared.conditions.TheConstants.{ROW_TONE, ROW_SLIDE, ROW_ONCE, FIRST_MASK, LEGATO}
use Rattle.player_memory.specs.declared.conditions.TheConstants.{NO_HARD_RESTART, WAVE_DELAY, GATE_NOTE, ROW_COMMAND}
use Rattle.player_memory.specs.declared.conditions.TheConstants.{NOTE_VIBRATO, VIBRATO_DELAY, NOTE_PULSE, NOTE_FILTER}
use Rattle.player_memory.specs.declared.conditions.TheConstants.{VOICE_TEMPO, COMMON_TEMPO, FUNK_TURNS, FUNK_CHOICE}
use Rattle.player_memory.specs.declared.conditions.TheConstants.{OWN_TIMER, OWN_WAVE, SUBTUNES, VOICE_TWO, VOICE_THREE}
use Rattle.player_memory.specs.declared.conditions.TheConstants.{FIRST_HOLDS}
use Rattle.player_memory.specs.declared.conditions.TheConstants.{SPECIAL_ROW, HELD_NOTE, WAVE_COMMAND}
use Rattle.player_memory.specs.declared.conditions.TheConstants.{FILTER_TABLE, SET_FILTER_CONTROL, SET_CUTOFF}
use Rattle.player_memory.specs.declared.conditions.TheConstants.{FILTER_USED, FUNK_TEMPO}

-- the condition of a fact
abbrev pub fact_condition : Fact → ℕ
fact_condition RowTone = ROW_TONE
fact_condition RowSlide = ROW_SLIDE
fact_condition RowOnce = ROW_ONCE
fact_condition FirstMask = FIRST_MASK
fact_condition Legato = LEGATO
fact_condition NoHardRestart = NO_HARD_RESTART
fact_condition WaveDelay = WAVE_DELAY
fact_condition GateNote = GATE_NOTE
fact_condition NoteVibrato = NOTE_VIBRATO
fact_condition VibratoDelay = VIBRATO_DELAY
fact_condition NotePulse = NOTE_PULSE
fact_condition NoteFilter = NOTE_FILTER
fact_condition VoiceTempo = VOICE_TEMPO
fact_condition CommonTempo = COMMON_TEMPO
fact_condition FunkTurns = FUNK_TURNS
fact_condition FunkChoice = FUNK_CHOICE
fact_condition OwnTimer = OWN_TIMER
fact_condition OwnWave = OWN_WAVE
fact_condition Subtunes = SUBTUNES
fact_condition VoiceTwo = VOICE_TWO
fact_condition VoiceThree = VOICE_THREE
fact_condition FirstHolds = FIRST_HOLDS

-- a layout keeps the lines of each of these facts
abbrev pub KeepsMarked : Layout → Facts → Type 0
KeepsMarked layout facts = (fact : Fact) → is_among facts fact ≡ true → layout.holds (fact_condition fact) ≡ true

-- and those of no other fact
abbrev pub KeepsMarkedAlone : Layout → Facts → Type 0
KeepsMarkedAlone layout facts =
    (fact : Fact) → layout.holds (fact_condition fact) ≡ true → is_among facts fact ≡ true

-- of each fact that a song has
abbrev pub KeepsFacts : Layout → Song → Type 0
KeepsFacts layout song = (fact : Fact) → HasFact song fact → layout.holds (fact_condition fact) ≡ true

-- and the lines that facts or features have in common: of rows with a command, of delays and commands of the wave
-- table, of instruments that leave something as it is before a note, and of what sets the filter
pub record KeepsShared (layout : Layout) : Type 0 where
  pub tone : layout.holds ROW_TONE ≡ true → layout.holds ROW_COMMAND ≡ true
  pub slide : layout.holds ROW_SLIDE ≡ true → layout.holds ROW_COMMAND ≡ true
  pub once : layout.holds ROW_ONCE ≡ true → layout.holds ROW_COMMAND ≡ true
  pub delay : layout.holds WAVE_DELAY ≡ true → layout.holds SPECIAL_ROW ≡ true
  pub command : layout.holds WAVE_COMMAND ≡ true → layout.holds SPECIAL_ROW ≡ true
  pub legato : layout.holds LEGATO ≡ true → layout.holds HELD_NOTE ≡ true
  pub soft : layout.holds NO_HARD_RESTART ≡ true → layout.holds HELD_NOTE ≡ true
  pub filter : layout.holds FILTER_TABLE ≡ true → layout.holds FILTER_USED ≡ true
  pub control : layout.holds SET_FILTER_CONTROL ≡ true → layout.holds FILTER_USED ≡ true
  pub cutoff : layout.holds SET_CUTOFF ≡ true → layout.holds FILTER_USED ≡ true

-- whether a voice, counted from 0, is run: the second or the third isn't where its channel has nothing to play, unless the
-- voices take turns between two tempos
abbrev pub is_run : (ℕ → Bool) → ℕ → Bool
is_run holds voice =
    holds FUNK_TEMPO || (if voice == 1 then holds VOICE_TWO else if voice == 2 then holds VOICE_THREE else true)
