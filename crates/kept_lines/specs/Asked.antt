-- What a song asks of its player, as one number: the set of the conditions that are its features and its facts. This is
-- the project's own player.
use Rattle.std.specs.Prelude.{◌≡◌, ℕ, ◌^◌, Bool, false, ◌==◌, if◌then◌else◌, nat_lt, sum_by}
use Rattle.std.specs.List.{range_with_len}
use Rattle.std.specs.Int.{bit_at}
use Rattle.song_model.specs.declared.songs.Song.{Song}
use Rattle.play_model.specs.Features.{AreFeatures}
use Rattle.song_facts.specs.declared.facts.Facts.{Facts}
use Rattle.song_facts.specs.Facts.{AreFacts}
use Rattle.packed_form.specs.declared.packed_songs.PackedSong.{PackedSong}
use Rattle.player_memory.specs.declared.conditions.TheConstants.{ROW_TONE, ROW_SLIDE, ROW_ONCE, FIRST_MASK, LEGATO}
use Rattle.player_memory.specs.declared.conditions.TheConstants.{NO_HARD_RESTART, WAVE_DELAY, GATE_NOTE, ROW_COMMAND}
use Rattle.player_memory.specs.declared.conditions.TheConstants.{NOTE_VIBRATO, VIBRATO_DELAY, NOTE_PULSE, NOTE_FILTER}
use Rattle.player_memory.specs.declared.conditions.TheConstants.{VOICE_TEMPO, COMMON_TEMPO, FUNK_TURNS, FUNK_CHOICE}
use Rattle.player_memory.specs.declared.conditions.TheConstants.{OWN_TIMER, OWN_WAVE, SUBTUNES, VOICE_TWO, VOICE_THREE}
use Rattle.player_memory.specs.declared.conditions.TheConstants.{FIRST_HOLDS}

-- whether the bit of a condition is set
abbrev pub is_in : ℕ → ℕ → Bool
is_in set condition = bit_at set condition == 1

-- a bit that is set, or isn't
abbrev pub bit_if : Bool → ℕ → ℕ
bit_if is_set bit = if is_set then 2 ^ bit else 0

-- the conditions of facts
abbrev pub asks_fact : Facts → ℕ → Bool
asks_fact facts condition =
    if condition == ROW_TONE then facts.row_tone
    else if condition == ROW_SLIDE then facts.row_slide
    else if condition == ROW_ONCE then facts.row_once
    else if condition == FIRST_MASK then facts.first_mask
    else if condition == LEGATO then facts.legato
    else if condition == NO_HARD_RESTART then facts.no_hard_restart
    else if condition == WAVE_DELAY then facts.wave_delay
    else if condition == GATE_NOTE then facts.gate_note
    else if condition == NOTE_VIBRATO then facts.note_vibrato
    else if condition == VIBRATO_DELAY then facts.vibrato_delay
    else if condition == NOTE_PULSE then facts.note_pulse
    else if condition == NOTE_FILTER then facts.note_filter
    else if condition == VOICE_TEMPO then facts.voice_tempo
    else if condition == COMMON_TEMPO then facts.common_tempo
    else if condition == FUNK_TURNS then facts.funk_turns
    else if condition == FUNK_CHOICE then facts.funk_choice
    else if condition == OWN_TIMER then facts.own_timer
    else if condition == OWN_WAVE then facts.own_wave
    else if condition == SUBTUNES then facts.subtunes
    else if condition == VOICE_TWO then facts.voice_two
    else if condition == VOICE_THREE then facts.voice_three
    else if condition == FIRST_HOLDS then facts.first_holds
    else false

-- those below 24 are the features, by their bits
abbrev pub asks : ℕ → Facts → ℕ → Bool
asks features facts condition = if nat_lt condition 24 then is_in features condition else asks_fact facts condition

-- the set of the conditions that are asked for, as the number that has their bits; behind the facts there is none
unfoldable pub asked : ℕ → Facts → ℕ
asked features facts =
    sum_by (λ condition. bit_if (asks features facts condition) condition) (range_with_len 0 ROW_COMMAND)

-- that of a packed song
abbrev pub asked_by : PackedSong → ℕ
asked_by packed = asked packed.features.0 packed.facts

-- what a song asks for is this set
pub record Asks (song : Song) (set : ℕ) : Type 0 where
  pub features : ℕ
  pub facts : Facts
  pub are_features : AreFeatures song features
  pub are_facts : AreFacts song facts
  pub is : set ≡ asked features facts
