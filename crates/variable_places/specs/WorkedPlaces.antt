-- Worked by hand: which variables have a byte under conditions, where it stands, and how many places there are.
use Rattle.std.specs.Prelude.{◌≡◌, ◌≢◌, ℕ, ◌+◌, ◌*◌, Bool, true, false, List, [], ◌∷◌, take}
use Rattle.narrow_runs.specs.Named.{is_one_of, names, are_covered}
use Rattle.player_memory.specs.declared.labels.TheConstants.{REST, REPEAT, TICK, NEW_COMMAND, NEW_PARAM, COMMAND, PARAM}
use Rattle.player_memory.specs.declared.labels.TheConstants.{AD, VIB_DELAY, WAVE, PULSE_POINTER, PULSE_LOW, TEMPO}
use Rattle.player_memory.specs.declared.labels.TheConstants.{TEMPO_TWO, TEMPO_THREE, FILTER_POINTER, FILTER_TIME}
use Rattle.player_memory.specs.declared.labels.TheConstants.{FILTER_TYPE, FILTER_CONTROL, CUTOFF, VOLUME, LENT}
use Rattle.player_memory.specs.declared.labels.TheConstants.{KEPT_COMMAND, KEPT_PARAM, FUNK_ONE, FUNK_TWO, VARIABLES}
use Rattle.player_memory.specs.declared.labels.TheConstants.{WAVE_LEFTS, GATE_TIMER, INSTRUMENT, PATTERN_LOW}
use Rattle.player_memory.specs.declared.labels.TheConstants.{ORDER_HIGH, ORDER_PLACE}
use Rattle.player_memory.specs.declared.conditions.TheConstants.{TRANSPOSES, REPEATS, PULSE_TABLE, FILTER_TABLE}
use Rattle.player_memory.specs.declared.conditions.TheConstants.{SET_FILTER_CONTROL, SET_VOLUME, FUNK_TEMPO}
use Rattle.player_memory.specs.declared.conditions.TheConstants.{FUNK_CHOICE, WAVE_COMMAND, SKIP_FIRST, ROW_TONE}
use Rattle.player_memory.specs.declared.conditions.TheConstants.{ROW_ONCE, ROW_COMMAND, VIBRATO_DELAY, NOTE_PULSE}
use Rattle.player_memory.specs.declared.conditions.TheConstants.{OWN_TIMER}
use Rattle.player_text.specs.Texts.{voice_tree}
use Rattle.variable_places.specs.Places.{asked_in, voice_of, base_of, asks, has_byte, standing, position_in}
use Rattle.variable_places.specs.Places.{field_count, other_labels, other_count, own_place, field_at, free_places}
use Rattle.variable_places.specs.Places.{voices_end, others_end, place_of, variable_count}

-- ---- lists and numbers

-- a table of three rows, of which the last always stands
abbrev three_rows : List (ℕ × List ℕ)
three_rows = (5, 1 ∷ 3 ∷ []) ∷ (6, 2 ∷ []) ∷ (9, []) ∷ []

pub record FieldsAreWorked : Type 0 where
  -- the labels of a table that stand
  pub none : standing (is_one_of []) three_rows ≡ 9 ∷ []
  pub first : standing (is_one_of (1 ∷ [])) three_rows ≡ 5 ∷ 9 ∷ []
  pub other : standing (is_one_of (3 ∷ [])) three_rows ≡ 5 ∷ 9 ∷ []
  pub second : standing (is_one_of (2 ∷ [])) three_rows ≡ 6 ∷ 9 ∷ []
  pub all : standing (is_one_of (1 ∷ 2 ∷ [])) three_rows ≡ 5 ∷ 6 ∷ 9 ∷ []
  pub unlisted : standing (is_one_of (4 ∷ [])) three_rows ≡ 9 ∷ []
  -- what they ask, and where they stand
  pub asks_two : asked_in three_rows 5 ≡ 1 ∷ 3 ∷ []
  pub asks_none : asked_in three_rows 9 ≡ []
  pub no_row : asked_in three_rows 7 ≡ []
  pub front : position_in (5 ∷ 6 ∷ 9 ∷ []) 5 ≡ 0
  pub last : position_in (5 ∷ 6 ∷ 9 ∷ []) 9 ≡ 2
  pub not_there : position_in (5 ∷ 6 ∷ 9 ∷ []) 7 ≡ 3
  -- whose byte a label is
  pub first_voice : (voice_of TICK ≡ 0) × (base_of TICK ≡ TICK)
  pub second_voice : (voice_of (TICK + 7) ≡ 1) × (base_of (TICK + 7) ≡ TICK)
  pub third_voice : (voice_of (TICK + 14) ≡ 2) × (base_of (TICK + 14) ≡ TICK)
  pub tempos : (base_of TEMPO_TWO ≡ TEMPO) × (base_of TEMPO_THREE ≡ TEMPO)
  -- the places of fields
  pub group : (own_place 0 0 ≡ 0) × (own_place 6 0 ≡ 6) × (own_place 0 1 ≡ 7) × (own_place 6 2 ≡ 20)
  pub next_group : (own_place 7 0 ≡ 21) × (own_place 7 2 ≡ 35) × (own_place 33 2 ≡ 103)
  pub fields : (field_at 0 ≡ 0) × (field_at 7 ≡ 0) × (field_at 20 ≡ 6) × (field_at 21 ≡ 7) × (field_at 103 ≡ 33)
  -- and those that have none: three are left in a group in which each voice has six, and none in one that is full
  pub in_group : take 5 (free_places 20) ≡ 48 ∷ 55 ∷ 62 ∷ 63 ∷ 64 ∷ []
  pub two_each : take 7 (free_places 26) ≡ 68 ∷ 69 ∷ 75 ∷ 76 ∷ 82 ∷ 83 ∷ 84 ∷ []
  pub behind_full : take 3 (free_places 28) ≡ 84 ∷ 85 ∷ 86 ∷ []
  pub with_all : free_places 34 ≡ 90 ∷ 97 ∷ 104 ∷ 105 ∷ 106 ∷ 107 ∷ 108 ∷ 109 ∷ 110 ∷ 111 ∷ 112 ∷ []
  -- the ends
  pub voices : (voices_end 20 ≡ 62) × (voices_end 21 ≡ 63) × (voices_end 22 ≡ 78) × (voices_end 34 ≡ 104)
  pub others : (others_end 20 0 ≡ 0) × (others_end 20 2 ≡ 56) × (others_end 20 3 ≡ 63) × (others_end 34 9 ≡ 111)

-- ---- conditions

-- none holds, each does, and these alone do
abbrev pub none_holds : ℕ → Bool
none_holds condition = false

abbrev pub each_holds : ℕ → Bool
each_holds condition = true

abbrev pub only : List ℕ → ℕ → Bool
only conditions = is_one_of conditions

pub record BytesAreWorked : Type 0 where
  pub fewest : (field_count none_holds ≡ 19) × (other_count none_holds ≡ 0)
  pub most : (field_count each_holds ≡ 34) × (other_count each_holds ≡ 9)
  pub pulse : (field_count (only (PULSE_TABLE ∷ [])) ≡ 23) × (other_count (only (PULSE_TABLE ∷ [])) ≡ 0)
  pub filter : (field_count (only (FILTER_TABLE ∷ [])) ≡ 19)
      × (other_labels (only (FILTER_TABLE ∷ []))
      ≡ FILTER_POINTER ∷ FILTER_TIME ∷ FILTER_TYPE ∷ FILTER_CONTROL ∷ CUTOFF ∷ [])
  pub lent : (field_count (only (WAVE_COMMAND ∷ [])) ≡ 21)
      × (other_labels (only (WAVE_COMMAND ∷ [])) ≡ LENT ∷ KEPT_COMMAND ∷ KEPT_PARAM ∷ [])
  -- the funk tempos are none of the others
  pub funk : (field_count (only (FUNK_TEMPO ∷ [])) ≡ 19) × (other_count (only (FUNK_TEMPO ∷ [])) ≡ 0)
  -- by each of its conditions alone, by no other, and by none
  pub by_one : has_byte (only (ROW_COMMAND ∷ [])) NEW_COMMAND ≡ true
  pub by_two : has_byte (only (ROW_TONE ∷ [])) NEW_COMMAND ≡ true
  pub by_other : has_byte (only (ROW_ONCE ∷ [])) NEW_COMMAND ≡ false
  pub its_own : has_byte (only (ROW_ONCE ∷ [])) NEW_PARAM ≡ true
  pub by_none : has_byte none_holds NEW_COMMAND ≡ false
  pub always : has_byte none_holds AD ≡ true
  pub timer : (has_byte (only (OWN_TIMER ∷ [])) GATE_TIMER ≡ true) × (has_byte none_holds GATE_TIMER ≡ false)
  pub remembers : has_byte (only (SKIP_FIRST ∷ [])) KEPT_PARAM ≡ true
  pub no_lent : has_byte (only (SKIP_FIRST ∷ [])) LENT ≡ false
  pub second : has_byte (only (VIBRATO_DELAY ∷ [])) (VIB_DELAY + 7) ≡ true
  pub third : has_byte (only (NOTE_PULSE ∷ [])) (PULSE_POINTER + 14) ≡ true
  pub no_third : has_byte (only (NOTE_PULSE ∷ [])) (PULSE_LOW + 14) ≡ false
  pub funk_two : has_byte (only (FUNK_CHOICE ∷ [])) FUNK_TWO ≡ true
  pub no_funk_two : has_byte (only (SET_VOLUME ∷ [])) FUNK_TWO ≡ false
  -- one that no kept line names may have none
  pub named : names (only (PULSE_TABLE ∷ [])) voice_tree PULSE_LOW ≡ true
  pub unnamed : (names none_holds voice_tree PULSE_LOW ≡ false) × (has_byte none_holds PULSE_LOW ≡ false)
  -- and lines would name one without, if its row listed another condition
  pub uncovered : are_covered (λ label. SET_VOLUME ∷ []) [] voice_tree ≡ false
  -- labels of lists ask nothing, though the byte behind the variables would be one of the second voice by its number
  pub list : (asks WAVE_LEFTS ≡ []) × (asks VARIABLES ≡ [])

pub record CountsAreWorked : Type 0 where
  pub fewest : variable_count none_holds ≡ 61
  pub most : variable_count each_holds ≡ 113
  pub pulse : variable_count (only (PULSE_TABLE ∷ [])) ≡ 79
  pub transposes : variable_count (only (TRANSPOSES ∷ [])) ≡ 62
  pub both : variable_count (only (TRANSPOSES ∷ REPEATS ∷ [])) ≡ 63
  pub next_group : variable_count (only (TRANSPOSES ∷ REPEATS ∷ OWN_TIMER ∷ [])) ≡ 78
  -- a byte in a hole counts for nothing, and the fifth one stands behind the voices
  pub volume : variable_count (only (SET_VOLUME ∷ [])) ≡ 61
  pub control : variable_count (only (SET_FILTER_CONTROL ∷ [])) ≡ 61
  pub three : variable_count (only (SET_FILTER_CONTROL ∷ SET_VOLUME ∷ [])) ≡ 61
  pub five : variable_count (only (FILTER_TABLE ∷ [])) ≡ 62
  pub lent : variable_count (only (WAVE_COMMAND ∷ [])) ≡ 66
  -- the funk tempos stand behind, also where there are holes
  pub funk : variable_count (only (FUNK_TEMPO ∷ [])) ≡ 63
  pub pulse_funk : variable_count (only (PULSE_TABLE ∷ FUNK_CHOICE ∷ [])) ≡ 81

pub record PlacesAreWorked : Type 0 where
  -- those that aren't cleared are the first seven of each voice, and the rests the first behind them
  pub uncleared : (place_of none_holds PATTERN_LOW ≡ 2) × (place_of each_holds (ORDER_HIGH + 14) ≡ 19)
      × (place_of none_holds (INSTRUMENT + 14) ≡ 20) × (place_of none_holds REST ≡ 21) × (place_of each_holds REST ≡ 21)
  pub tempos : (place_of none_holds TEMPO ≡ 1) × (place_of none_holds TEMPO_TWO ≡ 8)
      × (place_of none_holds TEMPO_THREE ≡ 15)
  -- the voices' bytes close up: without gateoff timers and commands of rows the attack is the last of its group
  pub attack : (place_of none_holds AD ≡ 27) × (place_of (only (OWN_TIMER ∷ [])) AD ≡ 42)
      × (place_of (only (OWN_TIMER ∷ ROW_COMMAND ∷ [])) AD ≡ 44)
  pub repeat : (place_of (only (REPEATS ∷ [])) REPEAT ≡ 47) × (place_of each_holds REPEAT ≡ 89)
  pub voices : (place_of none_holds (TICK + 7) ≡ 30) × (place_of none_holds (TICK + 14) ≡ 37)
  pub timer : (place_of (only (OWN_TIMER ∷ [])) GATE_TIMER ≡ 24) × (place_of (only (OWN_TIMER ∷ [])) ORDER_PLACE ≡ 25)
      × (place_of none_holds ORDER_PLACE ≡ 24)
  pub pulse : (place_of (only (PULSE_TABLE ∷ [])) PULSE_POINTER ≡ 47)
      × (place_of (only (PULSE_TABLE ∷ [])) PULSE_LOW ≡ 63)
  -- those of all voices fill what is left of the last group, and the fifth stands behind it
  pub volume : place_of (only (SET_VOLUME ∷ [])) VOLUME ≡ 47
  pub third : place_of (only (SET_FILTER_CONTROL ∷ SET_VOLUME ∷ [])) VOLUME ≡ 54
  pub filter : (place_of (only (FILTER_TABLE ∷ [])) FILTER_POINTER ≡ 47)
      × (place_of (only (FILTER_TABLE ∷ [])) FILTER_TIME ≡ 48) × (place_of (only (FILTER_TABLE ∷ [])) FILTER_TYPE ≡ 54)
      × (place_of (only (FILTER_TABLE ∷ [])) CUTOFF ≡ 61)
  pub lent : (place_of (only (WAVE_COMMAND ∷ [])) LENT ≡ 63) × (place_of (only (WAVE_COMMAND ∷ [])) KEPT_PARAM ≡ 65)
  pub funk : (place_of (only (FUNK_TEMPO ∷ [])) FUNK_ONE ≡ 61) × (place_of (only (FUNK_TEMPO ∷ [])) FUNK_TWO ≡ 62)
  -- where all have a byte they stand at the numbers of their labels
  pub same : (place_of each_holds PARAM ≡ PARAM) × (place_of each_holds (WAVE + 14) ≡ WAVE + 14)
      × (place_of each_holds FILTER_POINTER ≡ FILTER_POINTER) × (place_of each_holds FILTER_TIME ≡ FILTER_TIME)
      × (place_of each_holds VOLUME ≡ VOLUME) × (place_of each_holds FUNK_TWO ≡ FUNK_TWO)
  -- one without a byte names the first one, as another does: so bytes are apart only where there are any
  pub none : (place_of none_holds PULSE_LOW ≡ 0) × (place_of none_holds VOLUME ≡ 0)
      × (place_of none_holds FUNK_TWO ≡ 0)
  -- and only the labels of variables have places that are apart
  pub lists : place_of none_holds 127 ≡ place_of none_holds 128
  pub not_within : place_of none_holds 119 ≡ variable_count none_holds
  -- there is no fourth voice, and the second is not the first: 21 labels on stands another byte
  pub no_fourth : place_of none_holds (REST + 7 * 3) ≢ place_of none_holds REST + 7 * 3
  pub not_own : place_of none_holds (REST + 7 + 7 * 2) ≢ place_of none_holds (REST + 7) + 7 * 2
  -- a voice's byte that isn't there has no second one 7 behind it
  pub not_there : place_of none_holds (COMMAND + 7) ≢ place_of none_holds COMMAND + 7
  pub not_together : place_of none_holds FUNK_TWO ≢ place_of none_holds FUNK_ONE + 1
