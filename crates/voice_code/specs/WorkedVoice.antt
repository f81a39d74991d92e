-- The code of a voice in a frame, run by hand: a voice that waits, one whose rest is due, and one that isn't run; and what
-- a voice in a frame isn't.
use Rattle.std.specs.Prelude.{◌≡◌, ℕ, ◌+◌, false, nat_eq, List, [], ◌∷◌}
use Rattle.std.specs.List.{list_any}
use Rattle.code_runs.specs.Runs.{put}
use Rattle.song_model.specs.declared.orders.Order.{Order}
use Rattle.play_model.specs.LookUps.{LookUps}
use Rattle.play_model.specs.State.{Playing, start_voice, start_common}
use Rattle.scopes.specs.Desk.{Layout}
use Rattle.scopes.specs.Meaning.{Outcome, Done, Left, Ran, each_one, ended, ran}
use Rattle.player_memory.specs.declared.conditions.TheConstants.{PULSE_TABLE, OWN_TIMER, FUNK_TEMPO, VOICE_TWO, VOICE_THREE}
use Rattle.player_memory.specs.declared.labels.TheConstants.{TICK, WAVE, AD, SR, FREQ_LOW, FREQ_HIGH, PULSE_LOW}
use Rattle.player_memory.specs.declared.labels.TheConstants.{PULSE_HIGH, GATE_TIMER, OFFSET, REST, LENT, ONE_TIMER}
use Rattle.player_memory.specs.WorkedMemory.{at_1000}
use Rattle.player_memory.specs.WorkedPlays.{its_memory, its_desk, with_variable}
use Rattle.player_text.specs.declared.joints.TheConstants.{SOUNDS}
use Rattle.player_text.specs.Texts.{voice_tree}
use Rattle.voice_code.specs.VoiceBlock.{VoicePlays}

-- these conditions hold and no others
abbrev pub holding : List ℕ → Layout
holding conditions = record at_1000 { holds = λ condition. list_any (nat_eq condition) conditions }

-- those for voices, alone or with that of the pulse table, or of gateoff timers of their own
abbrev pub bare : Layout
bare = holding (VOICE_TWO ∷ VOICE_THREE ∷ [])

abbrev pub pulsing : Layout
pulsing = holding (PULSE_TABLE ∷ VOICE_TWO ∷ VOICE_THREE ∷ [])

abbrev pub timing : Layout
timing = holding (OWN_TIMER ∷ VOICE_TWO ∷ VOICE_THREE ∷ [])

-- the second voice, in the middle of a row, with bytes for its registers, and its gateoff timer, which also stands for all
abbrev pub waiting : ℕ → ℕ
waiting =
    with_variable (TICK + 7) 3 (with_variable (GATE_TIMER + 7) 1 (with_variable ONE_TIMER 1 (with_variable (OFFSET + 7) 5
    (with_variable (WAVE + 7) 0x41 (with_variable (AD + 7) 0x09 (with_variable (SR + 7) 0xA0
    (with_variable (FREQ_LOW + 7) 0x12 (with_variable (FREQ_HIGH + 7) 0x34
    (with_variable (PULSE_LOW + 7) 0x56 (with_variable (PULSE_HIGH + 7) 0x18 its_memory))))))))))

-- a rest is due
abbrev pub resting : ℕ → ℕ
resting = with_variable (TICK + 7) 2 (with_variable (REST + 7) 4 waiting)

abbrev pub voiced_in : Layout → (ℕ → ℕ) → Ran
voiced_in layout at = ran each_one layout voice_tree (its_desk 7 false at)

abbrev pub voiced : (ℕ → ℕ) → Ran
voiced at = voiced_in bare at

-- the registers of the second voice
pub record HasSounds (run : Ran) (low high pulse_low pulse_high wave ad sr : ℕ) : Type 0 where
  pub low_is : run.desk.at 0xD407 ≡ low
  pub high_is : run.desk.at 0xD408 ≡ high
  pub pulse_low_is : run.desk.at 0xD409 ≡ pulse_low
  pub pulse_high_is : run.desk.at 0xD40A ≡ pulse_high
  pub wave_is : run.desk.at 0xD40B ≡ wave
  pub ad_is : run.desk.at 0xD40C ≡ ad
  pub sr_is : run.desk.at 0xD40D ≡ sr

pub record IsVoiced (run : Ran) (tick rest cost : ℕ) : Type 0 where
  pub ends : run.outcome ≡ Done
  pub tick_is : run.desk.at (0x1006 + TICK + 7) ≡ tick
  pub rest_is : run.desk.at (0x1006 + REST + 7) ≡ rest
  pub cost_is : run.cost ≡ cost

-- a voice that waits, and one whose rest is due; its pulse width is that of its bytes where the code of the pulse table
-- is kept, and else 0
pub record VoicesAreWorked : Type 0 where
  pub waits : IsVoiced (voiced waiting) 2 0 24
  pub sounds : HasSounds (voiced waiting) 0x12 0x34 0 0 0x40 0x09 0xA0
  pub rests : IsVoiced (voiced resting) 1 3 26
  -- it is due by the timer that stands for all, or by its own where the lines for that are kept, and not by the other
  pub by_one : IsVoiced (voiced (with_variable (GATE_TIMER + 7) 5 resting)) 1 3 26
  pub not_by_one : IsVoiced (voiced (with_variable ONE_TIMER 5 resting)) 1 4 26
  pub by_own : IsVoiced (voiced_in timing (with_variable ONE_TIMER 5 resting)) 1 3 26
  pub not_by_own : IsVoiced (voiced_in timing (with_variable (GATE_TIMER + 7) 5 resting)) 1 4 26
  pub pulsing_waits : IsVoiced (voiced_in pulsing waiting) 2 0 28
  pub pulsing_sounds : HasSounds (voiced_in pulsing waiting) 0x12 0x34 0x56 0x08 0x40 0x09 0xA0
  pub first : (voiced waiting).desk.at 0xD400 ≡ 0
  -- where its channel alone has nothing to play, or that of the third voice neither, it isn't run, and its registers are
  -- written
  pub still : IsVoiced (voiced_in (holding (VOICE_THREE ∷ [])) resting) 2 4 17
  pub both_still : IsVoiced (voiced_in (holding []) resting) 2 4 17
  pub still_sounds : HasSounds (voiced_in (holding []) resting) 0x12 0x34 0 0 0x40 0x09 0xA0
  -- it is where the third one's has nothing, and where the voices take turns between two tempos
  pub other_still : IsVoiced (voiced_in (holding (VOICE_TWO ∷ [])) resting) 1 3 28
  pub turns : IsVoiced (voiced_in (holding (FUNK_TEMPO ∷ [])) resting) 1 3 26

-- ---- what isn't left so

-- a voice with this frequency, and other fields as they begin
abbrev pub sounding : Playing
sounding = record { voice = record start_voice { freq = 0x3412 }; common = start_common 1 }

-- a run that has left this memory, with this in X, in this way
abbrev pub LeftAs : LookUps → (ℕ → List ℕ) → Order → Outcome → ℕ → (ℕ → ℕ) → Type 0
LeftAs look packed order way x at =
    VoicePlays bare 4 1 256 look packed order (its_desk 7 false waiting) (ended way (its_desk x false at) 0) sounding

pub record OthersAreDenied (look : LookUps) (packed : ℕ → List ℕ) (order : Order) : Type 0 where
  pub way : ¬ LeftAs look packed order (Left SOUNDS) 7 (voiced waiting).desk.at
  pub other_x : ¬ LeftAs look packed order Done 14 (voiced waiting).desk.at
  pub lent : ¬ LeftAs look packed order Done 7 (with_variable LENT 1 (voiced waiting).desk.at)
  -- a register of the voice, of another voice, and the volume's
  pub own_register : ¬ LeftAs look packed order Done 7 (put (voiced waiting).desk.at 0xD407 0x13)
  pub other_register : ¬ LeftAs look packed order Done 7 (put (voiced waiting).desk.at 0xD40E 1)
  pub volume : ¬ LeftAs look packed order Done 7 (put (voiced waiting).desk.at 0xD418 1)
  -- a byte of another voice, and one elsewhere
  pub other_voice : ¬ LeftAs look packed order Done 7 (with_variable TICK 9 (voiced waiting).desk.at)
  pub elsewhere : ¬ LeftAs look packed order Done 7 (put (voiced waiting).desk.at 0x2000 1)
