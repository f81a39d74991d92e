-- The code of the effect step, run by hand: slides, vibratos and calculated speeds; and what the law on it asks, met
-- there.
use Rattle.std.specs.Prelude.{◌≡◌, ℕ, ◌+◌, ◌-◌, ◌/◌, ◌%◌, true, false, not, nat_eq, nat_lt}
use Rattle.std.specs.Prelude.{if◌then◌else◌}
use Rattle.code_runs.specs.Runs.{put}
use Rattle.song_model.specs.declared.tables.TableRow.{TableRow}
use Rattle.play_model.specs.LookUps.{LookUps}
use Rattle.play_model.specs.Freq.{freq}
use Rattle.play_model.specs.State.{Voice, Playing, start_voice, start_common}
use Rattle.asked_numbers.specs.declared.range.NumberRange.{NumberRange}
use Rattle.scopes.specs.Desk.{Desk, Layout}
use Rattle.scopes.specs.Meaning.{Outcome, Ran, Done, Left, Stuck, each_one, ran}
use Rattle.player_memory.specs.declared.conditions.TheConstants.{PORTA_UP, NOTE_DEPENDENT, EFFECTS}
use Rattle.player_memory.specs.declared.labels.TheConstants.{COMMAND, PARAM, NOTE, LAST_NOTE, VIB_TIME, FREQ_LOW}
use Rattle.player_memory.specs.declared.labels.TheConstants.{FREQ_HIGH}
use Rattle.player_memory.specs.declared.labels.TheConstants.{FREQUENCY_LOWS, FREQUENCY_HIGHS, NEXT_FREQUENCY_LOWS}
use Rattle.player_memory.specs.declared.labels.TheConstants.{NEXT_FREQUENCY_HIGHS, SPEED_LEFTS, SPEED_RIGHTS, PERIODS}
use Rattle.player_memory.specs.declared.labels.TheConstants.{SLIDES_LOW, SLIDES_HIGH}
use Rattle.player_memory.specs.WorkedMemory.{at_1000}
use Rattle.player_memory.specs.WorkedPlays.{its_desk, with_variable}
use Rattle.player_text.specs.declared.joints.TheConstants.{EFFECTED}
use Rattle.slide_code.specs.SlideBlock.{slide_tree, HasHalfTones, HasSpeeds, LooksUpWithin, Runs, KeepsSlide}
use Rattle.slide_code.specs.SlideBlock.{KeepsCommon, Slides}

-- ---- the memory

-- the frequencies stand at $2000 and $2100, the sides of the speed table at $2200 and $2210, the periods at $2220, and
-- the slides at $1100 and $1104
abbrev pub laid : Layout
laid = record at_1000 {
  address = λ label. if nat_eq label FREQUENCY_LOWS then 0x2000
      else if nat_eq label NEXT_FREQUENCY_LOWS then 0x2001
      else if nat_eq label FREQUENCY_HIGHS then 0x2100
      else if nat_eq label NEXT_FREQUENCY_HIGHS then 0x2101
      else if nat_eq label SPEED_LEFTS then 0x2200
      else if nat_eq label SPEED_RIGHTS then 0x2210
      else if nat_eq label PERIODS then 0x2220
      else at_1000.address label;
  holds = λ condition. true;
  open_turns = 255;
  may_read = λ place. true;
  may_write = λ place. true;
}

-- with a list elsewhere
abbrev pub moved_to : ℕ → ℕ → Layout → Layout
moved_to list place layout = record layout {
  address = λ label. if nat_eq label list then place else layout.address label;
}

-- without the code for calculated speeds the slides are the rows' sides, and the periods the left ones
abbrev pub plain : Layout
plain = record (moved_to SLIDES_LOW 0x2210 (moved_to SLIDES_HIGH 0x2200 (moved_to PERIODS 0x2200 laid))) {
  holds = λ condition. not (nat_eq condition NOTE_DEPENDENT);
}

-- no line is kept that stands under a condition, and those alone that do so under this one
abbrev pub bare : Layout
bare = record laid { holds = λ condition. false }

abbrev pub alone : ℕ → Layout
alone its = record laid { holds = λ condition. nat_eq condition its }

-- all are kept but those under this one
abbrev pub without : ℕ → Layout
without its = record laid { holds = λ condition. not (nat_eq condition its) }

-- row 1 is the speed $180, and for a vibrato the period 1 and the depth $80; row 2 is the half tone over 4, and the
-- period 3; row 3 is the speed $7F02
abbrev pub speeds : ℕ → TableRow
speeds number =
    if nat_eq number 1 then record { left = 1; right = 0x80 }
    else if nat_eq number 2 then record { left = 0x83; right = 2 }
    else if nat_eq number 3 then record { left = 0x7F; right = 2 }
    else record { left = 0; right = 0 }

abbrev pub looked_up : LookUps → LookUps
looked_up look = record look { row = λ name number. speeds number }

-- the slide of row 2 may be any
abbrev pub lists : ℕ → ℕ
lists place =
    if nat_lt place 0x1100 then 0
    else if nat_lt place 0x1104 then (if nat_eq place 0x1102 then 0xEE else (speeds (place - 0x1100)).right)
    else if nat_lt place 0x2000 then (if nat_eq place 0x1106 then 0xEE else (speeds (place - 0x1104)).left)
    else if nat_lt place 0x2100 then freq (place - 0x2000) % 256
    else if nat_lt place 0x2200 then freq (place - 0x2100) / 256
    else if nat_lt place 0x2210 then (speeds (place - 0x2200)).left
    else if nat_lt place 0x2220 then (speeds (place - 0x2210)).right
    else (speeds (place - 0x2220)).left % 128

-- ---- runs

-- the second voice with a command and its parameter, a note's number, the vibrato's time and a frequency; its last note
-- is A-4
abbrev pub with_bytes : ℕ → ℕ → ℕ → ℕ → ℕ → ℕ → ℕ → ℕ
with_bytes command param note time low high =
    with_variable (COMMAND + 7) command (with_variable (PARAM + 7) param (with_variable (NOTE + 7) note
    (with_variable (LAST_NOTE + 7) 57 (with_variable (VIB_TIME + 7) time (with_variable (FREQ_LOW + 7) low
    (with_variable (FREQ_HIGH + 7) high lists))))))

-- its code begins, with this command in A
abbrev pub desk_with : ℕ → (ℕ → ℕ) → Desk
desk_with a at = record { cpu = record (its_desk 7 false at).cpu { a = a }; at = at }

abbrev pub slid : Layout → ℕ → ℕ → ℕ → ℕ → ℕ → ℕ → Ran
slid layout command param note time low high =
    ran each_one layout slide_tree (desk_with command (with_bytes command param note time low high))

abbrev pub left_at : Ran → ℕ → ℕ
left_at run label = run.desk.at (0x1006 + label + 7)

-- what it leaves
pub record IsSlid (run : Ran) (way : Outcome) (time low high : ℕ) : Type 0 where
  pub way_is : run.outcome ≡ way
  pub time_is : left_at run VIB_TIME ≡ time
  pub low_is : left_at run FREQ_LOW ≡ low
  pub high_is : left_at run FREQ_HIGH ≡ high

-- it has arrived at a note
pub record IsArrived (run : Ran) (number low high : ℕ) : Type 0 where
  pub slid : IsSlid run Done 5 low high
  pub number_is : run.desk.cpu.a ≡ number

pub record SlidesAreWorked : Type 0 where
  -- from $1234 by $180, up and down, and back over 0 and over $FFFF
  pub up : IsSlid (slid laid 1 1 57 5 0x34 0x12) (Left EFFECTED) 5 0xB4 0x13
  pub down : IsSlid (slid laid 2 1 57 5 0x34 0x12) (Left EFFECTED) 5 0xB4 0x10
  pub over : IsSlid (slid laid 1 1 57 5 0x81 0xFE) (Left EFFECTED) 5 1 0
  pub under : IsSlid (slid laid 2 1 57 5 0x7F 1) (Left EFFECTED) 5 0xFF 0xFF
  -- to A-4, which is $1D46, and to C-0, which is $116
  pub rises : IsSlid (slid laid 3 1 57 5 0x34 0x12) (Left EFFECTED) 5 0xB4 0x13
  pub falls : IsSlid (slid laid 3 1 0 5 0x34 0x12) (Left EFFECTED) 5 0xB4 0x10
  -- it arrives from $180 above and below, and not from $181
  pub from_above : IsArrived (slid laid 3 1 57 5 0xC6 0x1E) 57 0xC6 0x1E
  pub above : IsSlid (slid laid 3 1 57 5 0xC7 0x1E) (Left EFFECTED) 5 0x47 0x1D
  pub from_below : IsArrived (slid laid 3 1 57 5 0xC6 0x1B) 57 0xC6 0x1B
  pub below : IsSlid (slid laid 3 1 57 5 0xC5 0x1B) (Left EFFECTED) 5 0x45 0x1D
  -- it is at the note at once, also at one below 0
  pub tie : IsArrived (slid laid 3 0 57 5 0x34 0x12) 57 0x34 0x12
  pub tie_below : IsArrived (slid laid 3 0 127 5 0x34 0x12) 127 0x34 0x12
  -- by $80 up, and past the period back down
  pub swings : IsSlid (slid laid 4 1 57 0 0x34 0x12) (Left EFFECTED) 2 0xB4 0x12
  pub turns : IsSlid (slid laid 4 1 57 2 0x34 0x12) (Left EFFECTED) 255 0xB4 0x11
  pub goes_on : IsSlid (slid laid 4 1 57 255 0x34 0x12) (Left EFFECTED) 1 0xB4 0x11
  -- by $6F, a quarter of the half tone at A-4, which is $1BE
  pub calculated : IsSlid (slid laid 1 2 57 5 0x34 0x12) (Left EFFECTED) 5 0xA3 0x12
  pub swings_by_note : IsSlid (slid laid 4 2 57 0 0x34 0x12) (Left EFFECTED) 2 0xA3 0x12
  pub slide_low : (slid laid 1 2 57 5 0x34 0x12).desk.at 0x1102 ≡ 0x6F
  pub slide_high : (slid laid 1 2 57 5 0x34 0x12).desk.at 0x1106 ≡ 0
  -- an instrument's vibrato, while no command runs
  pub instrument : IsSlid (ran each_one laid slide_tree (desk_with 4 (with_bytes 0 2 57 0 0x34 0x12)))
      (Left EFFECTED) 2 0xA3 0x12
  -- without the code for calculated speeds
  pub plain_up : IsSlid (slid plain 1 1 57 5 0x34 0x12) (Left EFFECTED) 5 0xB4 0x13
  pub plain_swings : IsSlid (slid plain 4 1 57 0 0x34 0x12) (Left EFFECTED) 2 0xB4 0x12
  -- where the effect step is kept without its own lines a command is stuck, and where it isn't kept nothing is done
  pub alone_up : (slid (alone EFFECTS) 1 1 57 5 0x34 0x12).outcome ≡ Stuck
  pub bare_up : IsSlid (slid bare 1 1 57 5 0x34 0x12) Done 5 0x34 0x12

-- ---- what the law asks is met there

abbrev pub voice_with : ℕ → ℕ → ℕ → Voice
voice_with command param note =
    record start_voice { command = command; param = param; note = note; last_note = 57; freq = 0x1234 }

-- the numbers from A-4 to 127 are listed
abbrev pub its_range : NumberRange
its_range = record { first = 57; count = 71 }

abbrev pub LooksUp : LookUps → ℕ → Voice → Type 0
LooksUp look command v = LooksUpWithin its_range (looked_up look) command v

abbrev pub RunsWith : ℕ → ℕ → Voice → Type 0
RunsWith a command v = Runs command 3 v (desk_with a lists)

pub record GroundsAreWorked (look : LookUps) : Type 0 where
  pub half_tones : HasHalfTones laid 4 lists its_range
  pub speeds : HasSpeeds laid 4 lists (looked_up look) 3
  pub runs : RunsWith 3 3 (voice_with 3 1 57)
  pub below : RunsWith 3 3 (voice_with 3 1 240)
  pub instrument : RunsWith 4 4 (voice_with 0 2 57)
  -- a note that is slid to, one below C-0, and a half tone; another note of another command, and no half tone
  pub slides_to : LooksUp look 3 (voice_with 3 1 57)
  pub slides_below : LooksUp look 3 (voice_with 3 1 240)
  pub half_tone : LooksUp look 1 (voice_with 1 2 57)
  pub other_note : LooksUp look 1 (voice_with 1 1 56)
  pub no_half_tone : LooksUp look 1 (record (voice_with 1 1 57) { last_note = 0 })
  pub keeps : KeepsSlide laid (looked_up look) 1 (voice_with 1 2 57)
  pub keeps_plain : KeepsSlide plain (looked_up look) 3 (voice_with 3 1 57)
  pub common : KeepsCommon laid

pub record OthersAreDenied (look : LookUps) : Type 0 where
  -- each number's frequency is listed; each list has its second label
  pub first_number : ¬ HasHalfTones laid 4 (put lists 0x2039 1) its_range
  pub last_number : ¬ HasHalfTones laid 4 (put lists 0x217F 1) its_range
  pub low_label : ¬ HasHalfTones (moved_to NEXT_FREQUENCY_LOWS 0x2002 laid) 4 lists its_range
  pub high_label : ¬ HasHalfTones (moved_to NEXT_FREQUENCY_HIGHS 0x2100 laid) 4 lists its_range
  -- what is looked up is: the note that is slid to, and each end of a half tone
  pub target : ¬ LooksUp look 3 (voice_with 3 1 56)
  pub half_tone_from : ¬ LooksUp look 1 (record (voice_with 1 2 57) { last_note = 56 })
  pub half_tone_to : ¬ LooksUp look 1 (record (voice_with 1 2 57) { last_note = 127 })
  -- a row has its sides, also row 0, and its period and slide, which is in the room
  pub side : ¬ HasSpeeds laid 4 (put lists 0x2211 0x81) (looked_up look) 3
  pub row_0 : ¬ HasSpeeds laid 4 (put lists 0x2200 1) (looked_up look) 3
  pub period : ¬ HasSpeeds laid 4 (put lists 0x2222 0x83) (looked_up look) 3
  pub slide : ¬ HasSpeeds laid 4 (put lists 0x1105 2) (looked_up look) 3
  pub few : ¬ HasSpeeds laid 3 lists (looked_up look) 3
  pub not_listed : ¬ HasSpeeds (moved_to SLIDES_LOW 0x2200 plain) 4 lists (looked_up look) 3
  -- the command is 1 to 4 and in A, and the voice's, or 4 where it has none
  pub none : ¬ RunsWith 0 0 (voice_with 0 1 57)
  pub fifth : ¬ RunsWith 5 5 (voice_with 5 1 57)
  pub another_a : ¬ RunsWith 2 1 (voice_with 1 1 57)
  pub another : ¬ RunsWith 4 4 (voice_with 1 1 57)
  pub no_vibrato : ¬ RunsWith 1 1 (voice_with 0 1 57)
  pub fourth : ¬ RunsWith 1 1 (voice_with 1 4 57)
  pub frequency : ¬ RunsWith 1 1 (record (voice_with 1 1 57) { freq = 65536 })
  pub note : ¬ RunsWith 3 3 (voice_with 3 1 223)
  pub wide : ¬ RunsWith 3 3 (voice_with 3 1 256)
  -- a command's lines are kept
  pub up : ¬ KeepsSlide bare (looked_up look) 1 (voice_with 1 1 57)
  pub down : ¬ KeepsSlide bare (looked_up look) 2 (voice_with 2 1 57)
  pub tone : ¬ KeepsSlide bare (looked_up look) 3 (voice_with 3 1 57)
  pub tie : ¬ KeepsSlide bare (looked_up look) 3 (voice_with 3 0 57)
  pub swings : ¬ KeepsSlide bare (looked_up look) 4 (voice_with 4 1 57)
  pub calculates : ¬ KeepsSlide plain (looked_up look) 1 (voice_with 1 2 57)
  pub common : ¬ KeepsCommon (alone PORTA_UP)
  pub effects : ¬ KeepsCommon (without EFFECTS)

-- the second voice slides up from $1234, or is at A-4 at once
abbrev pub playing_with : Voice → Playing
playing_with v = record { voice = v; common = start_common 1 }

-- what the law says of a run that has come out so
abbrev pub SlidesAs : LookUps → Ran → ℕ → ℕ → Type 0
SlidesAs look run command param =
    Slides laid 4 1 (desk_with command (with_bytes command param 57 0 0x34 0x12)) run command (looked_up look)
    (playing_with (voice_with command param 57))

pub record RunsAreDenied (look : LookUps) : Type 0 where
  pub way : ¬ SlidesAs look (record (slid laid 1 1 57 0 0x34 0x12) { outcome = Done }) 1 1
  pub number : ¬ SlidesAs look (slid laid 3 0 58 0 0x34 0x12) 3 0
  pub still : ¬ SlidesAs look (slid laid 1 0 57 0 0x34 0x12) 1 1
  pub slide : ¬ SlidesAs look (ran each_one laid slide_tree
      (desk_with 1 (put (with_bytes 1 1 57 0 0x34 0x12) 0x1103 3))) 1 1
