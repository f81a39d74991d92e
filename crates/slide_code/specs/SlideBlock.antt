-- The code of the effect step, and what it does. This is the project's own player.
use Rattle.std.specs.Prelude.{◌≡◌, ◌≢◌, ℕ, ◌+◌, ◌%◌, ◌<◌, ◌≤◌, ◌⊎◌, Bool}
use Rattle.std.specs.Prelude.{true, false, ◌&&◌, ◌||◌, ◌==◌}
use Rattle.std.specs.Prelude.{if◌then◌else◌}
use Rattle.std.specs.Prelude.{nat_le}
use Rattle.song_model.specs.declared.tables.TableRow.{TableRow}
use Rattle.song_model.specs.declared.tables.TableName.TheVariants.{Speed}
use Rattle.play_model.specs.LookUps.{LookUps}
use Rattle.play_model.specs.Wrap.{distance}
use Rattle.play_model.specs.Freq.{freq, slide}
use Rattle.play_model.specs.State.{Voice, Playing}
use Rattle.play_model.specs.Helpers.{porta_up, porta_down, tone, vibrato}
use Rattle.play_model.specs.WaveStep.{with_note, wave_command}
use Rattle.play_model.specs.EffectStep.{effect_step}
use Rattle.asked_numbers.specs.declared.range.NumberRange.{NumberRange}
use Rattle.asked_numbers.specs.Range.{IsInRange}
use Rattle.scopes.specs.Desk.{Desk, Layout}
use Rattle.scopes.specs.Trees.{Tree, ScopeTree}
use Rattle.scopes.specs.Meaning.{Outcome, Done, Left, Ran, each_one, ran}
use Rattle.scope_lines.specs.Reach.{nothing_around, has_lines}
use Rattle.scope_lines.specs.Sizes.{size}
use Rattle.player_memory.specs.declared.conditions.TheConstants.{PORTA_UP, PORTA_DOWN, TONE_PORTA, TIE_NOTE, VIBRATO}
use Rattle.player_memory.specs.declared.conditions.TheConstants.{INSTRUMENT_VIBRATO, NOTE_DEPENDENT, WAVE_COMMAND}
use Rattle.player_memory.specs.declared.conditions.TheConstants.{SWINGS, CLIMB, DROP, RISE, SINK, FOUND_NOTE}
use Rattle.player_memory.specs.declared.conditions.TheConstants.{EFFECTS}
use Rattle.player_memory.specs.declared.labels.TheConstants.{FREQUENCY_LOWS, FREQUENCY_HIGHS, NEXT_FREQUENCY_LOWS}
use Rattle.player_memory.specs.declared.labels.TheConstants.{NEXT_FREQUENCY_HIGHS, SPEED_LEFTS, SPEED_RIGHTS, PERIODS}
use Rattle.player_memory.specs.declared.labels.TheConstants.{SLIDES_LOW, SLIDES_HIGH}
use Rattle.player_memory.specs.Rooms.{IsRoom, MayUse}
use Rattle.player_memory.specs.Playing.{IsListed, IsRow, IsPlaying, IsAtVoice, PlaysButSlides, SlidesStay, with_voice}
use Rattle.player_memory.specs.Playing.{there}
use Rattle.player_memory.specs.Frequencies.{HasFrequencies}
use Rattle.player_text.specs.declared.joints.TheConstants.{EFFECTED}
use Rattle.player_text.specs.Steps.{effect_tree}

abbrev pub slide_tree : Tree
slide_tree = effect_tree

-- In a scope that it leaves where the effect is done it has lines; they take 229 bytes where all are kept, and none
-- where none are that stand under a condition.
pub record SlideBlockHasLines : Type 0 where
  pub has : has_lines nothing_around (ScopeTree EFFECTED slide_tree) ≡ true
  pub all : size (λ condition. true) slide_tree ≡ 229
  pub least : size (λ condition. false) slide_tree ≡ 0

-- ---- the rule

-- what a command does in a frame with the parameter of the voice: 1 slides the frequency up, 2 down, 3 to the note, and
-- 4 has it swing
abbrev pub moved_by : ℕ → LookUps → Voice → Voice
moved_by command look v =
    if command == 1 then porta_up look v.param v
    else if command == 2 then porta_down look v.param v
    else if command == 3 then tone look v.param v
    else vibrato look v.param v

-- so the rules say: of the command that runs, of an instrument's vibrato that begins, and of a command of the wave
-- table, which is lent with its parameter
pub record CommandsMove (look : LookUps) : Type 0 where
  pub running : (v : Voice) → 1 ≤ v.command → v.command ≤ 4 → effect_step look v ≡ moved_by v.command look v
  pub begins : (v : Voice) → v.command ≡ 0 → v.param ≢ 0 → v.vib_delay ≡ 1 →
      effect_step look v ≡ moved_by 4 look v
  pub lent : (command param : ℕ) (s : Playing) → 1 ≤ command → command ≤ 4 →
      wave_command look command param s
      ≡ record s {
        voice = record (moved_by command look (record s.voice { command = command; param = param })) {
          command = s.voice.command;
          param = s.voice.param;
        };
      }

-- whether the frequency arrives at the note: with command 3, where the parameter is 0, and where the note is no farther
-- than the speed
abbrev pub arrives : ℕ → LookUps → Voice → Bool
arrives command look v =
    (command == 3) && ((v.param == 0) || nat_le (distance v.freq (freq v.note)) (slide look v.param v.last_note))

-- ---- what runs

-- a note is below 128, or a few half tones below 0, which stand from 224 on
pub record IsNote (note : ℕ) : Type 0 where
  pub byte : note < 256
  pub sounds : (note < 128) ⊎ (224 ≤ note)

-- the command that runs is the voice's, or 4 while it has none, which is its instrument's vibrato
abbrev pub IsOf : ℕ → ℕ → Type 0
IsOf command its = (its ≡ command) ⊎ ((its ≡ 0) × (command ≡ 4))

-- a command 1 to 4 runs, and A is it; its parameter is one of the rows of the speed table, or 0
pub record Runs (command count : ℕ) (v : Voice) (desk : Desk) : Type 0 where
  pub a : desk.cpu.a ≡ command
  pub least : 1 ≤ command
  pub most : command ≤ 4
  pub its : IsOf command v.command
  pub param : v.param ≤ count
  pub frequency : v.freq < 65536
  pub note : IsNote v.note

-- ---- what is kept

-- a command needs the speed that its parameter names: but 3 with 0 is at the note at once
abbrev pub NeedsSpeed : ℕ → ℕ → Type 0
NeedsSpeed command param = command ≡ 3 → param ≢ 0

-- the lines that a command needs are kept
pub record KeepsSlide (layout : Layout) (look : LookUps) (command : ℕ) (v : Voice) : Type 0 where
  pub up : command ≡ 1 → layout.holds PORTA_UP ≡ true
  pub down : command ≡ 2 → layout.holds PORTA_DOWN ≡ true
  pub tone : command ≡ 3 → v.param ≢ 0 → layout.holds TONE_PORTA ≡ true
  pub tie : command ≡ 3 → v.param ≡ 0 → layout.holds TIE_NOTE ≡ true
  pub swings : command ≡ 4 → (layout.holds VIBRATO || layout.holds INSTRUMENT_VIBRATO) ≡ true
  pub calculates : NeedsSpeed command v.param → 128 ≤ (look.row Speed v.param).left →
      layout.holds NOTE_DEPENDENT ≡ true

-- what several features have in common is kept with any of them, and the effect step with each that may run in it
pub record KeepsCommon (layout : Layout) : Type 0 where
  pub swings : (layout.holds VIBRATO || layout.holds INSTRUMENT_VIBRATO) ≡ true → layout.holds SWINGS ≡ true
  pub climb : (layout.holds PORTA_UP || layout.holds TONE_PORTA || layout.holds NOTE_DEPENDENT) ≡ true →
      layout.holds CLIMB ≡ true
  pub drop : (layout.holds PORTA_DOWN || layout.holds TONE_PORTA || layout.holds NOTE_DEPENDENT) ≡ true →
      layout.holds DROP ≡ true
  pub rise : (layout.holds PORTA_UP || layout.holds TONE_PORTA || layout.holds VIBRATO
      || layout.holds INSTRUMENT_VIBRATO) ≡ true → layout.holds RISE ≡ true
  pub sink : (layout.holds PORTA_DOWN || layout.holds TONE_PORTA || layout.holds VIBRATO
      || layout.holds INSTRUMENT_VIBRATO) ≡ true → layout.holds SINK ≡ true
  pub found : (layout.holds TONE_PORTA || layout.holds TIE_NOTE) ≡ true → layout.holds FOUND_NOTE ≡ true
  pub effects : (layout.holds PORTA_UP || layout.holds PORTA_DOWN || layout.holds TONE_PORTA || layout.holds TIE_NOTE
      || layout.holds VIBRATO || layout.holds INSTRUMENT_VIBRATO || layout.holds WAVE_COMMAND) ≡ true →
      layout.holds EFFECTS ≡ true

-- ---- what is read

-- the frequencies of a range of numbers stand in their lists, and each list has another label for the byte behind the
-- one at its own
pub record HasHalfTones (layout : Layout) (rows : ℕ) (at : ℕ → ℕ) (range : NumberRange) : Type 0 where
  pub frequencies : HasFrequencies layout rows at range
  pub next_low : layout.address NEXT_FREQUENCY_LOWS ≡ layout.address FREQUENCY_LOWS + 1
  pub next_high : layout.address NEXT_FREQUENCY_HIGHS ≡ layout.address FREQUENCY_HIGHS + 1

-- The numbers whose frequencies the code looks up lie in the range: that of the note, where command 3 slides to it, and
-- where the speed is calculated both ends of the half tone at the last note.
pub record LooksUpWithin (range : NumberRange) (look : LookUps) (command : ℕ) (v : Voice) : Type 0 where
  pub target : command ≡ 3 → IsInRange range (v.note % 128)
  pub half_tone_from : 128 ≤ (look.row Speed v.param).left → IsInRange range v.last_note
  pub half_tone_to : 128 ≤ (look.row Speed v.param).left → IsInRange range (v.last_note + 1)

-- A row of the speed table stands in two lists. Its period is the left side without bit 7, and its slide has the right
-- side as its low byte and the left one as its high byte, unless the left side has bit 7, which says that the speed is
-- calculated. Where the code for that is kept, slides are bytes of their own; else they are in lists.
pub record HasSpeed (layout : Layout) (rows : ℕ) (at : ℕ → ℕ) (number : ℕ) (row : TableRow) : Type 0 where
  pub sides : IsRow layout rows at SPEED_LEFTS SPEED_RIGHTS number row
  pub period : (128 ≤ row.left → layout.holds NOTE_DEPENDENT ≡ true) → IsListed layout rows at PERIODS number
      (row.left % 128)
  pub low : layout.holds NOTE_DEPENDENT ≡ true → row.left < 128 → at (layout.address SLIDES_LOW + number) ≡ row.right
  pub high : layout.holds NOTE_DEPENDENT ≡ true → row.left < 128 → at (layout.address SLIDES_HIGH + number) ≡ row.left
  pub low_listed : layout.holds NOTE_DEPENDENT ≡ false → IsListed layout rows at SLIDES_LOW number row.right
  pub high_listed : layout.holds NOTE_DEPENDENT ≡ false → IsListed layout rows at SLIDES_HIGH number row.left

-- the rows of the speed table do, and row 0
pub record HasSpeeds (layout : Layout) (rows : ℕ) (at : ℕ → ℕ) (look : LookUps) (count : ℕ) : Type 0 where
  pub few : count < 256
  pub slides : layout.holds NOTE_DEPENDENT ≡ true → count < rows
  pub each : (number : ℕ) → number ≤ count → HasSpeed layout rows at number (look.row Speed number)

-- ---- what it does

-- the way that the block takes: to its own end where the frequency arrives at the note, else out of the effect
abbrev pub way_of : Bool → Outcome
way_of true = Done
way_of false = Left EFFECTED

-- where the frequency arrives the voice is as before, since its note is set behind the block
abbrev pub left_by : ℕ → LookUps → Voice → Voice
left_by command look v = if arrives command look v then v else moved_by command look v

-- then A is the note's number, and the rule sets this note
pub record SetsNote (command : ℕ) (look : LookUps) (v : Voice) (a : ℕ) : Type 0 where
  pub number : a ≡ v.note % 128
  pub is : moved_by command look v ≡ with_note a v

-- the block takes that way, and holds there what the command leaves
pub record Slides (layout : Layout) (rows voice : ℕ) (before : Desk) (run : Ran) (command : ℕ) (look : LookUps)
    (s : Playing) : Type 0 where
  pub way : run.outcome ≡ way_of (arrives command look s.voice)
  pub plays : PlaysButSlides layout rows voice before (there run) (with_voice (left_by command look s.voice) s)
  pub note : arrives command look s.voice ≡ true → SetsNote command look s.voice run.desk.cpu.a
  -- slides are as before, but those that are calculated
  pub slides : layout.holds NOTE_DEPENDENT ≡ true → (row : ℕ) → row < rows → (look.row Speed row).left < 128 →
      SlidesStay layout row run.desk.at before.at

-- In any memory that holds a voice that is playing, the code does a frame of the command that runs.
abbrev pub SlideBlockSteps : Type 0
SlideBlockSteps =
    (layout : Layout) (rows voice count command : ℕ) (range : NumberRange) (look : LookUps) (s : Playing)
    (desk : Desk) → IsRoom layout rows → MayUse layout rows → HasHalfTones layout rows desk.at range →
    HasSpeeds layout rows desk.at look count → voice < 3 → IsAtVoice voice desk → IsPlaying layout voice s desk.at →
    Runs command count s.voice desk → LooksUpWithin range look command s.voice →
    KeepsSlide layout look command s.voice → KeepsCommon layout →
    Slides layout rows voice desk (ran each_one layout slide_tree desk) command look s
