-- Which layouts keep a song's lines, and which don't, for each of these alone, worked by hand.
use Rattle.std.specs.Prelude.{◌≡◌, ℕ, ◌^◌, true, false}
use Rattle.play_model.specs.declared.options.Options.{Options}
use Rattle.play_model.specs.State.{no_options, at_speed}
use Rattle.scopes.specs.Desk.{Layout}
use Rattle.scope_lines.specs.Readings.{holds_in}
use Rattle.player_memory.specs.declared.conditions.TheConstants.{TRANSPOSES, PORTA_UP, TONE_PORTA, VIBRATO}
use Rattle.player_memory.specs.declared.conditions.TheConstants.{SKIP_EFFECTS, SKIP_PULSE, TIMED, SKIP_FIRST, RISE}
use Rattle.player_memory.specs.declared.conditions.TheConstants.{WAVE_COMMAND, GATE_NOTE, ROW_COMMAND, SPECIAL_ROW}
use Rattle.player_memory.specs.declared.conditions.TheConstants.{EFFECTS, FILTER_USED, SET_CUTOFF}
use Rattle.player_memory.specs.declared.conditions.TheConstants.{HELD_NOTE, FIRST_HOLDS}
use Rattle.song_facts.specs.declared.facts.Facts.{Facts}
use Rattle.song_facts.specs.Facts.{no_facts}
use Rattle.kept_lines.specs.Asked.{asked}
use Rattle.kept_lines.specs.KeptLines.{kept_set}
use Rattle.kept_blocks.specs.KeptBlocks.{KeepsLines}

-- a layout in which the conditions of a set hold
abbrev pub with_set : Layout → ℕ → Layout
with_set layout set = record layout { holds = holds_in set }

-- of a song with a keyoff
abbrev pub gate_noted : Facts
gate_noted = record no_facts { gate_note = true }

-- A layout keeps the lines of a song where it has the song's set, and not where it has that of another song. One of a
-- song's features or facts, of what these have in common, of the options, or the timer, can't be the other way.
pub record LayoutsAreWorked (layout : Layout) (options : Options) : Type 0 where
  pub its : KeepsLines (with_set layout (kept_set (asked (2 ^ VIBRATO) gate_noted) (at_speed 2))) (2 ^ VIBRATO)
      gate_noted (at_speed 2)
  pub another : ¬ KeepsLines (with_set layout (kept_set (asked (2 ^ VIBRATO) no_facts) no_options)) (2 ^ TONE_PORTA)
      no_facts no_options
  pub feature : layout.holds TRANSPOSES ≡ false → ¬ KeepsLines layout (2 ^ TRANSPOSES) no_facts options
  pub fact : layout.holds GATE_NOTE ≡ false → ¬ KeepsLines layout 0 gate_noted options
  pub other_fact : layout.holds GATE_NOTE ≡ true → ¬ KeepsLines layout 0 no_facts options
  pub common : layout.holds RISE ≡ false → ¬ KeepsLines layout (2 ^ PORTA_UP) no_facts options
  pub shared : layout.holds ROW_COMMAND ≡ false →
      ¬ KeepsLines layout 0 (record no_facts { row_once = true }) options
  pub held : layout.holds HELD_NOTE ≡ false → ¬ KeepsLines layout 0 (record no_facts { legato = true }) options
  pub first_holds : layout.holds FIRST_HOLDS ≡ false →
      ¬ KeepsLines layout 0 (record no_facts { legato = true; first_holds = true }) options
  pub none_holds : layout.holds FIRST_HOLDS ≡ true →
      ¬ KeepsLines layout 0 (record no_facts { legato = true }) options
  pub special : layout.holds SPECIAL_ROW ≡ false → ¬ KeepsLines layout (2 ^ WAVE_COMMAND) no_facts options
  pub runs : layout.holds EFFECTS ≡ false → ¬ KeepsLines layout (2 ^ WAVE_COMMAND) no_facts options
  pub filter : layout.holds FILTER_USED ≡ false → ¬ KeepsLines layout (2 ^ SET_CUTOFF) no_facts options
  pub effects : layout.holds SKIP_EFFECTS ≡ true → ¬ KeepsLines layout 0 no_facts no_options
  pub pulse : layout.holds SKIP_PULSE ≡ true → ¬ KeepsLines layout 0 no_facts no_options
  pub first : layout.holds SKIP_FIRST ≡ true → ¬ KeepsLines layout 0 no_facts no_options
  pub once : layout.holds TIMED ≡ true → ¬ KeepsLines layout 0 no_facts no_options
  pub twice : layout.holds TIMED ≡ false → ¬ KeepsLines layout 0 no_facts (at_speed 2)
