-- The code of a note's frequency, and what it does. This is the project's own player.
use Rattle.std.specs.Prelude.{ℕ, ◌<◌}
use Rattle.play_model.specs.State.{Playing}
use Rattle.play_model.specs.WaveStep.{with_note}
use Rattle.asked_numbers.specs.declared.range.NumberRange.{NumberRange}
use Rattle.asked_numbers.specs.Range.{IsInRange}
use Rattle.scopes.specs.Desk.{Desk, Layout}
use Rattle.scopes.specs.Trees.{Tree, tree_of}
use Rattle.scopes.specs.Meaning.{each_one, ran}
use Rattle.player_memory.specs.Rooms.{IsRoom, MayUse}
use Rattle.player_memory.specs.Playing.{IsPlaying, IsAtVoice, Plays}
use Rattle.player_memory.specs.Frequencies.{HasFrequencies}
use Rattle.player_text.specs.declared.pitch.TheConstants.{PITCH}

abbrev pub pitch_tree : Tree
pitch_tree = tree_of PITCH.now

-- In any memory that holds a voice that is playing, the code sets the note that is in A. It is one of a range, whose
-- frequencies stand in their lists.
abbrev pub PitchBlockSets : Type 0
PitchBlockSets =
    (layout : Layout) (rows voice : ℕ) (range : NumberRange) (s : Playing) (desk : Desk) → IsRoom layout rows →
    MayUse layout rows → HasFrequencies layout rows desk.at range → IsInRange range desk.cpu.a → voice < 3 →
    IsAtVoice voice desk → IsPlaying layout voice s desk.at →
    Plays layout rows voice desk (ran each_one layout pitch_tree desk)
    (record s { voice = with_note desk.cpu.a s.voice })
