-- The code of a note's frequency in memory.
use Rattle.std.proofs.Common.{ℕ, refl}
use Rattle.asked_numbers.specs.declared.range.NumberRange.{NumberRange}
use Rattle.scopes.specs.Desk.{Desk, Layout}
use Rattle.player_memory.specs.declared.labels.TheConstants.{FREQUENCY_LOWS, FREQUENCY_HIGHS}
use Rattle.player_desk.proofs.Laws.{reader_of, voice_desk, lent_of, finds, begins, plays}
use Rattle.pitch_code.specs.PitchBlock.{pitch_tree, PitchBlockSets}
use Rattle.player_memory.specs.Frequencies.{HasFrequencies}
use Rattle.pitch_code.proofs.Frequencies.{FrequenciesAt, sounding, pitch_leads}

pub frequencies_at : (layout : Layout) (rows voice : ℕ) (range : NumberRange) (desk : Desk) →
    HasFrequencies layout rows desk.at range → FrequenciesAt (reader_of layout rows voice desk) range
frequencies_at layout rows voice range desk has = record {
  low = λ n inside. finds layout rows voice desk FREQUENCY_LOWS n _ (has.low n inside);
  high = λ n inside. finds layout rows voice desk FREQUENCY_HIGHS n _ (has.high n inside);
}

pub pitch_block_sets : PitchBlockSets
pitch_block_sets layout rows voice range s desk room uses has inside three at playing =
    plays layout rows voice pitch_tree desk (sounding desk.cpu.a s) refl room uses three at
    (pitch_leads (reader_of layout rows voice desk) range s (lent_of layout desk) (voice_desk layout voice desk)
    (voice_desk layout voice desk) (frequencies_at layout rows voice range desk has) inside
    (begins layout voice desk s playing))
