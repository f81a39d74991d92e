-- The new numbers that were worked out by hand, computed.
use Rattle.std.proofs.Common.{refl}
use Rattle.song_model.specs.LookUp.{table_row, pattern_at, instrument_at}
use Rattle.packed_form.specs.PackedText.{packed_text}
use Rattle.packing_rules.specs.Segments.{first_row, is_closed, are_equal, first_equal, keeps, stand_in}
use Rattle.packing_rules.specs.Renumbering.{speed_rows, speed_number, program_rows, table_number}
use Rattle.packing_rules.specs.Renumbering.{instruments_in_order, instrument_number}
use Rattle.packing_rules.specs.Renumbering.{pattern_text, pattern_texts, pattern_number}
use Rattle.packing_rules.specs.SongSizes.{data_size, packed_size}
use Rattle.packing_rules.specs.WorkedNumbers.{SpeedsAreSharedOnce, PulsesAreStoredOnce, FiltersMoveUp}
use Rattle.packing_rules.specs.WorkedNumbers.{WavesAreStoredOnce, InstrumentsMoveUp, InstrumentsAreInOrder, CrowdedTexts}
use Rattle.packing_rules.specs.WorkedNumbers.{PatternsAreStoredOnce, CrowdedSizes}

pub speeds : SpeedsAreSharedOnce
unfolding packed_text first_row is_closed are_equal first_equal keeps stand_in speed_rows speed_number program_rows
    table_number instruments_in_order instrument_number instrument_at pattern_text pattern_texts pattern_number
    data_size packed_size table_row pattern_at
speeds = (refl, refl)

pub tables : PulsesAreStoredOnce × FiltersMoveUp × WavesAreStoredOnce
unfolding packed_text first_row is_closed are_equal first_equal keeps stand_in speed_rows speed_number program_rows
    table_number instruments_in_order instrument_number instrument_at pattern_text pattern_texts pattern_number
    data_size packed_size table_row pattern_at
tables = ((refl, refl), (refl, refl), (refl, refl))

pub instruments : InstrumentsMoveUp × InstrumentsAreInOrder
unfolding packed_text first_row is_closed are_equal first_equal keeps stand_in speed_rows speed_number program_rows
    table_number instruments_in_order instrument_number instrument_at pattern_text pattern_texts pattern_number
    data_size packed_size table_row pattern_at
instruments = (refl, (refl, refl, refl))

pub patterns : CrowdedTexts × PatternsAreStoredOnce
unfolding packed_text first_row is_closed are_equal first_equal keeps stand_in speed_rows speed_number program_rows
    table_number instruments_in_order instrument_number instrument_at pattern_text pattern_texts pattern_number
    data_size packed_size table_row pattern_at
patterns = (refl, refl)

pub sizes : CrowdedSizes
unfolding packed_text first_row is_closed are_equal first_equal keeps stand_in speed_rows speed_number program_rows
    table_number instruments_in_order instrument_number instrument_at pattern_text pattern_texts pattern_number
    data_size packed_size table_row pattern_at
sizes = (refl, refl)
