-- The sizes and programs that were worked out by hand, computed.
use Rattle.std.proofs.Common.{refl}
use Rattle.song_model.specs.LookUp.{table_row, pattern_at, instrument_at}
use Rattle.packed_form.specs.PackedText.{packed_text}
use Rattle.packing_rules.specs.Segments.{first_row, is_closed, are_equal, first_equal, keeps, stand_in}
use Rattle.packing_rules.specs.Renumbering.{speed_rows, speed_number, table_number, instruments_in_order}
use Rattle.packing_rules.specs.Renumbering.{instrument_number, pattern_text, pattern_texts}
use Rattle.packing_rules.specs.SongSizes.{data_size, packed_size}
use Rattle.packing_rules.specs.WorkedSizes.{NoteHas42Bytes, EqualPatternsAreStoredOnce}
use Rattle.packing_rules.specs.WorkedPrograms.{EqualProgramsAreStoredOnce, FirstOfThreeStays, PulseProgramsStop}
use Rattle.packing_rules.specs.WorkedPrograms.{JumpsOutAreKept, MiddleEntriesAreKept, FirstOpenOneIsKept, OthersAreKept}
use Rattle.packing_rules.specs.WorkedPrograms.{JumpsIntoDroppedPrograms, JumpsIntoTheMiddleAreKept, LoopsAreAsFar}

pub programs_once : EqualProgramsAreStoredOnce × FirstOfThreeStays × LoopsAreAsFar
unfolding first_row is_closed are_equal first_equal keeps stand_in
programs_once = ((refl, refl), (refl, refl), (refl, refl))

pub programs_stop : PulseProgramsStop
unfolding first_row is_closed are_equal first_equal keeps stand_in
programs_stop = ((refl, refl), (refl, refl))

pub programs_kept : JumpsOutAreKept × MiddleEntriesAreKept × FirstOpenOneIsKept × OthersAreKept
unfolding first_row is_closed are_equal first_equal keeps stand_in
programs_kept = ((refl, refl), (refl, refl), (refl, refl), ((refl, refl), (refl, refl)))

pub programs_jump : JumpsIntoDroppedPrograms × JumpsIntoTheMiddleAreKept
unfolding first_row is_closed are_equal first_equal keeps stand_in
programs_jump = ((refl, refl), ((refl, refl), (refl, refl)))

pub note_has_42 : NoteHas42Bytes
unfolding packed_text first_row is_closed are_equal first_equal keeps stand_in speed_rows speed_number table_number
    instruments_in_order instrument_number instrument_at pattern_text pattern_texts data_size packed_size table_row
    pattern_at
note_has_42 = (refl, refl)

pub patterns_once : EqualPatternsAreStoredOnce
unfolding packed_text first_row is_closed are_equal first_equal keeps stand_in speed_rows speed_number table_number
    instruments_in_order instrument_number instrument_at pattern_text pattern_texts data_size packed_size table_row
    pattern_at
patterns_once = (refl, refl)
