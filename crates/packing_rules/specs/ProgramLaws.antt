-- What a reader may rely on in the definitions of programs that are stored once.
use Rattle.std.specs.Prelude.{◌≡◌, ℕ, true, false, map}
use Rattle.song_model.specs.declared.songs.Song.{Song}
use Rattle.play_model.specs.Playable.{IsPlayable}
use Rattle.packing_rules.specs.Segments.{ProgramTable, IsWhole, keeps, stand_in}
use Rattle.packing_rules.specs.ProgramMaps.{retargeted, KeepsPrograms, rows_read}
use Rattle.packing_rules.specs.UsedSets.{UsedSets, AreUsedSets}
use Rattle.packing_rules.specs.Renumbering.{wave_row, wave_programs, pulse_programs, filter_programs}

-- the map to the rows that stand for others keeps programs, where each jump goes to what stands for its target
abbrev pub StandInsKeepPrograms : Type 0
StandInsKeepPrograms = (table : ProgramTable) → IsWhole table →
    KeepsPrograms table.pulse table.reached table.rows (map (retargeted (stand_in table)) table.rows) (stand_in table)

-- what stands for a row stays, and a row that stays stands for itself
abbrev pub StandInsStay : Type 0
StandInsStay = (table : ProgramTable) (p : ℕ) → IsWhole table → table.reached p ≡ true →
    keeps table (stand_in table p) ≡ true

abbrev pub KeptStandForThemselves : Type 0
KeptStandForThemselves = (table : ProgramTable) (p : ℕ) → IsWhole table → keeps table p ≡ true → stand_in table p ≡ p

-- the wave table with new pointers into the other tables is read as the wave table is, with these pointers
abbrev pub NewPointersAreRead : Type 0
NewPointersAreRead = (song : Song) (used : UsedSets) (n p : ℕ) →
    rows_read false (map (wave_row song used) song.wave) n p ≡ map (wave_row song used) (rows_read false song.wave n p)

-- the tables of a song that can be played are whole, where foreign pointers have their new numbers
abbrev pub PlayableProgramsAreWhole : Type 0
PlayableProgramsAreWhole = (song : Song) (used : UsedSets) → IsPlayable song → AreUsedSets song used →
    IsWhole (wave_programs song used) × IsWhole (pulse_programs song used) × IsWhole (filter_programs song used)
