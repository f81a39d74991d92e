-- What a player may do without where a song doesn't use it, and the bits that stand for it. The numbering is
-- this project's own.
use Rattle.std.specs.Prelude.{ℕ}
use Rattle.song_model.specs.declared.features.Feature.{Feature}
use Rattle.song_model.specs.declared.features.Feature.TheVariants.{Transpose, Repeat, PortaUp, PortaDown, TonePorta}
use Rattle.song_model.specs.declared.features.Feature.TheVariants.{TieNote, Vibrato, InstrumentVibrato, NoteDependent}
use Rattle.song_model.specs.declared.features.Feature.TheVariants.{SetAd, SetSr, SetWave, SetWavePointer, PulseTable}
use Rattle.song_model.specs.declared.features.Feature.TheVariants.{SetPulsePointer, FilterTable, SetFilterPointer}
use Rattle.song_model.specs.declared.features.Feature.TheVariants.{FilterControl, Cutoff, Volume, FunkTempo, SetTempo}
use Rattle.song_model.specs.declared.features.Feature.TheVariants.{WaveTable, WaveCommand}

-- the bit of a feature
abbrev pub bit_of : Feature → ℕ
bit_of Transpose = 0
bit_of Repeat = 1
bit_of PortaUp = 2
bit_of PortaDown = 3
bit_of TonePorta = 4
bit_of TieNote = 5
bit_of Vibrato = 6
bit_of InstrumentVibrato = 7
bit_of NoteDependent = 8
bit_of SetAd = 9
bit_of SetSr = 10
bit_of SetWave = 11
bit_of SetWavePointer = 12
bit_of PulseTable = 13
bit_of SetPulsePointer = 14
bit_of FilterTable = 15
bit_of SetFilterPointer = 16
bit_of FilterControl = 17
bit_of Cutoff = 18
bit_of Volume = 19
bit_of FunkTempo = 20
bit_of SetTempo = 21
bit_of WaveTable = 22
bit_of WaveCommand = 23
