-- What is told of the subtunes of a PSID file, and drawn: how long each is, and what its calls cost.
use Rattle.std.specs.Prelude.{◌≡◌, ℕ, zero, suc, ◌+◌, ◌-◌, ◌<◌, List, [], ◌∷◌, ◌++◌, option_map}
use Rattle.cpu6502.specs.declared.stop.CallStop.{CallStop}
use Rattle.psid.specs.declared.header.Psid.{Psid}
use Rattle.song_length.specs.declared.measuring.Measured.{Measured}
use Rattle.song_length.specs.declared.measuring.Repeat.{Repeat}
use Rattle.song_length.specs.Told.{IsMeasured, CostSo, StopsAt}
use Rattle.song_chart.specs.declared.picture.Again.{Again}
use Rattle.song_chart.specs.Picture.{chart_text}
use Rattle.jobs.specs.Lines.{measured_line, stop_line}

-- of the first subtunes of a file, so many, this is told in order: of each, of its first plays, so many
abbrev pub AreMeasured : Psid → ℕ → ℕ → List Measured → Type 0
AreMeasured psid calls zero told = told ≡ []
AreMeasured psid calls (suc subtune) told =
    (earlier : List Measured) × (last : Measured) × AreMeasured psid calls subtune earlier
    × IsMeasured psid subtune calls last × (told ≡ earlier ++ last ∷ [])

-- the lines of subtunes, the first of which has this number
abbrev pub measured_from : ℕ → ℕ → List Measured → List (List ℕ)
measured_from calls subtune [] = []
measured_from calls subtune (told ∷ rest) = measured_line calls subtune told ∷ measured_from calls (subtune + 1) rest

-- those of subtunes from the first on, which has number 1
abbrev pub measured_lines : ℕ → List Measured → List (List ℕ)
measured_lines calls told = measured_from calls 1 told

-- the lines tell the lengths of the first subtunes, so many
pub record TellLengths (psid : Psid) (calls subtunes : ℕ) (lines : List (List ℕ)) : Type 0 where
  pub told : List Measured
  pub are : AreMeasured psid calls subtunes told
  pub lines_are : lines ≡ measured_lines calls told

-- a call of a subtune, one of its first ones, doesn't return; of each subtune before it its length is told
pub record StopsMeasuring (psid : Psid) (calls : ℕ) (lines : List (List ℕ)) : Type 0 where
  pub subtune : ℕ
  pub there : subtune < psid.header.songs
  pub earlier : List (List ℕ)
  pub tell : TellLengths psid calls subtune earlier
  pub call : ℕ
  pub reason : CallStop
  pub stops : StopsAt psid subtune calls call reason
  pub lines_are : lines ≡ earlier ++ stop_line reason call ∷ []

-- where a song begins again whose state comes again so
abbrev pub again_of : Repeat → Again
again_of repeat = record { from = repeat.from; length = repeat.length }

-- the picture of what each of the first plays of a subtune costs, so many; the subtune is counted from 1
pub record IsChart (psid : Psid) (subtune calls : ℕ) (file : List ℕ) : Type 0 where
  pub cycles : List ℕ
  pub cost : CostSo psid (subtune - 1) calls cycles
  pub told : Measured
  pub is_told : IsMeasured psid (subtune - 1) calls told
  pub file_is : file ≡ chart_text subtune cycles (option_map again_of told.repeat)
