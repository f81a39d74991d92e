-- What a playable song comes to is found by the other look-ups under its new numbers.
use Rattle.std.specs.Prelude.{◌==◌}
use Rattle.std.proofs.Common.{◌≡◌, ◌≢◌, ℕ, ◌⊎◌, Some, refl, inl, inr}
use Rattle.std.proofs.lemmas.Bool.{cases_eq}
use Rattle.song_model.specs.declared.tables.TableName.{TableName}
use Rattle.song_model.specs.declared.tables.TableName.TheVariants.{Wave, Speed}
use Rattle.song_model.specs.declared.songs.Song.{Song}
use Rattle.song_model.specs.LookUp.{table_row, instrument_at}
use Rattle.song_model.specs.Pointers.{instrument_pointer, command_table, wave_row_table}
use Rattle.play_model.specs.LookUps.{LookUps, look_ups_of}
use Rattle.play_model.specs.Used.{IsUsedInstrument}
use Rattle.play_model.specs.Reached.{of_instrument, of_row, IsReached, played, pointed}
use Rattle.play_model.specs.Safe.{IsSafePointer, HasCommand}
use Rattle.same_frames.specs.Maps.{Maps}
use Rattle.same_frames.specs.Agreement.{Agrees}
use Rattle.same_frames.proofs.Choices.{zero_tests}
use Rattle.same_frames.proofs.Slides.{IsSpeedFor}

-- ---- what points

-- a number that names a reached row, or none
abbrev pub MayPoint : Song → TableName → ℕ → Type 0
MayPoint song name p = (p ≡ 0) ⊎ IsReached song name p

pub from_safe : (song : Song) (name : TableName) (p : ℕ) → IsSafePointer song name p → MayPoint song name p
from_safe song name p (inl none) = inl none
from_safe song name p (inr step) = inr step.reached

pub from_instrument : (song : Song) (name : TableName) (i : ℕ) → IsUsedInstrument song i →
    MayPoint song name (instrument_pointer name (instrument_at song i))
from_instrument song name i used = elim (cases_eq (instrument_pointer name (instrument_at song i)) 0) [
  | inl none ↦ inl none
  | inr some ↦ inr (played (of_instrument i used refl some))
]

pub from_row : (song : Song) (name : TableName) (command param : ℕ) → HasCommand song command param →
    command_table command ≡ Some name → MayPoint song name param
from_row song name command param h table = elim (cases_eq param 0) [
  | inl none ↦ inl none
  | inr some ↦ inr (played (of_row h.row h.used (rw h.command_is table) h.param_is some))
]

pub from_wave_row : (song : Song) (name : TableName) (r : ℕ) → IsReached song Wave r →
    wave_row_table (table_row song Wave r).left ≡ Some name → MayPoint song name (table_row song Wave r).right
from_wave_row song name r reached table = elim (cases_eq (table_row song Wave r).right 0) [
  | inl none ↦ inl none
  | inr some ↦ inr (pointed r reached (record { table = table; right = refl; some = some }))
]

-- ---- the other look-ups

module _ (maps : Maps) (song : Song) (other : LookUps) (a : Agrees maps song other) where
  -- both or neither name none
  pub none_alike : (name : TableName) (p : ℕ) → MayPoint song name p → (maps.row name p == 0) ≡ (p == 0)
  none_alike name p may = zero_tests p (maps.row name p) (λ e. rw e (a.rows name).nothing) (some may)
    where
      some : MayPoint song name p → p ≢ 0 → maps.row name p ≢ 0
      some (inl none) is = absurd (is none)
      some (inr reached) is = (a.rows name).some p reached

  no_speed_alike : other.row Speed (maps.row Speed 0) ≡ table_row song Speed 0
  unfolding table_row
  no_speed_alike = rw (a.rows Speed).nothing a.no_speed

  speed_row_alike : (d : ℕ) → MayPoint song Speed d → other.row Speed (maps.row Speed d) ≡ table_row song Speed d
  speed_row_alike d (inl none) = rw none no_speed_alike
  speed_row_alike d (inr reached) = (a.rows Speed).row d reached

  pub speed_alike : (d : ℕ) → MayPoint song Speed d → IsSpeedFor (look_ups_of song) other d (maps.row Speed d)
  speed_alike d may = record { row = speed_row_alike d may; none = none_alike Speed d may }
