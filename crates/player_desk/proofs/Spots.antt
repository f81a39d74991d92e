-- What stands in memory as the code of a voice sees it, by spots.
use Rattle.std.proofs.Common.{◌≡◌, ◌≢◌, ℕ, ◌+◌, ◌*◌}
use Rattle.std.proofs.Common.{◌<◌, ◌≤◌, true}
use Rattle.code_runs.specs.Runs.{put}
use Rattle.player_memory.specs.declared.labels.TheConstants.{TEMPO, SLIDES_LOW, SLIDES_HIGH}
use Rattle.player_memory.specs.declared.conditions.TheConstants.{NOTE_DEPENDENT}
use Rattle.player_memory.specs.Labels.{is_own, is_shared}
use Rattle.player_memory.specs.Rooms.{IsElsewhere}
use Rattle.scopes.specs.declared.line.Half.{Half}
use Rattle.scopes.specs.declared.line.Half.TheVariants.{Low, High}
use Rattle.player_desk.proofs.VoiceDesks.{VoiceDesk, Reader}

-- what stands in memory as the code of a voice sees it
pub data Spot : Type 0 where
  Own : (label : ℕ) → Spot
  Shared : (label : ℕ) → Spot
  LowSpot : Spot
  HighSpot : Spot
  Sid : (register : ℕ) → Spot
  Slide : (half : Half) (row : ℕ) → Spot
  Tempo : (voice : ℕ) → Spot
  Others : (label voice : ℕ) → Spot
  Elsewhere : (place : ℕ) → Spot

-- the slides of a half: their list, their bytes on a desk, and one that is written
abbrev pub by_half : {X : Type 0} → Half → X → X → X
by_half Low low high = low
by_half High low high = high

abbrev pub slides_at : Half → ℕ
slides_at half = by_half half SLIDES_LOW SLIDES_HIGH

abbrev pub slides_of : Half → VoiceDesk → ℕ → ℕ
slides_of half d = by_half half d.slide_low d.slide_high

abbrev pub slide_set : Half → ℕ → ℕ → VoiceDesk → VoiceDesk
slide_set half row byte d = record d {
  slide_low = by_half half (put d.slide_low row byte) d.slide_low;
  slide_high = by_half half d.slide_high (put d.slide_high row byte);
}

abbrev pub spot_place : Reader → Spot → ℕ
spot_place r (Own label) = r.layout.address (label + 7 * r.voice)
spot_place r (Shared label) = r.layout.address label
spot_place r LowSpot = r.layout.pointer
spot_place r HighSpot = r.layout.pointer + 1
spot_place r (Sid register) = 0xD400 + register
spot_place r (Slide half row) = r.layout.address (slides_at half) + row
spot_place r (Tempo voice) = r.layout.address (TEMPO + 7 * voice)
spot_place r (Others label voice) = r.layout.address (label + 7 * voice)
spot_place r (Elsewhere place) = place

abbrev pub IsSpot : Reader → Spot → Type 0
IsSpot r (Own label) = is_own label ≡ true
IsSpot r (Shared label) = is_shared label ≡ true
IsSpot r LowSpot = Unit {0}
IsSpot r HighSpot = Unit {0}
IsSpot r (Sid register) = register ≤ 24
IsSpot r (Slide half row) = (r.layout.holds NOTE_DEPENDENT ≡ true) × (row < r.rows)
IsSpot r (Tempo voice) = (voice < 3) × (voice ≢ r.voice)
IsSpot r (Others label voice) = (is_own label ≡ true) × (voice < 3) × (voice ≢ r.voice) × (label ≢ TEMPO)
IsSpot r (Elsewhere place) = IsElsewhere r.layout r.rows place

-- what stands there: other voices' bytes, but for their tempos, and what is elsewhere as before
abbrev pub spot_byte : Reader → Spot → VoiceDesk → ℕ
spot_byte r (Own label) d = d.own label
spot_byte r (Shared label) d = d.shared label
spot_byte r LowSpot d = d.low
spot_byte r HighSpot d = d.high
spot_byte r (Sid register) d = d.sid register
spot_byte r (Slide half row) d = slides_of half d row
spot_byte r (Tempo voice) d = d.shared (TEMPO + 7 * voice)
spot_byte r (Others label voice) d = r.before (r.layout.address (label + 7 * voice))
spot_byte r (Elsewhere place) d = r.before place

-- a byte written at one of the first seven
abbrev pub spot_set : Spot → ℕ → VoiceDesk → VoiceDesk
spot_set (Own label) byte d = record d { own = put d.own label byte }
spot_set (Shared label) byte d = record d { shared = put d.shared label byte }
spot_set LowSpot byte d = record d { low = byte }
spot_set HighSpot byte d = record d { high = byte }
spot_set (Sid register) byte d = record d { sid = put d.sid register byte }
spot_set (Slide half row) byte d = slide_set half row byte d
spot_set (Tempo voice) byte d = record d { shared = put d.shared (TEMPO + 7 * voice) byte }
spot_set (Others label voice) byte d = d
spot_set (Elsewhere place) byte d = d

abbrev pub IsWritten : Spot → Type 0
IsWritten (Own label) = Unit {0}
IsWritten (Shared label) = Unit {0}
IsWritten LowSpot = Unit {0}
IsWritten HighSpot = Unit {0}
IsWritten (Sid register) = Unit {0}
IsWritten (Slide half row) = Unit {0}
IsWritten (Tempo voice) = Unit {0}
IsWritten (Others label voice) = ⊥
IsWritten (Elsewhere place) = ⊥
