-- A song has a fact exactly where some place gives it.
use Rattle.std.proofs.Common.{◌≢◌, ℕ, refl, sym, ◌∙◌, inl, inr}
use Rattle.std.proofs.lemmas.Bool.Decides.{eqb_tells}
use Rattle.song_model.specs.declared.rows.Row.{Row}
use Rattle.song_model.specs.declared.instruments.Instrument.{Instrument}
use Rattle.song_model.specs.declared.tables.TableRow.{TableRow}
use Rattle.song_model.specs.declared.songs.Song.{Song}
use Rattle.song_model.specs.LookUp.{instrument_at}
use Rattle.song_facts.specs.declared.facts.Fact.{Fact}
use Rattle.song_facts.specs.declared.facts.Fact.TheVariants.{RowTone, RowSlide, RowOnce, FirstMask, Legato, NoHardRestart}
use Rattle.song_facts.specs.declared.facts.Fact.TheVariants.{WaveDelay, GateNote, NoteVibrato, VibratoDelay, NotePulse, NoteFilter}
use Rattle.song_facts.specs.declared.facts.Fact.TheVariants.{VoiceTempo, CommonTempo, FunkTurns, FunkChoice}
use Rattle.song_facts.specs.declared.facts.Fact.TheVariants.{OwnTimer, OwnWave, Subtunes, VoiceTwo, VoiceThree}
use Rattle.song_facts.specs.declared.facts.Fact.TheVariants.{FirstHolds}
use Rattle.song_facts.specs.Hold.{HoldsMore}
use Rattle.song_facts.specs.Facts.{IsTone, IsSlide, IsOnce, IsGateNote, IsMask, IsLegato, KeepsEnvelope, IsDelay}
use Rattle.song_facts.specs.Facts.{HasVibrato, HasVibratoDelay, HasPulse, HasFilter, DifferInTimer, DifferInWave}
use Rattle.song_facts.specs.Facts.{IsVoiceTempo, IsCommonTempo, IsFunkTurns, IsFunkChoice}
use Rattle.song_facts.specs.Facts.{timer_of, HasSuchRow, HasSuchInstrument, HasSuchPair, HasSuchWaveRow, HasFact}
use Rattle.song_places.specs.declared.places.Place.{Place}
use Rattle.song_places.specs.declared.places.Place.TheVariants.{InOrder, InPattern, InInstrument, InWaveTable}
use Rattle.song_places.specs.Needs.{nothing, need_of_fact}
use Rattle.song_places.specs.Places.{IsNeededAt, NeedsFactAt}
use Rattle.song_places.specs.PlaceLaws.{IsFactNeeded, FactsAreNeeded}
use Rattle.song_places.proofs.FeaturePlaces.{row_to, row_from}
use Rattle.song_places.proofs.SeveralSubtunes.{several_place, several_from}
use Rattle.song_places.proofs.HeardBytes.{channel_two, channel_three, heard_place, heard_from}

-- ---- two instruments

-- where two used instruments differ in a number, one of them differs from instrument 1
other_than_first : (song : Song) (number : Instrument → ℕ) → HasSuchPair song (λ one other. number one ≢ number other) →
    HasSuchInstrument song (λ i. number (instrument_at song 1) ≢ number i)
other_than_first song number h =
    elim (eqb_tells (number (instrument_at song 1)) (number (instrument_at song h.one))) [
      | inl same ↦ record { instrument = h.other; used = h.other_used; is_such = λ e. h.differ (sym same.1 ∙ e) }
      | inr differ ↦ record { instrument = h.one; used = h.one_used; is_such = differ.1 }
    ]

-- and instrument 1 is used
with_first : (song : Song) (number : Instrument → ℕ) →
    HasSuchInstrument song (λ i. number (instrument_at song 1) ≢ number i) →
    HasSuchPair song (λ one other. number one ≢ number other)
with_first song number h = record {
  one = 1;
  other = h.instrument;
  one_used = inl refl;
  other_used = h.used;
  differ = h.is_such;
}

-- ---- from what is had to its place

row_place : (song : Song) (fact : Fact) → HasSuchRow song (need_of_fact song fact).row → IsFactNeeded song fact
row_place song fact h =
    let at = row_to song (need_of_fact song fact).row h.row h.used h.is_such in
    record { place = InPattern h.used.pattern at.0; needs = at.1 }

instrument_place : (song : Song) (fact : Fact) → HasSuchInstrument song (need_of_fact song fact).instrument →
    IsFactNeeded song fact
instrument_place song fact h =
    record { place = InInstrument h.instrument; needs = record { used = h.used; is_meant = h.is_such } }

wave_row_place : (song : Song) (fact : Fact) → HasSuchWaveRow song (need_of_fact song fact).wave_row →
    IsFactNeeded song fact
wave_row_place song fact h =
    record { place = InWaveTable h.p; needs = record { reached = h.reached; is_meant = h.is_such } }

pub has_fact_place : (song : Song) (fact : Fact) → HasFact song fact → IsFactNeeded song fact
has_fact_place song RowTone h = row_place song RowTone h
has_fact_place song RowSlide h = row_place song RowSlide h
has_fact_place song RowOnce h = row_place song RowOnce h
has_fact_place song FirstMask h = instrument_place song FirstMask h
has_fact_place song Legato h = instrument_place song Legato h
has_fact_place song NoHardRestart h = instrument_place song NoHardRestart h
has_fact_place song WaveDelay h = wave_row_place song WaveDelay h
has_fact_place song GateNote h = row_place song GateNote h
has_fact_place song NoteVibrato h = instrument_place song NoteVibrato h
has_fact_place song VibratoDelay h = instrument_place song VibratoDelay h
has_fact_place song NotePulse h = instrument_place song NotePulse h
has_fact_place song NoteFilter h = instrument_place song NoteFilter h
has_fact_place song VoiceTempo h = row_place song VoiceTempo h
has_fact_place song CommonTempo h = row_place song CommonTempo h
has_fact_place song FunkTurns h = row_place song FunkTurns h
has_fact_place song FunkChoice h = row_place song FunkChoice h
has_fact_place song OwnTimer h = instrument_place song OwnTimer (other_than_first song timer_of h)
has_fact_place song OwnWave h = instrument_place song OwnWave (other_than_first song (λ i. i.first_wave) h)
has_fact_place song Subtunes h = several_place song h
has_fact_place song VoiceTwo h = heard_place song VoiceTwo 2 channel_two (λ s b names. (refl, names)) h
has_fact_place song VoiceThree h = heard_place song VoiceThree 3 channel_three (λ s b names. (refl, names)) h
has_fact_place song FirstHolds h = instrument_place song FirstHolds h

-- ---- and from a place to what is had

row_had : (song : Song) (IsSuch : Row → Type 0) (place : Place) →
    IsNeededAt song (record nothing { row = IsSuch }) place → HasSuchRow song IsSuch
row_had song IsSuch (InOrder s c i) at = absurd at.is_meant
row_had song IsSuch (InPattern p i) at =
    record { row = at.row; used = row_from song IsSuch p i at; is_such = at.is_meant }
row_had song IsSuch (InInstrument n) at = absurd at.is_meant
row_had song IsSuch (InWaveTable p) at = absurd at.is_meant

instrument_had : (song : Song) (IsSuch : Instrument → Type 0) (place : Place) →
    IsNeededAt song (record nothing { instrument = IsSuch }) place → HasSuchInstrument song IsSuch
instrument_had song IsSuch (InOrder s c i) at = absurd at.is_meant
instrument_had song IsSuch (InPattern p i) at = absurd at.is_meant
instrument_had song IsSuch (InInstrument n) at = record { instrument = n; used = at.used; is_such = at.is_meant }
instrument_had song IsSuch (InWaveTable p) at = absurd at.is_meant

wave_row_had : (song : Song) (IsSuch : TableRow → Type 0) (place : Place) →
    IsNeededAt song (record nothing { wave_row = IsSuch }) place → HasSuchWaveRow song IsSuch
wave_row_had song IsSuch (InOrder s c i) at = absurd at.is_meant
wave_row_had song IsSuch (InPattern p i) at = absurd at.is_meant
wave_row_had song IsSuch (InInstrument n) at = absurd at.is_meant
wave_row_had song IsSuch (InWaveTable p) at = record { p = p; reached = at.reached; is_such = at.is_meant }

pub has_fact : (song : Song) (fact : Fact) (place : Place) → NeedsFactAt song fact place → HasFact song fact
has_fact song RowTone place at = row_had song IsTone place at
has_fact song RowSlide place at = row_had song IsSlide place at
has_fact song RowOnce place at = row_had song IsOnce place at
has_fact song FirstMask place at = instrument_had song IsMask place at
has_fact song Legato place at = instrument_had song IsLegato place at
has_fact song NoHardRestart place at = instrument_had song KeepsEnvelope place at
has_fact song WaveDelay place at = wave_row_had song IsDelay place at
has_fact song GateNote place at = row_had song IsGateNote place at
has_fact song NoteVibrato place at = instrument_had song HasVibrato place at
has_fact song VibratoDelay place at = instrument_had song HasVibratoDelay place at
has_fact song NotePulse place at = instrument_had song HasPulse place at
has_fact song NoteFilter place at = instrument_had song HasFilter place at
has_fact song VoiceTempo place at = row_had song IsVoiceTempo place at
has_fact song CommonTempo place at = row_had song IsCommonTempo place at
has_fact song FunkTurns place at = row_had song IsFunkTurns place at
has_fact song FunkChoice place at = row_had song IsFunkChoice place at
has_fact song OwnTimer place at =
    with_first song timer_of (instrument_had song (DifferInTimer (instrument_at song 1)) place at)
has_fact song OwnWave place at =
    with_first song (λ i. i.first_wave) (instrument_had song (DifferInWave (instrument_at song 1)) place at)
has_fact song Subtunes place at = several_from song place at
has_fact song VoiceTwo place at = heard_from song 2 place at
has_fact song VoiceThree place at = heard_from song 3 place at
has_fact song FirstHolds place at = instrument_had song (HoldsMore (instrument_at song 1)) place at

pub facts_are_needed : FactsAreNeeded
facts_are_needed song fact =
    (λ h. has_fact_place song fact h, λ needed. has_fact song fact needed.place needed.needs)
