-- A song that adds no row has no fact that the song hasn't.
use Rattle.std.proofs.Common.{ℕ, ◌<◌, lit≤, subst}
use Rattle.song_model.specs.declared.rows.Row.{Row}
use Rattle.song_model.specs.declared.instruments.Instrument.{Instrument}
use Rattle.song_model.specs.declared.tables.TableRow.{TableRow}
use Rattle.song_model.specs.declared.tables.TableName.TheVariants.{Wave}
use Rattle.song_model.specs.declared.songs.Song.{Song}
use Rattle.song_model.specs.LookUp.{instrument_at}
use Rattle.play_model.specs.Used.{IsChannel}
use Rattle.song_facts.specs.declared.facts.Fact.TheVariants.{RowTone, RowSlide, RowOnce, FirstMask, Legato}
use Rattle.song_facts.specs.declared.facts.Fact.TheVariants.{NoHardRestart, WaveDelay, GateNote, NoteVibrato}
use Rattle.song_facts.specs.declared.facts.Fact.TheVariants.{VibratoDelay, NotePulse, NoteFilter, VoiceTempo}
use Rattle.song_facts.specs.declared.facts.Fact.TheVariants.{CommonTempo, FunkTurns, FunkChoice, OwnTimer, OwnWave}
use Rattle.song_facts.specs.declared.facts.Fact.TheVariants.{Subtunes, VoiceTwo, VoiceThree, FirstHolds}
use Rattle.song_facts.specs.Facts.{IsTone, IsSlide, IsOnce, IsVoiceTempo, IsCommonTempo, IsFunkTurns, IsFunkChoice}
use Rattle.song_facts.specs.Facts.{IsGateNote, IsHeard, IsMask, IsLegato, KeepsEnvelope, HasVibrato, HasVibratoDelay}
use Rattle.song_facts.specs.Facts.{HasPulse, HasFilter, DifferInTimer, DifferInWave, IsDelay, HasSuchRow, HasChannelRow}
use Rattle.song_facts.specs.Facts.{HasSuchInstrument, HasSuchPair, HasSuchWaveRow, AddsNoFact}
use Rattle.song_facts.specs.Hold.{HoldsMore}
use Rattle.same_uses.specs.SameUses.{AddsNoRow}
use Rattle.same_uses.proofs.Parts.{same_row, same_instrument, row_used, instrument_used}
use Rattle.same_uses.proofs.Reached.{row_reached}

module _ (song other : Song) (adds : AddsNoRow song other) where
  such_row : (IsSuch : Row → Type 0) → HasSuchRow other IsSuch → HasSuchRow song IsSuch
  such_row IsSuch has =
      record { row = has.row; used = row_used song other adds has.row has.used; is_such = has.is_such }

  channel_row : (channel : ℕ) → IsChannel channel → (IsSuch : Row → Type 0) → HasChannelRow other channel IsSuch →
      HasChannelRow song channel IsSuch
  channel_row channel is IsSuch has =
      let from = adds.subtunes has.subtune has.playable in
      let there = (from.order channel is).row has.row
      (record { pattern = has.pattern; entry = has.entry; is_pattern = has.is_pattern; has = has.has }) in
      record {
        subtune = from.subtune;
        playable = from.playable;
        pattern = there.pattern;
        entry = there.entry;
        is_pattern = there.is_pattern;
        row = has.row;
        has = there.has;
        is_such = has.is_such;
      }

  such_instrument : (IsSuch : Instrument → Type 0) → HasSuchInstrument other IsSuch → HasSuchInstrument song IsSuch
  such_instrument IsSuch has = record {
    instrument = has.instrument;
    used = instrument_used song other adds has.instrument has.used;
    is_such = subst IsSuch (same_instrument song other adds has.instrument) has.is_such;
  }

  -- the first instrument, which is the same, holds more than a used one
  first_holds : HasSuchInstrument other (λ i. HoldsMore (instrument_at other 1) i) →
      HasSuchInstrument song (λ i. HoldsMore (instrument_at song 1) i)
  first_holds has =
      subst (λ (first : Instrument). HasSuchInstrument song (HoldsMore first)) (same_instrument song other adds 1)
      (such_instrument (λ i. HoldsMore (instrument_at other 1) i) has)

  such_pair : (Differ : Instrument → Instrument → Type 0) → HasSuchPair other Differ → HasSuchPair song Differ
  such_pair Differ has = record {
    one = has.one;
    other = has.other;
    one_used = instrument_used song other adds has.one has.one_used;
    other_used = instrument_used song other adds has.other has.other_used;
    differ = subst (Differ (instrument_at song has.one)) (same_instrument song other adds has.other)
        (subst (λ (i : Instrument). Differ i (instrument_at other has.other)) (same_instrument song other adds has.one)
        has.differ);
  }

  such_wave_row : (IsSuch : TableRow → Type 0) → HasSuchWaveRow other IsSuch → HasSuchWaveRow song IsSuch
  such_wave_row IsSuch has = record {
    p = has.p;
    reached = row_reached song other adds Wave has.p has.reached;
    is_such = subst IsSuch (same_row song other adds Wave has.p) has.is_such;
  }

  pub has_fact : AddsNoFact song other
  has_fact RowTone has = such_row IsTone has
  has_fact RowSlide has = such_row IsSlide has
  has_fact RowOnce has = such_row IsOnce has
  has_fact FirstMask has = such_instrument IsMask has
  has_fact Legato has = such_instrument IsLegato has
  has_fact NoHardRestart has = such_instrument KeepsEnvelope has
  has_fact WaveDelay has = such_wave_row IsDelay has
  has_fact GateNote has = such_row IsGateNote has
  has_fact NoteVibrato has = such_instrument HasVibrato has
  has_fact VibratoDelay has = such_instrument HasVibratoDelay has
  has_fact NotePulse has = such_instrument HasPulse has
  has_fact NoteFilter has = such_instrument HasFilter has
  has_fact VoiceTempo has = such_row IsVoiceTempo has
  has_fact CommonTempo has = such_row IsCommonTempo has
  has_fact FunkTurns has = such_row IsFunkTurns has
  has_fact FunkChoice has = such_row IsFunkChoice has
  has_fact OwnTimer has = such_pair DifferInTimer has
  has_fact OwnWave has = such_pair DifferInWave has
  has_fact Subtunes has = subst (λ (n : ℕ). 1 < n) adds.count has
  has_fact VoiceTwo has = channel_row 2 (record { first = lit≤ tt; last = lit≤ tt }) IsHeard has
  has_fact VoiceThree has = channel_row 3 (record { first = lit≤ tt; last = lit≤ tt }) IsHeard has
  has_fact FirstHolds has = first_holds has
