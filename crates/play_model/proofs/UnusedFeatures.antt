-- What a song doesn't use doesn't count for its features.
use Rattle.std.proofs.Common.{◌≡◌, ◌≢◌, ℕ, ◌≤◌, sym, ◌∙◌, ap, subst, inl, inr}
use Rattle.song_model.specs.declared.features.Feature.{Feature}
use Rattle.song_model.specs.declared.features.Feature.TheVariants.{Transpose, Repeat, PortaUp, PortaDown, TonePorta}
use Rattle.song_model.specs.declared.features.Feature.TheVariants.{TieNote, Vibrato, InstrumentVibrato, NoteDependent}
use Rattle.song_model.specs.declared.features.Feature.TheVariants.{SetAd, SetSr, SetWave, SetWavePointer, PulseTable}
use Rattle.song_model.specs.declared.features.Feature.TheVariants.{SetPulsePointer, FilterTable, SetFilterPointer}
use Rattle.song_model.specs.declared.features.Feature.TheVariants.{FilterControl, Cutoff, Volume, FunkTempo, SetTempo}
use Rattle.song_model.specs.declared.features.Feature.TheVariants.{WaveTable, WaveCommand}
use Rattle.song_model.specs.declared.instruments.Instrument.{Instrument}
use Rattle.song_model.specs.declared.tables.TableRow.{TableRow}
use Rattle.song_model.specs.declared.tables.TableName.{TableName}
use Rattle.song_model.specs.declared.tables.TableName.TheVariants.{Wave, Pulse, Filter, Speed}
use Rattle.song_model.specs.declared.songs.Song.{Song}
use Rattle.song_model.specs.LookUp.{instrument_at}
use Rattle.play_model.specs.Playable.{IsPlayable}
use Rattle.play_model.specs.Features.{HasByte, HasRow, HasWaveRow, UsesCommand, IsAny, HasInstrument, HasPointer}
use Rattle.play_model.specs.Features.{HasNoteSpeed, HasWaveCommand, HasFeature}
use Rattle.play_model.specs.UseLaws.{AgreesOnUsed, UsesTheSame}
use Rattle.play_model.proofs.UnusedParts.{AgreesOnRows, byte_to, pattern_to, row_to, instrument_to, wave_row_same}
use Rattle.play_model.proofs.UnusedParts.{reached_to, pointer_to, turned, agrees_on_rows}

has_byte_to : (song other : Song) → AgreesOnRows song other → (low high : ℕ) → HasByte song low high →
    HasByte other low high
has_byte_to song other a low high h =
    record { byte = h.byte; played = byte_to song other a.orders.subtunes h.byte h.played; low = h.low; high = h.high }

has_row_to : (song other : Song) → AgreesOnRows song other → (command : ℕ) (IsMeant : ℕ → Type 0) →
    HasRow song command IsMeant → HasRow other command IsMeant
has_row_to song other a command IsMeant h =
    record {
      row = h.row;
      used = row_to song other a.orders h.row h.used;
      command_is = h.command_is;
      is_meant = h.is_meant;
    }

has_wave_row_to : (song other : Song) → AgreesOnRows song other → (command : ℕ) (IsMeant : ℕ → Type 0) →
    HasWaveRow song command IsMeant → HasWaveRow other command IsMeant
has_wave_row_to song other a command IsMeant h =
    let same = wave_row_same song other a h.p h.reached in
    record {
      p = h.p;
      reached = reached_to song other a Wave h.p h.reached;
      command_is = ap (λ (row : TableRow). row.left) same ∙ h.command_is;
      is_meant = subst (λ (row : TableRow). IsMeant row.right) (sym same) h.is_meant;
    }

uses_to : (song other : Song) → AgreesOnRows song other → (command : ℕ) (IsMeant : ℕ → Type 0) →
    UsesCommand song command IsMeant → UsesCommand other command IsMeant
uses_to song other a command IsMeant (inl h) = inl (has_row_to song other a command IsMeant h)
uses_to song other a command IsMeant (inr h) = inr (has_wave_row_to song other a command IsMeant h)

has_instrument_to : (song other : Song) → AgreesOnRows song other → (number : Instrument → ℕ) →
    HasInstrument song (λ i. number (instrument_at song i)) → HasInstrument other (λ i. number (instrument_at other i))
has_instrument_to song other a number h = record {
  instrument = h.instrument;
  used = instrument_to song other a.orders h.instrument h.used;
  some = subst (λ (x : Instrument). number x ≢ 0) (sym (a.orders.instrument h.instrument h.used)) h.some;
}

has_pointer_to : (song other : Song) → AgreesOnRows song other → (name : TableName) → HasPointer song name →
    HasPointer other name
has_pointer_to song other a name h = record { p = h.p; pointer = pointer_to song other a name h.p h.pointer }

has_note_speed_to : (song other : Song) → AgreesOnRows song other → HasNoteSpeed song → HasNoteSpeed other
has_note_speed_to song other a h = record {
  p = h.p;
  pointer = pointer_to song other a Speed h.p h.pointer;
  from_note = subst (λ (row : TableRow). 0x80 ≤ row.left) (sym (a.speed h.p h.pointer)) h.from_note;
}

has_wave_command_to : (song other : Song) → AgreesOnRows song other → HasWaveCommand song → HasWaveCommand other
has_wave_command_to song other a h =
    let same = wave_row_same song other a h.p h.reached in
    record {
      p = h.p;
      reached = reached_to song other a Wave h.p h.reached;
      from = subst (λ (row : TableRow). 0xF0 ≤ row.left) (sym same) h.from;
      to = subst (λ (row : TableRow). row.left ≤ 0xFE) (sym same) h.to;
    }

funk_to : (song other : Song) → AgreesOnRows song other → HasFeature song FunkTempo → HasFeature other FunkTempo
funk_to song other a (inl h) = inl (has_row_to song other a 0xE IsAny h)
funk_to song other a (inr h) = inr (has_row_to song other a 0xF _ h)

feature_to : (song other : Song) → AgreesOnRows song other → (feature : Feature) → HasFeature song feature →
    HasFeature other feature
feature_to song other a Transpose h = has_byte_to song other a 0xE0 0xFE h
feature_to song other a Repeat h = has_byte_to song other a 0xD0 0xDF h
feature_to song other a PortaUp h = uses_to song other a 1 IsAny h
feature_to song other a PortaDown h = uses_to song other a 2 IsAny h
feature_to song other a TonePorta h = uses_to song other a 3 (λ d. d ≢ 0) h
feature_to song other a TieNote h = uses_to song other a 3 (λ d. d ≡ 0) h
feature_to song other a Vibrato h = uses_to song other a 4 IsAny h
feature_to song other a InstrumentVibrato h =
    (has_instrument_to song other a (λ x. x.vibrato) h.0, has_instrument_to song other a (λ x. x.vibrato_delay) h.1)
feature_to song other a NoteDependent h = has_note_speed_to song other a h
feature_to song other a SetAd h = uses_to song other a 5 IsAny h
feature_to song other a SetSr h = uses_to song other a 6 IsAny h
feature_to song other a SetWave h = uses_to song other a 7 IsAny h
feature_to song other a SetWavePointer h = has_row_to song other a 8 IsAny h
feature_to song other a PulseTable h = has_pointer_to song other a Pulse h
feature_to song other a SetPulsePointer h = uses_to song other a 9 IsAny h
feature_to song other a FilterTable h = has_pointer_to song other a Filter h
feature_to song other a SetFilterPointer h = uses_to song other a 0xA IsAny h
feature_to song other a FilterControl h = uses_to song other a 0xB IsAny h
feature_to song other a Cutoff h = uses_to song other a 0xC IsAny h
feature_to song other a Volume h = uses_to song other a 0xD IsAny h
feature_to song other a FunkTempo h = funk_to song other a h
feature_to song other a SetTempo h = has_row_to song other a 0xF _ h
feature_to song other a WaveTable h = has_pointer_to song other a Wave h
feature_to song other a WaveCommand h = has_wave_command_to song other a h

same_use : (song other : Song) → AgreesOnRows song other → AgreesOnRows other song → UsesTheSame song other
same_use song other a b = record {
  pattern = λ n. (pattern_to song other a.orders.subtunes n, pattern_to other song b.orders.subtunes n);
  instrument = λ i. (instrument_to song other a.orders i, instrument_to other song b.orders i);
  pointer = λ name p. (pointer_to song other a name p, pointer_to other song b name p);
  row = λ name p. (reached_to song other a name p, reached_to other song b name p);
  feature = λ feature. (feature_to song other a feature, feature_to other song b feature);
}

pub unused_lem : (song other : Song) → IsPlayable song → AgreesOnUsed song other → UsesTheSame song other
unused_lem song other play agrees =
    let a = agrees_on_rows song other play agrees in
    same_use song other a (turned song other a)
