-- A song that adds no row has no feature that the song hasn't.
use Rattle.std.proofs.Common.{◌≡◌, ◌≢◌, ℕ, ◌%◌, ◌≤◌, sym, ◌∙◌, ap, subst, inl, inr, lit≤, arith}
use Rattle.song_model.specs.declared.features.Feature.{Feature}
use Rattle.song_model.specs.declared.features.Feature.TheVariants.{Transpose, Repeat, PortaUp, PortaDown, TonePorta}
use Rattle.song_model.specs.declared.features.Feature.TheVariants.{TieNote, Vibrato, InstrumentVibrato, NoteDependent}
use Rattle.song_model.specs.declared.features.Feature.TheVariants.{SetAd, SetSr, SetWave, SetWavePointer, PulseTable}
use Rattle.song_model.specs.declared.features.Feature.TheVariants.{SetPulsePointer, FilterTable, SetFilterPointer}
use Rattle.song_model.specs.declared.features.Feature.TheVariants.{FilterControl, Cutoff, Volume, FunkTempo, SetTempo}
use Rattle.song_model.specs.declared.features.Feature.TheVariants.{WaveTable, WaveCommand}
use Rattle.song_model.specs.declared.instruments.Instrument.{Instrument}
use Rattle.song_model.specs.declared.tables.TableRow.{TableRow}
use Rattle.song_model.specs.declared.tables.TableName.{TableName}
use Rattle.song_model.specs.declared.tables.TableName.TheVariants.{Wave, Pulse, Filter, Speed}
use Rattle.song_model.specs.declared.songs.Song.{Song}
use Rattle.song_model.specs.LookUp.{instrument_at}
use Rattle.play_model.specs.Features.{HasByte, HasRow, HasWaveRow, UsesCommand, IsAny, HasInstrument, HasPointer}
use Rattle.play_model.specs.Features.{HasNoteSpeed, HasWaveCommand, HasFeature}
use Rattle.same_uses.specs.SameUses.{AddsNoRow}
use Rattle.same_uses.proofs.Parts.{same_row, same_instrument, byte_played, row_used, instrument_used}
use Rattle.same_uses.proofs.Reached.{row_reached, is_pointer}

module _ (song other : Song) (adds : AddsNoRow song other) where
  has_byte : (from to : ℕ) → 0xD0 ≤ from → HasByte other from to → HasByte song from to
  has_byte from to high has =
      let low = has.low in
      record {
        byte = has.byte;
        played = byte_played song other adds has.byte (omega arith) has.played;
        low = has.low;
        high = has.high;
      }

  pub has_row : (command : ℕ) (IsMeant : ℕ → Type 0) → HasRow other command IsMeant → HasRow song command IsMeant
  has_row command IsMeant has = record {
    row = has.row;
    used = row_used song other adds has.row has.used;
    command_is = has.command_is;
    is_meant = has.is_meant;
  }

  has_wave_row : (command : ℕ) (IsMeant : ℕ → Type 0) → HasWaveRow other command IsMeant →
      HasWaveRow song command IsMeant
  has_wave_row command IsMeant has =
      let same = same_row song other adds Wave has.p in
      record {
        p = has.p;
        reached = row_reached song other adds Wave has.p has.reached;
        command_is = ap (λ (row : TableRow). row.left) (sym same) ∙ has.command_is;
        is_meant = subst (λ (row : TableRow). IsMeant row.right) same has.is_meant;
      }

  pub uses_command : (command : ℕ) (IsMeant : ℕ → Type 0) → UsesCommand other command IsMeant →
      UsesCommand song command IsMeant
  uses_command command IsMeant (inl has) = inl (has_row command IsMeant has)
  uses_command command IsMeant (inr has) = inr (has_wave_row command IsMeant has)

  -- a number of a used instrument is some
  has_number : (number : Instrument → ℕ) → HasInstrument other (λ i. number (instrument_at other i)) →
      HasInstrument song (λ i. number (instrument_at song i))
  has_number number has = record {
    instrument = has.instrument;
    used = instrument_used song other adds has.instrument has.used;
    some = subst (λ (i : Instrument). number i ≢ 0) (same_instrument song other adds has.instrument) has.some;
  }

  has_pointer : (name : TableName) → HasPointer other name → HasPointer song name
  has_pointer name has = record { p = has.p; pointer = is_pointer song other adds name has.p has.pointer }

  note_speed : HasNoteSpeed other → HasNoteSpeed song
  note_speed has = record {
    p = has.p;
    pointer = is_pointer song other adds Speed has.p has.pointer;
    from_note = subst (λ (row : TableRow). 0x80 ≤ row.left) (same_row song other adds Speed has.p) has.from_note;
  }

  wave_command : HasWaveCommand other → HasWaveCommand song
  wave_command has =
      let same = same_row song other adds Wave has.p in
      record {
        p = has.p;
        reached = row_reached song other adds Wave has.p has.reached;
        from = subst (λ (row : TableRow). 0xF0 ≤ row.left) same has.from;
        to = subst (λ (row : TableRow). row.left ≤ 0xFE) same has.to;
      }

  pub has_feature : (feature : Feature) → HasFeature other feature → HasFeature song feature
  has_feature Transpose has = has_byte 0xE0 0xFE (lit≤ tt) has
  has_feature Repeat has = has_byte 0xD0 0xDF (lit≤ tt) has
  has_feature PortaUp has = uses_command 1 IsAny has
  has_feature PortaDown has = uses_command 2 IsAny has
  has_feature TonePorta has = uses_command 3 (λ d. d ≢ 0) has
  has_feature TieNote has = uses_command 3 (λ d. d ≡ 0) has
  has_feature Vibrato has = uses_command 4 IsAny has
  has_feature InstrumentVibrato (vibrato, delay) =
      (has_number (λ i. i.vibrato) vibrato, has_number (λ i. i.vibrato_delay) delay)
  has_feature NoteDependent has = note_speed has
  has_feature SetAd has = uses_command 5 IsAny has
  has_feature SetSr has = uses_command 6 IsAny has
  has_feature SetWave has = uses_command 7 IsAny has
  has_feature SetWavePointer has = has_row 8 IsAny has
  has_feature PulseTable has = has_pointer Pulse has
  has_feature SetPulsePointer has = uses_command 9 IsAny has
  has_feature FilterTable has = has_pointer Filter has
  has_feature SetFilterPointer has = uses_command 0xA IsAny has
  has_feature FilterControl has = uses_command 0xB IsAny has
  has_feature Cutoff has = uses_command 0xC IsAny has
  has_feature Volume has = uses_command 0xD IsAny has
  has_feature FunkTempo (inl choice) = inl (has_row 0xE IsAny choice)
  has_feature FunkTempo (inr turns) = inr (has_row 0xF (λ d. d ≤ 1) turns)
  has_feature SetTempo has = has_row 0xF (λ d. 3 ≤ d % 128) has
  has_feature WaveTable has = has_pointer Wave has
  has_feature WaveCommand has = wave_command has
