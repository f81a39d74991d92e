-- A song under new numbers has no fact that the song that it was made of hasn't.
use Rattle.std.proofs.Common.{◌≡◌, ◌≢◌, ℕ, ◌%◌, ◌<◌, ◌≤◌, ◌⊎◌, length, refl, sym, ◌∙◌, ap, subst}
use Rattle.std.proofs.Common.{Contains, inl, inr, lit≤}
use Rattle.std.specs.Prelude.{bit_and}
use Rattle.std.proofs.lemmas.List.{length-map}
use Rattle.song_model.specs.declared.rows.Row.{Row}
use Rattle.song_model.specs.declared.orders.Order.{Order}
use Rattle.song_model.specs.declared.instruments.Instrument.{Instrument}
use Rattle.song_model.specs.declared.tables.TableRow.{TableRow}
use Rattle.song_model.specs.declared.tables.TableName.{TableName}
use Rattle.song_model.specs.declared.tables.TableName.TheVariants.{Wave, Pulse, Filter, Speed}
use Rattle.song_model.specs.declared.songs.Song.{Song}
use Rattle.song_model.specs.LookUp.{table_row, order_of, instrument_at, playable_subtunes}
use Rattle.song_model.specs.Pointers.{instrument_pointer, command_table}
use Rattle.play_model.specs.Used.{IsChannel, IsUsedInstrument}
use Rattle.same_frames.specs.Maps.{Maps, moved_row, moved_pointer, IsRowFor, IsInstrumentFor}
use Rattle.song_facts.specs.declared.facts.Fact.TheVariants.{RowTone, RowSlide, RowOnce, FirstMask, Legato, NoHardRestart}
use Rattle.song_facts.specs.declared.facts.Fact.TheVariants.{WaveDelay, GateNote, NoteVibrato, VibratoDelay, NotePulse, NoteFilter}
use Rattle.song_facts.specs.declared.facts.Fact.TheVariants.{VoiceTempo, CommonTempo, FunkTurns, FunkChoice, OwnTimer}
use Rattle.song_facts.specs.declared.facts.Fact.TheVariants.{OwnWave, Subtunes, VoiceTwo, VoiceThree, FirstHolds}
use Rattle.song_facts.specs.Facts.{IsTone, IsSlide, IsOnce, IsGateNote, IsHeard, IsMask, IsLegato, KeepsEnvelope}
use Rattle.song_facts.specs.Facts.{HasVibratoDelay, timer_of, IsVoiceTempo, IsCommonTempo, IsFunkTurns, IsFunkChoice}
use Rattle.song_facts.specs.Facts.{HasSuchRow, HasChannelRow, HasSuchInstrument, HasSuchPair, HasSuchWaveRow}
use Rattle.song_facts.specs.Facts.{AddsNoFact}
use Rattle.song_facts.specs.Hold.{held_by, hold_of, how_much, HoldsMore}
use Rattle.same_frames.specs.OrderLaws.{moved_order, moved_subtune}
use Rattle.same_frames.proofs.Laws.{channel_moved, old_some}
use Rattle.song_pack.proofs.UsedParts.{IsMoved, under, channel_played, subtune_from, order_row_from}
use Rattle.song_pack.proofs.UsedParts.{used_row_from, instrument_from, pointer_moved, reached_from}

module _ (maps : Maps) where
  -- ---- what a part's stand-in tells of the part

  -- where the other row is such, so is the row that it stands for
  RowsKeep : (Row → Type 0) → Type 0
  RowsKeep IsSuch = (last : ℕ) (row other : Row) → IsRowFor maps last row other → IsSuch other → IsSuch row

  -- the same of what a command is
  command_keeps : (IsSuch : ℕ → Type 0) → RowsKeep (λ row. IsSuch row.command)
  unfolding RowsKeep
  command_keeps IsSuch last row other is such = subst IsSuch is.command such

  note_keeps : (IsSuch : ℕ → Type 0) → RowsKeep (λ row. IsSuch row.note)
  unfolding RowsKeep
  note_keeps IsSuch last row other is such = subst IsSuch is.note such

  -- of a command $F, which has the row's parameter
  tempo_keeps : (IsSuch : ℕ → Type 0) → RowsKeep (λ row. (row.command ≡ 0xF) × IsSuch row.param)
  unfolding RowsKeep
  tempo_keeps IsSuch last row other is such =
      let command : row.command ≡ 0xF = sym is.command ∙ such.0 in
      let param : other.param ≡ row.param =
      is.param (λ none. let e : 0 ≡ 0xF = sym none ∙ command in cc)
      ∙ ap (λ (c : ℕ). moved_pointer maps (command_table c) row.param) command in
      (command, subst IsSuch param such.1)

  heard_keeps : RowsKeep IsHeard
  unfolding RowsKeep
  heard_keeps last row other is (inl note) = inl (note_keeps (λ n. (0x60 ≤ n) × (n ≤ 0xBC)) last row other is note)
  heard_keeps last row other is (inr command) = inr (command_keeps (λ c. c ≢ 0) last row other is command)

  -- where the other instrument is such, so is the one that it stands for
  InstrumentsKeep : (Instrument → Type 0) → Type 0
  InstrumentsKeep IsSuch = (i other : Instrument) → IsInstrumentFor maps i other → IsSuch other → IsSuch i

  first_wave_keeps : (IsSuch : ℕ → Type 0) → InstrumentsKeep (λ i. IsSuch i.first_wave)
  unfolding InstrumentsKeep
  first_wave_keeps IsSuch i other is such = subst IsSuch (ap (λ (x : Instrument). x.first_wave) is.moved) such

  gate_timer_keeps : (IsSuch : ℕ → Type 0) → InstrumentsKeep (λ i. IsSuch i.gate_timer)
  unfolding InstrumentsKeep
  gate_timer_keeps IsSuch i other is such = subst IsSuch (ap (λ (x : Instrument). x.gate_timer) is.moved) such

  gate_timer_is : (i other : Instrument) → IsInstrumentFor maps i other → other.gate_timer ≡ i.gate_timer
  gate_timer_is i other is = ap (λ (x : Instrument). x.gate_timer) is.moved

  vibrato_delay_keeps : (IsSuch : ℕ → Type 0) → InstrumentsKeep (λ i. IsSuch i.vibrato_delay)
  unfolding InstrumentsKeep
  vibrato_delay_keeps IsSuch i other is such = subst IsSuch (ap (λ (x : Instrument). x.vibrato_delay) is.moved) such

  module _ (song other : Song) (m : IsMoved maps song other) where
    -- ---- what the other song has

    -- a used row of the other song is such, so one of the song is
    row_covered : (IsSuch : Row → Type 0) → RowsKeep IsSuch → HasSuchRow other IsSuch → HasSuchRow song IsSuch
    unfolding RowsKeep
    row_covered IsSuch keeps has =
        let from = used_row_from maps song other m has.row has.used in
        record {
          row = from.from;
          used = from.used;
          is_such = keeps from.last from.from has.row from.is_for has.is_such;
        }

    -- a row of a pattern that a channel plays
    channel_covered : (channel : ℕ) → IsChannel channel → (IsSuch : Row → Type 0) → RowsKeep IsSuch →
        HasChannelRow other channel IsSuch → HasChannelRow song channel IsSuch
    unfolding RowsKeep
    channel_covered channel is IsSuch keeps has =
        let subtune = subtune_from maps song other m has.subtune has.playable in
        let order : Order = order_of channel subtune.from in
        let order_is : order_of channel has.subtune ≡ moved_order maps order =
        sym (ap (order_of channel) subtune.is) ∙ channel_moved maps subtune.from channel in
        let found = order_row_from maps song other m order (channel_played song subtune.from channel subtune.has is)
        has.pattern (subst (λ (o : Order). Contains o.entries has.pattern) order_is has.entry) has.is_pattern
        has.row has.has in
        let row = found.row in
        record {
          subtune = subtune.from;
          playable = subtune.has;
          pattern = found.pattern;
          entry = found.names.0;
          is_pattern = found.names.1;
          row = row.from;
          has = row.has;
          is_such = keeps row.last row.from has.row row.is_for has.is_such;
        }

    -- a used instrument
    instrument_covered : (IsSuch : Instrument → Type 0) → InstrumentsKeep IsSuch → HasSuchInstrument other IsSuch →
        HasSuchInstrument song IsSuch
    unfolding InstrumentsKeep
    instrument_covered IsSuch keeps has =
        let from = instrument_from maps song other m has.instrument has.used in
        record {
          instrument = from.old;
          used = from.is_such;
          is_such = keeps (instrument_at song from.old) (instrument_at other has.instrument)
              (subst (λ (n : ℕ). IsInstrumentFor maps (instrument_at song from.old) (instrument_at other n)) from.new
              (m.agrees.instruments.stands_for from.old from.is_such)) has.is_such;
        }

    -- the first instrument, which stays the first, holds more than a used one
    first_covered : HasSuchInstrument other (λ i. HoldsMore (instrument_at other 1) i) →
        HasSuchInstrument song (λ i. HoldsMore (instrument_at song 1) i)
    first_covered has =
        let first : HasSuchInstrument song (λ i. HoldsMore (instrument_at other 1) i) =
        instrument_covered (λ i. HoldsMore (instrument_at other 1) i)
        (gate_timer_keeps (λ t. how_much (held_by t) < how_much (hold_of (instrument_at other 1)))) has in
        let same : (instrument_at other 1).gate_timer ≡ (instrument_at song 1).gate_timer =
        ap (λ (n : ℕ). (instrument_at other n).gate_timer) (sym m.first)
        ∙ gate_timer_is (instrument_at song 1) (instrument_at other (maps.instrument 1))
        (m.agrees.instruments.stands_for 1 (inl refl)) in
        record {
          instrument = first.instrument;
          used = first.used;
          is_such = subst (λ (t : ℕ).
              how_much (hold_of (instrument_at song first.instrument)) < how_much (held_by t)) same first.is_such;
        }

    -- two used instruments differ in a number that each has from the one that it stands for
    pair_covered : (number : Instrument → ℕ) → ((n : ℕ) → InstrumentsKeep (λ i. number i ≡ n)) →
        HasSuchPair other (λ one two. number one ≢ number two) → HasSuchPair song (λ one two. number one ≢ number two)
    unfolding InstrumentsKeep
    pair_covered number keeps has =
        let one = instrument_from maps song other m has.one has.one_used in
        let two = instrument_from maps song other m has.other has.other_used in
        record {
          one = one.old;
          other = two.old;
          one_used = one.is_such;
          other_used = two.is_such;
          differ = λ e.
              has.differ (sym (same one.old one.is_such has.one one.new)
              ∙ e ∙ same two.old two.is_such has.other two.new);
        }
      where
        same : (i : ℕ) → IsUsedInstrument song i → (n : ℕ) → maps.instrument i ≡ n →
            number (instrument_at song i) ≡ number (instrument_at other n)
        same i used n is =
            keeps (number (instrument_at other n)) (instrument_at song i) (instrument_at other n)
            (subst (λ (k : ℕ). IsInstrumentFor maps (instrument_at song i) (instrument_at other k)) is
            (m.agrees.instruments.stands_for i used)) refl

    -- a used instrument points into a table
    pointer_covered : (name : TableName) → HasSuchInstrument other (λ i. instrument_pointer name i ≢ 0) →
        HasSuchInstrument song (λ i. instrument_pointer name i ≢ 0)
    pointer_covered name has =
        let from = instrument_from maps song other m has.instrument has.used in
        let old : ℕ = instrument_pointer name (instrument_at song from.old) in
        let new : maps.row name old ≡ instrument_pointer name (instrument_at other has.instrument) =
        sym (pointer_moved maps name (instrument_at song from.old) (instrument_at other (maps.instrument from.old))
        (m.agrees.instruments.stands_for from.old from.is_such))
        ∙ ap (λ (n : ℕ). instrument_pointer name (instrument_at other n)) from.new in
        record {
          instrument = from.old;
          used = from.is_such;
          is_such = old_some maps song other name (under maps song other m) old
              (instrument_pointer name (instrument_at other has.instrument)) new has.is_such;
        }

    -- a reached row of the wave table, which keeps its left side
    wave_row_covered : (IsSuch : ℕ → Type 0) → HasSuchWaveRow other (λ row. IsSuch row.left) →
        HasSuchWaveRow song (λ row. IsSuch row.left)
    wave_row_covered IsSuch has =
        let from = reached_from maps song other m Wave has.p has.reached in
        let is : table_row other Wave has.p ≡ moved_row maps Wave (table_row song Wave from.old) =
        ap (table_row other Wave) (sym from.new) ∙ (m.agrees.rows Wave).row from.old from.is_such in
        record {
          p = from.old;
          reached = from.is_such;
          is_such = subst (λ (row : TableRow). IsSuch row.left) is has.is_such;
        }

    -- as many subtunes can be played
    as_many_playable : length (playable_subtunes other) ≡ length (playable_subtunes song)
    as_many_playable = ap length m.subtunes ∙ length-map (playable_subtunes song) (moved_subtune maps)

    -- ---- facts

    pub covered : AddsNoFact song other
    covered RowTone has = row_covered IsTone (command_keeps (λ c. c ≡ 3)) has
    covered RowSlide has = row_covered IsSlide (command_keeps (λ c. (1 ≤ c) × (c ≤ 4))) has
    covered RowOnce has = row_covered IsOnce (command_keeps (λ c. 5 ≤ c)) has
    covered FirstMask has = instrument_covered IsMask (first_wave_keeps (λ w. (w ≡ 0) ⊎ (0xFE ≤ w))) has
    covered Legato has = instrument_covered IsLegato (gate_timer_keeps (λ t. bit_and t 0x40 ≢ 0)) has
    covered NoHardRestart has =
        instrument_covered KeepsEnvelope (gate_timer_keeps (λ t. (bit_and t 0x40 ≡ 0) × (bit_and t 0x80 ≢ 0))) has
    covered WaveDelay has = wave_row_covered (λ left. left < 0x10) has
    covered GateNote has = row_covered IsGateNote (note_keeps (λ n. (n ≡ 0xBE) ⊎ (n ≡ 0xBF))) has
    covered NoteVibrato has = pointer_covered Speed has
    covered VibratoDelay has = instrument_covered HasVibratoDelay (vibrato_delay_keeps (λ d. d ≢ 0)) has
    covered NotePulse has = pointer_covered Pulse has
    covered NoteFilter has = pointer_covered Filter has
    covered VoiceTempo has = row_covered IsVoiceTempo (tempo_keeps (λ d. 0x80 ≤ d)) has
    covered CommonTempo has = row_covered IsCommonTempo (tempo_keeps (λ d. (3 ≤ d) × (d < 0x80))) has
    covered FunkTurns has = row_covered IsFunkTurns (tempo_keeps (λ d. d < 2)) has
    covered FunkChoice has = row_covered IsFunkChoice (command_keeps (λ c. c ≡ 0xE)) has
    covered OwnTimer has = pair_covered timer_of (λ n. gate_timer_keeps (λ t. t % 64 ≡ n)) has
    covered OwnWave has = pair_covered (λ i. i.first_wave) (λ n. first_wave_keeps (λ w. w ≡ n)) has
    covered Subtunes has = subst (λ (n : ℕ). 1 < n) as_many_playable has
    covered VoiceTwo has = channel_covered 2 (record { first = lit≤ tt; last = lit≤ tt }) IsHeard heard_keeps has
    covered VoiceThree has = channel_covered 3 (record { first = lit≤ tt; last = lit≤ tt }) IsHeard heard_keeps has
    covered FirstHolds has = first_covered has
