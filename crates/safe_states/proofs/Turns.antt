-- What a voice does in its turn stands in the song, where the turn begins safe.
use Rattle.std.proofs.Common.{◌≡◌, ◌≢◌, ℕ, ◌+◌, ◌≤◌, Some, lit≤, refl, inl, inr, arith}
use Rattle.std.proofs.lemmas.Bool.{and_parts, leb-true}
use Rattle.std.proofs.lemmas.Bool.Decides.{nat_tests}
use Rattle.song_model.specs.declared.orders.Order.{Order}
use Rattle.song_model.specs.declared.features.Feature.TheVariants.{FunkTempo}
use Rattle.song_model.specs.declared.tables.TableRow.{TableRow}
use Rattle.song_model.specs.declared.tables.TableName.TheVariants.{Wave, Pulse, Speed}
use Rattle.song_model.specs.declared.songs.Song.{Song}
use Rattle.song_model.specs.LookUp.{table_row, instrument_at}
use Rattle.song_model.specs.Pointers.{command_table, wave_row_table}
use Rattle.play_model.specs.declared.options.Options.{Options}
use Rattle.play_model.specs.LookUps.{look_ups_of}
use Rattle.play_model.specs.State.{Voice, Playing}
use Rattle.play_model.specs.WaveStep.{wave_step}
use Rattle.play_model.specs.Reached.{of_instrument, IsPointer, of_played, IsStep}
use Rattle.play_model.specs.Features.{HasRow, HasWaveRow, UsesCommand, IsAny, HasInstrument, HasPointer, HasNoteSpeed}
use Rattle.play_model.specs.Features.{HasWaveCommand, HasFeature}
use Rattle.play_model.specs.Safe.{HasCommand, IsSafeWaiting, IsSafeVoice}
use Rattle.play_model.specs.Uses.{Turn, DoesRow, GoesOn, HasWaveProgram, MeetsWaveCommand, DoesWave, DoesEffect}
use Rattle.play_model.specs.Uses.{DoesRunning, MeetsVibrato, HasPulseProgram, Slides, DoesOnce, AsksSpeed, for_slide}
use Rattle.play_model.specs.Uses.{for_vibrato, AsksFunkTempo, by_values, by_tempo, by_length}
use Rattle.safe_states.specs.SafeLaws.{IsSafePlaying}
use Rattle.safe_states.proofs.Pointers.{CanBePlayed, row_pointer, wave_pointer, is_step, has_pointer}
use Rattle.safe_states.proofs.Ticks.{waiting_command, has_row, tempo_safe, tick_keeps}
use Rattle.safe_states.proofs.Waves.{wave_keeps}
use Rattle.safe_states.proofs.Steps.{effect_done_keeps}
use Rattle.safe_states.proofs.Running.{running_command, RunsVibrato, running_vibrato}

-- ---- pointers into the speed table

positive : (n : ℕ) → 1 ≤ n → n ≢ 0
positive n h z = omega arith

slides_by_speed : (c : ℕ) → 1 ≤ c → c ≤ 4 → command_table c ≡ Some Speed
slides_by_speed c least most = grind (arith, nat_tests)

waves_by_speed : (left c : ℕ) → left ≡ 0xF0 + c → 1 ≤ c → c ≤ 4 → wave_row_table left ≡ Some Speed
waves_by_speed left c e least most = grind (arith, nat_tests)

no_speed : (song : Song) (p : ℕ) → p ≡ 0 → (table_row song Speed p).left ≡ 0
unfolding table_row
no_speed song p e = rw e refl

some_speed : (song : Song) (p : ℕ) → 0x80 ≤ (table_row song Speed p).left → p ≢ 0
some_speed song p high z = (let e = no_speed song p z in omega arith)

-- ---- a turn of a voice

-- a voice at its step, which plays this song
abbrev pub turn_with : Song → ℕ → Options → Playing → Turn
turn_with song channel o s = record { channel = channel; options = o; look = look_ups_of song; start = s }

module _ (song : Song) (order : Order) (channel : ℕ) (o : Options) (s : Playing) (play : CanBePlayed song)
    (q : IsSafePlaying song order s) where
  -- the voice after the tick step
  ticked : (w : Playing) → GoesOn (turn_with song channel o s) w → IsSafePlaying song order w
  ticked w g = rw g.left at (tick_keeps song order channel s play q)

  -- the row
  waits : (c d : ℕ) → DoesRow (turn_with song channel o s) c d → IsSafeWaiting song c d
  waits c d r = rw (r.command_is, r.param_is) at q.voice.waiting

  pub does_row : (c d : ℕ) (IsMeant : ℕ → Type 0) → DoesRow (turn_with song channel o s) c d → 1 ≤ c → IsMeant d →
      HasRow song c IsMeant
  does_row c d IsMeant r some meant =
      has_row song c d IsMeant (waiting_command song c d (waits c d r) (positive c some)) meant

  -- the wave program
  wave_at : (p : ℕ) → HasWaveProgram (turn_with song channel o s) p → IsStep song Wave p
  wave_at p h = is_step song Wave p (rw h.ptr at (ticked h.s h.goes_on).voice.wave) h.some

  pub has_wave : (p : ℕ) → HasWaveProgram (turn_with song channel o s) p → HasPointer song Wave
  has_wave p h = has_pointer song Wave p (wave_at p h).reached

  pub meets_command : (row : TableRow) → MeetsWaveCommand (turn_with song channel o s) row → HasWaveCommand song
  meets_command row m = record {
    p = m.p;
    reached = (wave_at m.p m.program).reached;
    from = rw m.row_is (leb-true 0xF0 row.left (and_parts _ _ m.is_command).0);
    to = rw m.row_is (leb-true row.left 0xFE (and_parts _ _ m.is_command).1);
  }

  does_wave : (c d : ℕ) (IsMeant : ℕ → Type 0) → DoesWave (turn_with song channel o s) c d → IsMeant d →
      HasWaveRow song c IsMeant
  does_wave c d IsMeant w meant = record {
    p = w.meets.p;
    reached = (wave_at w.meets.p w.meets.program).reached;
    command_is = rw w.meets.row_is w.command_is;
    is_meant = rw (w.meets.row_is, w.param_is) meant;
  }

  -- the running effect
  effect_on : (v : Voice) → DoesEffect (turn_with song channel o s) v → IsSafeVoice song order v
  effect_on v e = rw e.voice_is at (wave_keeps song order e.s play (ticked e.s e.goes_on)).voice

  runs : (c d : ℕ) → DoesRunning (turn_with song channel o s) c d → 1 ≤ c → HasCommand song c d
  runs c d r some =
      running_command song c d (rw (r.command_is, r.param_is) at (effect_on r.v r.effect).running) (positive c some)

  meets_vibrato : (d delay : ℕ) → MeetsVibrato (turn_with song channel o s) d delay → RunsVibrato song d
  meets_vibrato d delay m =
      running_vibrato song 0 d (rw (m.command_is, m.param_is) at (effect_on m.v m.effect).running) refl m.some

  pub has_vibrato : (d delay : ℕ) → MeetsVibrato (turn_with song channel o s) d delay →
      HasInstrument song (λ i. (instrument_at song i).vibrato)
      × HasInstrument song (λ i. (instrument_at song i).vibrato_delay)
  has_vibrato d delay m = (vibrato (meets_vibrato d delay m), (effect_on m.v m.effect).delay (rw m.delay_is m.begun))
    where
      vibrato : RunsVibrato song d → HasInstrument song (λ i. (instrument_at song i).vibrato)
      vibrato r = record { instrument = r.number; used = r.used; some = rw r.is m.some }

  -- commands of several places
  pub slides : (c d : ℕ) (IsMeant : ℕ → Type 0) → Slides (turn_with song channel o s) c d → 1 ≤ c → IsMeant d →
      UsesCommand song c IsMeant
  slides c d IsMeant (inl wave) some meant = inr (does_wave c d IsMeant wave meant)
  slides c d IsMeant (inr running) some meant = inl (has_row song c d IsMeant (runs c d running some) meant)

  pub once : (c d : ℕ) → DoesOnce (turn_with song channel o s) c d → 1 ≤ c → UsesCommand song c IsAny
  once c d (inl row) some = inl (does_row c d IsAny row some tt)
  once c d (inr wave) some = inr (does_wave c d IsAny wave tt)

  -- speeds
  wave_speed : (c d : ℕ) → DoesWave (turn_with song channel o s) c d → 1 ≤ c → c ≤ 4 → d ≢ 0 → IsPointer song Speed d
  wave_speed c d w least most some =
      points (does_wave c d (λ x. x ≡ d) w refl)
    where
      points : HasWaveRow song c (λ x. x ≡ d) → IsPointer song Speed d
      points r =
          rw r.is_meant at (wave_pointer song Speed r.p r.reached
          (waves_by_speed (table_row song Wave r.p).left c r.command_is least most) (rw r.is_meant some))

  vibrato_speed : (d : ℕ) → d ≢ 0 → RunsVibrato song d → IsPointer song Speed d
  vibrato_speed d some r = of_played (of_instrument r.number r.used r.is some)

  speed_pointer : (d : ℕ) → AsksSpeed (turn_with song channel o s) d → d ≢ 0 → IsPointer song Speed d
  speed_pointer d (for_slide c least most (inl wave)) some = wave_speed c d wave least most some
  speed_pointer d (for_slide c least most (inr running)) some =
      row_pointer song Speed c d (runs c d running least) (slides_by_speed c least most) some
  speed_pointer d (for_vibrato m) some = vibrato_speed d some (meets_vibrato d 1 m)

  pub has_note_speed : (d : ℕ) → AsksSpeed (turn_with song channel o s) d → 0x80 ≤ (table_row song Speed d).left →
      HasNoteSpeed song
  has_note_speed d a high =
      record { p = d; pointer = speed_pointer d a (some_speed song d high); from_note = high }

  -- the pulse program
  pub has_pulse : (p : ℕ) → HasPulseProgram (turn_with song channel o s) p → HasPointer song Pulse
  has_pulse p h =
      let waved = wave_keeps song order h.s play (ticked h.s h.goes_on) in
      let done = effect_done_keeps song order o (wave_step (look_ups_of song) h.s) waved in
      has_pointer song Pulse p (is_step song Pulse p (rw (h.voice_is, h.ptr) at done.voice.pulse) h.some).reached

  -- tempos
  pub has_funk : AsksFunkTempo (turn_with song channel o s) → HasFeature song FunkTempo
  has_funk (by_values d r) = inl (does_row 0xE d IsAny r (lit≤ tt) tt)
  has_funk (by_tempo d r low) = inr (does_row 0xF d (λ n. n ≤ 1) r (lit≤ tt) low)
  has_funk (by_length tempo l short) = (rw l.tempo_is at (tempo_safe song channel s.common q.common)) short
