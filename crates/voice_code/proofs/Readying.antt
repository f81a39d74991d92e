-- What a voice's step reads stands in a later memory too, and the step is ready there.
use Rattle.std.proofs.Common.{ℕ, List}
use Rattle.song_model.specs.declared.orders.Order.{Order}
use Rattle.play_model.specs.declared.options.Options.{Options}
use Rattle.play_model.specs.LookUps.{LookUps}
use Rattle.play_model.specs.State.{Playing}
use Rattle.scopes.specs.Desk.{Layout}
use Rattle.player_memory.specs.declared.labels.TheConstants.{ADS, SRS, WAVES, PULSES, FILTERS, VIBRATOS, DELAYS}
use Rattle.player_memory.specs.declared.labels.TheConstants.{GATE_TIMERS, FIRST_WAVES, ONE_WAVE}
use Rattle.tick_code.specs.TickBlock.{HasInstrument, HasTickLists}
use Rattle.voice_code.specs.VoiceBlock.{Counts, HasVoiceLists, VoiceIsReady, effected}
use Rattle.voice_code.proofs.Lists.{ListsStay, listed_stays, alone_stays, table_stays, waves_stay, tones_stay, speeds_stay}
use Rattle.voice_code.proofs.Lists.{pulses_stay}
use Rattle.voice_code.proofs.SongLists.{rows_stay}

instrument_stays : (layout : Layout) (rows : ℕ) (look : LookUps) (one two : ℕ → ℕ) (number : ℕ) →
    ListsStay layout rows look one two → HasInstrument layout rows one look number →
    HasInstrument layout rows two look number
instrument_stays layout rows look one two number stay has = record {
  ad = listed_stays layout rows look one two ADS number _ stay has.ad;
  sr = listed_stays layout rows look one two SRS number _ stay has.sr;
  wave = listed_stays layout rows look one two WAVES number _ stay has.wave;
  pulse = λ kept. listed_stays layout rows look one two PULSES number _ stay (has.pulse kept);
  filter = λ kept. listed_stays layout rows look one two FILTERS number _ stay (has.filter kept);
  vibrato = λ kept. listed_stays layout rows look one two VIBRATOS number _ stay (has.vibrato kept);
  delay = λ kept. listed_stays layout rows look one two DELAYS number _ stay (has.delay kept);
  gate_timer = λ kept. listed_stays layout rows look one two GATE_TIMERS number _ stay (has.gate_timer kept);
  first_wave = λ kept. listed_stays layout rows look one two FIRST_WAVES number _ stay (has.first_wave kept);
  gate_timer_byte = has.gate_timer_byte;
}

ticks_stay : (layout : Layout) (rows : ℕ) (look : LookUps) (one two : ℕ → ℕ) (instruments speeds : ℕ) →
    ListsStay layout rows look one two → HasTickLists layout rows one look instruments speeds →
    HasTickLists layout rows two look instruments speeds
ticks_stay layout rows look one two instruments speeds stay has = record {
  instrument = λ number least most.
      instrument_stays layout rows look one two number stay (has.instrument number least most);
  speed = table_stays layout rows look one two _ _ speeds _ stay has.speed;
}

pub voice_lists_stay : (layout : Layout) (rows : ℕ) (look : LookUps) (one two : ℕ → ℕ) (counts : Counts) →
    ListsStay layout rows look one two → HasVoiceLists layout rows one look counts →
    HasVoiceLists layout rows two look counts
voice_lists_stay layout rows look one two counts stay has = record {
  ticks = ticks_stay layout rows look one two counts.instruments counts.speeds stay has.ticks;
  waves = waves_stay layout rows look one two counts.waves stay has.waves;
  tones = tones_stay layout rows look one two counts.numbers stay has.tones;
  speeds = speeds_stay layout rows look one two counts.speeds stay has.speeds;
  pulses = pulses_stay layout rows look one two counts.pulses stay has.pulses;
}

-- of what the step is ready for, the first waveform and the fetch alone read memory
pub voice_stays_ready : (layout : Layout) (rows : ℕ) (look : LookUps) (one two : ℕ → ℕ) (channel : ℕ) (o : Options)
    (packed : ℕ → List ℕ) (order : Order) (counts : Counts) (s : Playing) → ListsStay layout rows look one two →
    VoiceIsReady layout rows one channel o look packed order counts s →
    VoiceIsReady layout rows two channel o look packed order counts s
voice_stays_ready layout rows look one two channel o packed order counts s stay ready = record {
  lists = ready.lists;
  keeps = ready.keeps;
  first_wave = λ now out. alone_stays layout rows look one two ONE_WAVE _ stay (ready.first_wave now out);
  wave = ready.wave;
  effect = ready.effect;
  fetch = λ waits.
      rows_stay layout rows look one two packed order (effected channel o look s).voice stay (ready.fetch waits);
  pulse = ready.pulse;
}
