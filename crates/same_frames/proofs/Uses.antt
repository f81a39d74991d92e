-- What a frame over the other look-ups uses, the song's frame uses.
use Rattle.std.specs.Prelude.{◌==◌}
use Rattle.std.proofs.Common.{◌≢◌, ℕ, ◌%◌, ◌<◌, ◌≤◌, length, lit≤, refl, ap, arith}
use Rattle.song_model.specs.declared.orders.Order.{Order}
use Rattle.song_model.specs.declared.orders.Subtune.{Subtune}
use Rattle.song_model.specs.declared.features.Feature.{Feature}
use Rattle.song_model.specs.declared.features.Feature.TheVariants.{Transpose, Repeat, PortaUp, PortaDown, TonePorta}
use Rattle.song_model.specs.declared.features.Feature.TheVariants.{TieNote, Vibrato, InstrumentVibrato, NoteDependent}
use Rattle.song_model.specs.declared.features.Feature.TheVariants.{SetAd, SetSr, SetWave, SetWavePointer, PulseTable}
use Rattle.song_model.specs.declared.features.Feature.TheVariants.{SetPulsePointer, FilterTable, SetFilterPointer}
use Rattle.song_model.specs.declared.features.Feature.TheVariants.{FilterControl, Cutoff, Volume, FunkTempo, SetTempo}
use Rattle.song_model.specs.declared.features.Feature.TheVariants.{WaveTable, WaveCommand}
use Rattle.song_model.specs.declared.tables.TableRow.{TableRow}
use Rattle.song_model.specs.declared.tables.TableName.TheVariants.{Filter, Speed}
use Rattle.song_model.specs.declared.songs.Song.{Song}
use Rattle.song_model.specs.LookUp.{order_of, playable_subtunes}
use Rattle.play_model.specs.declared.options.Options.{Options}
use Rattle.play_model.specs.LookUps.{LookUps, look_ups_of}
use Rattle.play_model.specs.State.{Common, FrameState, Playing, playing_of}
use Rattle.play_model.specs.Frame.{filter_done, voice_done, subtune_at, state_after_with}
use Rattle.play_model.specs.Uses.{Turn, before_voice, DoesRow, HasWaveProgram, MeetsWaveCommand, MeetsVibrato}
use Rattle.play_model.specs.Uses.{HasPulseProgram, Slides, DoesOnce, AsksSpeed, AsksFunkTempo, HasOrderByte, InATurn}
use Rattle.play_model.specs.Uses.{Uses}
use Rattle.safe_states.specs.SafeLaws.{VoiceRulesKeepSafe}
use Rattle.safe_states.proofs.Laws.{CanBePlayed, safe_within_lem, is_played, no_unused_case_lem}
use Rattle.same_frames.specs.Maps.{Maps}
use Rattle.same_frames.specs.Agreement.{Agrees, SubtunePlaysFor, AddsNoOrderByte}
use Rattle.same_frames.specs.Alike.{PlayingsAreAlike, StatesAreAlike}
use Rattle.same_frames.specs.FrameLaws.{state_after_of}
use Rattle.same_frames.specs.UseLaws.{UsesAreSame, NoOtherCase}
use Rattle.same_frames.proofs.Choices.{choice_related}
use Rattle.same_frames.proofs.Frames.{is_first, is_second, filter_done_alike, voice_done_alike, playing_alike, states_alike_lem}
use Rattle.same_frames.proofs.Turns.{turn_at, some_before, speed_some, speed_none, row_alike, wave_program_alike}
use Rattle.same_frames.proofs.Turns.{meets_alike, vibrato_alike, pulse_program_alike, slides_alike, once_alike}
use Rattle.same_frames.proofs.Turns.{asks_alike, funk_alike, tempo_alike}

-- one more byte of a range from $D0 on
order_byte : (subtune other : Subtune) (from to : ℕ) → 0xD0 ≤ from → AddsNoOrderByte subtune other →
    HasOrderByte other from to → HasOrderByte subtune from to
order_byte subtune other from to low adds h = record {
  channel = h.channel;
  is_channel = h.is_channel;
  byte = h.byte;
  entry = (let above = h.low in adds h.channel h.byte h.is_channel (omega arith) h.entry);
  low = h.low;
  high = h.high;
}

module _ (o : Options) (maps : Maps) (song : Song) (k : ℕ) (other : LookUps) (subtune : Subtune)
    (play : CanBePlayed song) (a : Agrees maps song other) (h : k < length (playable_subtunes song))
    (plays : SubtunePlaysFor maps (subtune_at song k) subtune) (x y : FrameState)
    (q : StatesAreAlike maps song k x y) where
  abbrev look : LookUps
  look = look_ups_of song

  abbrev own : Subtune
  own = subtune_at song k

  pub before_alike : (channel : ℕ) →
      StatesAreAlike maps song k (before_voice channel o look own x) (before_voice channel o other subtune y)
  before_alike channel =
      let x0 = filter_done look x in
      let y0 = filter_done other y in
      let x1 = voice_done 1 o look own x0 in
      let y1 = voice_done 1 o other subtune y0 in
      let q0 = filter_done_alike maps song k other x y play a q in
      let q1 = voice_done_alike maps song k 1 o other subtune x0 y0 play a h is_first plays q0 in
      let q2 = voice_done_alike maps song k 2 o other subtune x1 y1 play a h is_second plays q1 in
      choice_related (StatesAreAlike maps song k) (channel == 1) (channel == 1) x0 _ y0 _ refl (λ z. q0)
      (λ z. choice_related (StatesAreAlike maps song k) (channel == 2) (channel == 2) x1 (voice_done 2 o look own x1) y1
      (voice_done 2 o other subtune y1) refl (λ z. q1) (λ z. q2))

  abbrev started : ℕ → Playing
  started channel = playing_of channel (before_voice channel o look own x)

  abbrev begun : ℕ → Playing
  begun channel = playing_of channel (before_voice channel o other subtune y)

  -- what of the other turn gives this of the song's
  in_turn : (Does Has : Turn → Type 0) →
      ((order : Order) (channel : ℕ) (s t : Playing) → VoiceRulesKeepSafe song order →
      PlayingsAreAlike maps song order s t → Has (turn_at channel o other t) → Does (turn_at channel o look s)) →
      InATurn o other subtune y Has → InATurn o look own x Does
  in_turn Does Has does u =
      let order = order_of u.channel own in
      let rules = (safe_within_lem song play.limits play.playable).rules.voice order
      (is_played song k u.channel h u.is_channel) in
      record {
        channel = u.channel;
        is_channel = u.is_channel;
        does = does order u.channel (started u.channel) (begun u.channel) rules
            (playing_alike maps song k u.channel (before_voice u.channel o look own x)
            (before_voice u.channel o other subtune y) (before_alike u.channel)) u.does;
      }

  -- the same of both
  in_both : (Does : Turn → Type 0) →
      ((order : Order) (channel : ℕ) (s t : Playing) → VoiceRulesKeepSafe song order →
      PlayingsAreAlike maps song order s t → Does (turn_at channel o other t) → Does (turn_at channel o look s)) →
      InATurn o other subtune y Does → InATurn o look own x Does
  in_both Does does u = in_turn Does Does does u

  -- ---- features

  slide : (c : ℕ) → 1 ≤ c → c ≤ 4 → InATurn o other subtune y (λ turn. (d : ℕ) × Slides turn c d) →
      InATurn o look own x (λ turn. (d : ℕ) × Slides turn c d)
  slide c low high =
      in_both (λ turn. (d : ℕ) × Slides turn c d) (λ order channel s t rules p e.
      let r = slides_alike maps song other order play a rules channel o s t p c e.0 low high e.1 in
      (r.param, r.slides))

  tone : InATurn o other subtune y (λ turn. (d : ℕ) × Slides turn 3 d × d ≢ 0) →
      InATurn o look own x (λ turn. (d : ℕ) × Slides turn 3 d × d ≢ 0)
  tone =
      in_both (λ turn. (d : ℕ) × Slides turn 3 d × d ≢ 0) (λ order channel s t rules p e.
      let r = slides_alike maps song other order play a rules channel o s t p 3 e.0 (lit≤ tt) (lit≤ tt) e.1 in
      (r.param, r.slides, speed_some look other r.param e.0 r.speed e.2))

  tie : InATurn o other subtune y (λ turn. Slides turn 3 0) → InATurn o look own x (λ turn. Slides turn 3 0)
  tie =
      in_both (λ turn. Slides turn 3 0) (λ order channel s t rules p e.
      let r = slides_alike maps song other order play a rules channel o s t p 3 0 (lit≤ tt) (lit≤ tt) e in
      rw (speed_none look other r.param 0 r.speed refl) at r.slides)

  vibrato : InATurn o other subtune y (λ turn. (d : ℕ) × (delay : ℕ) × MeetsVibrato turn d delay) →
      InATurn o look own x (λ turn. (d : ℕ) × (delay : ℕ) × MeetsVibrato turn d delay)
  vibrato =
      in_both (λ turn. (d : ℕ) × (delay : ℕ) × MeetsVibrato turn d delay) (λ order channel s t rules p e.
      let r = vibrato_alike maps song other order play a rules channel o s t p e.0 e.1 e.2 in
      (r.param, e.1, r.meets))

  note_speed : InATurn o other subtune y (λ turn. (d : ℕ) × AsksSpeed turn d × 0x80 ≤ (other.row Speed d).left) →
      InATurn o look own x (λ turn. (d : ℕ) × AsksSpeed turn d × 0x80 ≤ (look.row Speed d).left)
  note_speed =
      in_turn (λ turn. (d : ℕ) × AsksSpeed turn d × 0x80 ≤ (look.row Speed d).left)
      (λ turn. (d : ℕ) × AsksSpeed turn d × 0x80 ≤ (other.row Speed d).left) (λ order channel s t rules p e.
      let r = asks_alike maps song other order play a rules channel o s t p e.0 e.1 in
      (r.param, r.asks, rw (ap (λ (row : TableRow). row.left) r.speed.row) at e.2))

  once : (c : ℕ) → InATurn o other subtune y (λ turn. (d : ℕ) × DoesOnce turn c d) →
      InATurn o look own x (λ turn. (d : ℕ) × DoesOnce turn c d)
  once c =
      in_both (λ turn. (d : ℕ) × DoesOnce turn c d) (λ order channel s t rules p e.
      once_alike maps song other order play a rules channel o s t p c e.0 e.1)

  wave_pointer : InATurn o other subtune y (λ turn. (d : ℕ) × DoesRow turn 8 d) →
      InATurn o look own x (λ turn. (d : ℕ) × DoesRow turn 8 d)
  wave_pointer =
      in_both (λ turn. (d : ℕ) × DoesRow turn 8 d) (λ order channel s t rules p e.
      let r = row_alike maps song other order play a rules channel o s t p 8 e.0 e.1 in
      (r.param, r.does))

  pulses : InATurn o other subtune y (λ turn. (p : ℕ) × HasPulseProgram turn p) →
      InATurn o look own x (λ turn. (p : ℕ) × HasPulseProgram turn p)
  pulses =
      in_both (λ turn. (p : ℕ) × HasPulseProgram turn p) (λ order channel s t rules p e.
      pulse_program_alike maps song other order play a rules channel o s t p e.0 e.1)

  waves : InATurn o other subtune y (λ turn. (p : ℕ) × HasWaveProgram turn p) →
      InATurn o look own x (λ turn. (p : ℕ) × HasWaveProgram turn p)
  waves =
      in_both (λ turn. (p : ℕ) × HasWaveProgram turn p) (λ order channel s t rules p e.
      let r = wave_program_alike maps song other order play a rules channel o s t p e.0 e.1 in
      (r.p, r.program))

  wave_commands : InATurn o other subtune y (λ turn. (row : TableRow) × MeetsWaveCommand turn row) →
      InATurn o look own x (λ turn. (row : TableRow) × MeetsWaveCommand turn row)
  wave_commands =
      in_both (λ turn. (row : TableRow) × MeetsWaveCommand turn row) (λ order channel s t rules p e.
      let r = meets_alike maps song other order play a rules channel o s t p e.0 e.1 in
      (r.row, r.meets))

  funks : InATurn o other subtune y AsksFunkTempo → InATurn o look own x AsksFunkTempo
  funks =
      in_both AsksFunkTempo (λ order channel s t rules p e.
      funk_alike maps song other order play a rules channel o s t p e)

  tempos : InATurn o other subtune y (λ turn. (d : ℕ) × DoesRow turn 0xF d × 3 ≤ d % 128) →
      InATurn o look own x (λ turn. (d : ℕ) × DoesRow turn 0xF d × 3 ≤ d % 128)
  tempos =
      in_both (λ turn. (d : ℕ) × DoesRow turn 0xF d × 3 ≤ d % 128) (λ order channel s t rules p e.
      tempo_alike maps song other order play a rules channel o s t p e.0 e.1 e.2)

  filter_program : y.common.filter_ptr ≢ 0 → x.common.filter_ptr ≢ 0
  filter_program some =
      some_before (maps.row Filter) x.common.filter_ptr y.common.filter_ptr (a.rows Filter).nothing
      (ap (λ (c : Common). c.filter_ptr) q.common.moved) some

  pub uses_alike : AddsNoOrderByte own subtune → (feature : Feature) → Uses o other subtune y feature →
      Uses o look own x feature
  uses_alike adds Transpose u = order_byte own subtune 0xE0 0xFE (lit≤ tt) adds u
  uses_alike adds Repeat u = order_byte own subtune 0xD0 0xDF (lit≤ tt) adds u
  uses_alike adds PortaUp u = slide 1 (lit≤ tt) (lit≤ tt) u
  uses_alike adds PortaDown u = slide 2 (lit≤ tt) (lit≤ tt) u
  uses_alike adds TonePorta u = tone u
  uses_alike adds TieNote u = tie u
  uses_alike adds Vibrato u = slide 4 (lit≤ tt) (lit≤ tt) u
  uses_alike adds InstrumentVibrato u = vibrato u
  uses_alike adds NoteDependent u = note_speed u
  uses_alike adds SetAd u = once 5 u
  uses_alike adds SetSr u = once 6 u
  uses_alike adds SetWave u = once 7 u
  uses_alike adds SetWavePointer u = wave_pointer u
  uses_alike adds PulseTable u = pulses u
  uses_alike adds SetPulsePointer u = once 9 u
  uses_alike adds FilterTable u = filter_program u
  uses_alike adds SetFilterPointer u = once 0xA u
  uses_alike adds FilterControl u = once 0xB u
  uses_alike adds Cutoff u = once 0xC u
  uses_alike adds Volume u = once 0xD u
  uses_alike adds FunkTempo u = funks u
  uses_alike adds SetTempo u = tempos u
  uses_alike adds WaveTable u = waves u
  uses_alike adds WaveCommand u = wave_commands u

-- ---- the laws

pub uses_same_lem : UsesAreSame
uses_same_lem o maps song k other subtune limits playable h a plays adds x y q feature u =
    uses_alike o maps song k other subtune (record { limits = limits; playable = playable }) a h plays x y q adds
    feature u

pub no_other_case_lem : NoOtherCase
no_other_case_lem o maps song k i other subtune speed limits playable h a plays adds first feature u =
    no_unused_case_lem o song k i speed limits playable h feature
    (uses_same_lem o maps song k other subtune limits playable h a plays adds (state_after_with o song k i)
    (state_after_of o other subtune i)
    (states_alike_lem o maps song k other subtune i speed limits playable h a plays first) feature u)
