-- A memory holds a state behind a part of a frame's code, voice by voice.
use Rattle.std.proofs.Common.{◌≡◌, ◌≢◌, ℕ, ◌+◌, ◌<◌, ◌&&◌, Bool, true, false, List, [], ◌∷◌}
use Rattle.std.proofs.Common.{◌%◌, refl, sym, ap, ◌∙◌, not, nat_eq}
use Rattle.std.proofs.lemmas.Bool.{and_parts, both_ways}
use Rattle.play_model.specs.State.{Voice, Common, FrameState, Playing, playing_of, voice_of}
use Rattle.play_model.specs.TickStep.{tempo_of}
use Rattle.packed_form.specs.declared.packed_songs.PackedSong.{PackedSong}
use Rattle.scopes.specs.Desk.{Layout}
use Rattle.player_memory.specs.declared.labels.TheConstants.{TICK, GATE_TIMER, INSTRUMENT, NOTE, NEW_NOTE}
use Rattle.player_memory.specs.declared.labels.TheConstants.{NEW_COMMAND, NEW_PARAM, COMMAND, PARAM, AD, SR, VIB_TIME}
use Rattle.player_memory.specs.declared.labels.TheConstants.{VIB_DELAY, WAVE, GATE, FREQ_LOW, FREQ_HIGH, LAST_NOTE}
use Rattle.player_memory.specs.declared.labels.TheConstants.{WAVE_POINTER, WAVE_TIME, PULSE_POINTER, PULSE_TIME}
use Rattle.player_memory.specs.declared.labels.TheConstants.{PULSE_LOW, PULSE_HIGH, TEMPO}
use Rattle.player_memory.specs.declared.variables.TheConstants.{SONG_BYTES}
use Rattle.player_memory.specs.Labels.{is_own}
use Rattle.player_memory.specs.Variables.{CommonBytesStand}
use Rattle.player_memory.specs.Playing.{own_at, shared_at, AreSame}
use Rattle.player_memory.specs.SongLists.{pattern_bytes}
use Rattle.player_memory.specs.Holds.{VoiceHolds, look_of, order_in, order_label}
use Rattle.player_desk.proofs.Laws.{Fields, fields_of, fields_stand}
use Rattle.voice_code.proofs.Laws.{in_song_stays}

-- ---- a voice's own bytes

-- a voice's own bytes but its tempo are as before
abbrev pub OwnStay : (ℕ → ℕ) → (ℕ → ℕ) → Type 0
OwnStay one two = (label : ℕ) → is_own label ≡ true → label ≢ TEMPO → two label ≡ one label

-- a label is a voice's own, and not its tempo's
abbrev is_plain : ℕ → Bool
is_plain label = is_own label && not (nat_eq label TEMPO)

abbrev are_plain : List ℕ → Bool
are_plain [] = true
are_plain (label ∷ labels) = is_plain label && are_plain labels

plain_stays : (one two : ℕ → ℕ) → OwnStay one two → (label : ℕ) → is_plain label ≡ true →
    two label ≡ one label
plain_stays one two same label plain =
    let both = and_parts (is_own label) (not (nat_eq label TEMPO)) plain in
    same label both.0 (λ e.
    both_ways (nat_eq label TEMPO) (not_true (nat_eq label TEMPO) both.1) (ap (λ n. nat_eq n TEMPO) e))
  where
    not_true : (b : Bool) → not b ≡ true → b ≡ false
    not_true true e = sym e
    not_true false e = refl

songs_stay : (labels : List ℕ) (one two : ℕ → ℕ) → OwnStay one two → are_plain labels ≡ true →
    AreSame labels two one
songs_stay [] one two same plain = tt
songs_stay (label ∷ labels) one two same plain =
    let both = and_parts (is_plain label) (are_plain labels) plain in
    (plain_stays one two same label both.0, songs_stay labels one two same both.1)

fields_stay : (holds : ℕ → Bool) (v : Voice) (tempo now : ℕ) (one two : ℕ → ℕ) → OwnStay one two → two TEMPO ≡ now →
    Fields holds v tempo one → Fields holds v now two
fields_stay holds v tempo now one two same is f = record {
  tick = at TICK refl ∙ f.tick;
  gate_timer = λ kept. at GATE_TIMER refl ∙ f.gate_timer kept;
  instrument = at INSTRUMENT refl ∙ f.instrument;
  note = at NOTE refl ∙ f.note;
  new_note = at NEW_NOTE refl ∙ f.new_note;
  new_command = λ on. at NEW_COMMAND refl ∙ f.new_command on;
  new_param = λ on some. at NEW_PARAM refl ∙ f.new_param on some;
  command = λ on. at COMMAND refl ∙ f.command on;
  param = λ on. at PARAM refl ∙ f.param on;
  ad = at AD refl ∙ f.ad;
  sr = at SR refl ∙ f.sr;
  vib_time = λ on. at VIB_TIME refl ∙ f.vib_time on;
  vib_delay = λ on. at VIB_DELAY refl ∙ f.vib_delay on;
  wave = at WAVE refl ∙ f.wave;
  gate = at GATE refl ∙ f.gate;
  freq_low = at FREQ_LOW refl ∙ f.freq_low;
  freq_high = at FREQ_HIGH refl ∙ f.freq_high;
  last_note = λ on. at LAST_NOTE refl ∙ f.last_note on;
  wave_ptr = at WAVE_POINTER refl ∙ f.wave_ptr;
  wave_time = λ on. at WAVE_TIME refl ∙ f.wave_time on;
  pulse_ptr = at PULSE_POINTER refl ∙ f.pulse_ptr;
  pulse_time = at PULSE_TIME refl ∙ f.pulse_time;
  pulse_low = λ on. at PULSE_LOW refl ∙ f.pulse_low on;
  no_pulse_low = f.no_pulse_low;
  pulse_high = λ on. ap (λ byte. byte % 16) (at PULSE_HIGH refl) ∙ f.pulse_high on;
  no_pulse_high = f.no_pulse_high;
  tempo_is = is;
}
  where
    at : (label : ℕ) → is_plain label ≡ true → two label ≡ one label
    at label plain = plain_stays one two same label plain

-- ---- a voice

-- each voice's tempo stands
abbrev pub TemposStand : Layout → Common → (ℕ → ℕ) → Type 0
TemposStand layout c at = (its : ℕ) → its < 3 → own_at layout at its TEMPO ≡ tempo_of (its + 1) c

-- what the voices share has changed, and of the voice's own bytes at most its tempo
pub other_holds : (layout : Layout) (packed : PackedSong) (k voice : ℕ) (x y : FrameState) (c : Common)
    (one two : ℕ → ℕ) → voice < 3 →
    playing_of (voice + 1) y ≡ record { voice = voice_of (voice + 1) x; common = c } →
    OwnStay (own_at layout one voice) (own_at layout two voice) →
    CommonBytesStand layout.holds c (shared_at layout two) → TemposStand layout c two →
    VoiceHolds layout packed k voice x one → VoiceHolds layout packed k voice y two
other_holds layout packed k voice x y c one two few is same common tempos holds = record {
  plays = rw is (record {
    own = fields_stand layout.holds v (tempo_of (voice + 1) c) (own_at layout two voice)
        (fields_stay layout.holds v _ (tempo_of (voice + 1) c) (own_at layout one voice) (own_at layout two voice) same
        (tempos voice few) (fields_of layout.holds v _ (own_at layout one voice) holds.plays.own));
    common = common;
    tempos = tempos;
  });
  song = rw (ap (λ (s : Playing). s.voice) is)
      (in_song_stays layout (order_label k voice) (look_of packed) (pattern_bytes packed) (order_in packed k voice) v v
      (own_at layout one voice) (own_at layout two voice) refl
      (songs_stay SONG_BYTES (own_at layout one voice) (own_at layout two voice) same refl) holds.song);
}
  where
    v : Voice
    v = voice_of (voice + 1) x
