-- The tick step keeps a voice and what the voices share safe.
use Rattle.std.specs.Prelude.{nat_le, nat_lt, ◌==◌, ◌&&◌}
use Rattle.std.proofs.Common.{◌≡◌, ◌≢◌, ℕ, ◌-◌, ◌≤◌, Bool, true, false, cond, Some, refl, inl, inr, arith}
use Rattle.std.proofs.lemmas.Bool.{cond_both, and_parts, eqb-true, eqb-false, leb-true, leb-false, ltb-true, ltb-false}
use Rattle.song_model.specs.declared.orders.Order.{Order}
use Rattle.song_model.specs.declared.features.Feature.TheVariants.{FunkTempo}
use Rattle.song_model.specs.declared.instruments.Instrument.{Instrument}
use Rattle.song_model.specs.declared.tables.TableName.{TableName}
use Rattle.song_model.specs.declared.tables.TableName.TheVariants.{Wave, Pulse, Filter, Speed}
use Rattle.song_model.specs.declared.songs.Song.{Song}
use Rattle.song_model.specs.LookUp.{instrument_at}
use Rattle.song_model.specs.Pointers.{instrument_pointer, command_table}
use Rattle.play_model.specs.LookUps.{LookUps, look_ups_of}
use Rattle.play_model.specs.Wrap.{byte_minus}
use Rattle.play_model.specs.State.{Voice, Common, Playing}
use Rattle.play_model.specs.TickStep.{Ticked, tempo_of, with_tempo, with_all_tempos, reloaded, between_rows, note_taken}
use Rattle.play_model.specs.TickStep.{first_wave_set, programs_begun, taken, note_started, funk_set, funk_tempo}
use Rattle.play_model.specs.TickStep.{tempo_set, row_command, note_ended, gate_timer_set, at_row, tick_step}
use Rattle.play_model.specs.Used.{IsUsedInstrument}
use Rattle.play_model.specs.Features.{IsAny, HasRow, HasInstrument, HasFeature}
use Rattle.play_model.specs.Safe.{IsSafePointer, HasCommand, IsSafeWaiting, none, of_row, IsSafeRunning, of_instrument}
use Rattle.play_model.specs.Safe.{IsSafeNote, IsSafeNewNote, IsSafeVoice, IsSafeTempo, IsSafeCommon}
use Rattle.safe_states.specs.SafeLaws.{IsSafePlaying}
use Rattle.safe_states.proofs.Pointers.{CanBePlayed, from_instrument, from_row, no_time}
use Rattle.safe_states.proofs.Programs.{Stays}
use Rattle.safe_states.proofs.Commands.{with_voice, with_common, envelope_keeps, wave_begun, no_wait, command_keeps}

-- ---- what waits

-- a command other than 0 is a row's
pub waiting_command : (song : Song) (command param : ℕ) → IsSafeWaiting song command param → command ≢ 0 →
    HasCommand song command param
waiting_command song command param none some = absurd (some refl)
waiting_command song command param (of_row h) some = h

pub has_row : (song : Song) (command param : ℕ) (IsMeant : ℕ → Type 0) → HasCommand song command param →
    IsMeant param → HasRow song command IsMeant
has_row song command param IsMeant h meant =
    record { row = h.row; used = h.used; command_is = h.command_is; is_meant = rw h.param_is meant }

-- ---- tempos

tempo_fields : (song : Song) (c : Common) (one two three funk_one funk_two : ℕ) → IsSafeTempo song one →
    IsSafeTempo song two → IsSafeTempo song three → IsSafeCommon song c →
    IsSafeCommon song
    (record c { tempo_one = one; tempo_two = two; tempo_three = three; funk_one = funk_one; funk_two = funk_two })
tempo_fields song c one two three funk_one funk_two a b d q =
    assumption (a, b, d, q)

pub tempo_safe : (song : Song) (channel : ℕ) (c : Common) → IsSafeCommon song c →
    IsSafeTempo song (tempo_of channel c)
tempo_safe song channel c q =
    cond_both (channel == 1) c.tempo_one _ (IsSafeTempo song) (λ h. q.tempo_one)
    (λ h. cond_both (channel == 2) c.tempo_two c.tempo_three (IsSafeTempo song) (λ h. q.tempo_two) (λ h. q.tempo_three))

one_tempo_keeps : (song : Song) (channel tempo : ℕ) (c : Common) → IsSafeTempo song tempo → IsSafeCommon song c →
    IsSafeCommon song (with_tempo channel tempo c)
one_tempo_keeps song channel tempo c h q =
    cond_both (channel == 1) _ _ (IsSafeCommon song)
    (λ z. tempo_fields song c tempo c.tempo_two c.tempo_three c.funk_one c.funk_two h q.tempo_two q.tempo_three q)
    (λ z. cond_both (channel == 2) _ _ (IsSafeCommon song)
    (λ z. tempo_fields song c c.tempo_one tempo c.tempo_three c.funk_one c.funk_two q.tempo_one h q.tempo_three q)
    (λ z. tempo_fields song c c.tempo_one c.tempo_two tempo c.funk_one c.funk_two q.tempo_one q.tempo_two h q))

all_tempos_keep : (song : Song) (tempo : ℕ) (c : Common) → IsSafeTempo song tempo → IsSafeCommon song c →
    IsSafeCommon song (with_all_tempos tempo c)
all_tempos_keep song tempo c h q = tempo_fields song c tempo tempo tempo c.funk_one c.funk_two h h h q

-- a tempo of 2 or more is no funk tempo
long_tempo : (song : Song) (tempo : ℕ) → 2 ≤ tempo → IsSafeTempo song tempo
long_tempo song tempo long short = absurd (omega arith)

funk_tempo_keeps : (song : Song) (look : LookUps) (d : ℕ) (c : Common) → HasFeature song FunkTempo →
    IsSafeCommon song c → IsSafeCommon song (funk_tempo look d c)
funk_tempo_keeps song look d c has q =
    all_tempos_keep song 0 _ (λ short. has)
    (cond_both (d == 0) c (funk_set (look.row Speed d) c) (IsSafeCommon song) (λ h. q)
    (λ h. tempo_fields song c c.tempo_one c.tempo_two c.tempo_three (byte_minus (look.row Speed d).left 1)
    (byte_minus (look.row Speed d).right 1) q.tempo_one q.tempo_two q.tempo_three q))

tempo_set_keeps : (song : Song) (channel d : ℕ) (c : Common) → (d ≤ 1 → HasFeature song FunkTempo) →
    IsSafeCommon song c → IsSafeCommon song (tempo_set channel d c)
tempo_set_keeps song channel d c has q =
    cond_both (nat_le d 1) _ _ (IsSafeCommon song)
    (λ h. all_tempos_keep song d c (λ short. has (leb-true d 1 h)) q)
    (λ h. cond_both (nat_le 0x03 d && nat_le d 0x7F) _ _ (IsSafeCommon song)
    (λ h. all_tempos_keep song (d - 1) c (long_tempo song (d - 1) (less_one (leb-true 3 d (and_parts _ _ h).0))) q)
    (λ h. cond_both (nat_le 0x83 d) _ c (IsSafeCommon song)
    (λ h. one_tempo_keeps song channel (d - 0x81) c (long_tempo song (d - 0x81) (less_more (leb-true 0x83 d h))) q)
    (λ h. q)))
  where
    less_one : 3 ≤ d → 2 ≤ d - 1
    less_one h = omega arith

    less_more : 0x83 ≤ d → 2 ≤ d - 0x81
    less_more h = omega arith

-- ---- between rows

tick_keeps_field : (song : Song) (order : Order) (s : Playing) (n : ℕ) → IsSafePlaying song order s →
    IsSafePlaying song order (record s { voice = record s.voice { tick = n } })
tick_keeps_field song order s n q = assumption q

reloaded_keeps : (song : Song) (order : Order) (channel tempo : ℕ) (s : Playing) → IsSafeTempo song tempo →
    IsSafePlaying song order s → IsSafePlaying song order (reloaded channel tempo s)
reloaded_keeps song order channel tempo s h q =
    cond_both (nat_le 2 tempo) _ _ (IsSafePlaying song order) (λ z. tick_keeps_field song order s tempo q)
    (λ z. with_common song order _ (with_tempo channel (1 - tempo) s.common) (tick_keeps_field song order s _ q)
    (one_tempo_keeps song channel (1 - tempo) s.common (λ short. h (leb-false 2 tempo z)) q.common))

between_keeps : (song : Song) (order : Order) (channel : ℕ) (s : Playing) → IsSafePlaying song order s →
    IsSafePlaying song order (between_rows channel s)
unfolding between_rows
between_keeps song order channel s q =
    cond_both (nat_le 0x80 s.voice.tick) _ s (IsSafePlaying song order)
    (λ h. reloaded_keeps song order channel (tempo_of channel s.common) s (tempo_safe song channel s.common q.common) q)
    (λ h. q)

-- ---- a note that starts

-- an instrument that is used
record IsUsed (song : Song) (i : Instrument) : Type 0 where
  number : ℕ
  used : IsUsedInstrument song number
  is : instrument_at song number ≡ i

vibrato_runs : (song : Song) (i : Instrument) → IsUsed song i → IsSafeRunning song 0 i.vibrato
vibrato_runs song i u = rw (← u.is) (of_instrument u.number u.used)

delay_is : (song : Song) (i : Instrument) → IsUsed song i → i.vibrato_delay ≢ 0 →
    HasInstrument song (λ n. (instrument_at song n).vibrato_delay)
delay_is song i u some = record { instrument = u.number; used = u.used; some = rw u.is some }

-- the note that waits, as it sounds
note_sounds : (note : ℕ) → note ≢ 0 → IsSafeNewNote note → IsSafeNote (byte_minus note 0x60)
note_sounds note some (inl silent) = absurd (some silent)
note_sounds note some (inr within) = by_side (nat_lt note 0x60) refl
  where
    by_side : (low : Bool) → nat_lt note 0x60 ≡ low → IsSafeNote (byte_minus note 0x60)
    by_side true e =
        let below = ltb-true note 0x60 e in
        let least = within.0 in
        inr (omega (arith, below, least), omega (arith, below))
    by_side false e =
        let from = ltb-false note 0x60 e in
        let most = within.1 in
        inl (omega (arith, from, most))

note_taken_keeps : (song : Song) (order : Order) (i : Instrument) (v : Voice) → IsUsed song i → v.new_note ≢ 0 →
    IsSafeVoice song order v → IsSafeVoice song order (note_taken i v)
note_taken_keeps song order i v u some q =
    let running = vibrato_runs song i u in
    let delay = delay_is song i u in
    let note = note_sounds v.new_note some q.new_note in
    assumption (running, delay, note, q)

first_wave_keeps : (song : Song) (order : Order) (wave : ℕ) (v : Voice) → IsSafeVoice song order v →
    IsSafeVoice song order (first_wave_set wave v)
first_wave_keeps song order wave v q =
    cond_both (nat_le 0xFE wave) _ _ (IsSafeVoice song order)
    (λ h. envelope_keeps song order v v.ad v.sr v.wave wave q)
    (λ h. cond_both (wave == 0) v _ (IsSafeVoice song order) (λ h. q)
    (λ h. envelope_keeps song order v v.ad v.sr wave 0xFF q))

-- a program that begins anew, or goes on as it was
goes_on_or_begins : (song : Song) (name : TableName) (z : Bool) (old time p : ℕ) → Stays song name old time →
    IsSafePointer song name p → Stays song name (cond z old p) (cond z time 0)
goes_on_or_begins song name true old time p s h = s
goes_on_or_begins song name false old time p s h = record { ptr = h; passes = no_time song name p }

begun_voice : (song : Song) (order : Order) (v : Voice) (wave ptr time ad sr : ℕ) → IsSafePointer song Wave wave →
    Stays song Pulse ptr time → IsSafeVoice song order v →
    IsSafeVoice song order
    (record v { wave_ptr = wave; wave_time = 0; pulse_ptr = ptr; pulse_time = time; ad = ad; sr = sr })
begun_voice song order v wave ptr time ad sr h s q =
    let wait = no_wait song wave in assumption (h, wait, s.ptr, s.passes, q)

begun_common : (song : Song) (c : Common) (ptr time : ℕ) → Stays song Filter ptr time → IsSafeCommon song c →
    IsSafeCommon song (record c { filter_ptr = ptr; filter_time = time })
begun_common song c ptr time s q = assumption (s.ptr, s.passes, q)

begins_at : (song : Song) (name : TableName) (i : Instrument) → CanBePlayed song → IsUsed song i →
    IsSafePointer song name (instrument_pointer name i)
begins_at song name i play u = rw u.is at (from_instrument song name u.number play u.used)

programs_keep : (song : Song) (order : Order) (i : Instrument) (s : Playing) → CanBePlayed song → IsUsed song i →
    IsSafePlaying song order s → IsSafePlaying song order (programs_begun i s)
programs_keep song order i s play u q = record {
  voice =
      begun_voice song order s.voice i.wave _ _ i.ad i.sr (begins_at song Wave i play u)
      (goes_on_or_begins song Pulse (i.pulse == 0) s.voice.pulse_ptr s.voice.pulse_time i.pulse
      (record { ptr = q.voice.pulse; passes = q.voice.pulse_time })
      (begins_at song Pulse i play u)) q.voice;
  common =
      begun_common song s.common _ _
      (goes_on_or_begins song Filter (i.filter == 0) s.common.filter_ptr s.common.filter_time i.filter
      (record { ptr = q.common.filter; passes = q.common.filter_time })
      (begins_at song Filter i play u)) q.common;
}

taken_keeps : (song : Song) (order : Order) (i : Instrument) (s : Playing) → CanBePlayed song → IsUsed song i →
    s.voice.new_note ≢ 0 → IsSafePlaying song order s → IsSafePlaying song order (taken i s)
taken_keeps song order i s play u some q =
    let note = note_taken_keeps song order i s.voice u some q.voice in
    cond_both (s.voice.new_command == 3) _ _ (IsSafePlaying song order)
    (λ h. with_voice song order s (note_taken i s.voice) q note)
    (λ h. programs_keep song order i (record s { voice = first_wave_set i.first_wave (note_taken i s.voice) }) play u
    (with_voice song order s _ q (first_wave_keeps song order i.first_wave (note_taken i s.voice) note)))

started_keeps : (song : Song) (order : Order) (i : Instrument) (s : Playing) → CanBePlayed song → IsUsed song i →
    IsSafePlaying song order s → IsSafePlaying song order (note_started i s)
unfolding note_started
started_keeps song order i s play u q =
    cond_both (s.voice.new_note == 0) s (taken i s) (IsSafePlaying song order) (λ h. q)
    (λ h. taken_keeps song order i s play u (eqb-false s.voice.new_note 0 h) q)

-- ---- the row's command

runs_keeps : (song : Song) (order : Order) (v : Voice) (command param vib_time : ℕ) →
    IsSafeRunning song command param → IsSafeVoice song order v →
    IsSafeVoice song order (record v { command = command; param = param; vib_time = vib_time })
runs_keeps song order v command param vib_time h q = assumption (h, q)

row_runs : (song : Song) (command param : ℕ) → IsSafeWaiting song command param → command ≢ 0 → command ≤ 4 →
    IsSafeRunning song command param
row_runs song command param w some most =
    of_row (omega arith) most (waiting_command song command param w some)

two_is_low : (c : ℕ) → c ≤ 2 → c ≤ 4
two_is_low c h = omega arith

row_command_keeps : (song : Song) (order : Order) (channel : ℕ) (i : Instrument) (c d : ℕ) (s : Playing) →
    CanBePlayed song → IsUsed song i → IsSafeWaiting song c d → IsSafePlaying song order s →
    IsSafePlaying song order (row_command channel (look_ups_of song) i c d s)
unfolding row_command
row_command_keeps song order channel i c d s play u w q =
    cond_both (c == 0) _ _ safe
    (λ h. voice _ (runs_keeps song order s.voice 0 i.vibrato s.voice.vib_time (vibrato_runs song i u) q.voice))
    (λ z. let some = eqb-false c 0 z in
    let has = waiting_command song c d w some in
    cond_both (nat_le c 2) _ _ safe
    (λ h. voice _
    (runs_keeps song order s.voice c d 0 (row_runs song c d w some (two_is_low c (leb-true c 2 h))) q.voice))
    (λ h. cond_both (nat_le c 4) _ _ safe
    (λ h. voice _ (runs_keeps song order s.voice c d s.voice.vib_time
    (row_runs song c d w some (leb-true c 4 h)) q.voice))
    (λ h. cond_both (c == 8) _ _ safe
    (λ h. voice _ (wave_begun song order s.voice d (to_table Wave 8 (eqb-true c 8 h) refl has) q.voice))
    (λ h. cond_both (c == 0xE) _ _ safe
    (λ h. common _ (funk_tempo_keeps song (look_ups_of song) d s.common (funk_set_by (eqb-true c 0xE h) has) q.common))
    (λ h. cond_both (c == 0xF) _ _ safe
    (λ h. common _ (tempo_set_keeps song channel d s.common (funk_named (eqb-true c 0xF h) has) q.common))
    (λ h. command_keeps song order c d s (λ e. to_table Pulse 9 e refl has) (λ e. to_table Filter 0xA e refl has)
    q))))))
  where
    safe : Playing → Type 0
    safe = IsSafePlaying song order

    voice : (w : Voice) → IsSafeVoice song order w → IsSafePlaying song order (record s { voice = w })
    voice w h = with_voice song order s w q h

    common : (w : Common) → IsSafeCommon song w → IsSafePlaying song order (record s { common = w })
    common w h = with_common song order s w q h

    to_table : (name : TableName) (n : ℕ) → c ≡ n → command_table n ≡ Some name → HasCommand song c d →
        IsSafePointer song name d
    to_table name n e table h = from_row song name c d play h (rw e table)

    funk_set_by : c ≡ 0xE → HasCommand song c d → HasFeature song FunkTempo
    funk_set_by e h = inl (has_row song 0xE d IsAny (rw e at h) tt)

    funk_named : c ≡ 0xF → HasCommand song c d → d ≤ 1 → HasFeature song FunkTempo
    funk_named e h low = inr (has_row song 0xF d (λ n. n ≤ 1) (rw e at h) low)

-- ---- the whole step

timer_keeps : (song : Song) (order : Order) (i : Instrument) (s : Playing) → IsSafePlaying song order s →
    IsSafePlaying song order (gate_timer_set i s)
timer_keeps song order i s q = assumption q

ended_keeps : (song : Song) (order : Order) (s : Playing) → IsSafePlaying song order s →
    IsSafePlaying song order (note_ended s).playing
ended_keeps song order s q = let none : IsSafeNewNote 0 = inl refl in assumption (none, q)

at_row_keeps : (song : Song) (order : Order) (channel : ℕ) (i : Instrument) (s : Playing) → CanBePlayed song →
    IsUsed song i → IsSafePlaying song order s →
    IsSafePlaying song order (at_row channel (look_ups_of song) i s).playing
unfolding at_row
at_row_keeps song order channel i s play u q =
    let c = s.voice.new_command in
    let d = s.voice.new_param in
    let started = note_started i (gate_timer_set i s) in
    ended_keeps song order (row_command channel (look_ups_of song) i c d started)
    (row_command_keeps song order channel i c d started play u q.voice.waiting
    (started_keeps song order i (gate_timer_set i s) play u (timer_keeps song order i s q)))

pub tick_keeps : (song : Song) (order : Order) (channel : ℕ) (s : Playing) → CanBePlayed song →
    IsSafePlaying song order s → IsSafePlaying song order (tick_step channel (look_ups_of song) s).playing
unfolding tick_step
tick_keeps song order channel s play q =
    let next = record s { voice = record s.voice { tick = byte_minus s.voice.tick 1 } } in
    let h = tick_keeps_field song order s (byte_minus s.voice.tick 1) q in
    let i = instrument_at song s.voice.instrument in
    cond_both (byte_minus s.voice.tick 1 == 0) (at_row channel (look_ups_of song) i next)
    (record { playing = between_rows channel next; started = false })
    (λ (t : Ticked). IsSafePlaying song order t.playing)
    (λ z. at_row_keeps song order channel i next play
    (record { number = s.voice.instrument; used = q.voice.instrument; is = refl }) h)
    (λ z. between_keeps song order channel next h)
