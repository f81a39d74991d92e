-- The lists of a small packed song, computed.
use Rattle.std.proofs.Common.{true, false, [], ◌∷◌, refl, arith}
use Rattle.std.proofs.lemmas.Bool.{ltb-true}
use Rattle.song_model.specs.LookUp.{table_row, instrument_at}
use Rattle.play_model.specs.Freq.{freq}
use Rattle.player_memory.specs.WorkedLists.{table_pieces, instrument_pieces, order_pieces, list_layout, worked_song}
use Rattle.player_memory.specs.declared.labels.TheConstants.{ONE_WAVE, GATE_TIMERS, GATE_FROM}
use Rattle.player_memory.specs.SongLists.{OneWave, Instruments, GateFrom}
use Rattle.player_memory.specs.WorkedLists.{piece, its_facts, with_facts, IsAsWorked, AreAsWorked, SongListsAreWorked}

tables : AreAsWorked list_layout worked_song table_pieces
unfolding freq table_row
tables = assumption

instruments : AreAsWorked list_layout worked_song instrument_pieces
unfolding instrument_at
instruments = assumption

orders : AreAsWorked list_layout worked_song order_pieces
orders = search ltb-true

one_wave : IsAsWorked list_layout (with_facts (record its_facts { own_wave = false }))
    (piece OneWave ONE_WAVE 0x1161 0 (0x09 ∷ []))
unfolding instrument_at
one_wave = assumption

timers : IsAsWorked list_layout (with_facts (record its_facts { own_timer = true }))
    (piece (Instruments 7) GATE_TIMERS 0x1133 1 (0x02 ∷ 0x82 ∷ []))
unfolding instrument_at
timers = assumption

gate_from : IsAsWorked list_layout (with_facts (record its_facts { legato = true }))
    (piece GateFrom GATE_FROM 0x1163 0 (0x03 ∷ []))
unfolding instrument_at
gate_from = assumption

pub song_lists_are_worked : SongListsAreWorked
song_lists_are_worked = record {
  read = record {
    all = refl;
    none = refl;
    no_pulse = refl;
    no_filter = refl;
    no_vibrato = refl;
    no_delay = refl;
    one_wave = refl;
    own_timer = refl;
    first_holds = refl;
    none_holds = refl;
    gate_holds = refl;
    both_hold = refl;
    listed = refl;
    unlisted = refl;
    of_one = refl;
    in_front = refl;
    in_front_of_one = refl;
    in_front_unlisted = refl;
    in_front_of_fewer = refl;
  };
  gaps = record { none = refl; last = refl; beyond = refl; far = refl; fewer = refl };
  tables = tables;
  instruments = instruments;
  orders = orders;
  no_field = λ e. absurd (cc);
  no_subtune = λ is. (let few = is.0 in omega (arith, few));
  no_channel = λ is. (let few = is.1 in omega (arith, few));
  no_pattern = λ few. omega (arith, few);
  no_pulses = λ e. absurd (cc);
  no_one_wave = λ e. absurd (cc);
  no_timers = λ e. absurd (cc);
  no_gate_from = λ e. absurd (cc);
  no_envelope_from = λ e. absurd (cc);
  no_one_timer = λ e. absurd (cc);
  no_lows = λ e. absurd (cc);
  no_highs = λ e. absurd (cc);
  own_order = (omega arith, omega arith);
  one_wave = one_wave;
  timers = timers;
  gate_from = gate_from;
  no_periods = λ e. absurd (cc);
  speed_row_none = record { from = omega arith; to = omega arith };
  speed_row = record { from = omega arith; to = omega arith };
  wave_row = record { from = omega arith; to = omega arith };
  no_speed_row = λ has. (let to = has.to in omega (arith, to));
  no_row_none = λ has. (let from = has.from in omega (arith, from));
  no_wave_row = λ has. (let to = has.to in omega (arith, to));
  no_instrument = λ has. (let to = has.to in omega (arith, to));
  no_frequency_before = λ has. (let from = has.from in omega (arith, from));
  no_frequency = λ has. (let to = has.to in omega (arith, to));
}
