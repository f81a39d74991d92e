-- What frames of small songs use, and what they don't.
use Rattle.std.proofs.Common.{◌≡◌, ◌≢◌, ℕ, zero, suc, ◌<◌, ◌≤◌, [], ◌∷◌, Contains}
use Rattle.std.proofs.Common.{replicate, lit<, lit≤, inl, inr, refl, sym, subst, arith}
use Rattle.std.proofs.lemmas.List.Elements.{All-cons, All-replicate, All-contains}
use Rattle.song_model.specs.declared.orders.Subtune.{Subtune}
use Rattle.song_model.specs.declared.tables.TableName.TheVariants.{Speed}
use Rattle.song_model.specs.Walk.{prefix_of, cycle_of, played}
use Rattle.song_model.specs.LookUp.{order_of, playable_subtune, instrument_at, table_row, pattern_at}
use Rattle.play_model.specs.LookUps.{look_ups_of}
use Rattle.play_model.specs.Freq.{freq, half_tone, slide}
use Rattle.play_model.specs.State.{no_options}
use Rattle.play_model.specs.Helpers.{next_row, porta_up, porta_down, tone, vibrato, do_command}
use Rattle.play_model.specs.FilterStep.{filter_step}
use Rattle.play_model.specs.TickStep.{between_rows, note_started, row_command, at_row, tick_step}
use Rattle.play_model.specs.WaveStep.{wave_command, wave_step}
use Rattle.play_model.specs.EffectStep.{effect_step}
use Rattle.play_model.specs.PulseStep.{pulse_step}
use Rattle.play_model.specs.FetchRow.{fetch_row}
use Rattle.play_model.specs.Frame.{subtune_at, voice_step, voice_registers, filter_registers, frame_of, state_after_with}
use Rattle.play_model.specs.Used.{IsChannel}
use Rattle.play_model.specs.Uses.{Turn, turn_of, InATurn, DoesRow, DoesOnce, HasOrderByte, for_slide, for_vibrato}
use Rattle.play_model.specs.Uses.{by_values, by_tempo, by_length}
use Rattle.play_model.specs.WorkedSongs.{sides}
use Rattle.safe_states.specs.WorkedCases.{command_song, late_subtune, ProgramsAreUsed, SlidesAreUsed}
use Rattle.safe_states.specs.WorkedCases.{PulseProgramsAreLeftOut, VibratosAreUsed}
use Rattle.safe_states.specs.WorkedCases.{CommandsAreUsed, FiltersAreUsed, SpeedsAreUsed, TemposAreUsed, WaveCommandsAreUsed}
use Rattle.safe_states.specs.WorkedCases.{VoicesAreUsed, OrdersAreUsed, CasesAreAsWorked}
use Rattle.safe_states.proofs.WorkedTurns.{Same, first, second, third, in_first, in_no_turn, has_wave, meets_command, does_wave}
use Rattle.safe_states.proofs.WorkedTurns.{does_effect, does_running, meets_vibrato, delay_is, note_ends_it, no_wave, no_pulse}
use Rattle.safe_states.proofs.WorkedTurns.{left_out_there, pulse_out, no_slide, no_param, no_row, Quiet}
use Rattle.safe_states.proofs.WorkedTurns.{no_wave_command, no_once, no_speed}
use Rattle.safe_states.proofs.WorkedTurns.{asked_is, between, no_command, other_tempo, loads_another}

-- ---- the frames

programs_lem : ProgramsAreUsed
unfolding prefix_of cycle_of played playable_subtune instrument_at table_row pattern_at freq half_tone slide next_row
    porta_up porta_down tone vibrato do_command filter_step between_rows note_started row_command at_row tick_step
    wave_command wave_step effect_step pulse_step fetch_row voice_step voice_registers filter_registers frame_of
    state_after_with
programs_lem = record {
  started = in_no_turn (λ w. note_ends_it _ w.0 refl w.1) (λ w. no_wave _ w.0 refl w.1) (λ w. no_wave _ w.0 refl w.1);
  wave = in_first (1, has_wave _ 1 refl refl (λ e. omega arith));
  pulse = in_first (
    1,
    record {
      s = _;
      goes_on = record { waits = refl; left = refl };
      v = _;
      voice_is = refl;
      kept = refl;
      ptr = refl;
      some = λ e. omega arith;
    },
  );
  no_command = in_no_turn (λ w. no_wave_command _ w.0 refl w.1) (λ w. no_wave_command _ w.0 refl w.1)
      (λ w. no_wave_command _ w.0 refl w.1);
  wave_stopped = in_no_turn (λ w. no_wave _ w.0 refl w.1) (λ w. no_wave _ w.0 refl w.1) (λ w. no_wave _ w.0 refl w.1);
  pulse_stopped = in_no_turn (λ w. no_pulse _ w.0 refl w.1) (λ w. no_pulse _ w.0 refl w.1)
      (λ w. no_pulse _ w.0 refl w.1);
}

slides_lem : SlidesAreUsed
unfolding prefix_of cycle_of played playable_subtune instrument_at table_row pattern_at freq half_tone slide next_row
    porta_up porta_down tone vibrato do_command filter_step between_rows note_started row_command at_row tick_step
    wave_command wave_step effect_step pulse_step fetch_row voice_step voice_registers filter_registers frame_of
    state_after_with
slides_lem = record {
  before = in_no_turn (λ w. no_slide _ 1 w.0 refl (λ e. omega arith) w.1)
      (λ w. no_slide _ 1 w.0 refl (λ e. omega arith) w.1) (λ w. no_slide _ 1 w.0 refl (λ e. omega arith) w.1);
  first = in_first (1, inr (does_running _ 1 (does_effect _ refl refl refl) refl));
  later = in_first (1, inr (does_running _ 1 (does_effect _ refl refl refl) refl));
  kept_out = in_no_turn (λ w. elim w.1 [
    | inl wave ↦ no_wave _ wave.meets.p refl wave.meets.program
    | inr running ↦ left_out_there _ running.v refl running.effect
  ]) (λ w. no_slide _ 1 w.0 refl (λ e. omega arith) w.1) (λ w. no_slide _ 1 w.0 refl (λ e. omega arith) w.1);
  begun_late = in_first (1, inr (does_running _ 1 (does_effect _ refl refl refl) refl));
}

left_out_programs_lem : PulseProgramsAreLeftOut
unfolding prefix_of cycle_of played playable_subtune instrument_at table_row pattern_at freq half_tone slide next_row
    porta_up porta_down tone vibrato do_command filter_step between_rows note_started row_command at_row tick_step
    wave_command wave_step effect_step pulse_step fetch_row voice_step voice_registers filter_registers frame_of
    state_after_with
left_out_programs_lem = record {
  fetched = in_no_turn (λ w. pulse_out _ w.0 refl w.1) (λ w. no_pulse _ w.0 refl w.1) (λ w. no_pulse _ w.0 refl w.1);
  behind_fetch = in_first (
    2,
    record {
      s = _;
      goes_on = record { waits = refl; left = refl };
      v = _;
      voice_is = refl;
      kept = refl;
      ptr = refl;
      some = λ e. omega arith;
    },
  );
  between = in_no_turn (λ w. pulse_out _ w.0 refl w.1) (λ w. no_pulse _ w.0 refl w.1) (λ w. no_pulse _ w.0 refl w.1);
  behind_it = in_first (
    2,
    record {
      s = _;
      goes_on = record { waits = refl; left = refl };
      v = _;
      voice_is = refl;
      kept = refl;
      ptr = refl;
      some = λ e. omega arith;
    },
  );
}

vibratos_lem : VibratosAreUsed
unfolding prefix_of cycle_of played playable_subtune instrument_at table_row pattern_at freq half_tone slide next_row
    porta_up porta_down tone vibrato do_command filter_step between_rows note_started row_command at_row tick_step
    wave_command wave_step effect_step pulse_step fetch_row voice_step voice_registers filter_registers frame_of
    state_after_with
vibratos_lem = record {
  begins = in_first (
    1,
    1,
    meets_vibrato _ 1 (does_effect _ refl refl refl) refl refl (λ e. omega arith) (λ e. omega arith),
  );
  by_note = in_first (
    1,
    for_vibrato
        (meets_vibrato _ 1 (does_effect _ refl refl refl) refl refl (λ e. omega arith) (λ e. omega arith)),
    lit≤ tt,
  );
  delayed = in_first (
    1,
    2,
    meets_vibrato _ 2 (does_effect _ refl refl refl) refl refl (λ e. omega arith) (λ e. omega arith),
  );
  not_yet = in_no_turn (λ w. no_speed _ w.0 refl refl (λ e. omega arith) w.1)
      (λ w. no_speed _ w.0 refl refl (λ e. omega arith) w.1) (λ w. no_speed _ w.0 refl refl (λ e. omega arith) w.1);
  no_delay = in_no_turn (λ w. w.2.begun (sym (delay_is _ w.0 w.1 w.2))) (λ w. w.2.begun (sym (delay_is _ w.0 w.1 w.2)))
      (λ w. w.2.begun (sym (delay_is _ w.0 w.1 w.2)));
}

-- the turn that does the row's command
abbrev turn_with : ℕ → ℕ → Turn
turn_with channel command =
    turn_of channel no_options (look_ups_of (command_song command 1)) (subtune_at (command_song command 1) 0)
    (state_after_with no_options (command_song command 1) 0 6)

done_in_row : (command : ℕ) → DoesRow (turn_with 1 command) command 1
unfolding prefix_of cycle_of played playable_subtune instrument_at table_row pattern_at freq half_tone slide next_row
    porta_up porta_down tone vibrato do_command filter_step between_rows note_started row_command at_row tick_step
    wave_command wave_step effect_step pulse_step fetch_row voice_step voice_registers filter_registers frame_of
    state_after_with
done_in_row command = record { now = refl; command_is = refl; param_is = refl }

-- no voice does another command that is done once
no_other : (command other : ℕ) → command ≢ other → 0 ≢ other → Quiet (turn_with 1 command) →
    Quiet (turn_with 2 command) → Quiet (turn_with 3 command) →
    ¬ InATurn no_options (look_ups_of (command_song command 1)) (subtune_at (command_song command 1) 0)
    (state_after_with no_options (command_song command 1) 0 6) (λ turn. (d : ℕ) × DoesOnce turn other d)
unfolding prefix_of cycle_of played playable_subtune instrument_at table_row pattern_at freq half_tone slide next_row
    porta_up porta_down tone vibrato do_command filter_step between_rows note_started row_command at_row tick_step
    wave_command wave_step effect_step pulse_step fetch_row voice_step voice_registers filter_registers frame_of
    state_after_with
no_other command other differs some one two three =
    in_no_turn (λ w. no_once _ other w.0 differs one w.1) (λ w. no_once _ other w.0 some two w.1)
    (λ w. no_once _ other w.0 some three w.1)

commands_lem : CommandsAreUsed
unfolding prefix_of cycle_of played playable_subtune instrument_at table_row pattern_at freq half_tone slide next_row
    porta_up porta_down tone vibrato do_command filter_step between_rows note_started row_command at_row tick_step
    wave_command wave_step effect_step pulse_step fetch_row voice_step voice_registers filter_registers frame_of
    state_after_with
commands_lem = record {
  up = record {
    used = in_first (1, inr (does_running _ 1 (does_effect _ refl refl refl) refl));
    unused = in_no_turn (λ w. no_slide _ 2 w.0 refl (λ e. omega arith) w.1)
        (λ w. no_slide _ 2 w.0 refl (λ e. omega arith) w.1) (λ w. no_slide _ 2 w.0 refl (λ e. omega arith) w.1);
  };
  down = record {
    used = in_first (1, inr (does_running _ 2 (does_effect _ refl refl refl) refl));
    unused = in_no_turn (λ w. no_slide _ 4 w.0 refl (λ e. omega arith) w.1)
        (λ w. no_slide _ 4 w.0 refl (λ e. omega arith) w.1) (λ w. no_slide _ 4 w.0 refl (λ e. omega arith) w.1);
  };
  tone = record {
    used = in_first (1, inr (does_running _ 3 (does_effect _ refl refl refl) refl), λ e. omega arith);
    unused = in_no_turn (λ w. no_param _ 3 0 refl (λ e. omega arith) w) (λ w. no_slide _ 3 0 refl (λ e. omega arith) w)
        (λ w. no_slide _ 3 0 refl (λ e. omega arith) w);
  };
  tie = record {
    used = in_first (inr (does_running _ 3 (does_effect _ refl refl refl) refl));
    unused = in_no_turn (λ w. no_param _ 3 w.0 refl (λ e. w.2 (sym e)) w.1)
        (λ w. no_slide _ 3 w.0 refl (λ e. omega arith) w.1) (λ w. no_slide _ 3 w.0 refl (λ e. omega arith) w.1);
  };
  vibrato = record {
    used = in_first (1, inr (does_running _ 4 (does_effect _ refl refl refl) refl));
    unused = in_no_turn (λ w. no_slide _ 1 w.0 refl (λ e. omega arith) w.1)
        (λ w. no_slide _ 1 w.0 refl (λ e. omega arith) w.1) (λ w. no_slide _ 1 w.0 refl (λ e. omega arith) w.1);
  };
  ad = record {
    used = in_first (1, inl (done_in_row 5));
    unused = no_other 5 6 (λ e. omega arith) (λ e. omega arith) refl refl refl;
  };
  sr = record {
    used = in_first (1, inl (done_in_row 6));
    unused = no_other 6 7 (λ e. omega arith) (λ e. omega arith) refl refl refl;
  };
  wave = record {
    used = in_first (1, inl (done_in_row 7));
    unused = in_no_turn (λ w. no_row _ 8 w.0 (λ e. omega arith) w.1) (λ w. no_row _ 8 w.0 (λ e. omega arith) w.1)
        (λ w. no_row _ 8 w.0 (λ e. omega arith) w.1);
  };
  wave_pointer = record {
    used = in_first (1, done_in_row 8);
    unused = no_other 8 9 (λ e. omega arith) (λ e. omega arith) refl refl refl;
  };
  pulse_pointer = record {
    used = in_first (1, inl (done_in_row 9));
    unused = no_other 9 0xA (λ e. omega arith) (λ e. omega arith) refl refl refl;
  };
  filter_pointer = record {
    used = in_first (1, inl (done_in_row 0xA));
    unused = no_other 0xA 0xB (λ e. omega arith) (λ e. omega arith) refl refl refl;
  };
  control = record {
    used = in_first (1, inl (done_in_row 0xB));
    unused = no_other 0xB 0xC (λ e. omega arith) (λ e. omega arith) refl refl refl;
  };
  cutoff = record {
    used = in_first (1, inl (done_in_row 0xC));
    unused = no_other 0xC 0xD (λ e. omega arith) (λ e. omega arith) refl refl refl;
  };
  volume = record {
    used = in_first (1, inl (done_in_row 0xD));
    unused = no_other 0xD 5 (λ e. omega arith) (λ e. omega arith) refl refl refl;
  };
  funk = record {
    used = in_first (by_values 1 (done_in_row 0xE));
    unused = in_no_turn (λ w. no_row _ 0xF w.0 (λ e. omega arith) w.1) (λ w. no_row _ 0xF w.0 (λ e. omega arith) w.1)
        (λ w. no_row _ 0xF w.0 (λ e. omega arith) w.1);
  };
}

filters_lem : FiltersAreUsed
unfolding prefix_of cycle_of played playable_subtune instrument_at table_row pattern_at freq half_tone slide next_row
    porta_up porta_down tone vibrato do_command filter_step between_rows note_started row_command at_row tick_step
    wave_command wave_step effect_step pulse_step fetch_row voice_step voice_registers filter_registers frame_of
    state_after_with
filters_lem = record { begun = λ h. h refl; met = λ e. omega arith }

-- the speed of the commands' song is no half tone
own_speed : (d : ℕ) → 1 ≡ d → 0x80 ≤ ((look_ups_of (command_song 1 1)).row Speed d).left → ⊥
unfolding table_row
own_speed d e high =
    let low : 0x80 ≤ 0x10 =
    subst (λ n. 0x80 ≤ ((look_ups_of (command_song 1 1)).row Speed n).left) (sym e) high in
    omega arith

speeds_lem : SpeedsAreUsed
unfolding prefix_of cycle_of played playable_subtune instrument_at table_row pattern_at freq half_tone slide next_row
    porta_up porta_down tone vibrato do_command filter_step between_rows note_started row_command at_row tick_step
    wave_command wave_step effect_step pulse_step fetch_row voice_step voice_registers filter_registers frame_of
    state_after_with
speeds_lem = record {
  up = in_first (
    1,
    for_slide 1 (lit≤ tt) (lit≤ tt) (inr (does_running _ 1 (does_effect _ refl refl refl) refl)),
    lit≤ tt,
  );
  down = in_first (
    1,
    for_slide 2 (lit≤ tt) (lit≤ tt) (inr (does_running _ 2 (does_effect _ refl refl refl) refl)),
    lit≤ tt,
  );
  tone = in_first (
    1,
    for_slide 3 (lit≤ tt) (lit≤ tt) (inr (does_running _ 3 (does_effect _ refl refl refl) refl)),
    lit≤ tt,
  );
  vibrato = in_first (
    1,
    for_slide 4 (lit≤ tt) (lit≤ tt) (inr (does_running _ 4 (does_effect _ refl refl refl) refl)),
    lit≤ tt,
  );
  ad = in_no_turn (λ w. no_speed _ w.0 refl refl (λ e. omega arith) w.1)
      (λ w. no_speed _ w.0 refl refl (λ e. omega arith) w.1) (λ w. no_speed _ w.0 refl refl (λ e. omega arith) w.1);
  fixed = in_no_turn (λ w. own_speed w.0 (asked_is _ 1 w.0 refl refl w.1) w.2)
      (λ w. no_speed _ w.0 refl refl (λ e. omega arith) w.1) (λ w. no_speed _ w.0 refl refl (λ e. omega arith) w.1);
}

tempos_lem : TemposAreUsed
unfolding prefix_of cycle_of played playable_subtune instrument_at table_row pattern_at freq half_tone slide next_row
    porta_up porta_down tone vibrato do_command filter_step between_rows note_started row_command at_row tick_step
    wave_command wave_step effect_step pulse_step fetch_row voice_step voice_registers filter_registers frame_of
    state_after_with
tempos_lem = record {
  three = in_first (3, record { now = refl; command_is = refl; param_is = refl }, lit≤ tt);
  here = in_first (0x83, record { now = refl; command_is = refl; param_is = refl }, lit≤ tt);
  two = in_no_turn (λ w. (let e : Same 2 w.0 = w.1.param_is in let from = w.2 in omega arith))
      (λ w. no_row _ 0xF w.0 (λ e. omega arith) w.1) (λ w. no_row _ 0xF w.0 (λ e. omega arith) w.1);
  two_is_no_funk = in_no_turn (λ a. other_tempo _ refl (lit< tt) (lit< tt) a) (λ a. no_command _ refl (lit< tt) a)
      (λ a. no_command _ refl (lit< tt) a);
  one = in_first (by_tempo 1 (record { now = refl; command_is = refl; param_is = refl }) (lit≤ tt));
  one_loads = in_first (by_length 1 (record { past = lit≤ tt; tempo_is = refl }) (lit< tt));
  one_loaded = in_no_turn (λ a. between _ (lit< tt) (lit< tt) a) (λ a. between _ (lit< tt) (lit< tt) a)
      (λ a. between _ (lit< tt) (lit< tt) a);
  in_one_frame = in_no_turn (λ a. other_tempo _ refl (lit< tt) (lit< tt) a) (λ a. loads_another _ refl (lit< tt) a)
      (λ a. loads_another _ refl (lit< tt) a);
}

waves_lem : WaveCommandsAreUsed
unfolding prefix_of cycle_of played playable_subtune instrument_at table_row pattern_at freq half_tone slide next_row
    porta_up porta_down tone vibrato do_command filter_step between_rows note_started row_command at_row tick_step
    wave_command wave_step effect_step pulse_step fetch_row voice_step voice_registers filter_registers frame_of
    state_after_with
waves_lem = record {
  command = in_first (
    sides 0xF9 2,
    meets_command _ 1 (sides 0xF9 2) (has_wave _ 1 refl refl (λ e. omega arith)) refl refl,
  );
  pulse = in_first (2, inr (does_wave _ 1 9 2 refl refl (λ e. omega arith) refl refl));
  filter = in_first (1, inr (does_wave _ 2 0xA 1 refl refl (λ e. omega arith) refl refl));
  up = in_first (1, inl (does_wave _ 3 1 1 refl refl (λ e. omega arith) refl refl));
  down = in_first (1, inl (does_wave _ 4 2 1 refl refl (λ e. omega arith) refl refl));
  tone = in_first (1, inl (does_wave _ 5 3 1 refl refl (λ e. omega arith) refl refl), λ e. omega arith);
  tie = in_first (inl (does_wave _ 6 3 0 refl refl (λ e. omega arith) refl refl));
  vibrato = in_first (1, inl (does_wave _ 7 4 1 refl refl (λ e. omega arith) refl refl));
  ad = in_first (1, inr (does_wave _ 8 5 1 refl refl (λ e. omega arith) refl refl));
  sr = in_first (1, inr (does_wave _ 9 6 1 refl refl (λ e. omega arith) refl refl));
  wave = in_first (1, inr (does_wave _ 10 7 1 refl refl (λ e. omega arith) refl refl));
  control = in_first (1, inr (does_wave _ 11 0xB 1 refl refl (λ e. omega arith) refl refl));
  cutoff = in_first (1, inr (does_wave _ 12 0xC 1 refl refl (λ e. omega arith) refl refl));
  volume = in_first (1, inr (does_wave _ 13 0xD 1 refl refl (λ e. omega arith) refl refl));
  eight = in_first (
    sides 0xF8 1,
    meets_command _ 14 (sides 0xF8 1) (has_wave _ 14 refl refl (λ e. omega arith)) refl refl,
  );
  no_pointer = in_no_turn (λ w. no_row _ 8 w.0 (λ e. omega arith) w.1)
      (λ w. no_row _ 8 w.0 (λ e. omega arith) w.1) (λ w. no_row _ 8 w.0 (λ e. omega arith) w.1);
}

voices_lem : VoicesAreUsed
unfolding prefix_of cycle_of played playable_subtune instrument_at table_row pattern_at freq half_tone slide next_row
    porta_up porta_down tone vibrato do_command filter_step between_rows note_started row_command at_row tick_step
    wave_command wave_step effect_step pulse_step fetch_row voice_step voice_registers filter_registers frame_of
    state_after_with
voices_lem = record {
  second = record { channel = 2; is_channel = second; does = (1, has_wave _ 1 refl refl (λ e. omega arith)) };
  third = record { channel = 3; is_channel = third; does = (1, has_wave _ 1 refl refl (λ e. omega arith)) };
}

-- ---- orderlists

-- the first byte of an orderlist
has_byte : {subtune : Subtune} {from to : ℕ} (channel byte : ℕ) → IsChannel channel →
    Contains (order_of channel subtune).entries byte → from ≤ byte → byte ≤ to → HasOrderByte subtune from to
has_byte channel byte is has low high =
    record { channel = channel; is_channel = is; byte = byte; entry = has; low = low; high = high }

one_is : (byte : ℕ) → Contains (1 ∷ []) byte → byte < 0xD0
one_is byte (zero, inside, is) = (let e : Same 1 byte = is in omega arith)
one_is byte (suc k, inside, is) = absurd (omega arith)

-- no entry of the orderlists is a repeat or a transpose
plays_only : (restart channel byte : ℕ) → IsChannel channel →
    Contains (order_of channel (late_subtune restart)).entries byte → byte < 0xD0
plays_only restart zero byte is has = absurd (let least = is.first in omega arith)
plays_only restart (suc zero) byte is has =
    All-contains (λ b. b < 0xD0) (0 ∷ replicate restart 0) byte
    (All-cons (λ b. b < 0xD0) 0 (replicate restart 0) (lit< tt) (All-replicate (λ b. b < 0xD0) restart 0 (lit< tt))) has
plays_only restart (suc (suc zero)) byte is has = one_is byte has
plays_only restart (suc (suc (suc zero))) byte is has = one_is byte has
plays_only restart (suc (suc (suc (suc channel)))) byte is has = absurd (let most = is.last in omega arith)

orders_lem : OrdersAreUsed
unfolding playable_subtune
orders_lem = record {
  least_repeat = has_byte 1 0xD0 first (0, lit< tt, refl) (lit≤ tt) (lit≤ tt);
  most_repeat = has_byte 2 0xDF second (0, lit< tt, refl) (lit≤ tt) (lit≤ tt);
  least_transpose = has_byte 3 0xE0 third (0, lit< tt, refl) (lit≤ tt) (lit≤ tt);
  most_transpose = has_byte 1 0xFE first (0, lit< tt, refl) (lit≤ tt) (lit≤ tt);
  no_repeat =
      λ h. (let small = plays_only 0xD0 h.channel h.byte h.is_channel h.entry in let low = h.low in omega arith);
  no_transpose =
      λ h. (let small = plays_only 0xE0 h.channel h.byte h.is_channel h.entry in let low = h.low in omega arith);
}

pub cases_are_as_worked_lem : CasesAreAsWorked
cases_are_as_worked_lem = record {
  programs = programs_lem;
  slides = slides_lem;
  left_out_programs = left_out_programs_lem;
  vibratos = vibratos_lem;
  commands = commands_lem;
  filters = filters_lem;
  speeds = speeds_lem;
  tempos = tempos_lem;
  waves = waves_lem;
  voices = voices_lem;
  orders = orders_lem;
}
