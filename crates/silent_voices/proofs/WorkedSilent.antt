-- Mute voices, silent channels and their turns in small songs, worked out by hand.
use Rattle.std.specs.Prelude.{slice_index_or}
use Rattle.std.proofs.Common.{◌≡◌, ℕ, ◌≤◌, List, [], ◌∷◌, All, Contains, refl, inl, inr, ◌∙◌, ap, subst, arith}
use Rattle.std.proofs.lemmas.List.Elements.{All-nil, All-cons, All-contains}
use Rattle.song_model.specs.declared.rows.Row.{Row}
use Rattle.song_model.specs.declared.orders.Subtune.{Subtune}
use Rattle.song_model.specs.declared.songs.Song.{Song}
use Rattle.song_model.specs.Silence.{silence}
use Rattle.song_model.specs.Walk.{prefix_of, cycle_of, played}
use Rattle.song_model.specs.LookUp.{playable_subtunes, playable_subtune, order_of, instrument_at, table_row, pattern_at}
use Rattle.play_model.specs.Freq.{freq}
use Rattle.play_model.specs.State.{Common}
use Rattle.play_model.specs.Helpers.{next_row}
use Rattle.play_model.specs.FilterStep.{filter_step}
use Rattle.play_model.specs.TickStep.{between_rows, note_started, row_command, at_row, tick_step}
use Rattle.play_model.specs.WaveStep.{wave_step}
use Rattle.play_model.specs.EffectStep.{effect_step}
use Rattle.play_model.specs.PulseStep.{pulse_step}
use Rattle.play_model.specs.FetchRow.{fetch_row}
use Rattle.play_model.specs.Frame.{voice_step, voice_registers, frame_of, state_after_with}
use Rattle.play_model.specs.WorkedSongs.{row, one_note, with_rows}
use Rattle.song_facts.specs.Facts.{IsHeard}
use Rattle.silent_voices.specs.Mute.{IsSilentChannel}
use Rattle.silent_voices.specs.WorkedSilent.{with_row, MuteVoicesAreWorked, SilentChannelsAreWorked}
use Rattle.silent_voices.specs.WorkedSilent.{MuteStatesAreWorked, SilentTurnsAreWorked, SilenceIsWorked}
use Rattle.silent_voices.proofs.Muting.{start_mute}

-- ---- voices

voices : MuteVoicesAreWorked
voices = record {
  start = start_mute;
  elsewhere = assumption start_mute;
  new_note = λ q. (let e = q.new_note in omega (arith, e));
  new_command = λ q. (let e = q.new_command in omega (arith, e));
  command = λ q. (let e = q.command in omega (arith, e));
  vib_delay = λ q. (let e = q.vib_delay in omega (arith, e));
  wave_ptr = λ q. (let e = q.wave_ptr in omega (arith, e));
  pulse_ptr = λ q. (let e = q.pulse_ptr in omega (arith, e));
  freq = λ q. (let e = q.freq in omega (arith, e));
  pulse = λ q. (let e = q.pulse in omega (arith, e));
  wave = λ q. (let e = q.wave in omega (arith, e));
  ad = λ q. (let e = q.ad in omega (arith, e));
  sr = λ q. (let e = q.sr in omega (arith, e));
}

-- ---- channels

only : {X : Type 0} (P : X → Type 0) (one item : X) → P one → Contains (one ∷ []) item → P item
only P one item holds has = All-contains P (one ∷ []) item (All-cons P one [] holds (All-nil P)) has

abbrev Unheard : Row → Type 0
Unheard row = ¬ IsHeard row

-- a channel whose one orderlist names one pattern, of rows without a note or a command
silent_by : (song : Song) (channel : ℕ) (subtune : Subtune) (pattern : ℕ) → playable_subtunes song ≡ subtune ∷ [] →
    (order_of channel subtune).entries ≡ pattern ∷ [] → All Unheard (pattern_at song pattern) →
    IsSilentChannel song channel
silent_by song channel subtune pattern alone entry unheard has =
    All-contains Unheard (pattern_at song has.pattern) has.row
    (subst (λ (n : ℕ). All Unheard (pattern_at song n)) its unheard) has.has has.is_such
  where
    here : has.subtune ≡ subtune
    here =
        only (λ s. s ≡ subtune) subtune has.subtune refl
        (subst (λ (all : List Subtune). Contains all has.subtune) alone has.playable)

    its : pattern ≡ has.pattern
    its =
        only (λ n. pattern ≡ n) pattern has.pattern refl
        (subst (λ (entries : List ℕ). Contains entries has.pattern)
        (ap (λ (s : Subtune). (order_of channel s).entries) here ∙ entry) has.entry)

-- a row with a note from $BD on, and without a command
no_note : (note instrument param : ℕ) → 0xBD ≤ note → Unheard (row note instrument 0 param)
no_note note instrument param low (inl plays) = (let high = plays.1 in omega (arith, low, high))
no_note note instrument param low (inr command) = command refl

one_unheard : (note instrument param : ℕ) → 0xBD ≤ note → All Unheard (row note instrument 0 param ∷ [])
one_unheard note instrument param low =
    All-cons Unheard (row note instrument 0 param) [] (no_note note instrument param low) (All-nil Unheard)

-- the first row of the first pattern
first_heard : (r : Row) (rows : List Row) → IsHeard r → ¬ IsSilentChannel (with_rows (r ∷ rows) one_note) 1
unfolding pattern_at
first_heard r rows heard silent =
    silent (record {
      subtune = _;
      playable = (0, omega arith, refl);
      pattern = 0;
      entry = (0, omega arith, refl);
      is_pattern = omega arith;
      row = r;
      has = (0, omega arith, refl);
      is_such = heard;
    })

channels : SilentChannelsAreWorked
unfolding pattern_at
channels = record {
  first = first_heard (row 0x90 1 0 0) (row 0xBE 0 0 0 ∷ []) (inl (omega arith, omega arith));
  second = silent_by one_note 2 _ 1 refl refl (one_unheard 0xBD 0 0 (omega arith));
  third = silent_by one_note 3 _ 1 refl refl (one_unheard 0xBD 0 0 (omega arith));
  silence = silent_by silence 1 _ 0 refl refl (one_unheard 0xBD 0 0 (omega arith));
  keyoff = silent_by (with_row 0xBE 1 0 5) 1 _ 0 refl refl (one_unheard 0xBE 1 5 (omega arith));
  note = first_heard (row 0x60 0 0 0) [] (inl (omega arith, omega arith));
  command = first_heard (row 0xBD 0 4 0) [] (inr (λ e. omega (arith, e)));
}

-- ---- frames

states : MuteStatesAreWorked
unfolding prefix_of cycle_of played playable_subtune instrument_at table_row pattern_at freq next_row filter_step
    between_rows note_started row_command at_row tick_step wave_step effect_step pulse_step fetch_row voice_step
    frame_of state_after_with
states = record {
  before = assumption start_mute;
  first = λ q. (let e = q.new_note in omega (arith, e));
  second = assumption start_mute;
  later = assumption start_mute;
  no_subtune = λ q. (let e = q.new_note in omega (arith, e));
  stopping = silent_by _ 2 _ 1 refl refl (one_unheard 0xBD 0 0 (omega arith));
  stops = λ q. (let e = q.new_note in omega (arith, e));
}

-- ---- turns

turns : SilentTurnsAreWorked
unfolding prefix_of cycle_of played playable_subtune instrument_at table_row pattern_at filter_step between_rows
    note_started row_command at_row tick_step wave_step effect_step pulse_step fetch_row voice_step voice_registers
    frame_of state_after_with
turns = record {
  start = record { common = refl; registers = refl };
  fetches = record { common = refl; registers = refl };
  loads = record { common = refl; registers = refl };
  other = record { common = refl; registers = refl };
  zero_tempo = λ q. (let e = ap (λ (c : Common). c.tempo_two) q.common in omega (arith, e));
  one_tempo = λ q. (let e = ap (λ (c : Common). c.tempo_two) q.common in omega (arith, e));
  fetches_note = λ q. (let e = ap (λ registers. slice_index_or registers 5 0) q.registers in omega (arith, e));
  starts_note = λ q. (let e = ap (λ registers. slice_index_or registers 5 0) q.registers in omega (arith, e));
}

pub silence_is_worked : SilenceIsWorked
silence_is_worked = record { voices = voices; channels = channels; states = states; turns = turns }
