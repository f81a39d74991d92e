-- The trace of the silent song: after init zeros, and in each frame 24 zeros and the volume, at the speeds 1 and 2; and
-- so of each subtune of the same song twice.
use Rattle.std.specs.Prelude.{nat_lt, slice_index_or}
use Rattle.std.proofs.Common.{◌≡◌, ℕ, zero, suc, ◌+◌, ◌-◌, ◌*◌, ◌%◌, ◌<◌, ◌≤◌}
use Rattle.std.proofs.Common.{◌⊎◌, inl, inr, Bool, true, false, if◌then◌else◌, List, [], ◌∷◌}
use Rattle.std.proofs.Common.{◌++◌, replicate, refl, ap, ◌∙◌, arith}
use Rattle.std.proofs.lemmas.Bool.Decides.{nat_tests}
use Rattle.song_model.specs.LookUp.{playable_subtune, instrument_at, table_row, pattern_at}
use Rattle.song_model.specs.Silence.{silence, order_of_zero}
use Rattle.song_model.specs.Walk.{no_step, prefix_of, cycle_of, played}
use Rattle.play_model.specs.declared.options.Options.{Options}
use Rattle.play_model.specs.declared.options.System.{System}
use Rattle.play_model.specs.declared.options.System.TheVariants.{Pal}
use Rattle.play_model.specs.LookUps.{LookUps, look_ups_of}
use Rattle.play_model.specs.State.{Voice, FrameState, Playing, no_options, start_voice, start_common, with_playing}
use Rattle.play_model.specs.FilterStep.{filter_step}
use Rattle.play_model.specs.TickStep.{between_rows, note_started, row_command, at_row, tick_step}
use Rattle.play_model.specs.WaveStep.{wave_step}
use Rattle.play_model.specs.EffectStep.{effect_step}
use Rattle.play_model.specs.PulseStep.{pulse_step}
use Rattle.play_model.specs.FetchRow.{fetched, fetch_row}
use Rattle.play_model.specs.Frame.{voice_step, voice_done, voice_registers, filter_registers, Framed, framed, frame_of}
use Rattle.play_model.specs.Frame.{subtune_at, frame_with, state_after_with, trace_with}
use Rattle.faithful.specs.WorkedImages.{two_silences}

-- ---- the states

-- on either system, at the speed 1 or 2
abbrev pub options_at : System → ℕ → Options
options_at system speed = record no_options { speed = speed; system = system }

-- a voice that rests, so many frames before its next row, after so many plays
abbrev resting : ℕ → ℕ → Voice
resting tick plays = record start_voice { tick = tick; plays = plays }

abbrev with_voice : ℕ → Voice → Playing
with_voice speed v = record { voice = v; common = start_common speed }

abbrev playing : ℕ → ℕ → ℕ → Playing
playing speed tick plays = with_voice speed (resting tick plays)

abbrev rests : ℕ → ℕ → ℕ → FrameState
rests speed tick plays = record {
  common = start_common speed;
  one = resting tick plays;
  two = resting tick plays;
  three = resting tick plays;
}

abbrev look : LookUps
look = look_ups_of silence

-- a row has six frames of each picture's
abbrev next_tick : ℕ → ℕ → ℕ
next_tick speed zero = 6 * speed - 1
next_tick speed (suc tick) = tick

-- a play ends where its row is fetched
abbrev next_plays : ℕ → ℕ → ℕ
next_plays (suc zero) plays = plays + 1
next_plays tick plays = plays

-- ---- a voice

-- each play is of pattern 0
one_rest : (rest : ℕ) → rest ≡ 0 → slice_index_or (no_step ∷ []) rest no_step ≡ no_step
one_rest rest e = rw e refl

zero_plays : (plays : ℕ) → played order_of_zero plays ≡ no_step
unfolding prefix_of cycle_of played
zero_plays plays = chosen (nat_lt plays 1) refl
  where
    first : (plays : ℕ) → nat_lt plays 1 ≡ true → plays ≡ 0
    first plays e = grind (arith, nat_tests)

    later : (plays : ℕ) → (plays - 1) % 1 ≡ 0
    later plays = omega arith

    chosen : (z : Bool) → nat_lt plays 1 ≡ z →
        (if nat_lt plays 1 then slice_index_or (no_step ∷ []) plays no_step else slice_index_or (no_step ∷ [])
        ((plays - 1) % 1) no_step) ≡ no_step
    chosen true e = rw e (one_rest plays (first plays e))
    chosen false e = rw e (one_rest ((plays - 1) % 1) (later plays))

fetched_rest : (plays : ℕ) → fetched look no_step (resting 0 plays) ≡ resting 0 (plays + 1)
unfolding pattern_at
fetched_rest plays = refl

fetch_lem : (plays : ℕ) → fetch_row look order_of_zero (resting 0 plays) ≡ resting 0 (plays + 1)
unfolding fetch_row
fetch_lem plays = ap (λ step. fetched look step (resting 0 plays)) (zero_plays plays) ∙ fetched_rest plays

abbrev IsOneOrTwo : ℕ → Type 0
IsOneOrTwo speed = (speed ≡ 1) ⊎ (speed ≡ 2)

abbrev IsVoiceNumber : ℕ → Type 0
IsVoiceNumber channel = (channel ≡ 1) ⊎ (channel ≡ 2) ⊎ (channel ≡ 3)

reload_lem : (system : System) (channel speed plays : ℕ) → IsVoiceNumber channel → IsOneOrTwo speed →
    voice_step channel (options_at system speed) look order_of_zero (playing speed 0 plays)
    ≡ playing speed (6 * speed - 1) plays
unfolding between_rows tick_step wave_step effect_step pulse_step voice_step
reload_lem system channel speed plays (inl c) (inl s) = rw (c, s) refl
reload_lem system channel speed plays (inl c) (inr s) = rw (c, s) refl
reload_lem system channel speed plays (inr (inl c)) (inl s) = rw (c, s) refl
reload_lem system channel speed plays (inr (inl c)) (inr s) = rw (c, s) refl
reload_lem system channel speed plays (inr (inr c)) (inl s) = rw (c, s) refl
reload_lem system channel speed plays (inr (inr c)) (inr s) = rw (c, s) refl

row_lem : (system : System) (channel speed plays : ℕ) →
    voice_step channel (options_at system speed) look order_of_zero (playing speed 1 plays) ≡ playing speed 0 (plays + 1)
unfolding instrument_at between_rows note_started row_command at_row tick_step wave_step effect_step pulse_step voice_step
row_lem system channel speed plays =
    ap (λ (v : Voice). with_voice speed v) (fetch_lem plays)

-- between two rows
wait_lem : (system : System) (channel speed tick plays : ℕ) → 2 ≤ tick → tick < 12 →
    voice_step channel (options_at system speed) look order_of_zero (playing speed tick plays)
    ≡ playing speed (next_tick speed tick) plays
unfolding between_rows tick_step wave_step effect_step pulse_step voice_step
wait_lem system channel speed zero plays low high = absurd (omega arith)
wait_lem system channel speed (suc zero) plays low high = absurd (omega arith)
wait_lem system channel speed (suc (suc zero)) plays low high = refl
wait_lem system channel speed (suc (suc (suc zero))) plays low high = refl
wait_lem system channel speed (suc (suc (suc (suc zero)))) plays low high = refl
wait_lem system channel speed (suc (suc (suc (suc (suc zero))))) plays low high = refl
wait_lem system channel speed (suc (suc (suc (suc (suc (suc zero)))))) plays low high = refl
wait_lem system channel speed (suc (suc (suc (suc (suc (suc (suc zero))))))) plays low high = refl
wait_lem system channel speed (suc (suc (suc (suc (suc (suc (suc (suc zero)))))))) plays low high = refl
wait_lem system channel speed (suc (suc (suc (suc (suc (suc (suc (suc (suc zero))))))))) plays low high = refl
wait_lem system channel speed (suc (suc (suc (suc (suc (suc (suc (suc (suc (suc zero)))))))))) plays low high = refl
wait_lem system channel speed (suc (suc (suc (suc (suc (suc (suc (suc (suc (suc (suc zero))))))))))) plays low high = refl
wait_lem system channel speed (suc (suc (suc (suc (suc (suc (suc (suc (suc (suc (suc (suc tick)))))))))))) plays low high = absurd (omega arith)

voice_lem : (system : System) (channel speed tick plays : ℕ) → IsVoiceNumber channel → IsOneOrTwo speed → tick < 12 →
    voice_step channel (options_at system speed) look order_of_zero (playing speed tick plays)
    ≡ playing speed (next_tick speed tick) (next_plays tick plays)
voice_lem system channel speed zero plays c s few = reload_lem system channel speed plays c s
voice_lem system channel speed (suc zero) plays c s few = row_lem system channel speed plays
voice_lem system channel speed (suc (suc tick)) plays c s few =
    wait_lem system channel speed (suc (suc tick)) plays (omega arith) few

-- ---- a frame

abbrev silent_registers : List ℕ
silent_registers = replicate 24 0 ++ 15 ∷ []

abbrev states : ℕ → Voice → Voice → Voice → FrameState
states speed one two three = record { common = start_common speed; one = one; two = two; three = three }

frame_lem : (system : System) (speed tick plays : ℕ) → IsOneOrTwo speed → tick < 12 →
    frame_of (options_at system speed) look (subtune_at silence 0) (rests speed tick plays)
    ≡ record { state = rests speed (next_tick speed tick) (next_plays tick plays); registers = silent_registers }
unfolding playable_subtune filter_step voice_registers filter_registers frame_of
frame_lem system speed tick plays s few =
    let v = resting tick plays in
    let w = resting (next_tick speed tick) (next_plays tick plays) in
    let one = voice_lem system 1 speed tick plays (inl refl) s few in
    let two = voice_lem system 2 speed tick plays (inr (inl refl)) s few in
    let three = voice_lem system 3 speed tick plays (inr (inr refl)) s few in
    let first = ap (λ (p : Playing). with_playing 1 p (states speed v v v)) one in
    let second = ap (λ (p : Playing). with_playing 2 p (states speed w v v)) two in
    let third = ap (λ (p : Playing). with_playing 3 p (states speed w w v)) three in
    ap (framed (filter_registers (start_common speed)))
    (ap (voice_done 3 (options_at system speed) look (subtune_at silence 0))
    (ap (voice_done 2 (options_at system speed) look (subtune_at silence 0)) first ∙ second)
    ∙ third)

-- ---- all frames

record IsResting (speed : ℕ) (x : FrameState) : Type 0 where
  tick : ℕ
  plays : ℕ
  few : tick < 12
  is : x ≡ rests speed tick plays

next_few : (speed tick : ℕ) → IsOneOrTwo speed → tick < 12 → next_tick speed tick < 12
next_few speed zero (inl s) few = omega (arith, s)
next_few speed zero (inr s) few = omega (arith, s)
next_few speed (suc tick) s few = omega arith

frame_is : (system : System) (speed : ℕ) (x : FrameState) → IsOneOrTwo speed → (r : IsResting speed x) →
    frame_of (options_at system speed) look (subtune_at silence 0) x
    ≡ record { state = rests speed (next_tick speed r.tick) (next_plays r.tick r.plays); registers = silent_registers }
frame_is system speed x s r =
    ap (λ (y : FrameState). frame_of (options_at system speed) look (subtune_at silence 0) y) r.is
    ∙ frame_lem system speed r.tick r.plays s r.few

all_rest : (system : System) (speed n : ℕ) → IsOneOrTwo speed →
    IsResting speed (state_after_with (options_at system speed) silence 0 n)
unfolding state_after_with
all_rest system speed zero s = record { tick = 1; plays = 0; few = omega arith; is = refl }
all_rest system speed (suc n) s =
    let r = all_rest system speed n s in
    record {
      tick = next_tick speed r.tick;
      plays = next_plays r.tick r.plays;
      few = next_few speed r.tick s r.few;
      is = ap (λ (f : Framed). f.state) (frame_is system speed (state_after_with (options_at system speed) silence 0 n) s r);
    }

-- the registers of each frame of its one subtune
pub silent_trace : (system : System) (speed k n : ℕ) → k < 1 → (speed ≡ 1) ⊎ (speed ≡ 2) →
    trace_with (options_at system speed) silence k (suc n) ≡ replicate 24 0 ++ 15 ∷ []
silent_trace system speed zero n few s =
    ap (λ (f : Framed). f.registers)
    (frame_is system speed (state_after_with (options_at system speed) silence 0 n) s (all_rest system speed n s))
silent_trace system speed (suc k) n few s = absurd (omega arith)

-- ---- the same song twice

-- each of its subtunes is played as the one
two_frames : (k : ℕ) → k < 2 → (x : FrameState) → frame_with no_options two_silences k x ≡ frame_with no_options silence 0 x
unfolding playable_subtune instrument_at table_row pattern_at
two_frames zero few x = refl
two_frames (suc zero) few x = refl
two_frames (suc (suc k)) few x = absurd (omega arith)

two_states : (k n : ℕ) → k < 2 → state_after_with no_options two_silences k n ≡ state_after_with no_options silence 0 n
unfolding state_after_with
two_states k zero few = refl
two_states k (suc n) few =
    ap (λ (f : Framed). f.state)
    (two_frames k few (state_after_with no_options two_silences k n)
    ∙ ap (frame_with no_options silence 0) (two_states k n few))

pub two_traces : (k n : ℕ) → k < 2 → trace_with no_options two_silences k (suc n) ≡ replicate 24 0 ++ 15 ∷ []
two_traces k n few =
    ap (λ (f : Framed). f.registers)
    (two_frames k few (state_after_with no_options two_silences k n)
    ∙ ap (frame_with no_options silence 0) (two_states k n few))
    ∙ silent_trace Pal 1 0 n (omega arith) (inl refl)
