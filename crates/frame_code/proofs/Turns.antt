-- A voice's turn in a state: what it puts back is its own voice, and what the voices share.
use Rattle.std.proofs.Common.{◌≡◌, ◌≢◌, ℕ, zero, suc, ◌+◌, ◌<◌, ◌||◌, Bool, true, false, refl, arith}
use Rattle.std.proofs.lemmas.Bool.{both_ways}
use Rattle.play_model.specs.declared.options.Options.{Options}
use Rattle.play_model.specs.State.{FrameState, Playing, start_voice, start_state, playing_of, voice_of, with_playing}
use Rattle.play_model.specs.FilterStep.{filter_step}
use Rattle.play_model.specs.TickStep.{tempo_of}
use Rattle.play_model.specs.LookUps.{LookUps}
use Rattle.play_model.specs.State.{Common}
use Rattle.player_memory.specs.declared.conditions.TheConstants.{FUNK_TEMPO}
use Rattle.player_memory.specs.FactLines.{is_run}
use Rattle.player_memory.specs.Holds.{held}

pub turn_mine : (voice : ℕ) (s : Playing) (x : FrameState) → voice < 3 →
    playing_of (voice + 1) (with_playing (voice + 1) s x) ≡ s
turn_mine zero s x few = refl
turn_mine (suc zero) s x few = refl
turn_mine (suc (suc zero)) s x few = refl
turn_mine (suc (suc (suc more))) s x few = absurd (omega (arith, few))

pub turn_other : (voice its : ℕ) (s : Playing) (x : FrameState) → voice < 3 → its < 3 → its ≢ voice →
    playing_of (its + 1) (with_playing (voice + 1) s x) ≡ record { voice = voice_of (its + 1) x; common = s.common }
turn_other zero zero s x few below other = absurd (other refl)
turn_other zero (suc zero) s x few below other = refl
turn_other zero (suc (suc zero)) s x few below other = refl
turn_other (suc zero) zero s x few below other = refl
turn_other (suc zero) (suc zero) s x few below other = absurd (other refl)
turn_other (suc zero) (suc (suc zero)) s x few below other = refl
turn_other (suc (suc zero)) zero s x few below other = refl
turn_other (suc (suc zero)) (suc zero) s x few below other = refl
turn_other (suc (suc zero)) (suc (suc zero)) s x few below other = absurd (other refl)
turn_other (suc (suc (suc more))) its s x few below other = absurd (omega (arith, few))
turn_other voice (suc (suc (suc more))) s x few below other = absurd (omega (arith, below))

-- the filter step leaves the tempos
pub filter_leaves_tempos : (look : LookUps) (c : Common) (channel : ℕ) →
    tempo_of channel (filter_step look c) ≡ tempo_of channel c
unfolding filter_step
filter_leaves_tempos look c channel = grind arith

-- ---- voices that aren't run

-- of a voice that is run memory holds what the state has
pub held_run : (holds : ℕ → Bool) (voice : ℕ) (x : FrameState) → voice < 3 → is_run holds voice ≡ true →
    playing_of (voice + 1) (held holds x) ≡ playing_of (voice + 1) x
held_run holds zero x few runs = refl
held_run holds (suc zero) x few runs = rw runs refl
held_run holds (suc (suc zero)) x few runs = rw runs refl
held_run holds (suc (suc (suc more))) x few runs = absurd (omega (arith, few))

-- and it holds what is put back
pub held_with : (holds : ℕ → Bool) (voice : ℕ) (s : Playing) (x : FrameState) → voice < 3 →
    is_run holds voice ≡ true →
    with_playing (voice + 1) s (held holds x) ≡ held holds (with_playing (voice + 1) s x)
held_with holds zero s x few runs = refl
held_with holds (suc zero) s x few runs = rw runs refl
held_with holds (suc (suc zero)) s x few runs = rw runs refl
held_with holds (suc (suc (suc more))) s x few runs = absurd (omega (arith, few))

-- the first voice always is
first_runs : (holds : ℕ → Bool) → is_run holds 0 ≡ true
first_runs holds = by_turns (holds FUNK_TEMPO)
  where
    by_turns : (turns : Bool) → turns || true ≡ true
    by_turns true = refl
    by_turns false = refl

-- a voice that isn't run begins as it starts
pub held_starts : (holds : ℕ → Bool) (voice : ℕ) (x : FrameState) → voice < 3 → is_run holds voice ≡ false →
    voice_of (voice + 1) (held holds x) ≡ start_voice
held_starts holds zero x few rests = absurd (both_ways (is_run holds 0) rests (first_runs holds))
held_starts holds (suc zero) x few rests = rw rests refl
held_starts holds (suc (suc zero)) x few rests = rw rests refl
held_starts holds (suc (suc (suc more))) x few rests = absurd (omega (arith, few))

-- and stays so in memory, where it leaves what the voices share
pub held_still : (holds : ℕ → Bool) (voice : ℕ) (s : Playing) (x : FrameState) → voice < 3 →
    is_run holds voice ≡ false → s.common ≡ x.common →
    with_playing (voice + 1) (playing_of (voice + 1) (held holds x)) (held holds x)
    ≡ held holds (with_playing (voice + 1) s x)
held_still holds zero s x few rests same = absurd (both_ways (is_run holds 0) rests (first_runs holds))
held_still holds (suc zero) s x few rests same = rw (rests, same) refl
held_still holds (suc (suc zero)) s x few rests same = rw (rests, same) refl
held_still holds (suc (suc (suc more))) s x few rests same = absurd (omega (arith, few))

-- of the start it holds the start
pub held_start : (holds : ℕ → Bool) (o : Options) → held holds (start_state o) ≡ start_state o
held_start holds o = by_run (is_run holds 1) (is_run holds 2) refl refl
  where
    by_run : (two three : Bool) → is_run holds 1 ≡ two → is_run holds 2 ≡ three →
        held holds (start_state o) ≡ start_state o
    by_run true true second third = rw (second, third) refl
    by_run true false second third = rw (second, third) refl
    by_run false true second third = rw (second, third) refl
    by_run false false second third = rw (second, third) refl
