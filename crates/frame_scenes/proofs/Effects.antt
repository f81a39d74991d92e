-- The effect step is ready.
use Rattle.std.proofs.Common.{◌≡◌, ◌≢◌, ℕ, ◌≤◌, ◌||◌, ◌==◌, not, Bool, true, false, nat_eq}
use Rattle.std.proofs.Common.{if◌then◌else◌, inr, refl, sym, ◌∙◌, subst, arith}
use Rattle.std.proofs.lemmas.Bool.{eqb-true, eqb-false}
use Rattle.song_model.specs.declared.features.Feature.TheVariants.{InstrumentVibrato}
use Rattle.song_model.specs.declared.songs.Song.{Song}
use Rattle.song_model.specs.declared.tables.TableName.TheVariants.{Speed}
use Rattle.play_model.specs.declared.options.Options.{Options}
use Rattle.play_model.specs.State.{Voice, FrameState, Playing}
use Rattle.play_model.specs.WaveStep.{wave_step}
use Rattle.play_model.specs.Reached.{IsPointer}
use Rattle.play_model.specs.Uses.{GoesOn, DoesEffect, DoesRunning, MeetsVibrato}
use Rattle.kept_notes.specs.NoteLaws.{LooksUpAsked}
use Rattle.packed_form.specs.declared.packed_songs.PackedSong.{PackedSong}
use Rattle.packed_form.specs.Unpacked.{unpacked_song}
use Rattle.scopes.specs.Desk.{Layout}
use Rattle.player_memory.specs.declared.conditions.TheConstants.{SKIP_EFFECTS}
use Rattle.player_memory.specs.Holds.{look_of}
use Rattle.wave_code.specs.EffectBlock.{running, left_out}
use Rattle.slide_code.specs.SlideBlock.{KeepsSlide}
use Rattle.slide_code.proofs.Laws.{commands_keep, instruments_keep}
use Rattle.voice_code.specs.VoiceBlock.{EffectIsReady}
use Rattle.frame_code.specs.FrameBlock.{counts_of}
use Rattle.frame_scenes.proofs.Turns.{AtTurn, IsFine, its_turn, in_turn}
use Rattle.frame_scenes.proofs.Programs.{speed_stored, running_points, running_most}
use Rattle.frame_scenes.proofs.LookedUp.{looks_up, looks_within}
use Rattle.frame_scenes.proofs.Moves.{note_sounds, slides_kept, vibrato_kept}

-- ---- what is done

does_effect : (layout : Layout) (packed : PackedSong) (song : Song) (o : Options) (k voice : ℕ) (x : FrameState)
    (at : ℕ → ℕ) (s : Playing) → AtTurn layout packed song o k voice x at →
    GoesOn (its_turn packed o k voice x) s → (wave_step (look_of packed) s).effect ≡ true →
    left_out (layout.holds SKIP_EFFECTS) (wave_step (look_of packed) s).playing.voice ≡ false →
    DoesEffect (its_turn packed o k voice x) (wave_step (look_of packed) s).playing.voice
does_effect layout packed song o k voice x at s turn goes effect stays = record {
  s = s;
  goes_on = goes;
  runs = effect;
  voice_is = refl;
  kept =
      subst (λ skips. left_out skips (wave_step (look_of packed) s).playing.voice ≡ false) turn.scene.options.effects
      stays;
}

meets_vibrato : (packed : PackedSong) (o : Options) (k voice : ℕ) (x : FrameState) (v : Voice) (delay : ℕ) →
    DoesEffect (its_turn packed o k voice x) v → v.command ≡ 0 → v.param ≢ 0 → v.vib_delay ≡ delay → delay ≢ 0 →
    MeetsVibrato (its_turn packed o k voice x) v.param delay
meets_vibrato packed o k voice x v delay effect command some is begun = record {
  v = v;
  effect = effect;
  command_is = command;
  param_is = refl;
  delay_is = is;
  some = some;
  begun = begun;
}

runs_command : (packed : PackedSong) (o : Options) (k voice : ℕ) (x : FrameState) (v : Voice) →
    DoesEffect (its_turn packed o k voice x) v → DoesRunning (its_turn packed o k voice x) v.command v.param
runs_command packed o k voice x v effect = record { v = v; effect = effect; command_is = refl; param_is = refl }

-- ---- which command runs

-- the voice's own, or an instrument's vibrato whose delay is over
data Runs (v : Voice) (command : ℕ) : Type 0 where
  Own : v.command ≢ 0 → command ≡ v.command → Runs v command
  Begun : v.command ≡ 0 → v.param ≢ 0 → v.vib_delay ≡ 1 → command ≡ 4 → Runs v command

abbrev vibrato_of : Bool → Bool → ℕ
vibrato_of none over = if none || not over then 0 else 4

runs : (v : Voice) → running v ≢ 0 → Runs v (running v)
runs v some = by_command (nat_eq v.command 0) refl some
  where
    by_delay : (param delay : Bool) → nat_eq v.param 0 ≡ param → nat_eq v.vib_delay 1 ≡ delay → v.command ≡ 0 →
        vibrato_of param delay ≢ 0 → Runs v (vibrato_of param delay)
    by_delay true delay p d none some = absurd (some refl)
    by_delay false true p d none some = Begun none (eqb-false v.param 0 p) (eqb-true v.vib_delay 1 d) refl
    by_delay false false p d none some = absurd (some refl)

    by_command : (z : Bool) → nat_eq v.command 0 ≡ z →
        (if z then vibrato_of (v.param == 0) (v.vib_delay == 1) else v.command) ≢ 0 →
        Runs v (if z then vibrato_of (v.param == 0) (v.vib_delay == 1) else v.command)
    by_command true z some = by_delay (nat_eq v.param 0) (nat_eq v.vib_delay 1) refl refl (eqb-true v.command 0 z) some
    by_command false z some = Own (eqb-false v.command 0 z) refl

-- command 3 is the voice's own
of_three : (v : Voice) (command : ℕ) → Runs v command → command ≡ 3 → v.command ≡ 3
of_three v command (Own some is) three = sym is ∙ three
of_three v command (Begun none some one is) three = absurd (omega (arith, is, three))

running_kept : (layout : Layout) (packed : PackedSong) (song : Song) (o : Options) (k voice : ℕ) (x : FrameState)
    (at : ℕ → ℕ) (v : Voice) (command : ℕ) → AtTurn layout packed song o k voice x at → v.command ≤ 4 →
    DoesEffect (its_turn packed o k voice x) v → Runs v command → KeepsSlide layout (look_of packed) command v
running_kept layout packed song o k voice x at v command turn most effect (Own some is) =
    subst (λ n. KeepsSlide layout (look_of packed) n v) (sym is)
    (slides_kept layout packed song o k voice x at v.command v turn (omega (arith, some)) most
    (inr (runs_command packed o k voice x v effect)))
running_kept layout packed song o k voice x at v command turn most effect (Begun none some one is) =
    vibrato_kept layout packed song o k voice x at command v turn is
    (meets_vibrato packed o k voice x v 1 effect none some one (omega arith))

-- ---- the step

pub effect_ready : (layout : Layout) (packed : PackedSong) (song : Song) (o : Options) (k voice : ℕ) (x : FrameState)
    (at : ℕ → ℕ) (s : Playing) → AtTurn layout packed song o k voice x at →
    GoesOn (its_turn packed o k voice x) s → (wave_step (look_of packed) s).effect ≡ true →
    IsFine packed k voice (wave_step (look_of packed) s).playing →
    EffectIsReady layout (look_of packed) (counts_of packed) (wave_step (look_of packed) s).playing.voice
effect_ready layout packed song o k voice x at s turn goes effect fine = record {
  has = record { command = most; delay = fine.range.voice.vib_delay };
  keeps = record {
    instrument = λ stays none some begun.
        turn.scene.used InstrumentVibrato
        (in_turn packed o k voice x _ turn.few
        (v.param, v.vib_delay, meets_vibrato packed o k voice x v v.vib_delay (does stays) none some refl begun));
    runs = λ stays some.
        commands_keep layout (look_of packed) v.command v turn.scene.common
        (running_kept layout packed song o k voice x at v v.command turn most (does stays) (Own some refl))
        (omega (arith, some)) most;
    shared = λ on. instruments_keep layout turn.scene.common on;
  };
  moves = λ stays some. record {
    param = speed_stored packed song v.param turn.scene.stands points;
    frequency = fine.range.voice.freq;
    note = note_sounds v.note fine.safe.voice.note;
    looks =
        looks_within packed song (running v) v turn.scene.stands points
        (λ three. asked.slide (of_three v (running v) (runs v some) three)) asked.half_tone_from asked.half_tone_to;
    keeps = running_kept layout packed song o k voice x at v (running v) turn most (does stays) (runs v some);
  };
}
  where
    v : Voice
    v = (wave_step (look_of packed) s).playing.voice

    points : v.param ≢ 0 → IsPointer (unpacked_song packed) Speed v.param
    points = running_points (unpacked_song packed) v.command v.param fine.safe.voice.running

    asked : LooksUpAsked (unpacked_song packed) v
    asked = looks_up packed k voice (wave_step (look_of packed) s).playing fine

    most : v.command ≤ 4
    most = running_most (unpacked_song packed) v.command v.param fine.safe.voice.running

    does : left_out (layout.holds SKIP_EFFECTS) v ≡ false → DoesEffect (its_turn packed o k voice x) v
    does stays = does_effect layout packed song o k voice x at s turn goes effect stays
