-- A command that moves the frequency is ready: as one of the wave table, as the one that runs, or as an instrument's
-- vibrato.
use Rattle.std.proofs.Common.{◌≡◌, ℕ, ◌≤◌, ◌⊎◌, ◌||◌, Bool, true, false, inl, inr, refl}
use Rattle.std.proofs.Common.{subst, arith}
use Rattle.song_model.specs.declared.features.Feature.TheVariants.{PortaUp, PortaDown, TonePorta, TieNote, Vibrato}
use Rattle.song_model.specs.declared.features.Feature.TheVariants.{InstrumentVibrato, NoteDependent}
use Rattle.song_model.specs.declared.songs.Song.{Song}
use Rattle.song_model.specs.declared.tables.TableName.TheVariants.{Speed}
use Rattle.play_model.specs.declared.options.Options.{Options}
use Rattle.play_model.specs.State.{Voice, FrameState}
use Rattle.play_model.specs.Safe.{IsSafeNote}
use Rattle.play_model.specs.Uses.{Slides, AsksSpeed, for_slide, for_vibrato, MeetsVibrato}
use Rattle.packed_form.specs.declared.packed_songs.PackedSong.{PackedSong}
use Rattle.scopes.specs.Desk.{Layout}
use Rattle.player_memory.specs.declared.conditions.TheConstants.{VIBRATO, INSTRUMENT_VIBRATO, NOTE_DEPENDENT}
use Rattle.player_memory.specs.Holds.{look_of}
use Rattle.slide_code.specs.SlideBlock.{IsNote, KeepsSlide}
use Rattle.frame_scenes.proofs.Turns.{AtTurn, its_turn, in_turn}

-- a note that sounds is one that the code takes
pub note_sounds : (note : ℕ) → IsSafeNote note → IsNote note
note_sounds note (inl low) = record { byte = omega (arith, low); sounds = inl (omega (arith, low)) }
note_sounds note (inr high) =
    let from = high.0 in
    let to = high.1 in
    record { byte = omega (arith, to); sounds = inr (omega (arith, from)) }

-- ---- what is kept

-- the lines of calculated speeds, where a speed is asked for that is calculated
calculated : (layout : Layout) (packed : PackedSong) (song : Song) (o : Options) (k voice : ℕ) (x : FrameState)
    (at : ℕ → ℕ) (param : ℕ) → AtTurn layout packed song o k voice x at →
    AsksSpeed (its_turn packed o k voice x) param → 128 ≤ ((look_of packed).row Speed param).left →
    layout.holds NOTE_DEPENDENT ≡ true
calculated layout packed song o k voice x at param turn asks from =
    turn.scene.used NoteDependent (in_turn packed o k voice x _ turn.few (param, asks, from))

either : (one two : Bool) → (one ≡ true) ⊎ (two ≡ true) → (one || two) ≡ true
either one two (inl first) = rw first refl
either true two (inr second) = refl
either false two (inr second) = second

-- a command 1 to 4
pub slides_kept : (layout : Layout) (packed : PackedSong) (song : Song) (o : Options) (k voice : ℕ) (x : FrameState)
    (at : ℕ → ℕ) (command : ℕ) (v : Voice) → AtTurn layout packed song o k voice x at → 1 ≤ command →
    command ≤ 4 → Slides (its_turn packed o k voice x) command v.param → KeepsSlide layout (look_of packed) command v
slides_kept layout packed song o k voice x at command v turn least most slides = record {
  up = λ e. turn.scene.used PortaUp (in_turn packed o k voice x _ turn.few (v.param, does 1 v.param e refl));
  down = λ e. turn.scene.used PortaDown (in_turn packed o k voice x _ turn.few (v.param, does 2 v.param e refl));
  tone = λ e some.
      turn.scene.used TonePorta (in_turn packed o k voice x _ turn.few (v.param, does 3 v.param e refl, some));
  tie = λ e at_zero. turn.scene.used TieNote (in_turn packed o k voice x _ turn.few (does 3 0 e at_zero));
  swings = λ e.
      either (layout.holds VIBRATO) (layout.holds INSTRUMENT_VIBRATO)
      (inl (turn.scene.used Vibrato (in_turn packed o k voice x _ turn.few (v.param, does 4 v.param e refl))));
  calculates = λ needs from.
      calculated layout packed song o k voice x at v.param turn (for_slide command least most slides) from;
}
  where
    does : (its param : ℕ) → command ≡ its → v.param ≡ param → Slides (its_turn packed o k voice x) its param
    does its param e f =
        subst (λ d. Slides (its_turn packed o k voice x) its d) f
        (subst (λ n. Slides (its_turn packed o k voice x) n v.param) e slides)

-- an instrument's vibrato, which is command 4
pub vibrato_kept : (layout : Layout) (packed : PackedSong) (song : Song) (o : Options) (k voice : ℕ) (x : FrameState)
    (at : ℕ → ℕ) (command : ℕ) (v : Voice) → AtTurn layout packed song o k voice x at → command ≡ 4 →
    MeetsVibrato (its_turn packed o k voice x) v.param 1 → KeepsSlide layout (look_of packed) command v
vibrato_kept layout packed song o k voice x at command v turn is meets = record {
  up = λ e. absurd (omega (arith, is, e));
  down = λ e. absurd (omega (arith, is, e));
  tone = λ e some. absurd (omega (arith, is, e));
  tie = λ e at_zero. absurd (omega (arith, is, e));
  swings = λ e.
      either (layout.holds VIBRATO) (layout.holds INSTRUMENT_VIBRATO)
      (inr (turn.scene.used InstrumentVibrato (in_turn packed o k voice x _ turn.few (v.param, 1, meets))));
  calculates = λ needs from. calculated layout packed song o k voice x at v.param turn (for_vibrato meets) from;
}
