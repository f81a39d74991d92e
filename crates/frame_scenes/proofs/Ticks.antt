-- The tick step is ready.
use Rattle.std.proofs.Common.{◌≡◌, ℕ, ◌+◌, ◌<◌, Bool, true, false, length, nat_eq, if◌then◌else◌}
use Rattle.std.proofs.Common.{Option, Some, None, inl, refl, subst}
use Rattle.std.proofs.lemmas.Bool.{eqb-true}
use Rattle.song_model.specs.declared.features.Feature.TheVariants.{SetAd, SetSr, SetWave, SetWavePointer}
use Rattle.song_model.specs.declared.features.Feature.TheVariants.{SetPulsePointer, SetFilterPointer, FilterControl}
use Rattle.song_model.specs.declared.features.Feature.TheVariants.{Cutoff, Volume, FunkTempo, SetTempo}
use Rattle.song_model.specs.declared.songs.Song.{Song}
use Rattle.song_facts.specs.declared.facts.Fact.TheVariants.{OwnWave}
use Rattle.play_model.specs.declared.options.Options.{Options}
use Rattle.play_model.specs.State.{FrameState}
use Rattle.play_model.specs.Uses.{DoesOnce}
use Rattle.packed_form.specs.declared.packed_songs.PackedSong.{PackedSong}
use Rattle.packed_form.specs.Unpacked.{unpacked_song}
use Rattle.scopes.specs.Desk.{Layout}
use Rattle.player_memory.specs.declared.conditions.TheConstants.{SET_AD, SET_SR, SET_WAVE, SET_PULSE_POINTER}
use Rattle.player_memory.specs.declared.conditions.TheConstants.{SET_FILTER_POINTER, SET_FILTER_CONTROL, SET_CUTOFF}
use Rattle.player_memory.specs.declared.conditions.TheConstants.{SET_VOLUME, OWN_WAVE}
use Rattle.player_memory.specs.Commands.{condition_of_both, AreKept}
use Rattle.player_memory.specs.SongLists.{OneWave, slide_rows}
use Rattle.player_memory.specs.Holds.{KeepsUsed, look_of}
use Rattle.tick_code.specs.TickBlock.{HasTickLists, HasOneWave, IsInLists, KeepsTick}
use Rattle.tick_code.proofs.Laws.{tick_kept}
use Rattle.frame_code.specs.FrameBlock.{turn_in}
use Rattle.frame_scenes.specs.FrameScenes.{Scene}
use Rattle.frame_scenes.proofs.Lists.{instrument_stands, stands_alone}
use Rattle.frame_scenes.proofs.Speeds.{speeds_stand}
use Rattle.frame_scenes.proofs.Turns.{AtTurn, IsFine, its_turn, in_turn, begins, scene_facts}
use Rattle.frame_scenes.proofs.Programs.{speed_stored, waiting_points}
use Rattle.frame_scenes.proofs.Patterns.{instrument_stored}
use Rattle.frame_scenes.proofs.FactsKept.{row_kept, tempo_kept, instrument_kept, no_two_differ, none_marked}

-- ---- what is read

pub ticks_stand : (layout : Layout) (packed : PackedSong) (song : Song) (o : Options) (k : ℕ) (x : FrameState)
    (at : ℕ → ℕ) → Scene layout packed song o k x at →
    HasTickLists layout (slide_rows packed) at (look_of packed) (length packed.instruments) (length packed.speed)
ticks_stand layout packed song o k x at scene =
    let speeds = speeds_stand layout packed at scene.has scene.stands.packed_song.limits in record {
      instrument = λ number least most.
          instrument_stands layout packed at scene.has scene.alone scene.stands.packed_song.limits number
          (record { first = least; last = most });
      speed = record { few = speeds.few; each = λ number least most. (speeds.each number most).sides };
    }

pub in_lists : (layout : Layout) (packed : PackedSong) (song : Song) (o : Options) (k voice : ℕ) (x : FrameState)
    (at : ℕ → ℕ) → AtTurn layout packed song o k voice x at →
    IsInLists (length packed.instruments) (length packed.speed) (turn_in packed o k voice x).voice
in_lists layout packed song o k voice x at turn =
    let fine : IsFine packed k voice (turn_in packed o k voice x) =
    begins layout packed song o k voice x at turn in
    let stored = instrument_stored packed song _ turn.scene.stands fine.safe.voice.instrument in record {
      from = stored.first;
      to = stored.last;
      command = fine.range.voice.new_command;
      param = fine.range.voice.new_param;
      speed = λ e.
          speed_stored packed song _ turn.scene.stands
          (waiting_points (unpacked_song packed) _ _ fine.safe.voice.waiting e);
    }

-- where one first waveform stands for all instruments, it is that of the voice's
pub one_wave : (layout : Layout) (packed : PackedSong) (song : Song) (o : Options) (k voice : ℕ) (x : FrameState)
    (at : ℕ → ℕ) → AtTurn layout packed song o k voice x at →
    HasOneWave layout (slide_rows packed) at
    ((look_of packed).instrument (turn_in packed o k voice x).voice.instrument)
one_wave layout packed song o k voice x at turn out =
    let fine : IsFine packed k voice (turn_in packed o k voice x) =
    begins layout packed song o k voice x at turn in
    let scene = turn.scene in
    stands_alone layout packed at OneWave _ scene.has
    (none_marked layout packed.facts OwnWave scene.facts out) refl refl scene.laid.wave
    (no_two_differ layout (unpacked_song packed) (λ i. i.first_wave) OWN_WAVE ((scene_facts turn) OwnWave) out 1 _
    (inl refl) fine.safe.voice.instrument)

-- ---- what is kept

kept_if : (layout : Layout) (test : Bool) (one : ℕ) (two : Option ℕ) → (test ≡ true → layout.holds one ≡ true) →
    AreKept layout two → AreKept layout (if test then Some one else two)
kept_if layout true one two this other = this refl
kept_if layout false one two this other = other

-- the lines of a command that is done once, in a row or in the wave table
pub once_kept : (layout : Layout) (packed : PackedSong) (song : Song) (o : Options) (k voice : ℕ) (x : FrameState)
    (at : ℕ → ℕ) → AtTurn layout packed song o k voice x at → (command d : ℕ) →
    DoesOnce (its_turn packed o k voice x) command d → AreKept layout (condition_of_both command)
once_kept layout packed song o k voice x at turn command d does =
    kept_if layout (nat_eq command 5) SET_AD _ (λ z. used SetAd (in_turn packed o k voice x _ few (d, now 5 z)))
    (kept_if layout (nat_eq command 6) SET_SR _ (λ z. used SetSr (in_turn packed o k voice x _ few (d, now 6 z)))
    (kept_if layout (nat_eq command 7) SET_WAVE _ (λ z. used SetWave (in_turn packed o k voice x _ few (d, now 7 z)))
    (kept_if layout (nat_eq command 9) SET_PULSE_POINTER _
    (λ z. used SetPulsePointer (in_turn packed o k voice x _ few (d, now 9 z)))
    (kept_if layout (nat_eq command 0xA) SET_FILTER_POINTER _
    (λ z. used SetFilterPointer (in_turn packed o k voice x _ few (d, now 0xA z)))
    (kept_if layout (nat_eq command 0xB) SET_FILTER_CONTROL _
    (λ z. used FilterControl (in_turn packed o k voice x _ few (d, now 0xB z)))
    (kept_if layout (nat_eq command 0xC) SET_CUTOFF _
    (λ z. used Cutoff (in_turn packed o k voice x _ few (d, now 0xC z)))
    (kept_if layout (nat_eq command 0xD) SET_VOLUME None
    (λ z. used Volume (in_turn packed o k voice x _ few (d, now 0xD z))) tt)))))))
  where
    used : KeepsUsed layout packed o k x
    used = turn.scene.used

    few : voice < 3
    few = turn.few

    now : (its : ℕ) → nat_eq command its ≡ true → DoesOnce (its_turn packed o k voice x) its d
    now its z = subst (λ n. DoesOnce (its_turn packed o k voice x) n d) (eqb-true command its z) does

pub tick_keeps : (layout : Layout) (packed : PackedSong) (song : Song) (o : Options) (k voice : ℕ) (x : FrameState)
    (at : ℕ → ℕ) → AtTurn layout packed song o k voice x at →
    KeepsTick layout (voice + 1) (look_of packed) (turn_in packed o k voice x)
tick_keeps layout packed song o k voice x at turn =
    let fine : IsFine packed k voice (turn_in packed o k voice x) =
    begins layout packed song o k voice x at turn in
    tick_kept layout (look_of packed) (its_turn packed o k voice x) (record {
      once = once_kept layout packed song o k voice x at turn;
      wave_pointer = λ d does. turn.scene.used SetWavePointer (in_turn packed o k voice x _ turn.few (d, does));
      funk = λ asks. turn.scene.used FunkTempo (in_turn packed o k voice x _ turn.few asks);
      length = λ d does long. turn.scene.used SetTempo (in_turn packed o k voice x _ turn.few (d, does, long));
    })
    (λ now. row_kept layout (unpacked_song packed) _ _ (scene_facts turn) fine.safe.voice.waiting)
    (λ now. tempo_kept layout (unpacked_song packed) _ _ (scene_facts turn) fine.safe.voice.waiting)
    (λ now.
    instrument_kept layout (unpacked_song packed) _ _ (scene_facts turn) fine.safe.voice.instrument fine.safe.voice.delay)
    turn.scene.shared
