-- What a frame uses is a feature of the song.
use Rattle.std.specs.Prelude.{◌==◌}
use Rattle.std.proofs.Common.{◌≡◌, ◌≢◌, ℕ, ◌%◌, ◌<◌, ◌≤◌, length, lit≤, refl}
use Rattle.std.proofs.lemmas.Bool.{cond_both}
use Rattle.song_model.specs.declared.features.Feature.{Feature}
use Rattle.song_model.specs.declared.features.Feature.TheVariants.{Transpose, Repeat, PortaUp, PortaDown, TonePorta}
use Rattle.song_model.specs.declared.features.Feature.TheVariants.{TieNote, Vibrato, InstrumentVibrato, NoteDependent}
use Rattle.song_model.specs.declared.features.Feature.TheVariants.{SetAd, SetSr, SetWave, SetWavePointer, PulseTable}
use Rattle.song_model.specs.declared.features.Feature.TheVariants.{SetPulsePointer, FilterTable, SetFilterPointer}
use Rattle.song_model.specs.declared.features.Feature.TheVariants.{FilterControl, Cutoff, Volume, FunkTempo, SetTempo}
use Rattle.song_model.specs.declared.features.Feature.TheVariants.{WaveTable, WaveCommand}
use Rattle.song_model.specs.declared.tables.TableName.TheVariants.{Filter}
use Rattle.song_model.specs.declared.songs.Song.{Song}
use Rattle.song_model.specs.LookUp.{order_of, playable_subtunes}
use Rattle.play_model.specs.declared.options.Options.{Options}
use Rattle.play_model.specs.LookUps.{look_ups_of}
use Rattle.play_model.specs.State.{FrameState, Playing, playing_of}
use Rattle.play_model.specs.Frame.{filter_done, voice_done, subtune_at, state_after_with}
use Rattle.play_model.specs.Features.{HasByte, IsAny, HasPointer, HasFeature}
use Rattle.play_model.specs.Uses.{before_voice, HasOrderByte, UsesFeature}
use Rattle.play_model.specs.Safe.{IsSafe}
use Rattle.safe_states.specs.SafeLaws.{IsSafePlaying, PlayableSongsPlaySafely, StatesAreSafe, NoUnusedCase}
use Rattle.safe_states.proofs.Pointers.{CanBePlayed, is_step, has_pointer}
use Rattle.safe_states.proofs.Fetched.{is_played}
use Rattle.safe_states.proofs.Steps.{playing_safe, filter_done_keeps, one_done_keeps, two_done_keeps, frame_keeps}
use Rattle.safe_states.proofs.Steps.{start_safe, state_safe}
use Rattle.safe_states.proofs.Turns.{does_row, has_wave, meets_command, has_vibrato, slides, once, has_note_speed}
use Rattle.safe_states.proofs.Turns.{has_pulse, has_funk}

-- ---- the turns of a frame

pub before_safe : (song : Song) (k channel : ℕ) (o : Options) (x : FrameState) → CanBePlayed song →
    k < length (playable_subtunes song) → IsSafe song k x →
    IsSafe song k (before_voice channel o (look_ups_of song) (subtune_at song k) x)
before_safe song k channel o x play h q =
    let filtered = filter_done (look_ups_of song) x in
    let one = voice_done 1 o (look_ups_of song) (subtune_at song k) filtered in
    let two = voice_done 2 o (look_ups_of song) (subtune_at song k) one in
    cond_both (channel == 1) filtered _ (IsSafe song k) (λ z. filter_done_keeps song k x play q)
    (λ z. cond_both (channel == 2) one two (IsSafe song k) (λ z. one_done_keeps song k o x play h q)
    (λ z. two_done_keeps song k o x play h q))

-- the voice of channel 1, 2 or 3 at its step
abbrev at_turn : Song → ℕ → ℕ → Options → FrameState → Playing
at_turn song k channel o x = playing_of channel (before_voice channel o (look_ups_of song) (subtune_at song k) x)

turn_safe : (song : Song) (k channel : ℕ) (o : Options) (x : FrameState) → CanBePlayed song →
    k < length (playable_subtunes song) → IsSafe song k x →
    IsSafePlaying song (order_of channel (subtune_at song k)) (at_turn song k channel o x)
turn_safe song k channel o x play h q =
    playing_safe song k channel (before_voice channel o (look_ups_of song) (subtune_at song k) x)
    (before_safe song k channel o x play h q)

has_byte : (song : Song) (k from to : ℕ) → k < length (playable_subtunes song) →
    HasOrderByte (subtune_at song k) from to → HasByte song from to
has_byte song k from to h b = record {
  byte = b.byte;
  played = record {
    order = order_of b.channel (subtune_at song k);
    played = is_played song k b.channel h b.is_channel;
    entry = b.entry;
  };
  low = b.low;
  high = b.high;
}

-- ---- the features

module _ (song : Song) (k : ℕ) (o : Options) (x : FrameState) (play : CanBePlayed song)
    (h : k < length (playable_subtunes song)) (q : IsSafe song k x) where
  turn : (channel : ℕ) → IsSafePlaying song (order_of channel (subtune_at song k)) (at_turn song k channel o x)
  turn channel = turn_safe song k channel o x play h q

  has_filter : x.common.filter_ptr ≢ 0 → HasPointer song Filter
  has_filter some =
      has_pointer song Filter x.common.filter_ptr
      (is_step song Filter x.common.filter_ptr q.common.filter some).reached

  pub uses_lem : (feature : Feature) → UsesFeature o song k x feature → HasFeature song feature
  uses_lem Transpose u = has_byte song k 0xE0 0xFE h u
  uses_lem Repeat u = has_byte song k 0xD0 0xDF h u
  uses_lem PortaUp u = slides song _ u.channel o _ play (turn u.channel) 1 u.does.0 IsAny u.does.1 (lit≤ tt) tt
  uses_lem PortaDown u = slides song _ u.channel o _ play (turn u.channel) 2 u.does.0 IsAny u.does.1 (lit≤ tt) tt
  uses_lem TonePorta u =
      slides song _ u.channel o _ play (turn u.channel) 3 u.does.0 (λ d. d ≢ 0) u.does.1 (lit≤ tt) u.does.2
  uses_lem TieNote u = slides song _ u.channel o _ play (turn u.channel) 3 0 (λ d. d ≡ 0) u.does (lit≤ tt) refl
  uses_lem Vibrato u = slides song _ u.channel o _ play (turn u.channel) 4 u.does.0 IsAny u.does.1 (lit≤ tt) tt
  uses_lem InstrumentVibrato u = has_vibrato song _ u.channel o _ play (turn u.channel) u.does.0 u.does.1 u.does.2
  uses_lem NoteDependent u = has_note_speed song _ u.channel o _ play (turn u.channel) u.does.0 u.does.1 u.does.2
  uses_lem SetAd u = once song _ u.channel o _ play (turn u.channel) 5 u.does.0 u.does.1 (lit≤ tt)
  uses_lem SetSr u = once song _ u.channel o _ play (turn u.channel) 6 u.does.0 u.does.1 (lit≤ tt)
  uses_lem SetWave u = once song _ u.channel o _ play (turn u.channel) 7 u.does.0 u.does.1 (lit≤ tt)
  uses_lem SetWavePointer u = does_row song _ u.channel o _ play (turn u.channel) 8 u.does.0 IsAny u.does.1 (lit≤ tt) tt
  uses_lem PulseTable u = has_pulse song _ u.channel o _ play (turn u.channel) u.does.0 u.does.1
  uses_lem SetPulsePointer u = once song _ u.channel o _ play (turn u.channel) 9 u.does.0 u.does.1 (lit≤ tt)
  uses_lem FilterTable u = has_filter u
  uses_lem SetFilterPointer u = once song _ u.channel o _ play (turn u.channel) 0xA u.does.0 u.does.1 (lit≤ tt)
  uses_lem FilterControl u = once song _ u.channel o _ play (turn u.channel) 0xB u.does.0 u.does.1 (lit≤ tt)
  uses_lem Cutoff u = once song _ u.channel o _ play (turn u.channel) 0xC u.does.0 u.does.1 (lit≤ tt)
  uses_lem Volume u = once song _ u.channel o _ play (turn u.channel) 0xD u.does.0 u.does.1 (lit≤ tt)
  uses_lem FunkTempo u = has_funk song _ u.channel o _ play (turn u.channel) u.does
  uses_lem SetTempo u =
      does_row song _ u.channel o _ play (turn u.channel) 0xF u.does.0 (λ d. 3 ≤ d % 128) u.does.1 (lit≤ tt) u.does.2
  uses_lem WaveTable u = has_wave song _ u.channel o _ play (turn u.channel) u.does.0 u.does.1
  uses_lem WaveCommand u = meets_command song _ u.channel o _ play (turn u.channel) u.does.0 u.does.1

-- ---- the laws

pub plays_safely_lem : PlayableSongsPlaySafely
plays_safely_lem o song k speed limits playable h =
    let play : CanBePlayed song = record { limits = limits; playable = playable } in
    record {
      start = start_safe song k o play speed h;
      kept = λ x q. frame_keeps song k o x play h q;
      uses = λ x q. uses_lem song k o x play h q;
    }

pub states_are_safe_lem : StatesAreSafe
states_are_safe_lem o song k i speed limits playable h =
    state_safe song k i o (record { limits = limits; playable = playable }) speed h

pub no_unused_case_lem : NoUnusedCase
no_unused_case_lem o song k i speed limits playable h feature u =
    (plays_safely_lem o song k speed limits playable h).uses (state_after_with o song k i)
    (states_are_safe_lem o song k i speed limits playable h) feature u
