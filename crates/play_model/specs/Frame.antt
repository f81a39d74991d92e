-- A frame: the filter, its registers, and the three voices in turn. This is this project's profile of
-- the playroutine, and the meaning of a song.
use Rattle.std.specs.Prelude.{ℕ, zero, suc, ◌/◌, ◌%◌, not, ◌&&◌, ◌||◌, ◌==◌, Bool, List, []}
use Rattle.std.specs.Prelude.{◌∷◌, ◌++◌, replicate, if◌then◌else◌, bit_and, bit_or}
use Rattle.std.specs.Option.{unwrap_or}
use Rattle.song_model.specs.declared.orders.Order.{Order}
use Rattle.song_model.specs.declared.orders.Subtune.{Subtune}
use Rattle.song_model.specs.declared.songs.Song.{Song}
use Rattle.song_model.specs.LookUp.{playable_subtune, order_of, void_subtune}
use Rattle.play_model.specs.declared.options.Options.{Options}
use Rattle.play_model.specs.LookUps.{LookUps, look_ups_of}
use Rattle.play_model.specs.State.{Voice, Common, FrameState, Playing, no_options, start_state, playing_of, with_playing}
use Rattle.play_model.specs.FilterStep.{filter_step}
use Rattle.play_model.specs.TickStep.{Ticked, tick_step}
use Rattle.play_model.specs.WaveStep.{Waved, wave_step}
use Rattle.play_model.specs.EffectStep.{effect_step}
use Rattle.play_model.specs.PulseStep.{pulse_step}
use Rattle.play_model.specs.FetchRow.{fetch_row}

-- the effect step, where the wave step lets it run, but an option leaves it out at tick 0
abbrev pub effect_done : Options → LookUps → Waved → Playing
effect_done o look w =
    if w.effect && not (o.skip_effects && (w.playing.voice.tick == 0))
    then record w.playing { voice = effect_step look w.playing.voice }
    else w.playing

-- the frame in which the row is fetched
abbrev pub is_at_fetch : Voice → Bool
is_at_fetch v = v.tick == v.gate_timer

-- tick 0 between two patterns: the next row is the first of its pattern
abbrev pub is_between_patterns : Voice → Bool
is_between_patterns v = (v.tick == 0) && (v.row == 0)

-- each of these two frames has an option that leaves the pulse step out
abbrev pub pulse_left_out : Options → Voice → Bool
pulse_left_out o v = o.skip_pulse && is_at_fetch v || o.skip_first && is_between_patterns v

-- the pulse step, but where an option leaves it out
abbrev pub pulse_done : Options → LookUps → Playing → Playing
pulse_done o look s = if pulse_left_out o s.voice then s else record s { voice = pulse_step look s.voice }

abbrev pub row_fetched : LookUps → Order → Playing → Playing
row_fetched look order s =
    if is_at_fetch s.voice then record s { voice = fetch_row look order s.voice } else s

-- a started note ends the voice step
abbrev pub after_tick : Options → LookUps → Order → Ticked → Playing
after_tick o look order t =
    if t.started then t.playing
    else row_fetched look order (pulse_done o look (effect_done o look (wave_step look t.playing)))

-- the voice of channel 1, 2 or 3, which plays this orderlist
unfoldable pub voice_step : ℕ → Options → LookUps → Order → Playing → Playing
voice_step channel o look order s = after_tick o look order (tick_step channel look s)

-- frequency, pulse width, waveform under its mask, envelope
unfoldable pub voice_registers : Voice → List ℕ
voice_registers v =
    v.freq % 256 ∷ v.freq / 256 ∷ v.pulse % 256 ∷ v.pulse / 256 ∷ bit_and v.wave v.gate ∷ v.ad
    ∷ v.sr ∷ []

-- registers 21 to 24
unfoldable pub filter_registers : Common → List ℕ
filter_registers c = 0 ∷ c.cutoff ∷ c.filter_control ∷ bit_or c.filter_type c.volume ∷ []

-- the state after a frame, and the SID's 25 writable registers
pub record Framed : Type 0 where
  pub state : FrameState
  pub registers : List ℕ

-- the state after the filter step
abbrev pub filter_done : LookUps → FrameState → FrameState
filter_done look x = record x { common = filter_step look x.common }

-- the state after the voice step of channel 1, 2 or 3
abbrev pub voice_done : ℕ → Options → LookUps → Subtune → FrameState → FrameState
voice_done channel o look subtune x =
    with_playing channel
    (voice_step channel o look (order_of channel subtune) (playing_of channel x)) x

-- one after the other: each voice sees what the ones before it did to the tempos
abbrev pub voices_done : Options → LookUps → Subtune → FrameState → FrameState
voices_done o look subtune x =
    voice_done 3 o look subtune (voice_done 2 o look subtune (voice_done 1 o look subtune x))

abbrev pub framed : List ℕ → FrameState → Framed
framed filter x = record {
  state = x;
  registers = voice_registers x.one ++ voice_registers x.two ++ voice_registers x.three ++ filter;
}

-- what a voice does to the filter and the volume is seen in the next frame's registers
abbrev pub after_filter : Options → LookUps → Subtune → FrameState → Framed
after_filter o look subtune x = framed (filter_registers x.common) (voices_done o look subtune x)

-- one frame of a subtune, over any look-ups
unfoldable pub frame_of : Options → LookUps → Subtune → FrameState → Framed
frame_of o look subtune x = after_filter o look subtune (filter_done look x)

-- playable subtune k, counted from 0; past the last one a subtune with nothing in it
abbrev pub subtune_at : Song → ℕ → Subtune
subtune_at song k = unwrap_or (playable_subtune song k) void_subtune

-- one frame of a song's subtune
abbrev pub frame_with : Options → Song → ℕ → FrameState → Framed
frame_with o song k x = frame_of o (look_ups_of song) (subtune_at song k) x

-- the state after n frames
unfoldable pub state_after_with : Options → Song → ℕ → ℕ → FrameState
state_after_with o song k zero = start_state o
state_after_with o song k (suc n) = (frame_with o song k (state_after_with o song k n)).state

-- the registers after call i: call 0 is init, which writes zeros, and each other call plays a frame
abbrev pub trace_with : Options → Song → ℕ → ℕ → List ℕ
trace_with o song k zero = replicate 25 0
trace_with o song k (suc n) = (frame_with o song k (state_after_with o song k n)).registers

-- without options
abbrev pub frame : Song → ℕ → FrameState → Framed
frame song k x = frame_with no_options song k x

abbrev pub state_after : Song → ℕ → ℕ → FrameState
state_after song k n = state_after_with no_options song k n

unfoldable pub trace : Song → ℕ → ℕ → List ℕ
trace song k i = trace_with no_options song k i
