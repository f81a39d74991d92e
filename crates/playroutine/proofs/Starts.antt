-- A playable subtune of a playable song: its orderlists go on for ever.
use Rattle.std.specs.Option.{unwrap_or}
use Rattle.std.proofs.Common.{◌≡◌, ℕ, suc, Option, Some, refl, sym, arith, ap, subst}
use Rattle.std.specs.List.{Contains}
use Rattle.std.proofs.lemmas.Option.{slice_get_within, get_or_from_slice_get}
use Rattle.song_model.specs.declared.orders.Subtune.{Subtune}
use Rattle.song_model.specs.declared.songs.Song.{Song}
use Rattle.song_model.specs.LookUp.{order_of, playable_subtunes, playable_subtune, void_subtune}
use Rattle.song_model.specs.Endless.{IsEndless}
use Rattle.play_model.specs.Used.{IsChannel}
use Rattle.play_model.specs.Playable.{IsPlayable}
use Rattle.play_model.proofs.Laws.{whole_lem}
use Rattle.play_model.specs.declared.options.Options.{Options}
use Rattle.play_model.specs.declared.states.PlayState.{PlayState}
use Rattle.play_model.specs.LookUps.{look_ups_of}
use Rattle.play_model.specs.State.{FrameState, start_state}
use Rattle.play_model.specs.StandsFor.{StateStandsFor}
use Rattle.play_model.specs.Frame.{frame_of, subtune_at, state_after_with}
use Rattle.playroutine.specs.Playback.{IsEndlessSubtune, IsAtFrame}

played : (song : Song) (k : ℕ) (subtune : Subtune) → Some subtune ≡ playable_subtune song k →
    Contains (playable_subtunes song) subtune
unfolding playable_subtune
played song k subtune e = (
  k,
  slice_get_within (playable_subtunes song) k subtune (sym e),
  get_or_from_slice_get (playable_subtunes song) k subtune subtune (sym e),
)

-- the orderlist of each of its channels goes on for ever
channel_endless : (song : Song) (subtune : Subtune) (channel : ℕ) → IsPlayable song →
    Contains (playable_subtunes song) subtune → IsChannel channel → IsEndless (order_of channel subtune)
channel_endless song subtune channel playable in_song is_channel =
    (whole_lem song playable).order (order_of channel subtune) (record {
      subtune = subtune;
      playable = in_song;
      channel = channel;
      is_channel = is_channel;
      order_is = refl;
    })

pub endless_lem : (song : Song) (k : ℕ) (subtune : Subtune) → IsPlayable song → Some subtune ≡ playable_subtune song k →
    IsEndlessSubtune subtune
endless_lem song k subtune p e =
    let in_song = played song k subtune e in
    record {
      one = channel_endless song subtune 1 p in_song (record { first = omega arith; last = omega arith });
      two = channel_endless song subtune 2 p in_song (record { first = omega arith; last = omega arith });
      three = channel_endless song subtune 3 p in_song (record { first = omega arith; last = omega arith });
    }

-- a player before its first frame
pub begun_lem : (song : Song) (subtune : Subtune) (k : ℕ) (o : Options) (state : PlayState) → IsPlayable song →
    Some subtune ≡ playable_subtune song k → StateStandsFor subtune state (start_state o) →
    IsAtFrame song subtune k o state
unfolding state_after_with
begun_lem song subtune k o state p e s = record { playable = p; subtune_is = e; frames = 0; stands = s }

-- and after one more
pub played_lem : (song : Song) (subtune : Subtune) (k : ℕ) (o : Options) (before after : PlayState) →
    IsAtFrame song subtune k o before →
    ((x : FrameState) → StateStandsFor subtune before x →
    StateStandsFor subtune after (frame_of o (look_ups_of song) subtune x).state) →
    IsAtFrame song subtune k o after
unfolding state_after_with
played_lem song subtune k o before after at more =
    let x = state_after_with o song k at.frames in
    let P : Subtune → Type 0 = λ s. StateStandsFor subtune after (frame_of o (look_ups_of song) s x).state in
    let is : subtune ≡ subtune_at song k = ap (λ (s : Option Subtune). unwrap_or s void_subtune) at.subtune_is in
    record {
      playable = at.playable;
      subtune_is = at.subtune_is;
      frames = suc at.frames;
      stands = subst P is (more x at.stands);
    }
