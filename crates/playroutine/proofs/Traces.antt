-- A player that is played on and on leaves the trace of its subtune.
use Rattle.std.proofs.Common.{◌≡◌, ℕ, zero, suc, List, refl, ◌∙◌, ap, subst}
use Rattle.song_model.specs.declared.songs.Song.{Song}
use Rattle.play_model.specs.declared.options.Options.{Options}
use Rattle.play_model.specs.State.{FrameState, start_state}
use Rattle.play_model.specs.Frame.{Framed, frame_with, state_after_with, trace_with}
use Rattle.playroutine.specs.Playback.{Playback, PlaysSubtune, PlayerStandsFor, PlaysFrame}
use Rattle.playroutine.specs.Played.{StandsAfter, PlayersGiveTheTrace}

pub start_after : (player : Playback) (song : Song) (k : ℕ) (o : Options) → PlaysSubtune player song k o →
    PlayerStandsFor player (start_state o) → StandsAfter player song k o 0
unfolding state_after_with
start_after player song k o plays stands = record { plays = plays; stands = stands }

-- a frame more: the registers are the trace's next entry, and the player stands after it
pub record NextCall (player : Playback) (registers : List ℕ) (song : Song) (k : ℕ) (o : Options) (n : ℕ) : Type 0 where
  pub after : StandsAfter player song k o (suc n)
  pub call : registers ≡ trace_with o song k (suc n)

pub frame_after : (player after : Playback) (registers : List ℕ) (song : Song) (k : ℕ) (o : Options) (n : ℕ) →
    StandsAfter player song k o n → PlaysFrame player registers after → NextCall after registers song k o n
unfolding state_after_with
frame_after player after registers song k o n s f =
    let x = state_after_with o song k n in
    let P : FrameState → Type 0 = λ y. PlayerStandsFor after y in
    let was = s.plays in
    let is = f.plays in
    let here : frame_with player.options player.song player.subtune x ≡ frame_with o song k x =
    rw (was.song_is, was.subtune_is, was.options_are) refl in
    record {
      after = record {
        plays = record {
          song_is = is.song_is ∙ was.song_is;
          subtune_is = is.subtune_is ∙ was.subtune_is;
          options_are = is.options_are ∙ was.options_are;
        };
        stands = subst P (ap (λ (y : Framed). y.state) here) (f.stands x s.stands);
      };
      call = f.registers_are x s.stands ∙ ap (λ (y : Framed). y.registers) here;
    }

pub players_give_the_trace_lem : PlayersGiveTheTrace
players_give_the_trace_lem player registers song k o on plays stands =
    record { after = after; call = λ n. (next n (after n)).call }
  where
    next : (n : ℕ) → StandsAfter (player n) song k o n → NextCall (player (suc n)) (registers n) song k o n
    next n s = frame_after (player n) (player (suc n)) (registers n) song k o n s (on n)

    after : (n : ℕ) → StandsAfter (player n) song k o n
    after zero = start_after (player 0) song k o plays stands
    after (suc n) = (next n (after n)).after
