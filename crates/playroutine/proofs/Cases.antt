-- A player's frames use the features of its song alone.
use Rattle.std.specs.Option.{unwrap_or}
use Rattle.std.proofs.Common.{◌≡◌, Option, sym, ap, subst}
use Rattle.std.proofs.lemmas.Option.{slice_get_within}
use Rattle.song_model.specs.declared.orders.Subtune.{Subtune}
use Rattle.song_model.specs.LookUp.{playable_subtunes, playable_subtune, void_subtune}
use Rattle.play_model.specs.StandsFor.{StateStandsFor}
use Rattle.play_model.specs.Frame.{subtune_at, state_after_with}
use Rattle.safe_states.proofs.Laws.{no_unused_case_lem}
use Rattle.playroutine.specs.Playback.{Playback, IsAtFrame}
use Rattle.playroutine.specs.Cases.{UsesItsFeatures}

pub uses_features : (player : Playback) (subtune : Subtune) →
    IsAtFrame player.song subtune player.subtune player.options player.state → UsesItsFeatures player
unfolding playable_subtune
uses_features player subtune at =
    let x = state_after_with player.options player.song player.subtune at.frames in
    let P : Subtune → Type 0 = λ s. StateStandsFor s player.state x in
    let is : subtune ≡ subtune_at player.song player.subtune =
    ap (λ (s : Option Subtune). unwrap_or s void_subtune) at.subtune_is in
    let inside = slice_get_within (playable_subtunes player.song) player.subtune subtune (sym at.subtune_is) in
    record {
      frames = at.frames;
      stands = subst P is at.stands;
      each = λ speed limits feature uses.
          no_unused_case_lem player.options player.song player.subtune at.frames speed limits at.playable inside
          feature uses;
    }
