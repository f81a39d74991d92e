-- The song that is packed for a song is one, and serves as the song does.
use Rattle.std.proofs.Common.{◌≡◌, false, refl, sym, ap, ◌∙◌, subst, arith}
use Rattle.song_model.specs.declared.songs.Song.{Song}
use Rattle.song_model.specs.Limits.{KeepsLimits}
use Rattle.play_model.specs.declared.options.Options.{Options}
use Rattle.play_model.specs.Playable.{IsPlayable}
use Rattle.packing_rules.specs.UsedSets.{UsedSets, AreUsedSets}
use Rattle.packing_rules.specs.SongSizes.{packed_size}
use Rattle.packing_rules.proofs.Laws.{same_sets}
use Rattle.pattern_cut.specs.CutLaws.{StandsIn}
use Rattle.pattern_cut.specs.Choice.{cut_song, chosen_ways}
use Rattle.pattern_cut.proofs.Laws.{cut_songs_lem, chosen_cuts_fit_lem}
use Rattle.cut_pack.specs.Chosen.{in_pieces, as_it_is}
use Rattle.cut_pack.specs.ChosenLaws.{Serves, ChosenSongsServe, ChosenSongsAreNoLonger, OneIsPacked}

pub cut_stands_in : (song : Song) → KeepsLimits song → IsPlayable song → StandsIn song (cut_song song)
unfolding cut_song
cut_stands_in song limits playable =
    cut_songs_lem song (chosen_ways song) limits playable (chosen_cuts_fit_lem song limits playable)

cut_serves : (o : Options) (song : Song) → KeepsLimits song → IsPlayable song → o.skip_first ≡ false →
    Serves o song (cut_song song)
cut_serves o song limits playable kept =
    let stands = cut_stands_in song limits playable in
    record { limits = stands.limits; playable = stands.playable; plays = stands.plays o kept; asks = stands.asks }

pub itself_serves : (o : Options) (song : Song) → KeepsLimits song → IsPlayable song → Serves o song song
itself_serves o song limits playable = record {
  limits = limits;
  playable = playable;
  plays = record { count = refl; trace = λ k i low. refl };
  asks = record {
    features = λ feature. (λ has. has, λ has. has);
    facts = λ fact. (λ has. has, λ has. has);
    numbers = λ n. (λ asked. asked, λ asked. asked);
  };
}

pub chosen_serves_lem : ChosenSongsServe
chosen_serves_lem o song chosen limits playable (in_pieces kept is shorter) =
    subst (Serves o song) (sym is) (cut_serves o song limits playable kept)
chosen_serves_lem o song chosen limits playable (as_it_is is longer) =
    subst (Serves o song) (sym is) (itself_serves o song limits playable)

-- a song has one packed size
pub one_size : (song : Song) (used other : UsedSets) → AreUsedSets song used → AreUsedSets song other →
    packed_size song used ≡ packed_size song other
one_size song used other is is_too = ap (packed_size song) (same_sets song used other is is_too)

pub chosen_no_longer_lem : ChosenSongsAreNoLonger
chosen_no_longer_lem o song chosen used chosen_used (in_pieces kept is shorter) are are_too =
    let less = shorter.less in
    let same = one_size song shorter.used used shorter.are_used are in
    let cut = one_size (cut_song song) shorter.other_used chosen_used shorter.are_other_used
    (subst (λ s. AreUsedSets s chosen_used) is are_too) in
    let chosen_is = ap (λ s. packed_size s chosen_used) is in
    omega (arith, less, same, cut, chosen_is)
chosen_no_longer_lem o song chosen used chosen_used (as_it_is is longer) are are_too =
    let same = one_size song used chosen_used are (subst (λ s. AreUsedSets s chosen_used) is are_too) in
    let chosen_is = ap (λ s. packed_size s chosen_used) is in
    omega (arith, same, chosen_is)

pub one_is_packed_lem : OneIsPacked
one_is_packed_lem o song one other (in_pieces kept is shorter) (in_pieces kept' is' shorter') = is ∙ sym is'
one_is_packed_lem o song one other (in_pieces kept is shorter) (as_it_is is' longer) = absurd (longer kept shorter)
one_is_packed_lem o song one other (as_it_is is longer) (in_pieces kept is' shorter) = absurd (longer kept shorter)
one_is_packed_lem o song one other (as_it_is is longer) (as_it_is is' longer') = is ∙ sym is'
