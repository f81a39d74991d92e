-- What the song that is packed for a song tells of it: its features, its facts and its used parts.
use Rattle.std.proofs.Common.{◌≡◌, ℕ, Bool, sym, ap, subst}
use Rattle.song_model.specs.declared.songs.Song.{Song}
use Rattle.play_model.specs.declared.options.Options.{Options}
use Rattle.play_model.specs.Features.{AreFeatures}
use Rattle.song_facts.specs.declared.facts.Facts.{Facts}
use Rattle.song_facts.specs.Facts.{AreFacts}
use Rattle.song_model.specs.Limits.{KeepsLimits}
use Rattle.song_model.specs.LookUp.{table_row}
use Rattle.play_model.specs.Playable.{IsPlayable}
use Rattle.same_uses.specs.SameUses.{UsesNoMore}
use Rattle.asked_numbers.specs.declared.range.NumberRange.{NumberRange}
use Rattle.asked_numbers.specs.Range.{IsNumberRange}
use Rattle.packing_rules.specs.UsedSets.{UsedSets, AreUsedSets}
use Rattle.packing_rules.specs.Renumbering.{speed_rows}
use Rattle.packing_rules.proofs.Laws.{same_sets}
use Rattle.pattern_cut.specs.CutSongs.{cut_with}
use Rattle.pattern_cut.specs.Choice.{chosen_ways, cut_song}
use Rattle.pattern_cut.proofs.Laws.{chosen_cuts_fit_lem, UsesSame, cut_uses_same}
use Rattle.pattern_cut.specs.CutLaws.{AsksSame}
use Rattle.cut_pack.specs.Chosen.{IsPackedFor, in_pieces, as_it_is}

pub features_of : (song other : Song) (bits : ℕ) → AsksSame song other → AreFeatures other bits → AreFeatures song bits
features_of song other bits same are = record {
  small = are.small;
  each = λ feature. (
    λ set. (same.features feature).0 ((are.each feature).0 set),
    λ has. (are.each feature).1 ((same.features feature).1 has),
  );
}

pub facts_of : (song other : Song) (facts : Facts) → AsksSame song other → AreFacts other facts → AreFacts song facts
facts_of song other facts same are = record {
  each = λ fact. (
    λ among. (same.facts fact).0 ((are.each fact).0 among),
    λ has. (are.each fact).1 ((same.facts fact).1 has),
  );
}

pub range_of : (song other : Song) (range : NumberRange) → AsksSame song other → IsNumberRange other range →
    IsNumberRange song range
range_of song other range same are = record {
  has = λ n asked. are.has n ((same.numbers n).1 asked);
  first_is = λ some. (same.numbers range.first).0 (are.first_is some);
  last_is = λ last is some. (same.numbers last).0 (are.last_is last is some);
  none = are.none;
}

-- the song that is packed uses what the song uses
uses_same : (o : Options) (song chosen : Song) → KeepsLimits song → IsPlayable song → IsPackedFor o song chosen →
    UsesSame song chosen
unfolding cut_song
uses_same o song chosen limits playable (in_pieces kept is shorter) =
    subst (UsesSame song) (sym is)
    (cut_uses_same song (chosen_ways song) limits playable (chosen_cuts_fit_lem song limits playable))
uses_same o song chosen limits playable (as_it_is is longer) =
    subst (UsesSame song) (sym is) (record { no_more = itself; no_less = itself })
  where
    itself : UsesNoMore song song
    itself = record {
      instruments = λ i is. is;
      reached = λ name p is. is;
      pointers = λ name p is. is;
      targets = λ name p is. is;
      features = λ feature has. has;
      facts = λ fact has. has;
      numbers = λ n asked. asked;
    }

-- so its used parts are the song's, but for patterns
pub sets_of_both : (o : Options) (song chosen : Song) (used chosen_used : UsedSets) → KeepsLimits song →
    IsPlayable song → IsPackedFor o song chosen → AreUsedSets song used → AreUsedSets chosen chosen_used →
    record chosen_used { patterns = used.patterns } ≡ used
sets_of_both o song chosen used chosen_used limits playable is_for are are_too =
    let both = uses_same o song chosen limits playable is_for in
    same_sets song (record chosen_used { patterns = used.patterns }) used
    (record {
      patterns = are.patterns;
      instruments = λ i. (
        λ test. both.no_more.instruments i ((are_too.instruments i).0 test),
        λ is. (are_too.instruments i).1 (both.no_less.instruments i is),
      );
      reached = λ name p. (
        λ test. both.no_more.reached name p ((are_too.reached name p).0 test),
        λ is. (are_too.reached name p).1 (both.no_less.reached name p is),
      );
      pointers = λ name p. (
        λ test. both.no_more.pointers name p ((are_too.pointers name p).0 test),
        λ is. (are_too.pointers name p).1 (both.no_less.pointers name p is),
      );
    })
    are

-- the speeds of the song that is packed are the song's
pub speeds_of : (o : Options) (song chosen : Song) (used : ℕ → Bool) → IsPackedFor o song chosen →
    speed_rows chosen used ≡ speed_rows song used
unfolding speed_rows cut_song cut_with table_row
speeds_of o song chosen used (in_pieces kept is shorter) = ap (λ s. speed_rows s used) is
speeds_of o song chosen used (as_it_is is longer) = ap (λ s. speed_rows s used) is

-- the song has used parts, too
pub record HasSets (song : Song) : Type 0 where
  pub used : UsedSets
  pub are_used : AreUsedSets song used

pub sets_of_song : (o : Options) (song chosen : Song) (used : UsedSets) → IsPackedFor o song chosen →
    AreUsedSets chosen used → HasSets song
sets_of_song o song chosen used (in_pieces kept is shorter) are =
    record { used = shorter.used; are_used = shorter.are_used }
sets_of_song o song chosen used (as_it_is is longer) are =
    record { used = used; are_used = subst (λ s. AreUsedSets s used) is are }
