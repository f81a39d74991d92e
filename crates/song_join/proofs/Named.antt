-- The patterns that the playable subtunes of a playable song name are stored.
use Rattle.std.proofs.Common.{◌≡◌, ℕ, ◌<◌, true, length, get_or, Contains, refl, sym, arith}
use Rattle.std.proofs.lemmas.List.{get_or_default}
use Rattle.base.proofs.Laws.{filter_keeps}
use Rattle.song_model.specs.declared.orders.Subtune.{Subtune}
use Rattle.song_model.specs.declared.songs.Song.{Song}
use Rattle.song_model.specs.LookUp.{order_of, is_playable_subtune}
use Rattle.play_model.specs.Used.{IsChannel}
use Rattle.play_model.specs.Playable.{IsPlayable}
use Rattle.play_model.proofs.Laws.{whole_lem}
use Rattle.song_join.specs.Parts.{NamesStored, SubtuneNamesStored}

channel_stored : (song : Song) (subtune : Subtune) (channel : ℕ) → IsPlayable song → Contains song.subtunes subtune →
    is_playable_subtune subtune ≡ true → IsChannel channel →
    NamesStored (length song.patterns) (order_of channel subtune).entries
channel_stored song subtune channel play has pass is_channel k d there is_pattern =
    (whole_lem song play).pattern (get_or (order_of channel subtune).entries k d)
    (record {
      byte = record {
        order = order_of channel subtune;
        played = record {
          subtune = subtune;
          playable = filter_keeps is_playable_subtune song.subtunes subtune has pass;
          channel = channel;
          is_channel = is_channel;
          order_is = refl;
        };
        entry = (k, there, get_or_default (order_of channel subtune).entries k _ d there);
      };
      is_pattern = is_pattern;
    })

pub has_stored : (song : Song) (subtune : Subtune) → IsPlayable song → Contains song.subtunes subtune →
    is_playable_subtune subtune ≡ true → SubtuneNamesStored (length song.patterns) subtune
has_stored song subtune play has pass = record {
  one = channel_stored song subtune 1 play has pass (record { first = omega arith; last = omega arith });
  two = channel_stored song subtune 2 play has pass (record { first = omega arith; last = omega arith });
  three = channel_stored song subtune 3 play has pass (record { first = omega arith; last = omega arith });
}

pub subtune_stored : (song : Song) (subtune : Subtune) (i : ℕ) → IsPlayable song → i < length song.subtunes →
    subtune ≡ get_or song.subtunes i subtune → is_playable_subtune subtune ≡ true →
    SubtuneNamesStored (length song.patterns) subtune
subtune_stored song subtune i play inside is pass =
    has_stored song subtune play (i, inside, sym is) pass
