-- A channel has something to play exactly where a byte of its orderlists names a pattern that has.
use Rattle.std.proofs.Common.{◌≡◌, ℕ, ◌∙◌, ap, refl, subst, lit≤}
use Rattle.std.specs.List.{Contains}
use Rattle.song_model.specs.declared.orders.Order.{Order}
use Rattle.song_model.specs.declared.songs.Song.{Song}
use Rattle.song_model.specs.LookUp.{order_of}
use Rattle.play_model.specs.Used.{IsChannel}
use Rattle.song_facts.specs.declared.facts.Fact.{Fact}
use Rattle.song_facts.specs.Facts.{IsHeard, HasChannelRow}
use Rattle.song_places.specs.declared.places.Place.{Place}
use Rattle.song_places.specs.declared.places.Place.TheVariants.{InOrder, InPattern, InInstrument, InWaveTable}
use Rattle.song_places.specs.Needs.{Need, nothing, need_of_fact, NamesHeard}
use Rattle.song_places.specs.Places.{IsNeededAt}
use Rattle.song_places.specs.PlaceLaws.{IsFactNeeded}
use Rattle.song_places.proofs.FeaturePlaces.{item_at, item_of, order_at, played_subtune}

pub channel_two : IsChannel 2
channel_two = record { first = lit≤ tt; last = lit≤ tt }

pub channel_three : IsChannel 3
channel_three = record { first = lit≤ tt; last = lit≤ tt }

-- such a byte of this channel
abbrev pub heard_on : Song → ℕ → Need
heard_on song channel = record nothing { byte = λ s c b. (c ≡ channel) × NamesHeard song b }

pub heard_place : (song : Song) (fact : Fact) (channel : ℕ) → IsChannel channel →
    ((s b : ℕ) → NamesHeard song b → (need_of_fact song fact).byte s channel b) →
    HasChannelRow song channel IsHeard → IsFactNeeded song fact
heard_place song fact channel is_channel gives h =
    let own = order_of channel h.subtune in
    let order = order_at song own (record {
      subtune = h.subtune;
      playable = h.playable;
      channel = channel;
      is_channel = is_channel;
      order_is = refl;
    }) in
    let entry = item_at own.entries h.pattern h.entry in
    let row = h.has in
    record {
      place = InOrder order.0 channel entry.0;
      needs = record {
        order = own;
        has = order.1;
        byte = h.pattern;
        there = entry.2;
        is_meant = gives order.0 h.pattern (record {
          is_pattern = h.is_pattern;
          heard = (row.0, h.row, row.1, row.2, h.is_such);
        });
      };
    }

pub heard_from : (song : Song) (channel : ℕ) (place : Place) → IsNeededAt song (heard_on song channel) place →
    HasChannelRow song channel IsHeard
heard_from song channel (InOrder s c i) at =
    let subtune = at.has.subtune in
    let names = at.is_meant.1 in
    let heard = names.heard in
    record {
      subtune = subtune;
      playable = played_subtune song s c at.order at.has;
      pattern = at.byte;
      entry = subst (λ (order : Order). Contains order.entries at.byte)
          (at.has.order_is ∙ ap (λ (n : ℕ). order_of n subtune) at.is_meant.0)
          (item_of at.order.entries i at.byte at.there);
      is_pattern = names.is_pattern;
      row = heard.1;
      has = (heard.0, heard.2, heard.3);
      is_such = heard.4;
    }
heard_from song channel (InPattern p i) at = absurd at.is_meant
heard_from song channel (InInstrument n) at = absurd at.is_meant
heard_from song channel (InWaveTable p) at = absurd at.is_meant
