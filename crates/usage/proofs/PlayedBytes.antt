-- The bytes of playable subtunes, marked one subtune after the other.
use Rattle.std.proofs.Common.{◌≡◌, ℕ, ◌≤◌, ◌⊎◌, Bool, false, List, length, take, replicate, refl}
use Rattle.std.proofs.Common.{subst, inl, inr, lit≤, arith}
use Rattle.std.specs.List.{Contains}
use Rattle.std.proofs.lemmas.Bool.{cases_lt}
use Rattle.song_model.specs.declared.orders.Order.{Order}
use Rattle.song_model.specs.declared.orders.Subtune.{Subtune}
use Rattle.song_model.specs.declared.songs.Song.{Song}
use Rattle.song_model.specs.LookUp.{order_of, is_playable_subtune, playable_subtunes}
use Rattle.play_model.specs.Used.{IsChannel, IsPlayedOrder, IsPlayedByte}
use Rattle.usage.specs.Marks.{AreMarks}
use Rattle.usage.specs.Building.{Adds, SomeOf}
use Rattle.usage.specs.Played.{PlaysByte}
use Rattle.base.proofs.Laws.{filter_keeps, filter_of}
use Rattle.usage.proofs.AddedMarks.{marks_of_all}

channel_cases : (channel : ℕ) → IsChannel channel → (channel ≡ 1) ⊎ (channel ≡ 2) ⊎ (channel ≡ 3)
channel_cases channel is =
    elim (cases_lt channel 2) [
      | inl low ↦ inl (let a = is.first in omega arith)
      | inr high ↦ elim (cases_lt channel 3) [
        | inl two ↦ inr (inl (omega arith))
        | inr three ↦ inr (inr (let b = is.last in omega arith))
      ]
    ]

channel_of : (channel : ℕ) → 1 ≤ channel → channel ≤ 3 → IsChannel channel
channel_of channel low high = record { first = low; last = high }

byte_of : (song : Song) (subtune : Subtune) (channel n : ℕ) → Contains (playable_subtunes song) subtune →
    IsChannel channel →
    Contains (order_of channel subtune).entries n → IsPlayedByte song n
byte_of song subtune channel n playable is has = record {
  order = order_of channel subtune;
  played = record { subtune = subtune; playable = playable; channel = channel; is_channel = is; order_is = refl };
  entry = has;
}

pub played_from : (song : Song) (n : ℕ) → SomeOf PlaysByte song.subtunes n → IsPlayedByte song n
played_from song n (k, subtune, inside, is, plays) =
    let there = filter_keeps is_playable_subtune song.subtunes subtune (k, inside, is) plays.playable in
    let has = plays.has in
    elim has [
      | inl one ↦ byte_of song subtune 1 n there (channel_of 1 (lit≤ tt) (lit≤ tt)) one
      | inr other ↦ elim other [
        | inl two ↦ byte_of song subtune 2 n there (channel_of 2 (lit≤ tt) (lit≤ tt)) two
        | inr three ↦ byte_of song subtune 3 n there (channel_of 3 (lit≤ tt) (lit≤ tt)) three
      ]
    ]

has_byte : (subtune : Subtune) (channel n : ℕ) → (channel ≡ 1) ⊎ (channel ≡ 2) ⊎ (channel ≡ 3) →
    Contains (order_of channel subtune).entries n →
    Contains subtune.one.entries n ⊎ Contains subtune.two.entries n ⊎ Contains subtune.three.entries n
has_byte subtune channel n (inl one) has = inl (rw one at has)
has_byte subtune channel n (inr (inl two)) has = inr (inl (rw two at has))
has_byte subtune channel n (inr (inr three)) has = inr (inr (rw three at has))

plays_of : (song : Song) (order : Order) (n : ℕ) → IsPlayedOrder song order → Contains order.entries n →
    SomeOf PlaysByte song.subtunes n
plays_of song order n played has =
    let kept = filter_of is_playable_subtune song.subtunes played.subtune played.playable in
    let there = kept.0 in
    let entry : Contains (order_of played.channel played.subtune).entries n =
    subst (λ (o : Order). Contains o.entries n) played.order_is has in (
      there.0,
      played.subtune,
      there.1,
      there.2,
      record {
        playable = kept.1;
        has = has_byte played.subtune played.channel n
            (channel_cases played.channel played.is_channel) entry;
      },
    )

pub some_from : (song : Song) (n : ℕ) → IsPlayedByte song n → SomeOf PlaysByte song.subtunes n
some_from song n h = plays_of song h.order n h.played h.entry

-- after the last subtune
pub all_played : (song : Song) (subtunes : List Subtune) (i : ℕ) {new : List Bool} → subtunes ≡ song.subtunes →
    length subtunes ≤ i →
    Adds (SomeOf PlaysByte (take i subtunes)) (replicate 256 false) new → AreMarks (IsPlayedByte song) new
all_played song subtunes i same end a =
    marks_of_all PlaysByte subtunes (IsPlayedByte song) i 256 end (λ n. rw same (played_from song n))
    (λ n. rw same (some_from song n)) a
