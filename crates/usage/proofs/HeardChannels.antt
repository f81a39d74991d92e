-- The patterns that have a row to play, marked one after the other, and the channels that name one.
use Rattle.std.proofs.Common.{◌≡◌, ℕ, ◌+◌, ◌<◌, ◌≤◌, ◌↔◌, Bool, false, List, [], length, get_or, replicate}
use Rattle.std.proofs.Common.{refl, sym, subst}
use Rattle.std.specs.List.{Any}
use Rattle.std.proofs.lemmas.List.{get_or_read_under}
use Rattle.song_model.specs.declared.rows.Row.{Row}
use Rattle.song_model.specs.declared.songs.Song.{Song}
use Rattle.song_model.specs.LookUp.{pattern_at, is_playable_subtune}
use Rattle.song_facts.specs.Facts.{IsHeard, HasChannelRow}
use Rattle.base.proofs.Laws.{filter_keeps, filter_of}
use Rattle.usage.specs.Marks.{AreMarks}
use Rattle.usage.specs.Building.{Adds, SomeBelow}
use Rattle.usage.specs.Channels.{IsHeardPattern, NamesMarked, PlaysMarked}
use Rattle.usage.proofs.AddedMarks.{adds_same, below_more, marks_from_none}
use Rattle.usage.proofs.UsedRows.{inside_of}

-- ---- patterns

-- the number is this pattern's, and it has a row to play
abbrev pub IsHeardAt : Song → ℕ → ℕ → Type 0
IsHeardAt song pattern n = (n ≡ pattern) × IsHeardPattern song pattern

pub heard_more : (song : Song) (i : ℕ) (rows : List Row) {old mid new : List Bool} →
    rows ≡ get_or song.patterns i rows → i < length song.patterns → Adds (SomeBelow (IsHeardAt song) i) old mid →
    Adds (λ n. (n ≡ i) × Any IsHeard rows) mid new → Adds (SomeBelow (IsHeardAt song) (i + 1)) old new
unfolding pattern_at
heard_more song i rows {old} {mid} {new} read inside a b =
    below_more (IsHeardAt song) i a
    (subst (λ (found : List Row). Adds (λ n. (n ≡ i) × Any IsHeard found) mid new)
    (get_or_read_under song.patterns i (length song.patterns) rows [] read inside refl) b)

-- after the last pattern
pub heard_of_all : (song : Song) (i : ℕ) {new : List Bool} → length song.patterns ≤ i →
    Adds (SomeBelow (IsHeardAt song) i) (replicate 256 false) new → AreMarks (IsHeardPattern song) new
heard_of_all song i end a =
    marks_from_none 256 (adds_same (IsHeardPattern song)
    (λ n some. subst (IsHeardPattern song) (sym some.stands.0) some.stands.1)
    (λ n heard. record {
      k = n;
      below = inside_of song n i heard.1 end (heard.0, heard.2, heard.3);
      stands = (refl, heard);
    }) a)

-- ---- channels

has_row : (song : Song) (channel : ℕ) (marks : List Bool) → AreMarks (IsHeardPattern song) marks →
    Any (PlaysMarked marks channel) song.subtunes → HasChannelRow song channel IsHeard
has_row song channel marks m (k, subtune, inside, is, plays) =
    let named = plays.named in
    let names = named.4 in
    let heard = (m.each named.1).0 names.marked in
    record {
      subtune = subtune;
      playable = filter_keeps is_playable_subtune song.subtunes subtune (k, inside, is) plays.playable;
      pattern = named.1;
      entry = (named.0, named.2, named.3);
      is_pattern = names.is_pattern;
      row = heard.1;
      has = (heard.0, heard.2, heard.3);
      is_such = heard.4;
    }

plays_row : (song : Song) (channel : ℕ) (marks : List Bool) → AreMarks (IsHeardPattern song) marks →
    HasChannelRow song channel IsHeard → Any (PlaysMarked marks channel) song.subtunes
plays_row song channel marks m has =
    let kept = filter_of is_playable_subtune song.subtunes has.subtune has.playable in
    let there = kept.0 in
    let entry = has.entry in
    let row = has.has in
    let marked = (m.each has.pattern).1 (row.0, has.row, row.1, row.2, has.is_such) in
    let names : NamesMarked marks has.pattern = record { is_pattern = has.is_pattern; marked = marked } in
    let plays : PlaysMarked marks channel has.subtune =
    record { playable = kept.1; named = (entry.0, has.pattern, entry.1, entry.2, names) } in
    (there.0, has.subtune, there.1, there.2, plays)

-- some subtune plays a marked pattern on a channel exactly where the channel has a row to play
pub channel_rows : (song : Song) (channel : ℕ) (marks : List Bool) → AreMarks (IsHeardPattern song) marks →
    Any (PlaysMarked marks channel) song.subtunes ↔ HasChannelRow song channel IsHeard
channel_rows song channel marks m = (has_row song channel marks m, plays_row song channel marks m)
