-- The lists of a small song, computed, and listings that aren't of it.
use Rattle.std.proofs.Common.{◌≡◌, ℕ, zero, suc, ◌<◌, ◌≤◌, ◌&&◌, Bool, true, false, List, [], ◌∷◌}
use Rattle.std.proofs.Common.{length, get_or, nat_le, nat_lt, refl, sym, ap, ◌∙◌, subst, arith}
use Rattle.std.specs.Prelude.{IsPermutation}
use Rattle.std.specs.List.Sorted.{IsNonDecreasingBy, SwapsInRange}
use Rattle.std.proofs.lemmas.Bool.{leb-true, ltb-true, and_parts, eqb-false}
use Rattle.packed_form.specs.declared.packed_songs.PackedSong.{PackedSong}
use Rattle.song_model.specs.LookUp.{instrument_at}
use Rattle.play_model.specs.Freq.{freq}
use Rattle.song_lists.specs.declared.marks.Mark.{Mark}
use Rattle.song_lists.specs.Marks.{mark_at, marked}
use Rattle.song_lists.specs.DataLists.{frequency_lows, frequency_highs, fields_before, data_bytes, data_marks, HasLines}
use Rattle.song_lists.specs.DataLists.{order_places, gate_from_bytes, envelope_from_bytes}
use Rattle.song_lists.specs.WorkedLists.{FewAreInFront, NoneIsListed, LastAreListed, FrequenciesAreWorked, from}
use Rattle.song_lists.specs.WorkedLists.{all_read, delay_read, timer_read, FewAreRead, OneWaveIsRead, FewerAreInFront}
use Rattle.song_lists.specs.WorkedLists.{FewFieldsAreWorked, OneSubtuneIs, one_alone}
use Rattle.song_lists.specs.WorkedLists.{both_held, HoldersAreWorked, TheFirstHolds, OneIsHeld, HoldersAre}
use Rattle.song_lists.specs.WorkedLists.{IsSmallSongWith, IsSmallSong, plain_bytes, kept_bytes, plain_lines}
use Rattle.song_lists.specs.WorkedLists.{kept_lines, SmallListsAreWorked}
use Rattle.song_lists.specs.WorkedLayouts.{plain_marks, kept_marks}
use Rattle.song_lists.proofs.WorkedOrders.{are_orders, other_order}

-- ---- frequencies

few_are_in_front : (packed : PackedSong) → IsSmallSongWith all_read (from 57 2) packed → FewAreInFront packed
unfolding frequency_lows frequency_highs freq fields_before instrument_at
few_are_in_front packed is = record {
  gap =
      rw (is.subtunes, is.patterns, is.instruments, is.wave, is.pulse, is.filter, is.speed, is.facts, is.numbers) refl;
  bytes =
      rw (is.subtunes, is.patterns, is.instruments, is.wave, is.pulse, is.filter, is.speed, is.facts, is.numbers) refl;
  lows = rw is.numbers refl;
  highs = rw is.numbers refl;
  low_label =
      rw (is.subtunes, is.patterns, is.instruments, is.wave, is.pulse, is.filter, is.speed, is.facts, is.numbers) refl;
  high_label =
      rw (is.subtunes, is.patterns, is.instruments, is.wave, is.pulse, is.filter, is.speed, is.facts, is.numbers) refl;
  kept_label =
      rw (is.subtunes, is.patterns, is.instruments, is.wave, is.pulse, is.filter, is.speed, is.facts, is.numbers) refl;
  size =
      rw (is.subtunes, is.patterns, is.instruments, is.wave, is.pulse, is.filter, is.speed, is.facts, is.numbers) refl;
}

none_is_listed : (packed : PackedSong) → IsSmallSongWith all_read (from 0 0) packed → NoneIsListed packed
unfolding frequency_lows fields_before
none_is_listed packed is = record {
  gap =
      rw (is.subtunes, is.patterns, is.instruments, is.wave, is.pulse, is.filter, is.speed, is.facts, is.numbers) refl;
  lows = rw is.numbers refl;
  low_label =
      rw (is.subtunes, is.patterns, is.instruments, is.wave, is.pulse, is.filter, is.speed, is.facts, is.numbers) refl;
  high_label =
      rw (is.subtunes, is.patterns, is.instruments, is.wave, is.pulse, is.filter, is.speed, is.facts, is.numbers) refl;
  size =
      rw (is.subtunes, is.patterns, is.instruments, is.wave, is.pulse, is.filter, is.speed, is.facts, is.numbers) refl;
}

last_are_listed : (packed : PackedSong) → IsSmallSongWith all_read (from 95 3) packed → LastAreListed packed
unfolding frequency_lows frequency_highs freq fields_before
last_are_listed packed is = record {
  lows = rw is.numbers refl;
  highs = rw is.numbers refl;
}

pub frequencies_are_worked : FrequenciesAreWorked
frequencies_are_worked = record { few = few_are_in_front; none = none_is_listed; last = last_are_listed }

-- ---- fields that aren't read

few_are_read : (packed : PackedSong) → IsSmallSongWith delay_read (from 36 3) packed → FewAreRead packed
unfolding frequency_lows frequency_highs freq fields_before instrument_at
few_are_read packed is = record {
  bytes = rw (is.subtunes, is.patterns, is.instruments, is.wave, is.pulse, is.filter, is.speed, is.facts, is.numbers)
      refl;
  fields = rw (is.instruments, is.wave, is.pulse, is.filter, is.speed, is.facts) refl;
  timer = rw (is.instruments, is.wave, is.pulse, is.filter, is.speed, is.facts) refl;
  wave = rw (is.instruments, is.wave, is.pulse, is.filter, is.speed, is.facts) refl;
  orders = rw (is.instruments, is.wave, is.pulse, is.filter, is.speed, is.facts) refl;
  no_instrument = rw is.facts refl;
  size = rw (is.subtunes, is.patterns, is.instruments, is.wave, is.pulse, is.filter, is.speed, is.facts, is.numbers)
      refl;
}

one_wave_is_read : (packed : PackedSong) → IsSmallSongWith timer_read (from 36 3) packed → OneWaveIsRead packed
unfolding frequency_lows frequency_highs freq fields_before instrument_at
one_wave_is_read packed is = record {
  bytes = rw (is.subtunes, is.patterns, is.instruments, is.wave, is.pulse, is.filter, is.speed, is.facts, is.numbers)
      refl;
  timer = rw (is.instruments, is.wave, is.pulse, is.filter, is.speed, is.facts) refl;
  wave = rw (is.instruments, is.wave, is.pulse, is.filter, is.speed, is.facts) refl;
  orders = rw (is.instruments, is.wave, is.pulse, is.filter, is.speed, is.facts) refl;
  size = rw (is.subtunes, is.patterns, is.instruments, is.wave, is.pulse, is.filter, is.speed, is.facts, is.numbers)
      refl;
}

fewer_are_in_front : (packed : PackedSong) → IsSmallSongWith delay_read (from 57 2) packed → FewerAreInFront packed
fewer_are_in_front packed is = record {
  gap = rw (is.subtunes, is.patterns, is.instruments, is.wave, is.pulse, is.filter, is.speed, is.facts, is.numbers)
      refl;
  size = rw (is.subtunes, is.patterns, is.instruments, is.wave, is.pulse, is.filter, is.speed, is.facts, is.numbers)
      refl;
}

pub few_fields_are_worked : FewFieldsAreWorked
few_fields_are_worked = record { few = few_are_read; wave = one_wave_is_read; front = fewer_are_in_front }

-- ---- what its instruments hold

both_are_held : (packed : PackedSong) → IsSmallSongWith both_held (from 36 3) packed → HoldersAreWorked packed
unfolding fields_before instrument_at
both_are_held packed is = record {
  both = rw is.facts refl;
  places = rw (is.instruments, is.wave, is.pulse, is.filter, is.speed, is.facts) refl;
  size = rw (is.subtunes, is.patterns, is.instruments, is.wave, is.pulse, is.filter, is.speed, is.facts, is.numbers)
      refl;
  all = rw is.facts refl;
  none = rw is.facts refl;
  no_timers = rw is.facts refl;
  other = λ two. (let three : gate_from_bytes packed ≡ 0x03 ∷ [] = rw (is.instruments, is.facts) refl in
      absurd (eqb-false 3 2 refl (ap (λ (bytes : List ℕ). get_or bytes 0 0) (sym three ∙ two))));
}

the_first_holds : (packed : PackedSong) → IsSmallSongWith (record both_held { first_holds = true }) (from 36 3) packed →
    TheFirstHolds packed
unfolding fields_before instrument_at
the_first_holds packed is = record {
  shared = rw is.facts refl;
  timers = rw is.facts refl;
  places = rw (is.instruments, is.wave, is.pulse, is.filter, is.speed, is.facts) refl;
  size = rw (is.subtunes, is.patterns, is.instruments, is.wave, is.pulse, is.filter, is.speed, is.facts, is.numbers)
      refl;
  other = λ two. (let none : envelope_from_bytes packed ≡ [] = rw is.facts refl in
      absurd (eqb-false 0 2 refl (ap (λ (bytes : List ℕ). get_or bytes 0 0) (sym none ∙ two))));
}

one_is_held : OneIsHeld
unfolding instrument_at
one_is_held = record {
  gate = λ packed is. rw is.facts refl;
  none = λ packed is. rw (is.instruments, is.facts) refl;
}

pub holders_are : HoldersAre
holders_are = record { both = both_are_held; first = the_first_holds; one = one_is_held }

-- ---- addresses that aren't listed

alone_places_are : (packed : PackedSong) → IsSmallSongWith one_alone (from 36 3) packed →
    order_places false packed ≡ 34 ∷ 37 ∷ 41 ∷ []
unfolding fields_before
alone_places_are packed is =
    rw (is.subtunes, is.patterns, is.instruments, is.wave, is.pulse, is.filter, is.speed, is.facts) refl

pub one_subtune_is : OneSubtuneIs
unfolding frequency_lows frequency_highs freq fields_before instrument_at
one_subtune_is packed is = record {
  bytes = rw (is.subtunes, is.patterns, is.instruments, is.wave, is.pulse, is.filter, is.speed, is.facts, is.numbers)
      refl;
  low = rw (is.instruments, is.wave, is.pulse, is.filter, is.speed, is.facts) refl;
  high = rw (is.instruments, is.wave, is.pulse, is.filter, is.speed, is.facts) refl;
  pattern_low = rw (is.instruments, is.wave, is.pulse, is.filter, is.speed, is.facts) refl;
  pattern_high = rw (is.patterns, is.instruments, is.wave, is.pulse, is.filter, is.speed, is.facts) refl;
  order = rw (is.subtunes, is.patterns, is.instruments, is.wave, is.pulse, is.filter, is.speed, is.facts) refl;
  first = are_orders false packed 0x1FD3 34 37 41 (alone_places_are packed is);
  other =
      other_order false packed 0x1FD3 2 (0x1FF5 ∷ 0x1FF8 ∷ 0x1FFD ∷ []) (34 ∷ 37 ∷ 41 ∷ [])
      (alone_places_are packed is) (omega arith) refl;
  size = rw (is.subtunes, is.patterns, is.instruments, is.wave, is.pulse, is.filter, is.speed, is.facts, is.numbers)
      refl;
}

-- ---- their labels, by their places

abbrev plain_sorted : List Mark
plain_sorted =
    mark_at 132 0 ∷ mark_at 160 0 ∷ mark_at 133 2 ∷ mark_at 134 2 ∷ mark_at 161 2 ∷ mark_at 135 3 ∷ mark_at 136 4
    ∷ mark_at 137 7 ∷ mark_at 138 8 ∷ mark_at 139 11 ∷ mark_at 140 12 ∷ mark_at 141 12 ∷ mark_at 142 13
    ∷ mark_at 144 13 ∷ mark_at 145 13 ∷ mark_at 143 14 ∷ mark_at 146 15 ∷ mark_at 128 17 ∷ mark_at 147 17
    ∷ mark_at 129 18 ∷ mark_at 148 19 ∷ mark_at 130 20 ∷ mark_at 131 21 ∷ mark_at 149 21 ∷ mark_at 150 23
    ∷ mark_at 151 25 ∷ mark_at 152 27 ∷ mark_at 153 27 ∷ mark_at 158 30 ∷ mark_at 159 31 ∷ mark_at 162 31
    ∷ mark_at 163 31 ∷ mark_at 154 32 ∷ mark_at 155 35 ∷ mark_at 156 38 ∷ mark_at 157 39 ∷ mark_at 256 40
    ∷ mark_at 257 43 ∷ mark_at 258 47 ∷ mark_at 512 51 ∷ []

-- exchanges that bring them into the order of their numbers
abbrev plain_exchanges : List (ℕ × ℕ)
plain_exchanges =
    (32, 33) ∷ (31, 35) ∷ (30, 34) ∷ (29, 31) ∷ (28, 30) ∷ (27, 32) ∷ (26, 33) ∷ (25, 32) ∷ (24, 33) ∷ (23, 32)
    ∷ (22, 33) ∷ (21, 32) ∷ (19, 32) ∷ (18, 19) ∷ (17, 33) ∷ (16, 18) ∷ (14, 17) ∷ (13, 16) ∷ (12, 14) ∷ (11, 13)
    ∷ (10, 12) ∷ (9, 11) ∷ (8, 10) ∷ (7, 9) ∷ (6, 8) ∷ (5, 7) ∷ (4, 33) ∷ (3, 6) ∷ (2, 5) ∷ (1, 32) ∷ (0, 4) ∷ []

abbrev kept_sorted : List Mark
kept_sorted =
    mark_at 132 0 ∷ mark_at 133 2 ∷ mark_at 160 4 ∷ mark_at 161 6 ∷ mark_at 134 8 ∷ mark_at 135 9 ∷ mark_at 136 10
    ∷ mark_at 137 13 ∷ mark_at 138 14 ∷ mark_at 139 17 ∷ mark_at 140 18 ∷ mark_at 141 18 ∷ mark_at 142 19
    ∷ mark_at 144 19 ∷ mark_at 145 19 ∷ mark_at 143 20 ∷ mark_at 146 21 ∷ mark_at 128 23 ∷ mark_at 147 23
    ∷ mark_at 129 24 ∷ mark_at 148 25 ∷ mark_at 130 26 ∷ mark_at 131 27 ∷ mark_at 149 27 ∷ mark_at 150 29
    ∷ mark_at 151 31 ∷ mark_at 152 33 ∷ mark_at 153 33 ∷ mark_at 158 36 ∷ mark_at 159 37 ∷ mark_at 162 37
    ∷ mark_at 163 37 ∷ mark_at 154 38 ∷ mark_at 155 41 ∷ mark_at 156 44 ∷ mark_at 157 45 ∷ mark_at 256 46
    ∷ mark_at 257 49 ∷ mark_at 258 53 ∷ mark_at 512 57 ∷ []

abbrev kept_exchanges : List (ℕ × ℕ)
kept_exchanges =
    (32, 33) ∷ (31, 35) ∷ (30, 34) ∷ (29, 31) ∷ (28, 30) ∷ (27, 32) ∷ (26, 33) ∷ (25, 32) ∷ (24, 33) ∷ (23, 32)
    ∷ (22, 33) ∷ (21, 32) ∷ (18, 19) ∷ (16, 18) ∷ (14, 17) ∷ (13, 16) ∷ (12, 14) ∷ (11, 13) ∷ (10, 12) ∷ (9, 11)
    ∷ (8, 10) ∷ (7, 9) ∷ (6, 8) ∷ (5, 7) ∷ (4, 6) ∷ (3, 33) ∷ (2, 32) ∷ (1, 5) ∷ (0, 4) ∷ []

abbrev are_below : ℕ → List (ℕ × ℕ) → Bool
are_below n [] = true
are_below n (pair ∷ pairs) = nat_lt pair.0 n && (nat_lt pair.1 n && are_below n pairs)

in_range : (n : ℕ) (pairs : List (ℕ × ℕ)) → are_below n pairs ≡ true → SwapsInRange n pairs
in_range n [] test = tt
in_range n (pair ∷ pairs) test =
    let first = and_parts (nat_lt pair.0 n) (nat_lt pair.1 n && are_below n pairs) test in
    let second = and_parts (nat_lt pair.1 n) (are_below n pairs) first.1 in
    (ltb-true pair.0 n first.0, ltb-true pair.1 n second.0, in_range n pairs second.1)

plain_are_the_same : IsPermutation plain_marks plain_sorted
plain_are_the_same = record { moves = plain_exchanges; below = in_range 40 plain_exchanges refl; is = refl }

kept_are_the_same : IsPermutation kept_marks kept_sorted
kept_are_the_same = record { moves = kept_exchanges; below = in_range 40 kept_exchanges refl; is = refl }

-- ---- marks that rise

abbrev rises : ℕ → List Mark → Bool
rises from [] = true
rises from (first ∷ marks) = nat_le from first.place && rises first.place marks

rises_at : (from : ℕ) (marks : List Mark) (k : ℕ) (d : Mark) → rises from marks ≡ true → k < length marks →
    from ≤ (get_or marks k d).place
rises_at from [] k d rise inside = absurd (omega arith)
rises_at from (first ∷ marks) zero d rise inside =
    leb-true from first.place (and_parts (nat_le from first.place) (rises first.place marks) rise).0
rises_at from (first ∷ marks) (suc k) d rise inside =
    let parts = and_parts (nat_le from first.place) (rises first.place marks) rise in
    let here = leb-true from first.place parts.0 in
    let there = rises_at first.place marks k d parts.1 (omega arith) in
    omega arith

from_rises : (from : ℕ) (marks : List Mark) → rises from marks ≡ true → IsNonDecreasingBy (λ mark. mark.place) marks
from_rises from [] rise i j d le inside = absurd (omega arith)
from_rises from (first ∷ marks) rise zero zero d le inside = omega arith
from_rises from (first ∷ marks) rise zero (suc j) d le inside =
    rises_at first.place marks j d (and_parts (nat_le from first.place) (rises first.place marks) rise).1 (omega arith)
from_rises from (first ∷ marks) rise (suc i) zero d le inside = absurd (omega arith)
from_rises from (first ∷ marks) rise (suc i) (suc j) d le inside =
    from_rises first.place marks (and_parts (nat_le from first.place) (rises first.place marks) rise).1 i j d
    (omega arith) (omega arith)

-- ---- the song's bytes and marks

pub plain_bytes_are : (packed : PackedSong) → IsSmallSong packed → data_bytes false packed 0x1FCD ≡ plain_bytes
unfolding frequency_lows frequency_highs freq fields_before instrument_at
plain_bytes_are packed is =
    rw (is.subtunes, is.patterns, is.instruments, is.wave, is.pulse, is.filter, is.speed, is.facts, is.numbers) refl

pub plain_marks_are : (packed : PackedSong) → IsSmallSong packed → data_marks false packed ≡ plain_marks
unfolding fields_before
plain_marks_are packed is =
    rw (is.subtunes, is.patterns, is.instruments, is.wave, is.pulse, is.filter, is.speed, is.facts, is.numbers) refl

plain_lines_are : plain_lines ≡ marked 0 plain_sorted plain_bytes
plain_lines_are = refl

plain_has_lines : (packed : PackedSong) → IsSmallSong packed → HasLines false packed 0x1FCD plain_lines
plain_has_lines packed is = record {
  marks = plain_sorted;
  same = subst (λ (marks : List Mark). IsPermutation marks plain_sorted) (sym (plain_marks_are packed is))
      plain_are_the_same;
  rise = from_rises 0 plain_sorted refl;
  are = subst (λ (bytes : List ℕ). plain_lines ≡ marked 0 plain_sorted bytes) (sym (plain_bytes_are packed is))
      plain_lines_are;
}

pub kept_bytes_are : (packed : PackedSong) → IsSmallSong packed → data_bytes true packed 0x1FC7 ≡ kept_bytes
unfolding frequency_lows frequency_highs freq fields_before instrument_at
kept_bytes_are packed is =
    rw (is.subtunes, is.patterns, is.instruments, is.wave, is.pulse, is.filter, is.speed, is.facts, is.numbers) refl

pub kept_marks_are : (packed : PackedSong) → IsSmallSong packed → data_marks true packed ≡ kept_marks
unfolding fields_before
kept_marks_are packed is =
    rw (is.subtunes, is.patterns, is.instruments, is.wave, is.pulse, is.filter, is.speed, is.facts, is.numbers) refl

kept_lines_are : kept_lines ≡ marked 0 kept_sorted kept_bytes
kept_lines_are = refl

kept_has_lines : (packed : PackedSong) → IsSmallSong packed → HasLines true packed 0x1FC7 kept_lines
kept_has_lines packed is = record {
  marks = kept_sorted;
  same = subst (λ (marks : List Mark). IsPermutation marks kept_sorted) (sym (kept_marks_are packed is))
      kept_are_the_same;
  rise = from_rises 0 kept_sorted refl;
  are = subst (λ (bytes : List ℕ). kept_lines ≡ marked 0 kept_sorted bytes) (sym (kept_bytes_are packed is))
      kept_lines_are;
}

pub small_lists_are_worked : (packed : PackedSong) → IsSmallSong packed → SmallListsAreWorked packed
small_lists_are_worked packed is = record {
  plain_bytes_are = plain_bytes_are packed is;
  kept_bytes_are = kept_bytes_are packed is;
  plain = plain_has_lines packed is;
  kept = kept_has_lines packed is;
}
