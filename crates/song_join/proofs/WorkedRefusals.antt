-- The worked refusals.
use Rattle.std.proofs.Common.{◌≡◌, ◌≢◌, ℕ, zero, suc, ◌<◌, ◌≤◌, List, [], ◌∷◌, All, refl}
use Rattle.std.proofs.Common.{sym, ap, ◌∙◌, inl, inr, arith, lit<, lit≤}
use Rattle.std.specs.Prelude.{Some, None}
use Rattle.std.proofs.lemmas.List.Elements.{All-contains}
use Rattle.song_model.specs.declared.rows.Row.{Row}
use Rattle.song_model.specs.declared.songs.Song.{Song}
use Rattle.song_model.specs.LookUp.{pattern_at, instrument_at, playable_subtune}
use Rattle.song_model.specs.Walk.{prefix_of, cycle_of, played}
use Rattle.song_model.specs.Silence.{silence}
use Rattle.play_model.specs.Used.{IsUsedInstrument}
use Rattle.play_model.specs.Reached.{of_instrument, of_played}
use Rattle.play_model.specs.WorkedSongs.{order, row, rests, one_note, with_rows}
use Rattle.song_join.specs.declared.faults.JoinPart.{JoinPart}
use Rattle.song_join.specs.declared.faults.JoinPart.TheVariants.{Subtunes, Instruments, Wave, Pulse, Filter, Speed, Patterns}
use Rattle.song_join.specs.Limits.{part_number, IsWithin}
use Rattle.song_join.specs.Openings.{opening, BeginsUnnamed}
use Rattle.song_join.specs.WorkedRefusals.{sized, PartsAreLimited, OversAreFirst, VoidSubtunesCount}
use Rattle.song_join.specs.WorkedRefusals.{InstrumentsAreLoose, SpeedsAreLoose, IsListed, three, seven, two}
use Rattle.song_join.specs.WorkedRefusals.{PlacesAreFirst, TimersAreCompared, unnamed_note, two_patterns}
use Rattle.song_join.specs.WorkedRefusals.{NotesAreUnnamed, UnnamedPlaces}

-- ---- limits

first_within : (a b c d : ℕ) (other : JoinPart) → part_number other < 1 → IsWithin (sized a b) (sized c d) other
first_within a b c d Subtunes low = omega arith
first_within a b c d Instruments low = absurd (omega arith)
first_within a b c d Wave low = absurd (omega arith)
first_within a b c d Pulse low = absurd (omega arith)
first_within a b c d Filter low = absurd (omega arith)
first_within a b c d Speed low = absurd (omega arith)
first_within a b c d Patterns low = absurd (omega arith)

pub parts_are_limited_lem : PartsAreLimited
parts_are_limited_lem = record { limits = refl; order = refl }

pub overs_are_first_lem : OversAreFirst
overs_are_first_lem = record {
  over = record { over = lit< tt; sum_is = refl; earlier = first_within 60 0 4 0 };
  within = λ x. let more = x.over in omega arith;
  first = record { over = lit< tt; sum_is = refl; earlier = first_within 40 200 40 200 };
  later = λ x. let few : 80 ≤ 63 = x.earlier Instruments (lit< tt) in omega arith;
  sum = λ x. let is : 64 ≡ 80 = x.sum_is in omega arith;
}

pub void_subtunes_lem : VoidSubtunesCount
void_subtunes_lem = (refl, refl)

-- ---- what isn't stored

silent_rows : (n : ℕ) → All (λ (row : Row). row.instrument ≡ 0) (pattern_at silence n)
unfolding pattern_at
silent_rows zero zero d low = refl
silent_rows zero (suc k) d low = absurd (omega arith)
silent_rows (suc n) k d low = absurd (omega arith)

none_named : IsUsedInstrument silence 2 → ⊥
none_named (inl e) = omega arith
none_named (inr named) = named.some
    (sym named.names
    ∙ All-contains (λ (row : Row). row.instrument ≡ 0) (pattern_at silence named.used.pattern) named.row
    (silent_rows named.used.pattern) named.used.has)

pub instruments_are_loose_lem : InstrumentsAreLoose
instruments_are_loose_lem = record {
  loose = record { used = inl refl; above = lit< tt };
  stored = λ x. let above : 1 < 1 = x.above in omega arith;
  unused = λ x. none_named x.used;
}

pub speeds_are_loose_lem : SpeedsAreLoose
unfolding instrument_at
speeds_are_loose_lem = record {
  loose = record { pointer = of_played (of_instrument 1 (inl refl) refl (λ z. omega arith)); above = lit< tt };
  stored = λ x. let above : 1 < 1 = x.above in omega arith;
}

-- of song 1 the least is 3, and there is no song before it
none_before : (i j : ℕ) → i < 1 → ¬ IsListed i j
none_before i j low three = omega arith
none_before i j low seven = omega arith
none_before i j low two = omega arith

none_below : (j : ℕ) → j < 3 → ¬ IsListed 1 j
none_below j low h = listed 1 j h refl low
  where
    listed : (i j : ℕ) → IsListed i j → i ≡ 1 → j < 3 → ⊥
    listed i j three e low = omega arith
    listed i j seven e low = omega arith
    listed i j two e low = omega arith

not_one : ¬ IsListed 1 1
not_one h = none_below 1 (lit< tt) h

pub places_are_first_lem : PlacesAreFirst
places_are_first_lem = record {
  first = record { is_such = three; before = none_before; below = none_below };
  second = λ x. x.below 3 (lit< tt) three;
  later = λ x. x.before 1 3 (lit< tt) three;
  other = λ x. not_one x.is_such;
}

-- ---- timers

pub timers_are_compared_lem : TimersAreCompared
unfolding instrument_at
timers_are_compared_lem = record {
  differ = record { one_is = refl; two_is = refl; differ = λ e. omega arith };
  same = λ x. x.differ refl;
  first = λ x. let e : 0x42 ≡ 2 = x.one_is in omega arith;
  second = λ x. let e : 0x83 ≡ 3 = x.two_is in omega arith;
}

-- ---- notes before instruments

same_row : (a b : Row) → Some a ≡ Some b → a ≡ b
same_row a b e = cc

some_is_none : (a : Row) → Some a ≡ None → ⊥
some_is_none a e = cc

-- where the first play has an opening row that names an instrument
first_names : (song : Song) (entries : List ℕ) (row : Row) → opening (pattern_at song (played (order entries) 0).pattern)
    ≡ Some row → row.instrument ≢ 0 → ¬ BeginsUnnamed song (order entries)
first_names song entries row opens some begins = at_play begins.play begins.opens begins.before
  where
    at_play : (n : ℕ) → opening (pattern_at song (played (order entries) n).pattern) ≡ Some begins.row →
        ((i : ℕ) → i < n → opening (pattern_at song (played (order entries) i).pattern) ≡ None) → ⊥
    at_play zero here before =
        some (ap (λ (r : Row). r.instrument) (same_row row begins.row (sym opens ∙ here)) ∙ begins.unnamed)
    at_play (suc n) here before = some_is_none row (sym opens ∙ before 0 (omega arith))

none_opens : (n : ℕ) → opening (pattern_at (with_rows (rests 2) one_note) n) ≡ None
unfolding pattern_at
none_opens zero = refl
none_opens (suc zero) = refl
none_opens (suc (suc n)) = refl

pub notes_are_unnamed_lem : NotesAreUnnamed
unfolding pattern_at prefix_of cycle_of played
notes_are_unnamed_lem = record {
  alone = record {
    play = 0;
    row = row 0x90 0 0 0;
    opens = refl;
    unnamed = refl;
    before = λ i low. absurd (omega arith);
  };
  later = record {
    play = 1;
    row = row 0x90 0 0 0;
    opens = refl;
    unnamed = refl;
    before = λ i low. let e : i ≡ 0 = omega arith in rw e refl;
  };
  own = first_names one_note (0 ∷ []) (row 0x90 1 0 0) refl (λ e. omega arith);
  earlier =
      first_names (two_patterns unnamed_note (row 0xBD 1 0 0 ∷ [])) (1 ∷ 0 ∷ []) (row 0xBD 1 0 0) refl
      (λ e. omega arith);
  neither = λ x. some_is_none x.row (sym x.opens ∙ none_opens (played (order (0 ∷ [])) x.play).pattern);
}

pub unnamed_places_lem : UnnamedPlaces
unfolding pattern_at prefix_of cycle_of played playable_subtune
unnamed_places_lem = record {
  first = record {
    first = lit≤ tt;
    last = lit≤ tt;
    is_channel = record { first = lit≤ tt; last = lit≤ tt };
    begins = notes_are_unnamed_lem.alone;
  };
  other = λ x. let most : 4 ≤ 3 = x.is_channel.last in omega arith;
  none = λ x. let least : 1 ≤ 0 = x.first in omega arith;
  past = λ x. let most : 2 ≤ 1 = x.last in omega arith;
}
