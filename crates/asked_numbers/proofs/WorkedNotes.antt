-- The numbers of the notes of small songs, worked out by hand.
use Rattle.std.proofs.Common.{◌≡◌, ◌≢◌, ℕ, ℤ, pos, negsuc, ◌-ℤ◌, ◌≤◌, ◌⊎◌, true, false, List, [], ◌∷◌}
use Rattle.std.proofs.Common.{replicate, All, Contains, inl, inr, refl, sym, subst, arith}
use Rattle.std.proofs.lemmas.List.Elements.{All-nil, All-cons, All-append, All-replicate, All-contains}
use Rattle.song_model.specs.declared.rows.Row.{Row}
use Rattle.song_model.specs.declared.orders.Order.{Order}
use Rattle.song_model.specs.declared.orders.Subtune.{Subtune}
use Rattle.song_model.specs.declared.instruments.Instrument.{Instrument}
use Rattle.song_model.specs.declared.tables.TableRow.{TableRow}
use Rattle.song_model.specs.declared.tables.TableName.TheVariants.{Wave}
use Rattle.song_model.specs.declared.songs.Song.{Song}
use Rattle.song_model.specs.LookUp.{instrument_at, table_row, pattern_at, playable_subtunes}
use Rattle.play_model.specs.Wrap.{byte_minus}
use Rattle.play_model.specs.WaveStep.{is_wave_command, wave_note}
use Rattle.play_model.specs.FetchRow.{is_note, transposed}
use Rattle.play_model.specs.Used.{IsPlayedOrder}
use Rattle.play_model.specs.Reached.{is_jump, of_instrument, played}
use Rattle.play_model.specs.Features.{HasRow, IsAny}
use Rattle.play_model.specs.WorkedSongs.{order, subtune, row, sides, plucked, rests, one_note, low_note}
use Rattle.asked_numbers.specs.Numbers.{IsTransposeOf, IsPlayedNote, IsSoundingNote, of_pattern, of_start, SetsNumber}
use Rattle.asked_numbers.specs.Numbers.{of_wave_row, of_slide, IsSoundedNumber, IsAskedNumber, sounded}
use Rattle.asked_numbers.specs.WorkedNumbers.{AsksFor, with_repeat, with_other_note, with_orders, NotesAreWorked}
use Rattle.asked_numbers.proofs.Made.{PlaysAlone, plays_alone, IsPlainSpeed, no_note_speed, sounds_alone, made, IsTame}
use Rattle.asked_numbers.proofs.Made.{IsShort, Heard, by_row, by_slide, starts_is, heard}
use Rattle.asked_numbers.proofs.Tunes.{rest_tame, row_tame, keyed_tame, two_tame, one_has, keyed_has, NoNote, rest_has}
use Rattle.asked_numbers.proofs.Tunes.{Any, NoShift, plays_one, plays_after, quiet, its_note, rests_one, tunes}
use Rattle.asked_numbers.proofs.Tunes.{note_alone, one_tame}

pub exactly : (song : Song) (numbers : List ℕ) → All (IsAskedNumber song) numbers →
    ((n : ℕ) → IsAskedNumber song n → Contains numbers n) → AsksFor song numbers
exactly song numbers all only n = (only n, λ has. All-contains (IsAskedNumber song) numbers n all has)

-- ---- songs under the wave program of the song of one note

pub its_short : IsShort plucked 0x41 0 0
its_short = record { begins = omega arith; goes = refl; near = omega arith }

pub its_sets : (instrument : Instrument) (left right to : ℕ) (subtunes : List Subtune) (speed : List TableRow)
    (patterns : List (List Row)) → instrument.wave ≡ 1 → is_jump Wave (sides left right) ≡ false →
    is_wave_command (sides left right) ≡ false → right ≢ 0x80 →
    SetsNumber (made subtunes instrument left right to speed patterns) 1
unfolding instrument_at table_row
its_sets instrument left right to subtunes speed patterns begins goes plain sets = record {
  step = record { reached = played (of_instrument 1 (inl refl) begins (λ e. omega (arith, e))); no_jump = goes };
  no_command = plain;
  sets = sets;
}

module _ (subtunes : List Subtune) (patterns : List (List Row)) (rows : All (All (IsTame 0)) patterns) where
  abbrev its : Song
  its = made subtunes plucked 0x41 0 0 [] patterns

  number_of : (n note : ℕ) → IsPlayedNote its note → n ≡ wave_note 0 note → IsAskedNumber its n
  unfolding table_row
  number_of n note is_played is =
      sounded (of_wave_row 1 note
      (its_sets plucked 0x41 0 0 subtunes [] patterns refl refl refl (λ e. omega (arith, e)))
      (of_pattern is_played) is)

  asks_notes : (numbers : List ℕ) → All (IsAskedNumber its) numbers →
      ((note : ℕ) → IsPlayedNote its note → Contains numbers (wave_note 0 note)) → AsksFor its numbers
  asks_notes numbers all plays =
      exactly its numbers all
      (λ n asked. only n (heard subtunes plucked 0x41 0 0 [] patterns 0 rows its_short IsNote sounding n
      (sounds_alone its n (no_note_speed its (All-nil IsPlainSpeed)) asked)))
    where
      IsNote : ℕ → Type 0
      IsNote note = Contains numbers (wave_note 0 note)

      sounding : (note : ℕ) → IsSoundingNote its note → IsNote note
      sounding note (of_pattern is_played) = plays note is_played
      sounding note (of_start none asks) =
          elim (starts_is subtunes plucked 0x41 0 0 [] patterns 0 rows its_short asks) [
            | inl slide ↦ absurd (omega (arith, slide))
            | inr wave ↦ absurd (omega (arith, wave))
          ]

      only : (n : ℕ) → Heard 0x41 0 0 IsNote n → Contains numbers n
      only n (by_row note is plain sets e) = rw e is
      only n (by_slide note is (inl slides) e) = absurd (omega (arith, slides))
      only n (by_slide note is (inr slides) e) = absurd (omega (arith, slides))

-- ---- notes

-- the song of one note with other orderlists, of which the first plays its note
abbrev tunes_of : List ℕ → List ℕ → List Subtune
tunes_of first second = subtune first second (1 ∷ []) ∷ []

-- the numbers of a song whose notes all have number 48
abbrev Alone : ℕ → Type 0
Alone note = Contains (48 ∷ []) (wave_note 0 note)

asks_one : (first second : List ℕ) → IsPlayedNote (with_orders first second) 48 →
    PlaysAlone (with_orders first second) Alone (order first) →
    PlaysAlone (with_orders first second) Alone (order second) → AsksFor (with_orders first second) (48 ∷ [])
unfolding pattern_at
asks_one first second is plays others =
    asks_notes (tunes_of first second) one_note.patterns one_tame (48 ∷ [])
    (All-cons (IsAskedNumber (with_orders first second)) 48 []
    (number_of (tunes_of first second) one_note.patterns one_tame 48 48 is refl)
    (All-nil (IsAskedNumber (with_orders first second))))
    (tunes (with_orders first second) Alone (λ low. rest_has 0 0) first second refl plays others)

one : AsksFor one_note (48 ∷ [])
unfolding pattern_at
one =
    asks_one (0 ∷ []) (1 ∷ [])
    (its_note one_note (0 ∷ []) (1 ∷ []) 0 (row 0x90 1 0 0) (pos 0) (0, omega arith, refl)
    (0, omega arith, refl) (omega arith) (0, omega arith, refl) refl (inl refl))
    (note_alone one_note Alone (0, omega arith, refl) (0 ∷ [])
    (plays_one one_note (λ n. n ≡ 0x90) 0 (omega arith) (λ low. keyed_has 0x90)))
    (rests_one one_note Alone (λ low. rest_has 0 0))

other_order : AsksFor (with_orders (0 ∷ []) (0xF2 ∷ 1 ∷ [])) (48 ∷ [])
unfolding pattern_at
other_order =
    let song = with_orders (0 ∷ []) (0xF2 ∷ 1 ∷ []) in
    asks_one (0 ∷ []) (0xF2 ∷ 1 ∷ [])
    (its_note song (0 ∷ []) (0xF2 ∷ 1 ∷ []) 0 (row 0x90 1 0 0) (pos 0) (0, omega arith, refl)
    (0, omega arith, refl) (omega arith) (0, omega arith, refl) refl (inl refl))
    (note_alone song Alone (0, omega arith, refl) (0 ∷ [])
    (plays_one song (λ n. n ≡ 0x90) 0 (omega arith) (λ low. keyed_has 0x90)))
    (quiet song Alone Any (order (0xF2 ∷ 1 ∷ []))
    (plays_after song NoNote Any 0xF2 1 (omega arith) (omega arith) tt (λ from. tt) (λ low. rest_has 0 0)))

repeat : AsksFor (with_orders (0xDF ∷ 0 ∷ []) (1 ∷ [])) (48 ∷ [])
unfolding pattern_at
repeat =
    let song = with_orders (0xDF ∷ 0 ∷ []) (1 ∷ []) in
    asks_one (0xDF ∷ 0 ∷ []) (1 ∷ [])
    (its_note song (0xDF ∷ 0 ∷ []) (1 ∷ []) 0 (row 0x90 1 0 0) (pos 0) (0, omega arith, refl)
    (1, omega arith, refl) (omega arith) (0, omega arith, refl) refl (inl refl))
    (note_alone song Alone (0, omega arith, refl) (0xDF ∷ 0 ∷ [])
    (plays_after song (λ n. n ≡ 0x90) NoShift 0xDF 0 (omega arith) (omega arith) refl
    (λ from. absurd (omega (arith, from))) (λ low. keyed_has 0x90)))
    (rests_one song Alone (λ low. rest_has 0 0))

-- a song whose first orderlist is a transpose and pattern 0, which is a note and a keyoff
abbrev shifted_song : ℕ → ℕ → Song
shifted_song before note =
    made (tunes_of (before ∷ 0 ∷ []) (1 ∷ [])) plucked 0x41 0 0 []
    ((row note 1 0 0 ∷ row 0xBE 0 0 0 ∷ []) ∷ rests 1 ∷ [])

asks_both : (before note : ℕ) (t : ℤ) (low high : ℕ) → 0xE0 ≤ before → t ≡ pos before -ℤ pos 0xF0 →
    is_note note ≡ true →
    low ≡ wave_note 0 (byte_minus (transposed note (pos 0)) 0x60) →
    high ≡ wave_note 0 (byte_minus (transposed note t) 0x60) →
    AsksFor (shifted_song before note) (low ∷ high ∷ [])
unfolding pattern_at
asks_both before note t low high from sets sounds low_is high_is =
    asks_notes (tunes_of (before ∷ 0 ∷ []) (1 ∷ [])) song.patterns rows (low ∷ high ∷ [])
    (All-cons (IsAskedNumber song) low (high ∷ [])
    (number_of song.subtunes song.patterns rows low _ (plays (pos 0) (inl refl)) low_is)
    (All-cons (IsAskedNumber song) high []
    (number_of song.subtunes song.patterns rows high _
    (plays t (inr (record { byte = before; entry = (0, omega arith, refl); from = from; sets = sets }))) high_is)
    (All-nil (IsAskedNumber song))))
    (tunes song IsNote (λ is. rest_has 0 0) (before ∷ 0 ∷ []) (1 ∷ []) refl
    (plays_alone song IsNote (λ n. n ≡ note) IsShift (order (before ∷ 0 ∷ [])) each
    (plays_after song (λ n. n ≡ note) IsShift before 0 (omega (arith, from)) (omega arith) (inl refl)
    (λ from. inr (sym sets)) (λ is. keyed_has note)))
    (rests_one song IsNote (λ is. rest_has 0 0)))
  where
    song : Song
    song = shifted_song before note

    IsNote : ℕ → Type 0
    IsNote n = Contains (low ∷ high ∷ []) (wave_note 0 n)

    IsShift : ℤ → Type 0
    IsShift s = (s ≡ pos 0) ⊎ (s ≡ t)

    rows : All (All (IsTame 0)) song.patterns
    rows = two_tame 0 (row note 1 0 0 ∷ row 0xBE 0 0 0 ∷ []) (keyed_tame note)

    plays : (s : ℤ) → IsTransposeOf (order (before ∷ 0 ∷ [])) s →
        IsPlayedNote song (byte_minus (transposed note s) 0x60)
    plays s by =
        its_note song (before ∷ 0 ∷ []) (1 ∷ []) 0 (row note 1 0 0) s (0, omega arith, refl)
        (1, omega arith, refl) (omega arith) (0, omega arith, refl) sounds by

    each : (n : ℕ) (s : ℤ) → n ≡ note → IsShift s → IsNote (byte_minus (transposed n s) 0x60)
    each n s is (inl none) = rw (is, none) (0, omega arith, low_is)
    each n s is (inr set) = rw (is, set) (1, omega arith, high_is)

transposed_up : AsksFor (with_orders (0xF2 ∷ 0 ∷ []) (1 ∷ [])) (48 ∷ 50 ∷ [])
transposed_up = asks_both 0xF2 0x90 (pos 2) 48 50 (omega arith) refl refl refl refl

low : AsksFor low_note (0 ∷ 112 ∷ [])
low = asks_both 0xE0 0x60 (negsuc 15) 0 112 (omega arith) refl refl refl refl

no_pattern : AsksFor with_repeat []
unfolding pattern_at
no_pattern =
    asks_notes (tunes_of (0xDF ∷ []) (1 ∷ [])) patterns rows [] (All-nil (IsAskedNumber song))
    (tunes song NoneOf (λ is. rest_has 0 0) (0xDF ∷ []) (1 ∷ []) refl
    (quiet song NoneOf NoShift (order (0xDF ∷ []))
    (plays_one song NoNote 0xDF (omega arith) (λ is. absurd (omega (arith, is)))))
    (rests_one song NoneOf (λ is. rest_has 0 0)))
  where
    NoneOf : ℕ → Type 0
    NoneOf note = Contains [] (wave_note 0 note)

    patterns : List (List Row)
    patterns = with_repeat.patterns

    song : Song
    song = with_repeat

    rows : All (All (IsTame 0)) patterns
    rows =
        All-append (All (IsTame 0)) (replicate 0xDF (rests 1)) ((row 0x90 1 0 0 ∷ []) ∷ [])
        (All-replicate (All (IsTame 0)) 0xDF (rests 1) (rest_tame 0))
        (All-cons (All (IsTame 0)) (row 0x90 1 0 0 ∷ []) [] (row_tame 0x90) (All-nil (All (IsTame 0))))

not_named : AsksFor with_other_note (48 ∷ [])
unfolding pattern_at
not_named =
    asks_notes (tunes_of (0 ∷ []) (1 ∷ [])) patterns rows (48 ∷ [])
    (All-cons (IsAskedNumber song) 48 []
    (number_of (tunes_of (0 ∷ []) (1 ∷ [])) patterns rows 48 48
    (its_note song (0 ∷ []) (1 ∷ []) 0 (row 0x90 1 0 0) (pos 0) (0, omega arith, refl)
    (0, omega arith, refl) (omega arith) (0, omega arith, refl) refl (inl refl)) refl)
    (All-nil (IsAskedNumber song)))
    (tunes song Alone (λ is. rest_has 0 0) (0 ∷ []) (1 ∷ []) refl
    (note_alone song Alone (0, omega arith, refl) (0 ∷ [])
    (plays_one song (λ n. n ≡ 0x90) 0 (omega arith) (λ low. one_has 0x90)))
    (rests_one song Alone (λ is. rest_has 0 0)))
  where
    patterns : List (List Row)
    patterns = with_other_note.patterns

    song : Song
    song = with_other_note

    rows : All (All (IsTame 0)) patterns
    rows =
        All-cons (All (IsTame 0)) (row 0x90 1 0 0 ∷ []) (rests 1 ∷ (row 0x70 1 0 0 ∷ []) ∷ []) (row_tame 0x90)
        (two_more (rests 1) (row 0x70 1 0 0 ∷ []) (rest_tame 0) (row_tame 0x70))
      where
        two_more : (x y : List Row) → All (IsTame 0) x → All (IsTame 0) y → All (All (IsTame 0)) (x ∷ y ∷ [])
        two_more x y h k =
            All-cons (All (IsTame 0)) x (y ∷ []) h
            (All-cons (All (IsTame 0)) y [] k (All-nil (All (IsTame 0))))

-- ---- songs of which nothing is played

module _ (song : Song) (none : playable_subtunes song ≡ []) (plain : All IsPlainSpeed song.speed) where
  none_played : (o : Order) → ¬ IsPlayedOrder song o
  none_played o is =
      nowhere is.subtune (subst (λ (all : List Subtune). Contains all is.subtune) none is.playable)
    where
      nowhere : (s : Subtune) → ¬ Contains [] s
      nowhere s (k, inside, at) = omega (arith, inside)

  no_row : (c : ℕ) → ¬ HasRow song c IsAny
  no_row c has = none_played has.used.used.byte.order has.used.used.byte.played

  none_sounds : (note : ℕ) → ¬ IsSoundingNote song note
  none_sounds note (of_pattern p) = none_played p.order p.played
  none_sounds note (of_start zero (inl has)) = no_row 3 has
  none_sounds note (of_start zero (inr has)) = no_row 8 has

  none_sounded : (n : ℕ) → ¬ IsSoundedNumber song n
  none_sounded n (of_wave_row p note sets sounds is) = none_sounds note sounds
  none_sounded n (of_slide note slides sounds is) = none_sounds note sounds

  pub asks_nothing : AsksFor song []
  asks_nothing =
      exactly song [] (All-nil (IsAskedNumber song))
      (λ n asked. absurd (none_sounded n (sounds_alone song n (no_note_speed song plain) asked)))

pub notes : NotesAreWorked
notes = record {
  one = one;
  transposed = transposed_up;
  other_order = other_order;
  repeat = repeat;
  no_pattern = no_pattern;
  low = low;
  not_named = not_named;
  not_played = asks_nothing (with_orders (0 ∷ []) []) refl (All-nil IsPlainSpeed);
}
