-- The numbers that small songs ask for, worked out by hand.
use Rattle.std.proofs.Common.{◌≡◌, ℕ, ◌+◌, ◌⊎◌, List, [], ◌∷◌, All, Contains, inl, inr, refl, sym, arith}
use Rattle.std.proofs.lemmas.List.Elements.{All-nil, All-cons}
use Rattle.song_model.specs.declared.rows.Row.{Row}
use Rattle.song_model.specs.declared.instruments.Instrument.{Instrument}
use Rattle.song_model.specs.declared.tables.TableRow.{TableRow}
use Rattle.song_model.specs.declared.songs.Song.{Song}
use Rattle.song_model.specs.LookUp.{instrument_at, table_row, pattern_at}
use Rattle.song_model.specs.Silence.{empty_song}
use Rattle.play_model.specs.Reached.{of_instrument, of_played}
use Rattle.play_model.specs.Features.{HasRow, IsAny, HasNoteSpeed}
use Rattle.play_model.specs.WorkedSongs.{order, row, sides, plucked, rests, one_note}
use Rattle.asked_numbers.specs.Numbers.{IsPlayedNote, IsSoundingNote, of_pattern, of_start, of_wave_row, of_slide}
use Rattle.asked_numbers.specs.Numbers.{IsSoundedNumber, IsAskedNumber, sounded, half_tone_from, half_tone_to}
use Rattle.asked_numbers.specs.WorkedNumbers.{AsksFor, with_command, with_speed, StartsAreWorked, HalfTonesAreWorked}
use Rattle.asked_numbers.specs.WorkedNumbers.{NumbersAreWorked}
use Rattle.asked_numbers.specs.WorkedRange.{highest_tones}
use Rattle.asked_numbers.proofs.Made.{IsPlainSpeed, no_note_speed, sounds_alone, IsTame, Heard, by_row, by_slide}
use Rattle.asked_numbers.proofs.Made.{starts_is, heard}
use Rattle.asked_numbers.proofs.Tunes.{tame, two_tame, NoNote, rest_has, NoShift, plays_one, quiet, first_is_played}
use Rattle.asked_numbers.proofs.Tunes.{rests_one, tunes}
use Rattle.asked_numbers.proofs.WorkedNotes.{exactly, its_short, its_sets, asks_nothing, notes}
use Rattle.asked_numbers.proofs.WorkedWaves.{plays_no_other, SetsOne, sounds_number, sounds_no_other, asks_number}
use Rattle.asked_numbers.proofs.WorkedWaves.{with_programs, goes_on, wave_rows}

-- ---- commands before a note

module _ (command : ℕ) where
  abbrev its_rows : List (List Row)
  its_rows = (row 0xBD 0 command 1 ∷ []) ∷ rests 1 ∷ []

  command_tame : All (All (IsTame command)) its_rows
  command_tame =
      two_tame command (row 0xBD 0 command 1 ∷ [])
      (All-cons (IsTame command) (row 0xBD 0 command 1) [] (tame 0xBD 0 command 1 (omega arith) (λ e. refl))
      (All-nil (IsTame command)))

  has_command : HasRow (with_command command) command IsAny
  unfolding pattern_at
  has_command = record {
    row = row 0xBD 0 command 1;
    used = record {
      pattern = 0;
      used = record {
        byte = record {
          order = order (0 ∷ []);
          played = first_is_played (with_command command) (0 ∷ []) (1 ∷ []) (0, omega arith, refl);
          entry = (0, omega arith, refl);
        };
        is_pattern = omega arith;
      };
      has = (0, omega arith, refl);
    };
    command_is = refl;
    is_meant = tt;
  }

  -- note 0, by command 3 or 8
  abbrev IsStart : ℕ → Type 0
  IsStart note = (note ≡ 0) × ((command ≡ 3) ⊎ (command ≡ 8))

  none_played_there : (note : ℕ) → ¬ IsPlayedNote (with_command command) note
  unfolding pattern_at
  none_played_there =
      tunes (with_command command) NoNote (λ is. rest_has 0 0) (0 ∷ []) (1 ∷ []) refl
      (quiet (with_command command) NoNote NoShift (order (0 ∷ []))
      (plays_one (with_command command) NoNote 0 (omega arith) (λ is. rest_has command 1)))
      (rests_one (with_command command) NoNote (λ is. rest_has 0 0))

  starts : (note : ℕ) → IsSoundingNote (with_command command) note → IsStart note
  starts note (of_pattern is_played) = absurd (none_played_there note is_played)
  starts note (of_start none asks) = (
    none,
    starts_is one_note.subtunes plucked 0x41 0x0C 0 [] its_rows command command_tame
        (goes_on 0x41 0x0C 0 refl (omega arith)) asks,
  )

  heard_there : (n : ℕ) → IsAskedNumber (with_command command) n → Heard 0x41 0x0C command IsStart n
  heard_there n asked =
      heard one_note.subtunes plucked 0x41 0x0C 0 [] its_rows command command_tame
      (goes_on 0x41 0x0C 0 refl (omega arith)) IsStart starts n
      (sounds_alone (with_command command) n (no_note_speed (with_command command) (All-nil IsPlainSpeed)) asked)

  octave_asked : IsSoundingNote (with_command command) 0 → IsAskedNumber (with_command command) 12
  unfolding table_row
  octave_asked start =
      sounded (of_wave_row 1 0
      (its_sets plucked 0x41 0x0C 0 one_note.subtunes [] its_rows refl refl refl (λ e. omega (arith, e))) start refl)

starts_with_slide : AsksFor (with_command 3) (0 ∷ 12 ∷ [])
starts_with_slide =
    exactly song (0 ∷ 12 ∷ [])
    (All-cons (IsAskedNumber song) 0 (12 ∷ []) (sounded (of_slide 0 (inl (has_command 3)) start refl))
    (All-cons (IsAskedNumber song) 12 [] (octave_asked 3 start) (All-nil (IsAskedNumber song))))
    (λ n asked. only n (heard_there 3 n asked))
  where
    song : Song
    song = with_command 3

    start : IsSoundingNote song 0
    start = of_start refl (inl (has_command 3))

    only : (n : ℕ) → Heard 0x41 0x0C 3 (IsStart 3) n → Contains (0 ∷ 12 ∷ []) n
    only n (by_row note is plain sets e) = rw (e, is.0) (1, omega arith, refl)
    only n (by_slide note is slides e) = rw (e, is.0) (0, omega arith, refl)

starts_with_wave : AsksFor (with_command 8) (12 ∷ [])
starts_with_wave =
    exactly song (12 ∷ [])
    (All-cons (IsAskedNumber song) 12 [] (octave_asked 8 (of_start refl (inr (has_command 8))))
    (All-nil (IsAskedNumber song)))
    (λ n asked. only n (heard_there 8 n asked))
  where
    song : Song
    song = with_command 8

    only : (n : ℕ) → Heard 0x41 0x0C 8 (IsStart 8) n → Contains (12 ∷ []) n
    only n (by_row note is plain sets e) = rw (e, is.0) (0, omega arith, refl)
    only n (by_slide note is (inl slides) e) = absurd (omega (arith, slides))
    only n (by_slide note is (inr slides) e) = absurd (omega (arith, slides))

rises : AsksFor (with_command 1) []
rises = exactly song [] (All-nil (IsAskedNumber song)) (λ n asked. only n (heard_there 1 n asked))
  where
    song : Song
    song = with_command 1

    no_start : (note : ℕ) → ¬ IsStart 1 note
    no_start note (none, inl slide) = omega (arith, slide)
    no_start note (none, inr wave) = omega (arith, wave)

    only : (n : ℕ) → Heard 0x41 0x0C 1 (IsStart 1) n → Contains [] n
    only n (by_row note is plain sets e) = absurd (no_start note is)
    only n (by_slide note is slides e) = absurd (no_start note is)

starts_are_worked : StartsAreWorked
starts_are_worked = record {
  slide = starts_with_slide;
  wave = starts_with_wave;
  rise = rises;
  not_started = λ sounds.
      (let no = plays_no_other plucked 0x41 0 0 [] its_short 0 sounds in omega (arith, no));
}

-- ---- half tones

abbrev swung : Instrument
swung = record plucked { vibrato = 1; vibrato_delay = 1 }

plain_sets : (speed : List TableRow) → SetsOne swung 0x41 0 0 speed 48
plain_sets speed = record {
  begins = refl;
  short = record { begins = omega arith; goes = refl; near = omega arith };
  plain = refl;
  sets = λ e. omega (arith, e);
  slides_not = λ e. omega (arith, e);
  is = refl;
}

highest_sets : SetsOne swung 0x41 0xFF 0 (sides 0x80 0 ∷ []) 127
highest_sets = record {
  begins = refl;
  short = record { begins = omega arith; goes = refl; near = omega arith };
  plain = refl;
  sets = λ e. omega (arith, e);
  slides_not = λ e. omega (arith, e);
  is = refl;
}

-- songs whose vibrato is of half tones, with this right side in the wave table
abbrev swung_song : ℕ → Song
swung_song right = with_programs swung 0x41 right 0 (sides 0x80 0 ∷ [])

swung_depends : (right : ℕ) → HasNoteSpeed (swung_song right)
unfolding instrument_at table_row
swung_depends right = record {
  p = 1;
  pointer = of_played (of_instrument 1 (inl refl) refl (λ e. omega (arith, e)));
  from_note = omega arith;
}

pub speed_depends : HasNoteSpeed (with_speed 0x80)
speed_depends = swung_depends 0

half_tones_of : (right number : ℕ) → SetsOne swung 0x41 right 0 (sides 0x80 0 ∷ []) number →
    AsksFor (swung_song right) (0 ∷ 1 ∷ number ∷ (number + 1) ∷ [])
half_tones_of right number sets =
    exactly song (0 ∷ 1 ∷ number ∷ (number + 1) ∷ [])
    (All-cons (IsAskedNumber song) 0 (1 ∷ number ∷ (number + 1) ∷ []) (half_tone_from depends (inl refl))
    (All-cons (IsAskedNumber song) 1 (number ∷ (number + 1) ∷ []) (half_tone_to 0 depends (inl refl) refl)
    (All-cons (IsAskedNumber song) number ((number + 1) ∷ []) (sounded its_number)
    (All-cons (IsAskedNumber song) (number + 1) [] (half_tone_to number depends (inr its_number) refl)
    (All-nil (IsAskedNumber song))))))
    only
  where
    song : Song
    song = swung_song right

    speed : List TableRow
    speed = sides 0x80 0 ∷ []

    depends : HasNoteSpeed song
    depends = swung_depends right

    its_number : IsSoundedNumber song number
    its_number = sounds_number swung 0x41 right 0 speed number sets

    its_alone : (n : ℕ) → IsSoundedNumber song n → n ≡ number
    its_alone = sounds_no_other swung 0x41 right 0 speed number sets

    only : (n : ℕ) → IsAskedNumber song n → Contains (0 ∷ 1 ∷ number ∷ (number + 1) ∷ []) n
    only n (sounded h) = (2, omega arith, sym (its_alone n h))
    only n (half_tone_from on (inl none)) = (0, omega arith, sym none)
    only n (half_tone_from on (inr h)) = (2, omega arith, sym (its_alone n h))
    only n (half_tone_to last on (inl none) is) = rw (is, none) (1, omega arith, refl)
    only n (half_tone_to last on (inr h) is) = rw (is, its_alone last h) (3, omega arith, refl)

pub highest_from_note : AsksFor highest_tones (0 ∷ 1 ∷ 127 ∷ 128 ∷ [])
highest_from_note = half_tones_of 0xFF 127 highest_sets

half_tones : HalfTonesAreWorked
half_tones = record {
  from_note = half_tones_of 0 48 (plain_sets (sides 0x80 0 ∷ []));
  plain =
      asks_number swung 0x41 0 0 (sides 0x7F 0 ∷ []) 48 (plain_sets (sides 0x7F 0 ∷ []))
      (All-cons IsPlainSpeed (sides 0x7F 0) [] (omega arith) (All-nil IsPlainSpeed));
}

pub numbers_are_worked : NumbersAreWorked
numbers_are_worked = record {
  notes = notes;
  wave_rows = wave_rows;
  starts = starts_are_worked;
  half_tones = half_tones;
  empty = asks_nothing empty_song refl (All-nil IsPlainSpeed);
}
